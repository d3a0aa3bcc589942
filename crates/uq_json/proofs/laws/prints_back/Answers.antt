use Rattle.uq_json.proofs.Backs.{prints_back}
use Rattle.uq_json.proofs.laws.prints_back.Goals as goal

pub returns : goal.returns
returns c = prints_back
