use Rattle.uq_json.proofs.Backs.{quotes_back}
use Rattle.uq_json.proofs.laws.quotes_back.Goals as goal

pub returns : goal.returns
returns c = quotes_back
