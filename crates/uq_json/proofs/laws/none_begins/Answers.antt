use Rattle.uq_json.proofs.Backs.{none_begins}
use Rattle.uq_json.proofs.laws.none_begins.Goals as goal

pub returns : goal.returns
returns c = none_begins
