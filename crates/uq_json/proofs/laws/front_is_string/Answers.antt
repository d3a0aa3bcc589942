use Rattle.uq_json.proofs.Fronts.{front_is_string}
use Rattle.uq_json.proofs.laws.front_is_string.Goals as goal

pub returns : goal.returns
returns c = front_is_string
