use Rattle.uq_json.proofs.Wholes.{one_spelled}
use Rattle.uq_json.proofs.laws.one_string.Goals as goal

pub returns : goal.returns
returns c = one_spelled
