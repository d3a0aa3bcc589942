use Rattle.uq_json.proofs.Scalars.{are_digits}
use Rattle.uq_json.proofs.scanning.split_digits.Goals as goal

pub returns-clause-all : goal.returns-clause-all
returns-clause-all c = are_digits c.args.text.now
