use Rattle.uq_json.proofs.Fronts.{front_given, shorter_given}
use Rattle.uq_json.proofs.unquoting.split_string.Goals as goal

pub returns-clause-shorter : goal.returns-clause-shorter
returns-clause-shorter c = shorter_given (λ x. (x.0.items, x.1.now)) c.args.text.now c.string.result c.string.ensures

pub returns-clause-splits : goal.returns-clause-splits
returns-clause-splits c = front_given (λ x. (x.0.items, x.1.now)) c.args.text.now c.string.result c.string.ensures
