use Rattle.uq_value.proofs.Equality.{same-Decides}
use Rattle.uq_value.proofs.comparing.same.Goals as goal

pub returns-clause-equality : goal.returns-clause-equality
returns-clause-equality c = rw c.alike.ensures (same-Decides c.args.a.now c.args.b.now)
