use Rattle.std.proofs.Common.{subst}
use Rattle.uq_value.specs.Data.{list}
use Rattle.uq_value.specs.IsValue.{IsValue}
use Rattle.uq_value.proofs.Fields.{list-is-value}
use Rattle.uq_value.proofs.list.List.is_value.Goals as goal

pub returns : goal.returns
returns c = subst (λ ds. IsValue (list ds)) c.self.view_is (list-is-value c.self.inside c.self.invariant)
