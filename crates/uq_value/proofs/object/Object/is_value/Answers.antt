use Rattle.std.proofs.Common.{subst}
use Rattle.uq_value.specs.Data.{object}
use Rattle.uq_value.specs.IsValue.{IsValue}
use Rattle.uq_value.proofs.Fields.{object-is-value}
use Rattle.uq_value.proofs.object.Object.is_value.Goals as goal

pub returns : goal.returns
returns c = subst (λ ms. IsValue (object ms)) c.self.view_is (object-is-value c.self.inside c.self.invariant)
