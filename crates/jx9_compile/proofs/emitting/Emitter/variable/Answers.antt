use Rattle.std.proofs.Common.{ap, length, arith}
use Rattle.jx9_compile.proofs.EmitNodes.{variable_behind, steps_behind}
use Rattle.jx9_compile.proofs.emitting.Emitter.variable.Goals as goal

pub returns-then-not-is_empty : goal.returns-then-not-is_empty
returns-then-not-is_empty c = steps_behind _ _ _ _ (λ e. grind (arith, ap length e))

pub returns : goal.returns
returns c = variable_behind _ _ _ _ _ _ _ c.in_ok-slot.ensures c.in_ok-put.ensures
