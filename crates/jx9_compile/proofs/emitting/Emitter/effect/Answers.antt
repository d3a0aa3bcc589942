use Rattle.jx9_compile.proofs.EmitNodes.{moved_emitted, dropped_emitted}
use Rattle.jx9_compile.proofs.emitting.Emitter.effect.Goals as goal

pub returns-in_ok-assign-in-Assign : goal.returns-in_ok-assign-in-Assign
returns-in_ok-assign-in-Assign c =
    moved_emitted _ _ _ _ _ _ _ _ c.in-Assign.is c.get.ensures c.in_ok-put-in-Assign.ensures c.in_ok-expr-in-Assign.ensures c.in_ok-assign-in-Assign.ensures

pub returns-in_ok-put-in_default : goal.returns-in_ok-put-in_default
returns-in_ok-put-in_default c = dropped_emitted _ _ _ _ c.in_ok-expr-in_default.ensures c.in_ok-put-in_default.ensures
