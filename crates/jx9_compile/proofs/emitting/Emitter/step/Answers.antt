use Rattle.jx9_compile.proofs.EmitNodes.{step_behind}
use Rattle.jx9_compile.proofs.emitting.Emitter.step.Goals as goal

pub returns : goal.returns
returns c = step_behind _ _ _ _ _ _ _ c.in_ok-slot.ensures c.in_ok-put.ensures
