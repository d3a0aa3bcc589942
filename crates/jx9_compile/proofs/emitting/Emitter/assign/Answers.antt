use Rattle.jx9_compile.proofs.EmitNodes.{move_emitted}
use Rattle.jx9_compile.proofs.emitting.Emitter.assign.Goals as goal

pub returns : goal.returns
returns c = move_emitted _ _ _ _ _ _ c.in_ok-slot.ensures c.in_ok-put.ensures
