use Rattle.jx9_compile.proofs.EmitNodes.{changed_by_top}
use Rattle.jx9_compile.proofs.emitting.Emitter.change.Goals as goal

pub returns : goal.returns
returns c = changed_by_top _ _ _ _ _ _ _ c.in_ok-slot.ensures c.in_ok-put.ensures
