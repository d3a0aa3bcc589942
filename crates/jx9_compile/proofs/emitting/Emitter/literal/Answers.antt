use Rattle.jx9_compile.proofs.EmitNodes.{literal_behind}
use Rattle.jx9_compile.proofs.emitting.Emitter.literal.Goals as goal

pub returns : goal.returns
returns c = literal_behind _ _ _ _ _ c.in_ok-value.ensures c.in_ok-put.ensures
