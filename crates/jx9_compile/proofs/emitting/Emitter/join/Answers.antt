use Rattle.jx9_compile.proofs.EmitNodes.{join_counted}
use Rattle.jx9_compile.proofs.emitting.Emitter.join.Goals as goal

pub returns : goal.returns
returns c = join_counted _ _ _ _ _ c.in_ok-count.ensures c.in_ok-put.ensures
