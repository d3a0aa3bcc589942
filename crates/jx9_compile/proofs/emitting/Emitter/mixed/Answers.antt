use Rattle.std.proofs.Common.{refl}
use Rattle.jx9_compile.proofs.EmitNodes.{mixed_behind}
use Rattle.jx9_compile.proofs.emitting.Emitter.mixed.Goals as goal

pub returns : goal.returns
returns c = mixed_behind _ _ _ _ _ _ refl c.in_ok-parts.ensures c.in_ok-join.ensures
