use Rattle.std.proofs.Common.{refl}
use Rattle.jx9_compile.proofs.EmitLemmas.{puts}
use Rattle.jx9_compile.proofs.emitting.Emitter.put.Goals as goal

pub returns : goal.returns
returns c = puts _ _ _ c.in_ok-push.ensures.ok refl
