use Rattle.std.proofs.Common.{take}
use Rattle.jx9_compile.specs.Emits.{Emits, AreEffects}
use Rattle.jx9_compile.proofs.emitting.Emitter.effects.Given as goal

abbrev pub invariant-loop-e : goal.invariant-loop-e
invariant-loop-e l = Emits l.fn.self l.self (AreEffects (take l.e-index l.expressions))
