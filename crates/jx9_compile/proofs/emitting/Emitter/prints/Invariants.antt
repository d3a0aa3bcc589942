use Rattle.std.proofs.Common.{take}
use Rattle.jx9_compile.specs.Emits.{Emits, ArePrints}
use Rattle.jx9_compile.proofs.emitting.Emitter.prints.Given as goal

abbrev pub invariant-loop-value : goal.invariant-loop-value
invariant-loop-value l = Emits l.fn.self l.self (ArePrints (take l.value-index l.values))
