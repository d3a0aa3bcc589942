use Rattle.std.proofs.Common.{take}
use Rattle.jx9_compile.specs.Emits.{Emits, AreParts}
use Rattle.jx9_compile.proofs.emitting.Emitter.parts.Given as goal

abbrev pub invariant-loop-part : goal.invariant-loop-part
invariant-loop-part l = Emits l.fn.self l.self (AreParts (take l.part-index l.parts))
