use Rattle.std.proofs.Common.{◌≡◌}
use Rattle.jx9_compile.specs.Holes.{IsFilled}
use Rattle.jx9_compile.proofs.emitting.Emitter.fill_holes.Given as goal

abbrev pub invariant-loop-at : goal.invariant-loop-at
invariant-loop-at l = IsFilled l.after l.from l.at l.fn.self.ops l.self.ops × (l.self.names ≡ l.fn.self.names)
