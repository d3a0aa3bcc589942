use Rattle.std.proofs.Common.{◌≡◌, take}
use Rattle.jx9_compile.specs.Emits.{jump_when}
use Rattle.jx9_compile.specs.Holes.{AreSet}
use Rattle.jx9_compile.proofs.emitting.Emitter.fill_all.Given as goal

abbrev pub invariant-loop-at : goal.invariant-loop-at
invariant-loop-at l = AreSet (take l.at-index l.places) (jump_when l.when l.to) l.fn.self.ops l.self.ops × (l.self.names ≡ l.fn.self.names)
