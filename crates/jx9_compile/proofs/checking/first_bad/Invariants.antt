use Rattle.jx9_compile.proofs.Badness.{AreGoodPlaces}
use Rattle.jx9_compile.proofs.checking.first_bad.Given as goal

abbrev pub invariant-loop-at : goal.invariant-loop-at
invariant-loop-at l = AreGoodPlaces l.fn.functions l.fn.function l.at
