use Rattle.jx9_compile.specs.Assembled.{AreGoodBefore}
use Rattle.jx9_compile.proofs.checking.check.Given as goal

abbrev pub invariant-loop-number : goal.invariant-loop-number
invariant-loop-number l = AreGoodBefore l.functions l.number
