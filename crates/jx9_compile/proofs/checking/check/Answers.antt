use Rattle.std.proofs.Common.{arith}
use Rattle.std.proofs.lemmas.List.{nil_from_length}
use Rattle.jx9_compile.specs.Assembled.{no_functions}
use Rattle.jx9_compile.proofs.Badness.{bad_here, one_more_good}
use Rattle.jx9_compile.proofs.checking.check.Goals as goal

pub returns-then-is_empty-clause-fault : goal.returns-then-is_empty-clause-fault
returns-then-is_empty-clause-fault c = no_functions (nil_from_length c.args.functions.now (grind arith))

pub returns-in-Some-clause-fault : goal.returns-in-Some-clause-fault
returns-in-Some-clause-fault c =
    bad_here c.args.functions.now c.loop-number.number c.index-functions-number.result _ c.in-Some.at c.loop-number-test.true c.index-functions-number.is
    c.in_ok-at.ensures c.in-Some.is c.loop-number.invariant

pub loop-number-preserved : goal.loop-number-preserved
loop-number-preserved c =
    one_more_good c.args.functions.now c.loop-number.number c.index-functions-number.result _ c.loop-number-test.true c.index-functions-number.is
    c.in_ok-at.ensures c.in_default.is c.loop-number.invariant
