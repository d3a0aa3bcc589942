use Rattle.jx9_compile.proofs.Compiled.{compiled, uncompiled}
use Rattle.jx9_compile.proofs.compiling.compile.Goals as goal

pub returns-clause-behaves : goal.returns-clause-behaves
returns-clause-behaves c =
    (compiled _ _ _ _ _ _ _ c.first_problem.ensures c.in_default.not-Some c.as_slice.ensures c.in_ok-start.ensures c.new-functions.ensures.items c.in_ok-push.ensures.items c.of.ensures
    c.every_script_ends.ensures).0

pub returns-clause-rules : goal.returns-clause-rules
returns-clause-rules c =
    (compiled _ _ _ _ _ _ _ c.first_problem.ensures c.in_default.not-Some c.as_slice.ensures c.in_ok-start.ensures c.new-functions.ensures.items c.in_ok-push.ensures.items c.of.ensures
    c.every_script_ends.ensures).1

pub returns-clause-number : goal.returns-clause-number
returns-clause-number c =
    (compiled _ _ _ _ _ _ _ c.first_problem.ensures c.in_default.not-Some c.as_slice.ensures c.in_ok-start.ensures c.new-functions.ensures.items c.in_ok-push.ensures.items c.of.ensures
    c.every_script_ends.ensures).2

pub returns-clause-clean : goal.returns-clause-clean
returns-clause-clean c =
    (compiled _ _ _ _ _ _ _ c.first_problem.ensures c.in_default.not-Some c.as_slice.ensures c.in_ok-start.ensures c.new-functions.ensures.items c.in_ok-push.ensures.items c.of.ensures
    c.every_script_ends.ensures).3

pub returns-in-Some-clause-fault : goal.returns-in-Some-clause-fault
returns-in-Some-clause-fault c = uncompiled _ _ _ c.first_problem.ensures c.in-Some.is
