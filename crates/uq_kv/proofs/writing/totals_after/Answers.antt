use Rattle.std.proofs.Common.{arith}
use Rattle.uq_kv.proofs.Sums.{after_added, after_replaced, enough}
use Rattle.uq_kv.proofs.writing.totals_after.Goals as goal

pub returns-in_err-checked_sub-in-Some-clause-some : goal.returns-in_err-checked_sub-in-Some-clause-some
returns-in_err-checked_sub-in-Some-clause-some c = λ it key limits before.
    let fits = enough c.sums_of_insert.ensures it key c.args.before.now before c.in-Some.old_len c.in-Some.is in
    absurd (omega (arith, c.in_err-checked_sub-in-Some.ensures, fits))

pub returns-in_ok-checked_sub-in-Some-clause-after : goal.returns-in_ok-checked_sub-in-Some-clause-after
returns-in_ok-checked_sub-in-Some-clause-after c = λ it key value key_len value_len before.
    after_replaced c.sums_of_insert.ensures it key value c.args.before.now before c.in-Some.old_len c.in_ok-checked_sub-in-Some.field-0 c.args.value_len c.in-Some.is
    (omega (arith, c.in_ok-checked_sub-in-Some.ensures)) (omega (arith, c.in_ok-checked_sub-in-Some.ensures)) value_len

pub returns-in-None-clause-after : goal.returns-in-None-clause-after
returns-in-None-clause-after c = λ it key value key_len value_len before.
    after_added c.sums_of_insert.ensures it key value c.args.before.now before c.args.key_len c.args.value_len c.in-None.is key_len value_len
