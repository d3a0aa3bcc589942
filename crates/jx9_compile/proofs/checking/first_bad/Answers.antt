use Rattle.std.proofs.Common.{length, rules, arith, sym, ap, subst}
use Rattle.std.proofs.lemmas.List.{nil_from_length}
use Rattle.jx9_compile.specs.Assembled.{has_too_few_slots, has_no_ops}
use Rattle.jx9_compile.specs.Heights.{AreHeights}
use Rattle.jx9_compile.proofs.Badness.{is_first, one_more, all_good}
use Rattle.jx9_compile.proofs.checking.first_bad.Goals as goal

pub returns-then-is_empty : goal.returns-then-is_empty
returns-then-is_empty c =
    record {
      bad = has_no_ops (nil_from_length c.args.function.now.ops (grind (arith, ap length c.ops-ops.ensures)));
      first = λ before less bad. omega arith;
    }

pub returns-then-slots-params : goal.returns-then-slots-params
returns-then-slots-params c = record { bad = has_too_few_slots (omega arith); first = λ before less bad. omega arith }

pub returns-then-is_bad : goal.returns-then-is_bad
returns-then-is_bad c =
    is_first c.args.functions c.args.function.now c.as_slice.result.now c.loop-at.at c.is_bad.result
    (subst (λ ops. AreHeights ops c.as_slice.result.now) c.ops-ops.ensures
    (subst (λ t. AreHeights c.ops-ops.result.now t) (sym c.as_slice.ensures.value) c.in_ok-table.ensures))
    (omega (arith, ap length c.ops-ops.ensures)) c.is_bad.ensures c.if-is_bad.true c.loop-at.invariant

pub loop-at-preserved : goal.loop-at-preserved
loop-at-preserved c =
    one_more c.args.functions c.args.function.now (omega arith) (search rules) c.as_slice.result.now c.loop-at.at c.is_bad.result
    (subst (λ ops. AreHeights ops c.as_slice.result.now) c.ops-ops.ensures
    (subst (λ t. AreHeights c.ops-ops.result.now t) (sym c.as_slice.ensures.value) c.in_ok-table.ensures))
    c.is_bad.ensures c.if-is_bad.false c.loop-at.invariant

pub returns : goal.returns
returns c = all_good c.args.functions c.args.function.now (omega arith) (search rules) c.loop-at.at (omega (arith, ap length c.ops-ops.ensures))
    c.loop-at.invariant
