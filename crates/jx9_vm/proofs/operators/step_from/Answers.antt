use Rattle.std.proofs.Common.{◌≡◌, ℤ, pos, subst, w64, rules}
use Rattle.std.specs.Prelude.{FitsSigned, SomeIff, ◌+ℤ◌, ◌-ℤ◌}
use mir.Val.{to_z, of_z}
use Rattle.jx9_syntax.specs.declared.expression.Binary.TheVariants.{Add, Subtract}
use Rattle.jx9_meaning.specs.Expression.{stepped}
use Rattle.jx9_vm.proofs.OperatorLemmas.{one_less, one_more, step_fault, step_ok}
use Rattle.jx9_vm.proofs.operators.step_from.Goals as goal

pub returns-in-IncrementFirst-clause-ok : goal.returns-in-IncrementFirst-clause-ok
returns-in-IncrementFirst-clause-ok c =
    let is : stepped c.args.step ≡ Add = search rules in
    let old_is : to_z w64 (of_z w64 c.args.old) ≡ c.args.old = search rules in
    let fits = subst (λ (z : ℤ). SomeIff c.checked_add.result (FitsSigned w64 (z +ℤ pos 1)) (z +ℤ pos 1)) old_is c.checked_add.ensures in
    step_ok (stepped c.args.step) c.args.old c.checked_add.result c.in_range.result c.in_range.ensures.ok (one_more (stepped c.args.step) c.args.old c.checked_add.result is fits)

pub returns-in-IncrementFirst-clause-fault : goal.returns-in-IncrementFirst-clause-fault
returns-in-IncrementFirst-clause-fault c =
    let is : stepped c.args.step ≡ Add = search rules in
    let old_is : to_z w64 (of_z w64 c.args.old) ≡ c.args.old = search rules in
    let fits = subst (λ (z : ℤ). SomeIff c.checked_add.result (FitsSigned w64 (z +ℤ pos 1)) (z +ℤ pos 1)) old_is c.checked_add.ensures in
    step_fault (stepped c.args.step) c.args.old c.checked_add.result c.in_range.result c.in_range.ensures.fault (one_more (stepped c.args.step) c.args.old c.checked_add.result is fits)

pub returns-in-DecrementFirst-clause-ok : goal.returns-in-DecrementFirst-clause-ok
returns-in-DecrementFirst-clause-ok c =
    let is : stepped c.args.step ≡ Subtract = search rules in
    let old_is : to_z w64 (of_z w64 c.args.old) ≡ c.args.old = search rules in
    let fits = subst (λ (z : ℤ). SomeIff c.checked_sub.result (FitsSigned w64 (z -ℤ pos 1)) (z -ℤ pos 1)) old_is c.checked_sub.ensures in
    step_ok (stepped c.args.step) c.args.old c.checked_sub.result c.in_range-in-DecrementFirst.result c.in_range-in-DecrementFirst.ensures.ok (one_less (stepped c.args.step) c.args.old c.checked_sub.result is fits)

pub returns-in-DecrementFirst-clause-fault : goal.returns-in-DecrementFirst-clause-fault
returns-in-DecrementFirst-clause-fault c =
    let is : stepped c.args.step ≡ Subtract = search rules in
    let old_is : to_z w64 (of_z w64 c.args.old) ≡ c.args.old = search rules in
    let fits = subst (λ (z : ℤ). SomeIff c.checked_sub.result (FitsSigned w64 (z -ℤ pos 1)) (z -ℤ pos 1)) old_is c.checked_sub.ensures in
    step_fault (stepped c.args.step) c.args.old c.checked_sub.result c.in_range-in-DecrementFirst.result c.in_range-in-DecrementFirst.ensures.fault (one_less (stepped c.args.step) c.args.old c.checked_sub.result is fits)
