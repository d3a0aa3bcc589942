use Rattle.std.proofs.Common.{◌≡◌, sym, ap, ◌∙◌, w64, rules}
use Rattle.std.specs.Prelude.{◌*ℤ◌}
use mir.Val.{to_z, of_z}
use Rattle.uq_value.specs.Number.{number}
use Rattle.jx9_meaning.specs.Operators.{checked}
use Rattle.jx9_vm.proofs.OperatorLemmas.{whole_is, with_numbers, without_numbers}
use Rattle.jx9_vm.proofs.operators.product.Goals as goal

pub returns-in-Ok : goal.returns-in-Ok
returns-in-Ok c =
    let x_is : to_z w64 (of_z w64 c.in-Ok.x) ≡ c.in-Ok.x = search rules in
    let y_is : to_z w64 (of_z w64 c.in-Ok.y) ≡ c.in-Ok.y = search rules in
    c.whole.ensures
    ∙ whole_is c.checked_mul.result _ c.checked_mul.ensures
    ∙ ap (λ x. checked (x *ℤ to_z w64 (of_z w64 c.in-Ok.y))) x_is
    ∙ ap (λ y. checked (c.in-Ok.x *ℤ y)) y_is
    ∙ sym (with_numbers (λ x y. checked (x *ℤ y)) (number c.args.left.now) (number c.args.right.now) c.in-Ok.x c.in-Ok.y (sym c.in-Ok.ensures))

pub returns-in-Err : goal.returns-in-Err
returns-in-Err c = sym (without_numbers (λ x y. checked (x *ℤ y)) (number c.args.left.now) (number c.args.right.now) c.in-Err.kind (sym c.in-Err.ensures))
