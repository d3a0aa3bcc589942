use Rattle.std.proofs.Common.{◌≡◌, sym, ap, ◌∙◌, w64, rules}
use Rattle.std.specs.Prelude.{int_div}
use mir.Val.{to_z, of_z}
use Rattle.uq_value.specs.Number.{number}
use Rattle.jx9_meaning.specs.Operators.{divided}
use Rattle.jx9_vm.proofs.OperatorLemmas.{with_numbers, without_numbers}
use Rattle.jx9_vm.proofs.operators.quotient.Goals as goal

pub returns-in-Ok : goal.returns-in-Ok
returns-in-Ok c =
    let x_is : to_z w64 (of_z w64 c.in-Ok.x) ≡ c.in-Ok.x = search rules in
    let y_is : to_z w64 (of_z w64 c.in-Ok.y) ≡ c.in-Ok.y = search rules in
    c.truncated.ensures
    ∙ ap (λ x. divided int_div x (to_z w64 (of_z w64 c.in-Ok.y))) x_is
    ∙ ap (divided int_div c.in-Ok.x) y_is
    ∙ sym (with_numbers (divided int_div) (number c.args.left.now) (number c.args.right.now) c.in-Ok.x c.in-Ok.y (sym c.in-Ok.ensures))

pub returns-in-Err : goal.returns-in-Err
returns-in-Err c = sym (without_numbers (divided int_div) (number c.args.left.now) (number c.args.right.now) c.in-Err.kind (sym c.in-Err.ensures))
