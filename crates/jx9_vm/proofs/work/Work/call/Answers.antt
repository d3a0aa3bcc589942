use Rattle.std.proofs.Common.{◌≡◌, ◌<◌, true, Some, sym, ap, ◌∙◌, length, arith}
use Rattle.std.specs.Prelude.{nat_lt, slice_get}
use Rattle.std.proofs.lemmas.Bool.{lt-ltb}
use Rattle.jx9_meaning.specs.Script.{most_active}
use Rattle.jx9_compile.specs.Machine.{ops_of, ops_or_none}
use Rattle.jx9_compile.specs.Run.{is_unit}
use Rattle.jx9_vm.proofs.Outcomes.{on_true}
use Rattle.jx9_vm.proofs.work.Work.call.Goals as goal

pub returns-in_ok-enter-in-Some-clause-ok : goal.returns-in_ok-enter-in-Some-clause-ok
returns-in_ok-enter-in-Some-clause-ok c =
    let code = c.args.code.now in
    let calls = c.args.self.now.calls.items in
    let few : length calls < most_active = omega arith in
    let there : slice_get code.functions c.args.number ≡ Some c.in-Some.function.now =
    ap (λ fs. slice_get fs c.args.number) (sym c.functions.ensures) ∙ sym c.in-Some.ensures in
    let unit : is_unit (slice_get c.in-Some.function.now.ops 0) ≡ true = cc in
    let first : is_unit (slice_get (ops_of code c.args.number) 0) ≡ true = ap (λ f. is_unit (slice_get (ops_or_none f) 0)) there ∙ unit in
    on_true _ (nat_lt (length calls) most_active) (lt-ltb (length calls) most_active few)
    (on_true _ (is_unit (slice_get (ops_of code c.args.number) 0)) first
    (c.enter.new.self, c.in_ok-enter-in-Some.ensures.ok code there, c.unit.ensures))
