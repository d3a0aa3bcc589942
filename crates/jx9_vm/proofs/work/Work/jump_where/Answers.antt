use Rattle.std.proofs.Common.{◌≡◌, sym, ap, ◌∙◌}
use Rattle.uq_value.specs.Truth.{truth}
use Rattle.uq_value.specs.Same.{alike}
use Rattle.jx9_vm.specs.Work.{top_of}
use Rattle.jx9_vm.proofs.Outcomes.{on_true}
use Rattle.jx9_vm.proofs.WorkLemmas.{alike_by}
use Rattle.jx9_vm.proofs.work.Work.jump_where.Goals as goal

pub returns-then-is_true-wanted : goal.returns-then-is_true-wanted
returns-then-is_true-wanted c =
    let e : truth (top_of c.args.self.now) ≡ c.top_truth-is_true.result = sym c.top_truth-is_true.ensures in
    on_true _ (alike c.args.wanted (truth (top_of c.args.self.now))) (ap (alike c.args.wanted) e ∙ alike_by c.top_truth-is_true.result c.args.wanted c.if-is_true-wanted.true)
    (c.drop_value.new.self, c.drop_value.ensures, c.jump.ensures)
