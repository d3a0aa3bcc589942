use Rattle.std.proofs.Common.{sym, subst}
use Rattle.jx9_syntax.specs.declared.expression.Change.{Change}
use Rattle.jx9_vm.specs.Moves.{Changes}
use Rattle.jx9_vm.proofs.Outcomes.{if_ok_map}
use Rattle.jx9_vm.proofs.UnshownLemmas.{unshown_map}
use Rattle.jx9_vm.proofs.work.Work.change_unshown.Goals as goal

pub returns-in-By-clause-ok : goal.returns-in-By-clause-ok
returns-in-By-clause-ok c =
    unshown_map _ _ c.change_by_unshown.result c.args.self.now c.change_by_unshown.new.self
    (λ f w m. subst (λ (h : Change). Changes c.args.line c.args.slot h f c.args.self.now w) (sym c.in-By.is) m) c.change_by_unshown.ensures

pub returns-in-Join-clause-ok : goal.returns-in-Join-clause-ok
returns-in-Join-clause-ok c =
    if_ok_map c.append_unshown.result c.append_unshown.ensures.ok (λ flow appends. unshown_map _ _ flow c.args.self.now c.append_unshown.new.self
    (λ f w m. subst (λ (h : Change). Changes c.args.line c.args.slot h f c.args.self.now w) (sym c.in-Join.is) m) appends)
