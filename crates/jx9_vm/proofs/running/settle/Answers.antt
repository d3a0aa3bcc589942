use Rattle.std.proofs.Common.{Ok, subst, sym}
use Rattle.jx9_vm.specs.declared.ending.Ending.{Ending}
use Rattle.jx9_vm.specs.Exec.{Settles}
use Rattle.jx9_vm.proofs.ExecLemmas.{settles_done, settles_fault, settles_spent}
use Rattle.jx9_vm.proofs.running.settle.Goals as goal

pub returns-in-Done-clause-settles : goal.returns-in-Done-clause-settles
returns-in-Done-clause-settles g c =
    subst (λ (e : Ending). Settles e (g.B.Base.shows c.args.base.now) (g.B.Base.shows c.args.base.now) (Ok tt)) (sym c.in-Done.is)
    (settles_done (g.B.Base.shows c.args.base.now))

pub returns-in-Fault-clause-settles : goal.returns-in-Fault-clause-settles
returns-in-Fault-clause-settles g c =
    subst (λ (e : Ending). Settles e (g.B.Base.shows c.args.base.now) (g.B.Base.shows c.rollback.new.self) c.rollback.result) (sym c.in-Fault.is)
    (settles_fault _ _ _ _ c.rollback.result c.rollback.ensures.does)

pub returns-in-Spent-clause-settles : goal.returns-in-Spent-clause-settles
returns-in-Spent-clause-settles g c =
    subst (λ (e : Ending). Settles e (g.B.Base.shows c.args.base.now) (g.B.Base.shows c.rollback-in-Spent.new.self) c.rollback-in-Spent.result) (sym c.in-Spent.is)
    (settles_spent _ _ c.rollback-in-Spent.result c.rollback-in-Spent.ensures.does)
