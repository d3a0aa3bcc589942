use Rattle.std.proofs.Common.{refl, sym, subst}
use Rattle.uq_model.specs.Map.{shown_by}
use Rattle.uq_shell.specs.Performs.{IsStopped}
use Rattle.uq_shell.specs.Scripts.{fresh, plays}
use Rattle.uq_shell.specs.declared.progress.Stop.{Stop}
use Rattle.uq_shell.proofs.Playing.{performed, stopped}
use Rattle.uq_shell.proofs.performing.perform.Goals as goal

pub returns-in-Ok : goal.returns-in-Ok
returns-in-Ok g c = λ source behaves.
    performed g.O.Sink c.args.terms.now source c.args.code.now behaves c.code_means_its_scripts.ensures (c.every_script_ends.ensures source (fresh c.args.terms.now)) c.requires.budget
    c.new-base.result c.new-base.ensures.session c.new-base.ensures.limits c.args.progress.now c.requires.few_units
    (shown_by c.exec.new.base) c.in-Ok.ran c.exec.new.meter c.args.out.now c.exec.new.out c.pass.new.self c.failure_of.result c.in-Ok.ensures.ran (c.in-Ok.ensures.sink.quiet c.in-Ok.ran refl) c.pass.ensures c.failure_of.ensures

pub returns : goal.returns
returns g c = λ source behaves.
    subst (λ (s : Stop). IsStopped g.O.Sink (plays c.args.terms.now source) c.args.progress.now c.pass-in-Err.new.self c.args.out.now c.exec.new.out s) (sym c.stop_by.ensures)
    (stopped g.O.Sink c.args.terms.now source c.args.code.now behaves c.code_means_its_scripts.ensures (c.every_script_ends.ensures source (fresh c.args.terms.now)) c.requires.budget
    c.new-base.result c.new-base.ensures.session c.new-base.ensures.limits c.args.progress.now c.requires.few_units
    (shown_by c.exec.new.base) c.in-Err.stop c.exec.new.meter c.args.out.now c.exec.new.out c.pass-in-Err.new.self c.in-Err.ensures.stopped c.in-Err.ensures.sink c.pass-in-Err.ensures)
