use Rattle.std.proofs.Common.{◌≡◌, Some, sym, ap, subst, ◌∙◌}
use Rattle.uq_kv.specs.Cursor.{place_of}
use Rattle.uq_kv.specs.Kv.{limits_of}
use Rattle.uq_model.specs.declared.limits.Limits.{Limits}
use Rattle.uq_shell.specs.Commands.{fails_by}
use Rattle.uq_shell.specs.Scripts.{played_by, plays}
use Rattle.uq_shell.specs.Stream.{State, obeyed_in, played_in, script_in}
use Rattle.uq_shell.specs.Verdicts.{Fails, HasNoCode, Runs, Verdict}
use Rattle.uq_shell.specs.declared.judging.NoCode.TheVariants.{Failed}
use Rattle.uq_shell.proofs.Answered.{moves_as, moves_memory}
use Rattle.uq_shell.proofs.Extending.{script_extends}
use Rattle.uq_shell.proofs.Judged.{judged}
use Rattle.uq_shell.proofs.Reaching.{performed_none}
use Rattle.uq_shell.proofs.performing.run_script.Goals as goal

pub returns-in-Ok : goal.returns-in-Ok
returns-in-Ok g c =
    let runs = c.in-Ok.ensures.code in
    let terms = c.args.terms.now in
    moves_as g.D.Disk g.O.Sink c.args.progress.now c.play.new.progress (place_of c.args.cursor.now) (place_of c.play.new.cursor) c.args.kv.now c.play.new.kv c.args.out.now c.play.new.out c.play.result
    (λ _ state. played_in terms.limits state (plays terms runs.0)) (λ judge state. script_in judge terms state (Some c.args.text.now))
    (λ judge right state. ap (λ (v : Verdict). played_in terms.limits state (played_by terms v))
    (sym (judged c.args.text.now (c.texts_have_one_verdict.ensures.one c.args.text.now) c.requires.short judge right (Runs runs.0) runs.1)))
    (c.play.ensures runs.0 runs.2)

pub returns-in-Err-Failed : goal.returns-in-Err-Failed
returns-in-Err-Failed g c =
    let failure = c.in-Err-Failed.failure in
    let is : c.in-Err-Failed.field-0 ≡ Failed failure = cc in
    let fails = subst (HasNoCode c.args.text.now) is c.in-Err-Failed.ensures.none in
    let terms = c.args.terms.now in
    moves_as g.D.Disk g.O.Sink c.args.progress.now c.obey.new.progress (place_of c.args.cursor.now) (place_of c.obey.new.cursor) c.args.kv.now c.obey.new.kv c.args.out.now c.obey.new.out c.obey.result
    (λ _ state. obeyed_in (limits_of g.D.Disk c.args.kv.now) state (fails_by failure)) (λ judge state. script_in judge terms state (Some c.args.text.now))
    (λ judge right state.
    ap (λ (l : Limits). obeyed_in l state (fails_by failure)) (sym c.requires.terms.of_store)
    ∙ ap (λ (s : State). obeyed_in terms.limits s (fails_by failure)) (sym (performed_none state failure))
    ∙ ap (λ (v : Verdict). played_in terms.limits state (played_by terms v))
    (sym (judged c.args.text.now (c.texts_have_one_verdict.ensures.one c.args.text.now) c.requires.short judge right (Fails failure) fails)))
    c.obey.ensures.moves

pub returns-in-Err-Memory : goal.returns-in-Err-Memory
returns-in-Err-Memory g c =
    let terms = c.args.terms.now in
    moves_memory g.D.Disk g.O.Sink c.args.progress.now (place_of c.args.cursor.now) c.args.kv.now c.args.out.now (λ judge state. script_in judge terms state (Some c.args.text.now))
    (λ judge state. script_extends judge terms state (Some c.args.text.now))
