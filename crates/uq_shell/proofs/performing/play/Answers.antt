use Rattle.std.proofs.Common.{◌≡◌, ◌+◌, ◌≤◌, Option, Some, Result, Err, length, sym, ap, subst, ◌∙◌, arith}
use Rattle.std.proofs.lemmas.Result.{err_from_is_err_and}
use Rattle.uq_kv.specs.Cursor.{place_of}
use Rattle.uq_kv.specs.Kv.{limits_of}
use Rattle.uq_model.specs.declared.limits.Limits.{Limits}
use Rattle.uq_shell.specs.Commands.{fails_by}
use Rattle.uq_shell.specs.Obeys.{MovesOn}
use Rattle.uq_shell.specs.Performs.{Performed}
use Rattle.uq_shell.specs.Scripts.{plays}
use Rattle.uq_shell.specs.Stream.{obeyed_in, played_in}
use Rattle.uq_shell.specs.declared.failure.Failure.{Failure}
use Rattle.uq_shell.specs.declared.progress.Progress.{Progress}
use Rattle.uq_shell.specs.declared.progress.Stop.{Stop}
use Rattle.uq_shell.proofs.Answered.{moves_as}
use Rattle.uq_shell.proofs.Playing.{plays_saves}
use Rattle.uq_shell.proofs.Reaching.{moves_done, moves_failed, moves_stopped}
use Rattle.uq_shell.proofs.performing.play.Goals as goal

pub returns-in_err-failure : goal.returns-in_err-failure
returns-in_err-failure g c = λ source behaves.
    let p = err_from_is_err_and c.from_residual.result c.from_residual.ensures.1 in
    let is : c.from_residual.result ≡ Err c.in_err-failure.field-0.0 = p.1 ∙ ap (λ (s : Stop). Err s) p.2 in
    subst (λ (r : Result (Unit {0}) Stop). MovesOn g.D.Disk g.O.Sink (λ _ state. played_in c.args.terms.now.limits state (plays c.args.terms.now source)) c.args.progress.now c.perform.new.progress
    (place_of c.args.cursor.now) (place_of c.args.cursor.now) c.args.kv.now c.args.kv.now c.args.out.now c.perform.new.out r) (sym is)
    (moves_stopped g.D.Disk g.O.Sink (plays c.args.terms.now source) (plays_saves c.args.terms.now source) c.args.progress.now c.args.kv.now c.args.out.now (place_of c.args.cursor.now) c.args.terms.now.limits
    c.in_err-failure.field-0.0 c.perform.new.progress c.perform.new.out (c.in_err-failure.ensures source behaves))

pub obey-requires-clause-few : goal.obey-requires-clause-few
obey-requires-clause-few g c =
    let source = c.requires.compiled.0 in
    let performed = c.in_ok-failure.ensures source c.requires.compiled.1 in
    let done : c.perform.new.progress.done ≡ c.args.progress.now.done + length (plays c.args.terms.now source).events = ap (λ (p : Progress). p.done) performed.progress in
    let few = performed.few in
    let was = c.requires.few in
    omega arith

pub returns-in-Some : goal.returns-in-Some
returns-in-Some g c = λ source behaves.
    let limits = c.args.terms.now.limits in
    let performed = subst (λ (f : Option Failure). Performed g.O.Sink (plays c.args.terms.now source) c.args.progress.now c.perform.new.progress c.args.out.now c.perform.new.out f) c.in-Some.is
    (c.in_ok-failure.ensures source behaves) in
    moves_failed g.D.Disk g.O.Sink (plays c.args.terms.now source) (plays_saves c.args.terms.now source) c.args.progress.now c.args.kv.now c.args.out.now (place_of c.args.cursor.now) limits
    c.in-Some.failure c.perform.new.progress c.obey.new.progress (place_of c.obey.new.cursor) c.obey.new.kv c.perform.new.out c.obey.new.out c.obey.result performed
    (moves_as g.D.Disk g.O.Sink c.perform.new.progress c.obey.new.progress (place_of c.args.cursor.now) (place_of c.obey.new.cursor) c.args.kv.now c.obey.new.kv c.perform.new.out c.obey.new.out c.obey.result
    (λ _ state. obeyed_in (limits_of g.D.Disk c.args.kv.now) state (fails_by c.in-Some.failure)) (λ _ state. obeyed_in limits state (fails_by c.in-Some.failure))
    (λ judge right state. ap (λ (l : Limits). obeyed_in l state (fails_by c.in-Some.failure)) (sym c.requires.terms.of_store)) c.obey.ensures.moves)
    c.obey.ensures.few

pub returns-in-None : goal.returns-in-None
returns-in-None g c = λ source behaves.
    let performed = subst (λ (f : Option Failure). Performed g.O.Sink (plays c.args.terms.now source) c.args.progress.now c.perform.new.progress c.args.out.now c.perform.new.out f) c.in-None.is
    (c.in_ok-failure.ensures source behaves) in
    moves_done g.D.Disk g.O.Sink (plays c.args.terms.now source) (plays_saves c.args.terms.now source) c.args.progress.now c.args.kv.now c.args.out.now (place_of c.args.cursor.now) c.args.terms.now.limits
    c.perform.new.progress c.perform.new.out c.requires.open performed
