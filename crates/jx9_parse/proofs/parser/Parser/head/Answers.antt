use Rattle.std.proofs.Common.{◌≡◌, List, [], Option, Some, None, Result, Ok, sym, ap, subst, ◌∙◌}
use Rattle.jx9_syntax.specs.Grammar.{place_of}
use Rattle.jx9_syntax.specs.declared.expression.Access.{Access}
use Rattle.jx9_syntax.specs.declared.expression.Expr.{Expr}
use Rattle.jx9_parse.specs.Answers.{Gives, state, it}
use Rattle.jx9_parse.specs.Levels as levels
use Rattle.jx9_parse.specs.Reading.{Read}
use Rattle.jx9_parse.specs.Spots.{with_spot}
use Rattle.jx9_parse.specs.declared.stop.Stop.{Stop}
use Rattle.jx9_parse.proofs.Descents.{as_err}
use Rattle.jx9_parse.proofs.HeadLoops.{step_shrinks, step_stops, step_taken, no_step}
use Rattle.jx9_parse.proofs.parser.Parser.head.Goals as goal

pub loop-self-init : goal.loop-self-init
loop-self-init g c = ap (λ (steps : List Access). levels.head c.args.within (place_of (with_spot (c.args.name, c.args.spot)) steps) (state c.args.self.now)) c.new-steps.ensures

pub loop-self-smaller : goal.loop-self-smaller
loop-self-smaller g c = step_shrinks c.args.within (state c.loop-self.self) (c.in_ok-step.field-0, state c.head_step.new.self) c.in_ok-step.ensures

pub loop-self-preserved : goal.loop-self-preserved
loop-self-preserved g c = subst (λ (steps : List Access). levels.head c.args.within (place_of (with_spot (c.loop-self.name, c.args.spot)) steps) (state c.head_step.new.self) ≡ levels.head c.args.within (place_of (with_spot (c.args.name, c.args.spot)) []) (state c.args.self.now))
    (sym c.in_ok-push-in-Some.ensures.ok)
    (step_taken c.args.within (place_of (with_spot (c.loop-self.name, c.args.spot)) c.loop-self.steps) (state c.loop-self.self) (Some c.in-Some.step, state c.head_step.new.self) (levels.head c.args.within (place_of (with_spot (c.args.name, c.args.spot)) []) (state c.args.self.now))
    (sym c.next_is_step.ensures ∙ c.loop-self-test.true) (c.in_ok-step.ensures ∙ ap (λ (o : Option Access). Ok (o, state c.head_step.new.self)) c.in-Some.is) c.loop-self.invariant)

pub returns-in_err-step : goal.returns-in_err-step
returns-in_err-step g c = as_err (λ (r : Result Expr Stop). Gives it r c.head_step.new.self (levels.head c.args.within (place_of (with_spot (c.args.name, c.args.spot)) []) (state c.args.self.now))) c.from_residual.result c.in_err-step.field-0.0 c.from_residual.ensures.1
    (step_stops c.args.within (place_of (with_spot (c.loop-self.name, c.args.spot)) c.loop-self.steps) (state c.loop-self.self) (levels.head c.args.within (place_of (with_spot (c.args.name, c.args.spot)) []) (state c.args.self.now)) c.in_err-step.field-0.0 c.head_step.new.self
    (sym c.next_is_step.ensures ∙ c.loop-self-test.true) c.in_err-step.ensures c.loop-self.invariant)

pub returns-in-None : goal.returns-in-None
returns-in-None g c = subst (λ (q : Read Expr). Gives it c.appended.result c.appended.new.self q)
    (step_taken c.args.within (place_of (with_spot (c.loop-self.name, c.args.spot)) c.loop-self.steps) (state c.loop-self.self) (None, state c.head_step.new.self) (levels.head c.args.within (place_of (with_spot (c.args.name, c.args.spot)) []) (state c.args.self.now))
    (sym c.next_is_step.ensures ∙ c.loop-self-test.true) (c.in_ok-step.ensures ∙ ap (λ (o : Option Access). Ok (o, state c.head_step.new.self)) c.in-None.is) c.loop-self.invariant) c.appended.ensures

pub returns : goal.returns
returns g c = subst (λ (q : Read Expr). Gives it c.behind_place.result c.behind_place.new.self q)
    (no_step c.args.within (place_of (with_spot (c.loop-self.name, c.args.spot)) c.loop-self.steps) (state c.loop-self.self) (levels.head c.args.within (place_of (with_spot (c.args.name, c.args.spot)) []) (state c.args.self.now))
    (sym c.next_is_step.ensures ∙ c.loop-self-test.false) c.loop-self.invariant) c.behind_place.ensures
