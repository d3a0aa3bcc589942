use Rattle.std.proofs.Common.{◌∷◌, [], sym, ◌∙◌}
use Rattle.jx9_parse.specs.Answers.{state}
use Rattle.jx9_parse.specs.Levels as levels
use Rattle.jx9_parse.proofs.RoomSteps.{access_shrinks}
use Rattle.jx9_parse.proofs.Loops.{many_goes_on}
use Rattle.jx9_parse.proofs.parser.Parser.steps.Goals as goal

pub loop-self-smaller : goal.loop-self-smaller
loop-self-smaller g c = (access_shrinks c.args.within) (state c.loop-self.self) (c.in_ok-step.step, state c.access.new.self) c.in_ok-step.ensures

pub loop-self-preserved : goal.loop-self-preserved
loop-self-preserved g c = rw c.in_ok-push.ensures.ok
    (many_goes_on (11 ∷ 36 ∷ []) (levels.access c.args.within) (access_shrinks c.args.within) c.loop-self.found (state c.loop-self.self) (c.in_ok-step.step, state c.access.new.self) (levels.steps c.args.within (state c.args.self.now)) (sym c.next_is_step.ensures ∙ c.loop-self-test.true) c.in_ok-step.ensures c.loop-self.invariant)
