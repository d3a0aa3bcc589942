use Rattle.std.proofs.Common.{◌∷◌, [], sym, ◌∙◌}
use Rattle.jx9_parse.specs.Answers.{state}
use Rattle.jx9_parse.specs.Levels as levels
use Rattle.jx9_parse.proofs.RoomSteps.{other_expr_shrinks}
use Rattle.jx9_parse.proofs.Loops.{many_goes_on}
use Rattle.jx9_parse.proofs.parser.Parser.exprs.Goals as goal

pub loop-self-smaller : goal.loop-self-smaller
loop-self-smaller g c = (other_expr_shrinks c.args.within) (state c.loop-self.self) (c.in_ok-other.other, state c.other_expr.new.self) c.in_ok-other.ensures

pub loop-self-preserved : goal.loop-self-preserved
loop-self-preserved g c = rw c.in_ok-push-2.ensures.ok
    (many_goes_on (33 ∷ []) (levels.other_expr c.args.within) (other_expr_shrinks c.args.within) c.loop-self.found (state c.loop-self.self) (c.in_ok-other.other, state c.other_expr.new.self) (levels.exprs c.args.within (state c.args.self.now)) (sym c.next_is_sign.ensures ∙ c.loop-self-test.true) c.in_ok-other.ensures c.loop-self.invariant)
