use Rattle.std.proofs.Common.{◌∷◌, [], sym, ◌∙◌}
use Rattle.jx9_parse.specs.Answers.{state}
use Rattle.jx9_parse.specs.Levels as levels
use Rattle.jx9_parse.specs.Expressions.{parameter, other_parameter}
use Rattle.jx9_parse.specs.Reading.{commas}
use Rattle.jx9_parse.proofs.RoomSteps.{other_parameter_shrinks}
use Rattle.jx9_parse.proofs.Loops.{many_goes_on}
use Rattle.jx9_parse.proofs.parser.Parser.names.Goals as goal

pub loop-self-smaller : goal.loop-self-smaller
loop-self-smaller c = other_parameter_shrinks (state c.loop-self.self) (c.in_ok-other.other, state c.other_parameter.new.self) c.in_ok-other.ensures

pub loop-self-preserved : goal.loop-self-preserved
loop-self-preserved c = rw c.in_ok-push-2.ensures.ok
    (many_goes_on (33 ∷ []) other_parameter other_parameter_shrinks c.loop-self.found (state c.loop-self.self) (c.in_ok-other.other, state c.other_parameter.new.self) (commas parameter (state c.args.self.now)) (sym c.next_is_sign.ensures ∙ c.loop-self-test.true) c.in_ok-other.ensures c.loop-self.invariant)
