use Rattle.std.proofs.Common.{◌≡◌, ◌∷◌, [], length}
use Rattle.jx9_parse.specs.Answers.{state}
use Rattle.jx9_parse.specs.Levels as levels
use Rattle.jx9_parse.proofs.Loops.{with_front}
use Rattle.jx9_parse.specs.Reading.{many}
use Rattle.jx9_parse.proofs.parser.Parser.expressions.Given as goal

abbrev pub invariant-loop-self : goal.invariant-loop-self
invariant-loop-self g l = with_front l.found (many (33 ∷ []) (levels.other_expression l.within) (state l.self)) ≡ levels.expressions l.within (state l.fn.self)

abbrev pub decreases-loop-self : goal.decreases-loop-self
decreases-loop-self g l = length l.self.tokens.now
