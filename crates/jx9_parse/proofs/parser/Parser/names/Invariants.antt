use Rattle.std.proofs.Common.{◌≡◌, ◌∷◌, [], length}
use Rattle.jx9_parse.specs.Answers.{state}
use Rattle.jx9_parse.specs.Expressions.{parameter, other_parameter}
use Rattle.jx9_parse.specs.Reading.{many, commas}
use Rattle.jx9_parse.proofs.Loops.{with_front}
use Rattle.jx9_parse.proofs.parser.Parser.names.Given as goal

abbrev pub invariant-loop-self : goal.invariant-loop-self
invariant-loop-self l = with_front l.found (many (33 ∷ []) other_parameter (state l.self)) ≡ commas parameter (state l.fn.self)

abbrev pub decreases-loop-self : goal.decreases-loop-self
decreases-loop-self l = length l.self.tokens.now
