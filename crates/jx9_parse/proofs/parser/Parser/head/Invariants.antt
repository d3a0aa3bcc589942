use Rattle.std.proofs.Common.{◌≡◌, [], length}
use Rattle.jx9_parse.specs.Answers.{state}
use Rattle.jx9_syntax.specs.Grammar.{place_of}
use Rattle.jx9_parse.specs.Levels as levels
use Rattle.jx9_parse.specs.Spots.{with_spot}
use Rattle.jx9_parse.proofs.parser.Parser.head.Given as goal

abbrev pub invariant-loop-self : goal.invariant-loop-self
invariant-loop-self g l = levels.head l.within (place_of (with_spot (l.name, l.spot)) l.steps) (state l.self) ≡ levels.head l.within (place_of (with_spot (l.fn.name, l.fn.spot)) []) (state l.fn.self)

abbrev pub decreases-loop-self : goal.decreases-loop-self
decreases-loop-self g l = length l.self.tokens.now
