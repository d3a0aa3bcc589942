use Rattle.std.proofs.Common.{◌≡◌, length}
use Rattle.jx9_parse.specs.Answers.{state}
use Rattle.jx9_parse.specs.Levels as levels
use Rattle.jx9_parse.proofs.Loops.{with_front}
use Rattle.jx9_parse.proofs.parser.Parser.list_items.Given as goal

abbrev pub invariant-loop-self : goal.invariant-loop-self
invariant-loop-self g l = with_front l.found (levels.list_items l.within (state l.self)) ≡ levels.list_items l.within (state l.fn.self)

abbrev pub decreases-loop-self : goal.decreases-loop-self
decreases-loop-self g l = length l.self.tokens.now
