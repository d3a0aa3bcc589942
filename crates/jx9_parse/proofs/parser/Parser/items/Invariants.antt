use Rattle.std.proofs.Common.{◌≡◌, length}
use Rattle.jx9_parse.specs.Answers.{state}
use Rattle.jx9_parse.specs.Items.{program_parts}
use Rattle.jx9_parse.specs.Pieces.{parts_in}
use Rattle.jx9_parse.proofs.ItemLoops.{with_parts}
use Rattle.jx9_parse.proofs.parser.Parser.items.Given as goal

abbrev pub invariant-loop-self : goal.invariant-loop-self
invariant-loop-self l = with_parts (parts_in l.found) (program_parts (state l.self)) ≡ program_parts (state l.fn.self)

abbrev pub decreases-loop-self : goal.decreases-loop-self
decreases-loop-self l = length l.self.tokens.now
