use Rattle.std.proofs.Common.{◌≡◌, ◌≤◌, length, take}
use Rattle.uq_words.specs.Lines.{HasNoFeed}
use Rattle.uq_words.specs.Taking.{Going, left_of, most_of, pending}
use Rattle.uq_words.proofs.lines.Lines.take_line.Given as goal

abbrev pub decreases-pieces : goal.decreases-pieces
decreases-pieces g l = l.self.room

-- What was searched has no line feed; and what is behind the line, with the source, is what it was.
abbrev pub invariant-pieces : goal.invariant-pieces
invariant-pieces g l = record {
  within : l.searched ≤ length (pending l.self);
  none : HasNoFeed (take l.searched (pending l.self));
  left : left_of g.I.Source l.self l.input ≡ left_of g.I.Source l.fn.self l.fn.input;
  most : most_of l.self ≡ most_of l.fn.self;
  going : Going g.I.Source l.fn.self l.fn.input l.self l.input;
}
