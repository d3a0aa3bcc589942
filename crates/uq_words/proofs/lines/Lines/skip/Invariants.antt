use Rattle.std.proofs.Common.{◌<◌, ◌≤◌, ◌+◌, length}
use Rattle.uq_words.specs.Lines.{HasNoFeed}
use Rattle.uq_words.specs.Taking.{Going, Passing, most_of, pending}
use Rattle.uq_words.proofs.lines.Lines.skip.Given as goal

abbrev pub decreases-pieces : goal.decreases-pieces
decreases-pieces g l = l.self.room

-- Where a line that is too long was at the front, it goes on up to here.
abbrev pub invariant-pieces : goal.invariant-pieces
invariant-pieces g l = record {
  passing : HasNoFeed (pending l.fn.self) → l.limit + 1 < length (pending l.fn.self) → Passing g.I.Source l.limit l.fn.self l.fn.input l.self l.input;
  most : most_of l.self ≤ most_of l.fn.self;
  going : Going g.I.Source l.fn.self l.fn.input l.self l.input;
}
