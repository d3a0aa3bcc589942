use Rattle.std.proofs.Common.{◌≤◌}
use Rattle.uq_outside.specs.Stops.{Told}
use Rattle.uq_words.specs.Taking.{Going, left_of, most_of}
use Rattle.uq_words.specs.TakingBlocks.{ArePassed}
use Rattle.uq_words.proofs.lines.Lines.skip_block.Given as goal

abbrev pub decreases-lines : goal.decreases-lines
decreases-lines g l = most_of l.self

-- Up to here the lines are those of the block.
abbrev pub invariant-lines : goal.invariant-lines
invariant-lines g l = record {
  passed : Told (λ input behind. ArePassed (most_of l.fn.self) input (most_of l.self) behind) (left_of g.I.Source l.fn.self l.fn.input) (left_of g.I.Source l.self l.input);
  most : most_of l.self ≤ most_of l.fn.self;
  going : Going g.I.Source l.fn.self l.fn.input l.self l.input;
}
