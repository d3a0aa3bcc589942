use Rattle.std.proofs.Common.{◌≡◌, ◌≤◌, ◌+◌, ◌-◌, List, length, take, drop}
use Rattle.std.specs.List.{All}
use Rattle.uq_value.specs.Data.{Bytes}
use Rattle.uq_words.specs.Blocks.{IsInner, text_of_lines}
use Rattle.uq_words.specs.Lines.{HasNoFeed}
use Rattle.uq_words.specs.Taking.{Going, left_of, most_of, pending}
use Rattle.uq_words.proofs.lines.Lines.advance_block.Given as goal

-- Behind a line fewer bytes are to be searched, and behind a piece there is less room.
abbrev pub decreases-lines : goal.decreases-lines
decreases-lines g l = l.self.room + (most_of l.self - l.line)

-- Lines of the block are in front of the one that is searched, of which so many bytes have no line feed; and what is behind
-- the line given, with the source, is what it was.
abbrev pub invariant-lines : goal.invariant-lines
invariant-lines g l = record {
  inner : List Bytes;
  all_inner : All IsInner inner;
  text : take l.line (pending l.self) ≡ text_of_lines inner;
  inside : l.self.next + l.line ≤ length l.self.bytes.items;
  within : l.searched ≤ length (drop (l.self.next + l.line) l.self.bytes.items);
  none : HasNoFeed (take l.searched (drop (l.self.next + l.line) l.self.bytes.items));
  left : left_of g.I.Source l.self l.input ≡ left_of g.I.Source l.fn.self l.fn.input;
  most : most_of l.self ≡ most_of l.fn.self;
  going : Going g.I.Source l.fn.self l.fn.input l.self l.input;
}
