use Rattle.std.proofs.Common.{◌≡◌, ◌+◌, ◌≤◌, List, length}
use Rattle.std.specs.Prelude.{All, sum}
use Rattle.uq_page.specs.Page.{bytes_of}
use Rattle.uq_page.specs.declared.layout.TheConstants.{PAGE_SIZE}
use Rattle.uq_hash.specs.Lying.{LiesAt}
use Rattle.uq_hash.specs.Map.{Stored}
use Rattle.uq_hash.specs.Refill.{Fits}
use Rattle.uq_hash.proofs.LyingLemmas.{Sizing}
use Rattle.uq_hash.proofs.gathering.append_cells.Given as goal

abbrev pub invariant-loop-seen : goal.invariant-loop-seen
invariant-loop-seen l = record {
  low : l.from ≤ l.at;
  high : l.at ≤ PAGE_SIZE;
  whole : sum l.sizes.items + l.from ≡ sum l.fn.sizes.items + l.at;
  fits : All Fits l.sizes.items;
  sizing : (xs : List Stored) → LiesAt (bytes_of l.page) l.from xs → l.count ≡ length xs → Sizing l.from l.count l.at l._seen l.fn.sizes.items l.sizes.items xs;
}
