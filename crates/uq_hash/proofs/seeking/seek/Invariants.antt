use Rattle.std.proofs.Common.{◌≡◌, ◌≤◌, ℕ, List, length}
use Rattle.std.specs.Prelude.{All}
use Rattle.uq_page.specs.Page.{bytes_of}
use Rattle.uq_page.specs.declared.layout.TheConstants.{CELLS_AT, PAGE_SIZE}
use Rattle.uq_hash.specs.Map.{Stored, IsStored}
use Rattle.uq_hash.specs.Place.{IsSmall, entries_page}
use Rattle.uq_hash.specs.WalkOrder.{hash_start}
use Rattle.uq_hash.proofs.SeekLemmas.{Passed}
use Rattle.uq_hash.proofs.seeking.seek.Given as goal

abbrev pub invariant-loop-index : goal.invariant-loop-index
invariant-loop-index l = record {
  low : CELLS_AT ≤ l.at;
  high : l.at ≤ PAGE_SIZE;
  passed : (group : List Stored) (next : ℕ) → bytes_of l.page ≡ entries_page group next → l.cells ≡ length group → IsSmall group → All IsStored group
      → Passed (hash_start l.h) group l.bound l.at l.last l.index;
}
