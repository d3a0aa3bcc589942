use Rattle.std.proofs.Common.{◌≡◌, ◌≤◌, ℕ, List, length, map}
use Rattle.uq_hash.specs.Refill.{counts, lens}
use Rattle.uq_hash.proofs.FillingLemmas.{Filling}
use Rattle.uq_hash.proofs.refilling.fills.Given as goal
use Rattle.uq_page.specs.declared.layout.TheConstants.{CELLS_ROOM}

abbrev pub invariant-loop-size : goal.invariant-loop-size
invariant-loop-size l = record {
  few : l.page.bytes ≤ CELLS_ROOM;
  less : l.page.cells ≤ l.page.bytes;
  short : length l.fills.items ≤ l.size-index;
  filling : (cells : List (List ℕ)) → map length cells ≡ l.sizes → Filling cells (map counts l.fills.items) (map lens l.fills.items) l.page.cells l.page.bytes l.size-index;
}
