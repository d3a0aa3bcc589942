use Rattle.std.proofs.Common.{◌≡◌, ◌+◌, ◌<◌, ◌≤◌, ◌^◌, ℕ, List, [], length, map, take, get_or, true, is_some}
use Rattle.std.specs.Option.{ForSome}
use Rattle.std.specs.List.{concat}
use Rattle.uq_chain.specs.FreeList.{IsFreeList, KeepsHeader, KeepsCount}
use Rattle.uq_hash.specs.Cells.{filled}
use Rattle.uq_hash.specs.Refill.{Owned}
use Rattle.uq_hash.proofs.FillLemmas.{flat}
use Rattle.uq_hash.proofs.RefillLemmas.{Laying}
use Rattle.uq_hash.proofs.refilling.refill.Given as goal

abbrev pub invariant-loop-left : goal.invariant-loop-left
invariant-loop-left g l = record {
  sound : g.P.Pages.is_sound l.p ≡ true;
  told : is_some (g.P.Pages.pages l.p) ≡ is_some (g.P.Pages.pages l.fn.p);
  some : 1 ≤ g.P.Pages.size l.p;
  size : g.P.Pages.size l.fn.p ≤ g.P.Pages.size l.p;
  most : g.P.Pages.size l.p + l.left ≤ g.P.Pages.size l.fn.p + length l.fills.items;
  keeps : g.P.Pages.keeps l.fn.p l.p;
  quiet : g.P.Pages.faults l.p ≡ g.P.Pages.faults l.fn.p;
  header : KeepsHeader l.fn.h l.h;
  count : KeepsCount l.fn.h l.h (g.P.Pages.size l.fn.p) (g.P.Pages.size l.p);
  fits : l.next < 2 ^ 32;
  less : l.left ≤ length l.fills.items;
  first : l.left < length l.fills.items → l.left < length l.row → l.next ≡ get_or l.row l.left 0;
  ends : (cells : List (List ℕ)) → map length cells ≡ l.sizes → concat cells ≡ l.bytes → l.end ≡ length (concat (flat (take l.left (filled [] cells))));
  laid : ForSome (g.P.Pages.pages l.fn.p) (λ before. (free : List ℕ) → IsFreeList before l.fn.h.free free → Owned before l.row free → ForSome (g.P.Pages.pages l.p) (λ now.
      (cells : List (List ℕ)) → map length cells ≡ l.sizes → concat cells ≡ l.bytes → Laying before now l.h.free free l.row (filled [] cells) l.left l.next));
}

abbrev pub decreases-loop-left : goal.decreases-loop-left
decreases-loop-left g l = l.left
