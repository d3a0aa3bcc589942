use Rattle.std.proofs.Common.{◌≡◌, ◌+◌, ◌≤◌, ◌<◌, ◌^◌, ℕ, List, drop, true, is_some, length}
use Rattle.std.specs.Option.{ForSome}
use Rattle.uq_chain.specs.Chain.{IsWritten, pages_for}
use Rattle.uq_chain.specs.FreeList.{GrowsLast, IsFreeList, KeepsHeader, KeepsCount}
use Rattle.uq_chain.specs.Path.{KeepsButFree}
use Rattle.uq_chain.proofs.WriteLemmas.{Cut}
use Rattle.uq_chain.proofs.writing.write_chain.Given as goal

abbrev pub invariant-loop-end : goal.invariant-loop-end
invariant-loop-end g l = record {
  sound : g.P.Pages.is_sound l.p ≡ true;
  told : is_some (g.P.Pages.pages l.p) ≡ is_some (g.P.Pages.pages l.fn.p);
  some : 1 ≤ g.P.Pages.size l.p;
  size : g.P.Pages.size l.fn.p ≤ g.P.Pages.size l.p;
  keeps : g.P.Pages.keeps l.fn.p l.p;
  quiet : g.P.Pages.faults l.p ≡ g.P.Pages.faults l.fn.p;
  header : KeepsHeader l.fn.h l.h;
  grows : GrowsLast l.h.free (g.P.Pages.size l.fn.p) (g.P.Pages.size l.p);
  others : KeepsButFree (g.P.Pages.pages l.fn.p) (g.P.Pages.pages l.p) l.fn.h.free l.h.free;
  count : KeepsCount l.fn.h l.h (g.P.Pages.size l.fn.p) (g.P.Pages.size l.p);
  fits : l.next < 2 ^ 32;
  pages : ℕ;
  asked : g.P.Pages.asked l.p + pages ≤ g.P.Pages.asked l.fn.p + pages_for (length l.bytes);
  most : g.P.Pages.size l.p + pages ≤ g.P.Pages.size l.fn.p + pages_for (length l.bytes);
  cut : Cut (length l.bytes) l.end pages;
  number : l.end < length l.bytes → 1 ≤ l.next;
  written : ForSome (g.P.Pages.pages l.fn.p) (λ before. (free : List ℕ) → IsFreeList before l.fn.h.free free → ForSome (g.P.Pages.pages l.p) (λ now. IsWritten before now l.h.free free l.next (drop l.end l.bytes)));
}

abbrev pub decreases-loop-end : goal.decreases-loop-end
decreases-loop-end g l = l.end
