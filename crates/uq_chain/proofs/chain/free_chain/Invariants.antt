use Rattle.std.proofs.Common.{◌≡◌, ◌+◌, ◌≤◌, ℕ, List, true, is_some, length}
use Rattle.std.specs.Option.{ForSome}
use Rattle.uq_chain.specs.Chain.{IsChain, pages_for}
use Rattle.uq_chain.specs.FreeList.{IsFreeList, KeepsHeader}
use Rattle.uq_chain.specs.Path.{IsValuePage, KeepsBut}
use Rattle.uq_chain.proofs.FreeingLemmas.{Freeing}
use Rattle.uq_chain.proofs.chain.free_chain.Given as goal

abbrev pub invariant-loop-left : goal.invariant-loop-left
invariant-loop-left g l = record {
  sound : g.P.Pages.is_sound l.p ≡ true;
  less : l.left ≤ l.fn.len;
  told : is_some (g.P.Pages.pages l.p) ≡ is_some (g.P.Pages.pages l.fn.p);
  size : g.P.Pages.size l.p ≡ g.P.Pages.size l.fn.p;
  asked : g.P.Pages.asked l.p + pages_for l.left ≤ g.P.Pages.asked l.fn.p + pages_for l.fn.len;
  keeps : g.P.Pages.keeps l.fn.p l.p;
  quiet : g.P.Pages.faults l.p ≡ g.P.Pages.faults l.fn.p;
  header : KeepsHeader l.fn.h l.h;
  others : KeepsBut IsValuePage (g.P.Pages.pages l.fn.p) (g.P.Pages.pages l.p) l.fn.first l.no;
  count : l.h.pages ≡ l.fn.h.pages;
  freed : ForSome (g.P.Pages.pages l.fn.p) (λ before. (row bytes : List ℕ) → IsChain before l.fn.first row bytes → length bytes ≡ l.fn.len
      → (free : List ℕ) → IsFreeList before l.fn.h.free free → ForSome (g.P.Pages.pages l.p) (λ now. Freeing before now l.h.free free row bytes l.no l.left));
}

abbrev pub decreases-loop-left : goal.decreases-loop-left
decreases-loop-left g l = l.left
