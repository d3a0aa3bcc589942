use Rattle.std.proofs.Common.{◌≡◌, ℕ, List, [], take, true, is_some}
use Rattle.std.specs.Option.{ForSome}
use Rattle.uq_chain.specs.FreeList.{IsFreeList, Turned, KeepsHeader}
use Rattle.uq_hash.proofs.refilling.give_all.Given as goal

abbrev pub invariant-loop-no : goal.invariant-loop-no
invariant-loop-no g l = record {
  sound : g.P.Pages.is_sound l.p ≡ true;
  told : is_some (g.P.Pages.pages l.p) ≡ is_some (g.P.Pages.pages l.fn.p);
  size : g.P.Pages.size l.p ≡ g.P.Pages.size l.fn.p;
  keeps : g.P.Pages.keeps l.fn.p l.p;
  quiet : g.P.Pages.faults l.p ≡ g.P.Pages.faults l.fn.p;
  header : KeepsHeader l.fn.h l.h;
  count : l.h.pages ≡ l.fn.h.pages;
  given : ForSome (g.P.Pages.pages l.fn.p) (λ before. (free : List ℕ) → IsFreeList before l.fn.h.free free → ForSome (g.P.Pages.pages l.p) (λ now. Turned before now l.h.free free (take l.no-index l.row) []));
}
