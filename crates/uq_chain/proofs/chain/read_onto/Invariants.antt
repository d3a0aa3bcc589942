use Rattle.std.proofs.Common.{◌≡◌, ◌+◌, ◌≤◌, ℕ, List, ◌++◌, true, length}
use Rattle.std.specs.Option.{ForSome}
use Rattle.uq_chain.specs.Chain.{IsChain, pages_for}
use Rattle.uq_chain.proofs.PartLemmas.{Onto}
use Rattle.uq_chain.proofs.chain.read_onto.Given as goal

abbrev pub invariant-loop-left : goal.invariant-loop-left
invariant-loop-left g l = record {
  sound : g.P.Pages.is_sound l.p ≡ true;
  less : l.left ≤ l.fn.len;
  same : g.P.Pages.pages l.p ≡ g.P.Pages.pages l.fn.p;
  size : g.P.Pages.size l.p ≡ g.P.Pages.size l.fn.p;
  asked : g.P.Pages.asked l.p + pages_for l.left ≤ g.P.Pages.asked l.fn.p + pages_for l.fn.len;
  reads : g.P.Pages.only_reads l.fn.p l.p;
  quiet : g.P.Pages.faults l.p ≡ g.P.Pages.faults l.fn.p;
  front : (some : List ℕ) × (l.into.items ≡ l.fn.into.items ++ some);
  read : ForSome (g.P.Pages.pages l.fn.p) (λ pages. (row bytes : List ℕ) → IsChain pages l.fn.first row bytes → length bytes ≡ l.fn.len → Onto pages l.no l.left bytes l.fn.into.items l.into.items);
}

abbrev pub decreases-loop-left : goal.decreases-loop-left
decreases-loop-left g l = l.left
