use Rattle.std.proofs.Common.{◌≡◌, ◌+◌, ◌-◌, ◌%◌, ◌≤◌, ℕ, List, true, length}
use Rattle.std.specs.Option.{ForSome}
use Rattle.uq_page.specs.declared.layout.TheConstants.{VALUE_ROOM}
use Rattle.uq_chain.specs.Chain.{IsChain, pages_for}
use Rattle.uq_chain.specs.Path.{ChainLeads}
use Rattle.uq_chain.proofs.AppendLemmas.{Passing}
use Rattle.uq_chain.proofs.appending.find_last.Given as goal

abbrev pub invariant-loop-left : goal.invariant-loop-left
invariant-loop-left g l = record {
  sound : g.P.Pages.is_sound l.p ≡ true;
  some : 1 ≤ l.left;
  cut : (l.left - 1) % VALUE_ROOM ≡ (l.fn.len - 1) % VALUE_ROOM;
  same : g.P.Pages.pages l.p ≡ g.P.Pages.pages l.fn.p;
  asked : g.P.Pages.asked l.p + pages_for l.left ≤ g.P.Pages.asked l.fn.p + pages_for l.fn.len;
  size : g.P.Pages.size l.p ≡ g.P.Pages.size l.fn.p;
  reads : g.P.Pages.only_reads l.fn.p l.p;
  quiet : g.P.Pages.faults l.p ≡ g.P.Pages.faults l.fn.p;
  leads : ChainLeads (g.P.Pages.pages l.fn.p) l.fn.first l.no;
  passing : ForSome (g.P.Pages.pages l.fn.p) (λ pages. (row bytes : List ℕ) → IsChain pages l.fn.first row bytes → length bytes ≡ l.fn.len → Passing pages l.no l.left row bytes);
}

abbrev pub decreases-loop-left : goal.decreases-loop-left
decreases-loop-left g l = l.left
