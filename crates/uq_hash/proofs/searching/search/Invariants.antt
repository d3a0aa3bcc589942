use Rattle.std.proofs.Common.{◌≡◌, ◌+◌, ◌≤◌, true}
use Rattle.uq_hash.specs.Bucket.{WhereChained}
use Rattle.uq_hash.specs.WalkOrder.{hash_start}
use Rattle.uq_hash.proofs.SearchLemmas.{Searching}
use Rattle.uq_hash.proofs.searching.search.Given as goal

abbrev pub invariant-loop-seen : goal.invariant-loop-seen
invariant-loop-seen g l = record {
  sound : g.P.Pages.is_sound l.p ≡ true;
  same : g.P.Pages.pages l.p ≡ g.P.Pages.pages l.fn.p;
  size : g.P.Pages.size l.p ≡ g.P.Pages.size l.fn.p;
  asked : g.P.Pages.asked l.p ≤ g.P.Pages.asked l.fn.p + l._seen;
  reads : g.P.Pages.only_reads l.fn.p l.p;
  quiet : g.P.Pages.faults l.p ≡ g.P.Pages.faults l.fn.p;
  searching : WhereChained (hash_start l.h) (g.P.Pages.pages l.fn.p) l.fn.first (λ pages row cells. Searching (hash_start l.h) pages row cells l.bound l.prev l.no l._seen);
}
