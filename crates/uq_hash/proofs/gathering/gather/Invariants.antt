use Rattle.std.proofs.Common.{◌≡◌, ◌<◌, ◌≤◌, ℕ, List, length, true}
use Rattle.std.specs.Option.{ForSome}
use Rattle.std.specs.Prelude.{All}
use Rattle.uq_hash.specs.Found.{IsNear}
use Rattle.uq_hash.specs.Lying.{IsCut}
use Rattle.uq_hash.specs.Map.{Stored}
use Rattle.uq_hash.specs.declared.seeking.Bound.{Bound}
use Rattle.uq_hash.proofs.GatherLemmas.{Gathering}
use Rattle.uq_hash.proofs.gathering.gather.Given as goal

abbrev pub invariant-loop-seen : goal.invariant-loop-seen
invariant-loop-seen g l = record {
  sound : g.P.Pages.is_sound l.p ≡ true;
  same : g.P.Pages.pages l.p ≡ g.P.Pages.pages l.fn.p;
  size : g.P.Pages.size l.p ≡ g.P.Pages.size l.fn.p;
  reads : g.P.Pages.only_reads l.fn.p l.p;
  quiet : g.P.Pages.faults l.p ≡ g.P.Pages.faults l.fn.p;
  cut : IsCut l.sizes.items l.bytes.items;
  there : All (λ n. (1 ≤ n) × (n < g.P.Pages.size l.fn.p)) l.row.items;
  some : 1 ≤ length l.row.items;
  gathering : ForSome (g.P.Pages.pages l.fn.p) (λ pages. (start : ℕ) (row : List ℕ) (cells : List Stored) (bound : Bound) (near : IsNear start pages row cells bound l.place)
      → Gathering start pages row cells bound l.place near l.next l.row.items l.sizes.items l.bytes.items l._seen);
}
