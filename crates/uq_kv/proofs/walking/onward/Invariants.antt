use Rattle.std.proofs.Common.{◌≡◌, Bool, List, ℕ, true}
use Rattle.std.specs.Option.{option_map}
use Rattle.uq_hash.specs.Walk.{GivesFirst}
use Rattle.uq_kv.specs.Database.{WhereStored}
use Rattle.uq_kv.specs.Users.{IsUpward, walk_start}
use Rattle.uq_kv.proofs.Walks.{Few, Walking, up}
use Rattle.uq_kv.proofs.walking.onward.Given as goal

abbrev pub invariant-loop-passed : goal.invariant-loop-passed
invariant-loop-passed g l = record {
  sound : g.P.Pages.is_sound l.p ≡ true;
  same : g.P.Pages.pages l.p ≡ g.P.Pages.pages l.fn.p;
  size : g.P.Pages.size l.p ≡ g.P.Pages.size l.fn.p;
  reads : g.P.Pages.only_reads l.fn.p l.p;
  quiet : g.P.Pages.faults l.p ≡ g.P.Pages.faults l.fn.p;
  few : WhereStored (g.P.Pages.pages l.fn.p) l.header (λ entries. Few up entries (option_map (λ key. key.items) l.at) l._passed);
  walking : WhereStored (g.P.Pages.pages l.fn.p) l.header (λ entries. (Q : List ℕ → Bool) → IsUpward Q → GivesFirst walk_start entries (λ key. Q key ≡ true) (option_map (λ key. key.items) l.fn.start)
      → Walking up entries Q (option_map (λ key. key.items) l.at));
}
