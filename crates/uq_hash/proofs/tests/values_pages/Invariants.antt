use Rattle.std.proofs.Common.{◌≡◌, true}
use Rattle.uq_hash.proofs.tests.values_pages.Given as goal

abbrev pub invariant-loop-kept : goal.invariant-loop-kept
invariant-loop-kept g l = record {
  sound : g.P.Pages.is_sound l.p ≡ true;
}
