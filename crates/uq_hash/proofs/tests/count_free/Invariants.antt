use Rattle.std.proofs.Common.{◌≡◌, true}
use Rattle.uq_hash.proofs.tests.count_free.Given as goal

abbrev pub invariant-loop-count : goal.invariant-loop-count
invariant-loop-count g l = record {
  sound : g.P.Pages.is_sound l.p ≡ true;
}
