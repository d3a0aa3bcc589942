use Rattle.std.proofs.Common.{◌≡◌, true}
use Rattle.uq_hash.proofs.tests.first_disagreement.Given as goal

abbrev pub invariant-loop-at : goal.invariant-loop-at
invariant-loop-at g l = record {
  sound : g.P.Pages.is_sound l.p ≡ true;
}
