use Rattle.std.proofs.Common.{◌≡◌, true}
use Rattle.uq_hash.proofs.tests.pages_by_rules.Given as goal

abbrev pub invariant-loop-page : goal.invariant-loop-page
invariant-loop-page g l = record {
  sound : g.P.Pages.is_sound l.p ≡ true;
}
