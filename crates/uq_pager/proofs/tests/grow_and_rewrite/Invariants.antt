use Rattle.std.proofs.Common.{◌≡◌, true}
use Rattle.uq_pager.proofs.tests.grow_and_rewrite.Given as goal

abbrev pub invariant-loop : goal.invariant-loop
invariant-loop g l = record {
  keeps : g.P.Pages.keeps l.initial.pages l.pages;
  sound : g.P.Pages.is_sound l.pages ≡ true;
}
