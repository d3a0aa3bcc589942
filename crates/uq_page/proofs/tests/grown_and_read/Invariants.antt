use Rattle.std.proofs.Common.{◌≡◌, ◌+◌, true}
use Rattle.uq_page.proofs.tests.grown_and_read.Given as goal

abbrev pub invariant-loop-made : goal.invariant-loop-made
invariant-loop-made g l = record {
  sound : g.P.Pages.is_sound l.pages ≡ true;
  size : g.P.Pages.size l.pages + 1 ≡ l._made;
}
