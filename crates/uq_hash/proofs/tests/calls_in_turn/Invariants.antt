use Rattle.std.proofs.Common.{◌≡◌, true}
use Rattle.uq_hash.proofs.tests.calls_in_turn.Given as goal

abbrev pub invariant-loop-id : goal.invariant-loop-id
invariant-loop-id g l = record {
  sound : g.P.Pages.is_sound l.p ≡ true;
}

abbrev pub invariant-loop-id-2 : goal.invariant-loop-id-2
invariant-loop-id-2 g l = record {
  sound : g.P.Pages.is_sound l.p ≡ true;
}
