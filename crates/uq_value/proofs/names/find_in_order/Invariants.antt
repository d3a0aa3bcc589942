use Rattle.std.proofs.Common.{◌≡◌, ◌+◌, drop}
use Rattle.uq_value.specs.Places.{place_of}
use Rattle.uq_value.specs.Internal.Names.{names}
use Rattle.uq_value.proofs.names.find_in_order.Given as goal

abbrev pub invariant-loop-at : goal.invariant-loop-at
invariant-loop-at l = l.at + place_of l.name (names (drop l.at l.members)) ≡ place_of l.name (names l.members)
