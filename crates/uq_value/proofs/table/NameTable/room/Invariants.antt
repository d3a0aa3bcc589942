use Rattle.std.proofs.Common.{◌≤◌, ◌<◌, ℕ}
use Rattle.uq_value.specs.Internal.Table.{slot_at, no_place}
use Rattle.uq_value.proofs.table.NameTable.room.Given as goal

abbrev pub invariant-loop-slot : goal.invariant-loop-slot
invariant-loop-slot l =
    record {
      full : (i : ℕ) → l.first ≤ i → i < l.slot → (slot_at l.self.slots.items i).at < no_place;
    }
