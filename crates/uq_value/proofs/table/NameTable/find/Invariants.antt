use Rattle.std.proofs.Common.{◌≡◌, ◌≤◌, ◌<◌, ℕ, [], get_or}
use Rattle.uq_value.specs.Internal.Names.{names}
use Rattle.uq_value.specs.Internal.Table.{slot_at, no_place}
use Rattle.uq_value.proofs.table.NameTable.find.Given as goal

abbrev pub invariant-loop-slot : goal.invariant-loop-slot
invariant-loop-slot l =
    record {
      none : (i : ℕ) → l.first ≤ i → i < l.slot → (slot_at l.self.slots.items i).mark ≡ l.mark → (slot_at l.self.slots.items i).at < no_place
          → get_or (names l.members) (slot_at l.self.slots.items i).at [] ≡ l.name → ⊥;
    }
