-- Places of members in slots, which marks of their names lead to.
use Rattle.std.specs.Prelude.{◌≡◌, ◌<◌, ◌≤◌, ◌+◌, ◌-◌, ◌*◌, ◌/◌, ◌%◌, ◌^◌, ℕ, List, [], length, slice_index_or, bit_and}
use Rattle.uq_value.specs.Data.{Bytes}
use Rattle.uq_value.specs.Internal.NameOrder.{digest}
use Rattle.uq_value.specs.declared.table.Slot.{Slot}

-- what stands in a slot in place of a member's place
abbrev pub no_place : ℕ
no_place = 4294967295

abbrev pub free_slot : Slot
free_slot = record { mark = 0; at = no_place }

abbrev pub slot_at : List Slot → ℕ → Slot
slot_at slots i = slice_index_or slots i free_slot

-- the upper half of 64 bits of a digest times 2^64 by the golden ratio
unfoldable pub mark : ℕ → ℕ
mark digest = digest * 11400714819323198485 % 2 ^ 64 / 2 ^ 32

abbrev pub mark_of : Bytes → ℕ
mark_of name = mark (digest name)

-- where the row of eight begins that a mark leads to, among so many slots
unfoldable pub row : ℕ → ℕ → ℕ
row slots mark = bit_and mark (slots / 8 - 1) * 8

-- a slot of that row
pub record InRow (slots : List Slot) (mark i : ℕ) : Type 0 where
  pub least : row (length slots) mark ≤ i
  pub most : i < row (length slots) mark + 8

-- a slot of the row has this mark and this member's place
pub record HasSlot (slots : List Slot) (mark at : ℕ) : Type 0 where
  pub i : ℕ
  pub inside : InRow slots mark i
  pub mark_is : (slot_at slots i).mark ≡ mark
  pub at_is : (slot_at slots i).at ≡ at
  pub small : at < no_place

-- a slot of the row is free
pub record IsFree (slots : List Slot) (mark i : ℕ) : Type 0 where
  pub inside : InRow slots mark i
  pub free : (slot_at slots i).at ≡ no_place

-- no slot of the row is free
abbrev pub IsFull : List Slot → ℕ → Type 0
IsFull slots mark = (i : ℕ) → InRow slots mark i → (slot_at slots i).at < no_place

-- each place is that of one of so many members
abbrev pub AreWithin : ℕ → List Slot → Type 0
AreWithin count slots = (i : ℕ) → (slot_at slots i).at < no_place → (slot_at slots i).at < count

-- no slot of the row is for a member of this name
abbrev pub HasNone : List Bytes → List Slot → ℕ → Bytes → Type 0
HasNone ns slots mark name = (at : ℕ) → HasSlot slots mark at → slice_index_or ns at [] ≡ name → ⊥
