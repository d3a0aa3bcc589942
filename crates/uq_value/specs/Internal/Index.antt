-- The places of all members: in the rows of a table, and where a row is full, in blocks.
use Rattle.std.specs.Prelude.{◌≡◌, ◌<◌, ◌≤◌, ◌⊎◌, ℕ, List, [], length, slice_index_or}
use Rattle.uq_value.specs.Data.{Bytes}
use Rattle.uq_value.specs.Places.{place_of}
use Rattle.uq_value.specs.Internal.NameOrder.{key}
use Rattle.uq_value.specs.Internal.Blocks.{Blocks, entries, HasKey, IsSorted, Belongs}
use Rattle.uq_value.specs.Internal.Table.{mark_of, HasSlot, IsFree, IsFull, AreWithin}
use Rattle.uq_value.specs.declared.table.Slot.{Slot}
use Rattle.uq_value.specs.declared.names.Spot.{Spot}
use Rattle.uq_value.specs.declared.names.NameIndex.{NameIndex}

-- a slot has the place of the member of this name, or the blocks have it, for want of a free slot
abbrev pub IsHeld : List Bytes → List Slot → Blocks → Bytes → ℕ → Type 0
IsHeld ns slots bs name at = HasSlot slots (mark_of name) at ⊎ (IsFull slots (mark_of name) × HasKey ns (key name) (entries bs))

-- what is kept is right, and each of these names has its place
pub record IsIndex (ns : List Bytes) (slots : List Slot) (bs : Blocks) : Type 0 where
  pub long : 8 ≤ length slots
  pub within : AreWithin (length ns) slots
  pub sorted : IsSorted ns bs
  pub complete : (at : ℕ) → at < length ns → IsHeld ns slots bs (slice_index_or ns at []) at

abbrev pub Indexes : NameIndex → List Bytes → Type 0
Indexes index ns = IsIndex ns index.table.slots.items index.beside.blocks.items

-- an index that has begun is one of these names
abbrev pub IsIndexOf : List Bytes → NameIndex → Type 0
IsIndexOf ns index = 0 < length index.table.slots.items → Indexes index ns

-- what is an index of some names stays one of these
abbrev pub KeepsIndex : NameIndex → NameIndex → Type 0
KeepsIndex old new = (ns : List Bytes) → IsIndexOf ns old → IsIndexOf ns new

-- the place of a new member of this name belongs there
abbrev pub IsSpot : List Bytes → Bytes → List Slot → Blocks → Spot → Type 0
IsSpot ns name slots bs Spot.Nowhere = ⊥
IsSpot ns name slots bs (Spot.Row f) = (f.mark ≡ mark_of name) × IsFree slots (mark_of name) f.slot
IsSpot ns name slots bs (Spot.Beside p) = IsFull slots (mark_of name) × Belongs ns name bs p.block p.entry

abbrev pub BelongsAt : NameIndex → List Bytes → Bytes → Spot → Type 0
BelongsAt index ns name spot = IsSpot ns name index.table.slots.items index.beside.blocks.items spot

-- the place of a name is not in the blocks, or its row isn't full
abbrev pub LacksBeside : NameIndex → List Bytes → Bytes → Type 0
LacksBeside index ns name =
    IsFull index.table.slots.items (mark_of name) × HasKey ns (key name) (entries index.beside.blocks.items) → ⊥

-- a name is not among these, and where the index has begun, its place belongs there
pub record Lacks (ns : List Bytes) (name : Bytes) (index : NameIndex) (spot : Spot) : Type 0 where
  pub place : place_of name ns ≡ length ns
  pub belongs : 0 < length index.table.slots.items → BelongsAt index ns name spot
