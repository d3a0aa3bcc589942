-- Which plain data is a value.
use Rattle.std.specs.Prelude.{◌<◌, ◌≤◌, ◌^◌, ℤ, pos, negsuc}
use Rattle.uq_value.specs.Data.{Data, null, bool, int, text, sequence, mapping, Items, no_items, item, Members, no_members, member, IsDistinct, names_of, pairs_of}
use Rattle.uq_value.specs.Size.{data_size, most_size}
use Rattle.uq_value.specs.Depth.{data_depth, most_depth}

-- from -2^63 to 2^63 - 1
abbrev pub Fits64 : ℤ → Type 0
Fits64 (pos n) = n < 2 ^ 63
Fits64 (negsuc n) = n < 2 ^ 63

-- at every level, whole numbers have 64 bits with a sign, and no object has a name twice
abbrev mutual
  pub IsSound : Data → Type 0
  IsSound null = Unit {0}
  IsSound (bool b) = Unit {0}
  IsSound (int z) = Fits64 z
  IsSound (text bs) = Unit {0}
  IsSound (sequence ds) = ItemsAreSound ds
  IsSound (mapping ms) = IsDistinct (names_of (pairs_of ms)) × MembersAreSound ms

  pub ItemsAreSound : Items → Type 0
  ItemsAreSound no_items = Unit {0}
  ItemsAreSound (item d ds) = IsSound d × ItemsAreSound ds

  pub MembersAreSound : Members → Type 0
  MembersAreSound no_members = Unit {0}
  MembersAreSound (member name d ms) = IsSound d × MembersAreSound ms

-- and the whole is within the limits, and so is each part, each text and each name in it
pub record IsValue (d : Data) : Type 0 where
  pub sound : IsSound d
  pub small : data_size d ≤ most_size
  pub shallow : data_depth d ≤ most_depth
