-- A write in the room that the whole has left, level by level.
use Rattle.std.specs.Prelude.{[], ◌≤◌, ◌<◌, ◌+◌, length, ℕ, if◌then◌else◌, nat_lt, slice_index_or, List, Ok, Err}
use Rattle.uq_value.specs.Data.{Bytes, null, Datas, Pairs, items_of, members_of}
use Rattle.uq_value.specs.Size.{leb_size, items_size, members_size, most_size}
use Rattle.uq_value.specs.Depth.{most_depth}
use Rattle.uq_value.specs.Plain.{size, depth}
use Rattle.uq_value.specs.Put.{Put, Key, then_put, at_child, put_within}
use Rattle.uq_value.specs.declared.value.Value.{Value}
use Rattle.uq_value.specs.declared.step.Step.{Step}
use Rattle.uq_value.specs.declared.error.ValueFault.TheVariants.{TooLarge}

abbrev pub fits : ℕ → Value → Put Value
fits room v = if nat_lt room (size v) then Err TooLarge else Ok v

-- what a write makes of a value, where that may have so many bytes
abbrev pub put_in : ℕ → List Step → Value → Value → Put Value
put_in room steps new v = then_put (put_within steps new v) (fits room)

-- the same from what stands at a key on
abbrev pub put_at : ℕ → Key → List Step → Value → Value → Put Value
put_at room k rest new v = then_put (at_child k (put_within rest new) v) (fits room)

-- the size of a list with one item more, but for that item's own
abbrev pub size_beside_next : Datas → ℕ
size_beside_next ds = 1 + leb_size (length ds + 1) + items_size (items_of ds)

-- the same of an object
abbrev pub object_beside_next : Pairs → ℕ
object_beside_next ms = 1 + leb_size (length ms + 1) + members_size (members_of ms)

-- the name of the member at a place
abbrev pub name_at : Pairs → ℕ → Bytes
name_at ms at = (slice_index_or ms at ([], null)).0

-- a list with one value more keeps the limits
pub record PushFits (v : Value) (ds : Datas) : Type 0 where
  pub small : size_beside_next ds + size v ≤ most_size
  pub shallow : depth v < most_depth
