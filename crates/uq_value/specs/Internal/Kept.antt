-- What lists and objects keep beside their parts, and what always holds of it.
use Rattle.std.specs.Prelude.{◌≡◌, ℕ, ◌≤◌, List, map}
use Rattle.uq_value.specs.Data.{Bytes, Data, IsDistinct, list, object, items_of, members_of}
use Rattle.uq_value.specs.Size.{data_size, most_size}
use Rattle.uq_value.specs.Depth.{data_depth, most_depth, items_depth, members_depth}
use Rattle.uq_value.specs.Plain.{plain, depth}
use Rattle.uq_value.specs.IsValue.{ItemsAreSound, MembersAreSound}
use Rattle.uq_value.specs.Internal.Names.{name_of, names, member_depth}
use Rattle.uq_value.specs.Internal.Beside.{size_of, depth_of, CountsAre, NamesAre}
use Rattle.uq_value.specs.declared.object.Member.{Member}
use Rattle.uq_value.specs.declared.list.List.TheInside.{Inside as InList}
use Rattle.uq_value.specs.declared.object.Object.TheInside.{Inside as InObject}

abbrev pub plain_member : Member → Bytes × Data
plain_member m = (name_of m, plain m.value)

abbrev pub list_view : InList → List Data
list_view l = map plain l.items.items

abbrev pub object_view : InObject → List (Bytes × Data)
object_view o = map plain_member o.members.items

-- the kept numbers are right, and so are the counts, and the list is a value
pub record IsList (l : InList) : Type 0 where
  pub size_is : size_of l.kept ≡ data_size (list (list_view l))
  pub depth_is : depth_of l.kept ≡ data_depth (list (list_view l))
  pub size_within : size_of l.kept ≤ most_size
  pub depth_within : depth_of l.kept ≤ most_depth
  pub counts : CountsAre l.kept (map depth l.items.items)
  pub sound : ItemsAreSound (items_of (list_view l))

-- likewise, and the index finds the names
pub record IsObject (o : InObject) : Type 0 where
  pub size_is : size_of o.kept ≡ data_size (object (object_view o))
  pub depth_is : depth_of o.kept ≡ data_depth (object (object_view o))
  pub size_within : size_of o.kept ≤ most_size
  pub depth_within : depth_of o.kept ≤ most_depth
  pub counts : CountsAre o.kept (map member_depth o.members.items)
  pub index : NamesAre o.kept (names o.members.items)
  pub distinct : IsDistinct (names o.members.items)
  pub sound : MembersAreSound (members_of (object_view o))

-- how deep the values within are, by which a recursion over values ends
abbrev pub list_rank : List Data → ℕ
list_rank ds = items_depth (items_of ds)

abbrev pub object_rank : List (Bytes × Data) → ℕ
object_rank ms = members_depth (members_of ms)
