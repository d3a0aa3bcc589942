-- One level of some data, and back.
use Rattle.std.proofs.Common.{◌≡◌, refl, ap, sym, ◌∙◌, ℕ, List, [], ◌∷◌, map, option_map, slice_get, lit≤}
use Rattle.std.proofs.lemmas.Option.{slice_get-map}
use Rattle.uq_value.specs.Data.{Bytes, list, object}
use Rattle.uq_value.specs.Size.{leb_size, data_size}
use Rattle.uq_value.specs.Depth.{data_depth}
use Rattle.uq_value.specs.Plain.{plain, members, depth}
use Rattle.uq_value.specs.Internal.Kept.{plain_member, IsList, IsObject}
use Rattle.uq_value.specs.Internal.Names.{name_of, names, member_depth}
use Rattle.uq_value.specs.Internal.Beside.{size_of, depth_of, CountsAre, NamesAre}
use Rattle.uq_value.specs.declared.value.Value.{Value}
use Rattle.uq_value.specs.declared.object.Member.{Member}
use Rattle.uq_value.specs.declared.list.List.TheInside.{Inside as InList}
use Rattle.uq_value.specs.declared.object.Object.TheInside.{Inside as InObject}
pub use Rattle.uq_value.specs.Laws.Levels.{list_of-items_of, items_of-list_of, pairs_of-members_of, members_of-pairs_of, value_of-plain, plain-value_of, items-plain}

-- the members of an object are those that the code keeps
pub members-plain : (ms : List Member) → members (map plain_member ms) ≡ map (λ m. (name_of m, m.value)) ms
members-plain [] = refl
members-plain (m ∷ ms) = λ i. (name_of m, value_of-plain m.value i) ∷ members-plain ms i

-- ---- the empty ones

pub no_list : (l : InList) → l.items.items ≡ [] → size_of l.kept ≡ 2 → depth_of l.kept ≡ 1 → ((ds : List ℕ) → CountsAre l.kept ds) → IsList l
unfolding leb_size
no_list l e s d c =
    record {
      size_is = s ∙ ap (λ vs. data_size (list (map plain vs))) (sym e);
      depth_is = d ∙ ap (λ vs. data_depth (list (map plain vs))) (sym e);
      size_within = rw s (lit≤ tt);
      depth_within = rw d (lit≤ tt);
      counts = c (map depth l.items.items);
      sound = rw e tt;
    }

pub no_object : (o : InObject) → o.members.items ≡ [] → size_of o.kept ≡ 2 → depth_of o.kept ≡ 1 → ((ds : List ℕ) → CountsAre o.kept ds) → ((ns : List Bytes) → NamesAre o.kept ns) → IsObject o
unfolding leb_size
no_object o e s d c n =
    record {
      size_is = s ∙ ap (λ ms. data_size (object (map plain_member ms))) (sym e);
      depth_is = d ∙ ap (λ ms. data_depth (object (map plain_member ms))) (sym e);
      size_within = rw s (lit≤ tt);
      depth_within = rw d (lit≤ tt);
      counts = c (map member_depth o.members.items);
      index = n (names o.members.items);
      distinct = rw e tt;
      sound = rw e tt;
    }

name_and_value : Member → Bytes × Value
name_and_value m = (name_of m, m.value)

pub member-at : (ms : List Member) (at : ℕ) → slice_get (members (map plain_member ms)) at ≡ option_map (λ m. (name_of m, m.value)) (slice_get ms at)
unfolding name_and_value
member-at ms at = ap (λ ns. slice_get ns at) (members-plain ms) ∙ slice_get-map name_and_value ms at
