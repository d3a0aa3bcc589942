-- What lists and objects keep, and what that says of their parts.
use Rattle.std.proofs.Common.{◌≡◌, ◌≤◌, ◌<◌, ◌+◌, ◌-◌, ◌^◌, max, ℕ, zero, suc, List, Some, slice_get, refl, sym, ap, ◌∙◌, arith, [], ◌∷◌, ◌++◌, map, length, subst}
use Rattle.std.proofs.lemmas.List.{length-map, map-append}
use Rattle.uq_value.specs.Data.{Bytes, Data, Datas, Pairs, list, object, items_of, members_of, names_of, IsDistinct}
use Rattle.uq_value.specs.Size.{leb_size, name_size, text_size, data_size, most_size}
use Rattle.uq_value.specs.Depth.{data_depth, most_depth}
use Rattle.uq_value.specs.Plain.{plain, size, depth}
use Rattle.uq_value.specs.IsValue.{IsSound, ItemsAreSound, MembersAreSound, IsValue}
use Rattle.uq_value.specs.Internal.Kept.{plain_member, list_view, object_view, IsList, IsObject}
use Rattle.uq_value.specs.Internal.Writing.{size_beside_next, object_beside_next, PushFits}
use Rattle.uq_value.specs.Places.{place_of}
use Rattle.uq_value.specs.Internal.Names.{names, name_of, member_depth}
use Rattle.uq_value.specs.Internal.Tally.{deepest_of}
use Rattle.uq_value.specs.Internal.Beside.{size_of, depth_of, CountsAre, NamesAre}
use Rattle.uq_value.specs.declared.value.Value.{Value}
use Rattle.uq_value.specs.declared.object.Member.{Member}
use Rattle.uq_value.specs.declared.list.List.TheInside.{Inside as InList}
use Rattle.uq_value.specs.declared.object.Object.TheInside.{Inside as InObject}
use Rattle.uq_value.proofs.Wholes.{items-size, members-size, pair_size, list-size, object-size, list-size-push, object-size-push, list-depth-push, object-depth-push, some-size}
use Rattle.uq_value.proofs.Counted.{items-deepest, members-deepest}
use Rattle.uq_value.proofs.Totals.{total, length-total}
use Rattle.uq_value.proofs.Sound.{items-added, members-added, object-sound}
use Rattle.uq_value.proofs.Named.{absent, names-added}

pub names-view : (ms : List Member) → names_of (map plain_member ms) ≡ names ms
names-view [] = refl
names-view (m ∷ ms) = ap (λ ns. name_of m ∷ ns) (names-view ms)

module _ (l : InList) (h : IsList l) (n : ℕ) (e : n ≡ length l.items.items) where
  size-is : size_of l.kept ≡ 1 + leb_size n + total data_size (list_view l)
  size-is = h.size_is ∙ list-size (list_view l) ∙ ap (λ k. 1 + leb_size k + total data_size (list_view l)) (length-map l.items.items plain ∙ sym e)

  pub count-less : leb_size n ≤ size_of l.kept
  count-less = omega (arith, size-is)

  pub beside-is : size_of l.kept - leb_size n + leb_size (n + 1) ≡ size_beside_next (list_view l)
  beside-is =
      let k : leb_size (length (list_view l) + 1) ≡ leb_size (n + 1) = ap (λ k. leb_size (k + 1)) (length-map l.items.items plain ∙ sym e)
      in omega (arith, size-is, k, items-size (list_view l))

module _ (o : InObject) (h : IsObject o) (n : ℕ) (e : n ≡ length o.members.items) where
  object-size-is : size_of o.kept ≡ 1 + leb_size n + total pair_size (object_view o)
  object-size-is = h.size_is ∙ object-size (object_view o) ∙ ap (λ k. 1 + leb_size k + total pair_size (object_view o)) (length-map o.members.items plain_member ∙ sym e)

  pub members-less : leb_size n ≤ size_of o.kept
  members-less = omega (arith, object-size-is)

  pub object-beside-is : size_of o.kept - leb_size n + leb_size (n + 1) ≡ object_beside_next (object_view o)
  object-beside-is =
      let k : leb_size (length (object_view o) + 1) ≡ leb_size (n + 1) = ap (λ k. leb_size (k + 1)) (length-map o.members.items plain_member ∙ sym e)
      in omega (arith, object-size-is, k, members-size (object_view o))

-- ---- both are values

pub list-is-value : (l : InList) → IsList l → IsValue (list (list_view l))
list-is-value l h = record { sound = h.sound; small = omega (arith, h.size_is, h.size_within); shallow = omega (arith, h.depth_is, h.depth_within) }

pub object-is-value : (o : InObject) → IsObject o → IsValue (object (object_view o))
object-is-value o h =
    record { sound = object-sound (object_view o) (subst (λ ns. IsDistinct ns) (sym (names-view o.members.items)) h.distinct) h.sound; small = omega (arith, h.size_is, h.size_within); shallow = omega (arith, h.depth_is, h.depth_within) }

-- ---- a value is appended

pub push_is_list : (l : InList) (ds : Datas) (v : Value) (q : InList) → IsList l → list_view l ≡ ds → PushFits v ds → IsSound (plain v) → q.items.items ≡ l.items.items ++ v ∷ []
    → size_of q.kept ≡ size_beside_next ds + size v → depth_of q.kept ≡ max (depth_of l.kept) (depth v + 1) → CountsAre q.kept (map depth l.items.items ++ depth v ∷ []) → IsList q
push_is_list l ds v q h e r k i s d c =
    let view : list_view q ≡ ds ++ plain v ∷ [] = ap (λ vs. map plain vs) i ∙ map-append plain l.items.items (v ∷ []) ∙ ap (λ es. es ++ plain v ∷ []) e in
    let kept : depth_of l.kept ≡ data_depth (list ds) = h.depth_is ∙ ap (λ es. data_depth (list es)) e in
    record {
      size_is = s ∙ sym (ap (λ es. data_size (list es)) view ∙ list-size-push ds (plain v));
      depth_is = omega (arith, d, kept, ap (λ es. data_depth (list es)) view, list-depth-push ds (plain v));
      size_within = omega (arith, s, r.small);
      depth_within = omega (arith, d, h.depth_within, r.shallow);
      counts = subst (λ ns. CountsAre q.kept ns) (sym (ap (λ vs. map depth vs) i ∙ map-append depth l.items.items (v ∷ []))) c;
      sound = rw view (items-added ds (plain v) (subst (λ es. ItemsAreSound (items_of es)) e h.sound) k);
    }

-- there are fewer parts than 2^32
pub few-items : (l : InList) → IsList l → length (map depth l.items.items) + 1 < 2 ^ 32
few-items l h = omega (arith, h.size_is, h.size_within, list-size (list_view l), length-total data_size some-size (list_view l), length-map l.items.items plain, length-map l.items.items depth)

pair-some : (m : Bytes × Data) → 1 ≤ pair_size m
pair-some m = omega (arith, some-size m.1)

pub few-members : (o : InObject) → IsObject o → length (map member_depth o.members.items) + 1 < 2 ^ 32
few-members o h = omega (arith, h.size_is, h.size_within, object-size (object_view o), length-total pair_size pair-some (object_view o), length-map o.members.items plain_member, length-map o.members.items member_depth)

pub list-deepest : (l : InList) → IsList l → depth_of l.kept ≡ 1 + deepest_of (map depth l.items.items)
list-deepest l h = h.depth_is ∙ ap (λ n. 1 + n) (items-deepest l.items.items)

pub object-deepest : (o : InObject) → IsObject o → depth_of o.kept ≡ 1 + deepest_of (map member_depth o.members.items)
object-deepest o h = h.depth_is ∙ ap (λ n. 1 + n) (members-deepest o.members.items)

-- a member comes last
pub added_is_object : (o : InObject) (ms : Pairs) (name : Bytes) (v : Value) (q : InObject) → IsObject o → object_view o ≡ ms → place_of name (names_of ms) ≡ length ms → object_beside_next ms + name_size name + size v ≤ most_size → depth v < most_depth → IsSound (plain v)
    → object_view q ≡ object_view o ++ (name, plain v) ∷ [] → size_of q.kept ≡ object_beside_next ms + name_size name + size v → depth_of q.kept ≡ max (depth_of o.kept) (depth v + 1)
    → CountsAre q.kept (map member_depth o.members.items ++ depth v ∷ []) → map member_depth q.members.items ≡ map member_depth o.members.items ++ depth v ∷ [] → NamesAre q.kept (names q.members.items) → IsObject q
added_is_object o ms name v q h e absent_is small shallow k i s d c cs n =
    let view : object_view q ≡ ms ++ (name, plain v) ∷ [] = i ∙ ap (λ es. es ++ (name, plain v) ∷ []) e in
    let kept : depth_of o.kept ≡ data_depth (object ms) = h.depth_is ∙ ap (λ es. data_depth (object es)) e in
    let old : IsDistinct (names_of ms) = subst (λ ns. IsDistinct ns) (sym (names-view o.members.items) ∙ ap (λ es. names_of es) e) h.distinct in
    record {
      size_is = s ∙ sym (ap (λ es. data_size (object es)) view ∙ object-size-push ms name (plain v));
      depth_is = omega (arith, d, kept, ap (λ es. data_depth (object es)) view, object-depth-push ms name (plain v));
      size_within = omega (arith, s, small);
      depth_within = omega (arith, d, h.depth_within, shallow);
      counts = subst (λ ns. CountsAre q.kept ns) (sym cs) c;
      index = n;
      distinct = subst (λ ns. IsDistinct ns) (sym (ap (λ es. names_of es) view) ∙ names-view q.members.items) (names-added ms name (plain v) old ((absent name ms absent_is).not_among));
      sound = rw view (members-added ms name (plain v) (subst (λ es. MembersAreSound (members_of es)) e h.sound) k);
    }

-- ---- copies

pub copied_list : (l q : InList) → IsList l → q.items.items ≡ l.items.items → size_of q.kept ≡ size_of l.kept → depth_of q.kept ≡ depth_of l.kept → ((ds : List ℕ) → CountsAre q.kept ds) → IsList q
copied_list l q h i s d c = record {
  size_is = s ∙ h.size_is ∙ ap (λ vs. data_size (list (map plain vs))) (sym i);
  depth_is = d ∙ h.depth_is ∙ ap (λ vs. data_depth (list (map plain vs))) (sym i);
  size_within = omega (arith, s, h.size_within);
  depth_within = omega (arith, d, h.depth_within);
  counts = c (map depth q.items.items);
  sound = subst (λ vs. ItemsAreSound (items_of (map plain vs))) (sym i) h.sound;
}

pub copied_object : (o q : InObject) → IsObject o → object_view q ≡ object_view o → size_of q.kept ≡ size_of o.kept → depth_of q.kept ≡ depth_of o.kept → ((ds : List ℕ) → CountsAre q.kept ds) → ((ns : List Bytes) → NamesAre o.kept ns → NamesAre q.kept ns) → IsObject q
copied_object o q h i s d c n =
    let same : names q.members.items ≡ names o.members.items = sym (names-view q.members.items) ∙ ap (λ ms. names_of ms) i ∙ names-view o.members.items in
    record {
      size_is = s ∙ h.size_is ∙ ap (λ ms. data_size (object ms)) (sym i);
      depth_is = d ∙ h.depth_is ∙ ap (λ ms. data_depth (object ms)) (sym i);
      size_within = omega (arith, s, h.size_within);
      depth_within = omega (arith, d, h.depth_within);
      counts = c (map member_depth q.members.items);
      index = subst (λ ns. NamesAre q.kept ns) (sym same) (n (names o.members.items) h.index);
      distinct = subst (λ ns. IsDistinct ns) (sym same) h.distinct;
      sound = subst (λ ms. MembersAreSound (members_of ms)) (sym i) h.sound;
    }

-- ---- what is made of parts

pub made_object : (o : InObject) → IsDistinct (names o.members.items) → size_of o.kept ≡ data_size (object (object_view o)) → depth_of o.kept ≡ data_depth (object (object_view o)) → size_of o.kept ≤ most_size → depth_of o.kept ≤ most_depth
    → CountsAre o.kept (map member_depth o.members.items) → NamesAre o.kept (names o.members.items) → MembersAreSound (members_of (object_view o)) → IsObject o
made_object o distinct s d small shallow c n sound = record { size_is = s; depth_is = d; size_within = small; depth_within = shallow; counts = c; index = n; distinct = distinct; sound = sound }

pub made_list : (l : InList) → size_of l.kept ≡ data_size (list (list_view l)) → depth_of l.kept ≡ data_depth (list (list_view l)) → size_of l.kept ≤ most_size → depth_of l.kept ≤ most_depth
    → CountsAre l.kept (map depth l.items.items) → ItemsAreSound (items_of (list_view l)) → IsList l
made_list l s d small shallow c sound = record { size_is = s; depth_is = d; size_within = small; depth_within = shallow; counts = c; sound = sound }

-- ---- a name is a text

name-within : (ms : List Member) (at : ℕ) (m : Member) → Some m ≡ slice_get ms at → text_size (name_of m) ≤ 1 + total pair_size (map plain_member ms)
name-within [] at m e = absurd (cc)
name-within (n ∷ ms) zero m e = let same : m ≡ n = cc in omega (arith, ap (λ x. name_size (name_of x)) same)
name-within (n ∷ ms) (suc at) m e = omega (arith, name-within ms at m e)

pub name-fits : (o : InObject) → IsObject o → (at : ℕ) (m : Member) → Some m ≡ slice_get o.members.items at → text_size (name_of m) ≤ most_size
name-fits o h at m e = omega (arith, name-within o.members.items at m e, object-size (object_view o), h.size_is, h.size_within)
