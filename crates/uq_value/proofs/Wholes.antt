-- The size and depth of lists and objects, from those of their parts.
use Rattle.std.proofs.Common.{◌≡◌, ◌≤◌, ◌+◌, max, ℕ, List, map, refl, ap, ◌∙◌, arith, [], ◌∷◌, ◌++◌, length, length-append}
use Rattle.uq_value.specs.Data.{Bytes, Data, Datas, Pairs, list, object, items_of, members_of}
use Rattle.uq_value.specs.Size.{leb_size, name_size, data_size, items_size, members_size}
use Rattle.uq_value.specs.Depth.{data_depth, items_depth, members_depth}
use Rattle.uq_value.specs.Internal.Writing.{size_beside_next, object_beside_next}
use Rattle.std.proofs.lemmas.List.{length-map}
use Rattle.uq_value.specs.Plain.{plain, size, depth}
use Rattle.uq_value.specs.Internal.Kept.{plain_member}
use Rattle.uq_value.specs.Internal.Names.{name_of, member_depth}
use Rattle.uq_value.specs.declared.value.Value.{Value}
use Rattle.uq_value.specs.declared.object.Member.{Member}
use Rattle.uq_value.proofs.Levels.{list_of-items_of, pairs_of-members_of}
use Rattle.uq_value.proofs.Totals.{greatest, total, total-push, length-total, greatest-push}
pub use Rattle.uq_value.specs.Laws.Growth.{some-size}

abbrev pub pair_size : Bytes × Data → ℕ
pair_size m = name_size m.0 + data_size m.1

abbrev pub pair_depth : Bytes × Data → ℕ
pair_depth m = data_depth m.1

pub items-size : (ds : Datas) → items_size (items_of ds) ≡ total data_size ds
items-size [] = refl
items-size (d ∷ ds) = ap (λ n. data_size d + n) (items-size ds)

pub members-size : (ms : Pairs) → members_size (members_of ms) ≡ total pair_size ms
members-size [] = refl
members-size (m ∷ ms) = ap (λ n. name_size m.0 + data_size m.1 + n) (members-size ms)

pub items-depth : (ds : Datas) → items_depth (items_of ds) ≡ greatest data_depth ds
items-depth [] = refl
items-depth (d ∷ ds) = ap (λ n. max (data_depth d) n) (items-depth ds)

pub members-depth : (ms : Pairs) → members_depth (members_of ms) ≡ greatest pair_depth ms
members-depth [] = refl
members-depth (m ∷ ms) = ap (λ n. max (data_depth m.1) n) (members-depth ms)

pub list-size : (ds : Datas) → data_size (list ds) ≡ 1 + leb_size (length ds) + total data_size ds
list-size ds = ap (λ n. 1 + leb_size n + items_size (items_of ds)) (ap (λ es. length es) (list_of-items_of ds)) ∙ ap (λ n. 1 + leb_size (length ds) + n) (items-size ds)

pub object-size : (ms : Pairs) → data_size (object ms) ≡ 1 + leb_size (length ms) + total pair_size ms
object-size ms = ap (λ n. 1 + leb_size n + members_size (members_of ms)) (ap (λ ns. length ns) (pairs_of-members_of ms)) ∙ ap (λ n. 1 + leb_size (length ms) + n) (members-size ms)

pub list-depth : (ds : Datas) → data_depth (list ds) ≡ 1 + greatest data_depth ds
list-depth ds = ap (λ n. 1 + n) (items-depth ds)

pub object-depth : (ms : Pairs) → data_depth (object ms) ≡ 1 + greatest pair_depth ms
object-depth ms = ap (λ n. 1 + n) (members-depth ms)

-- ---- a part more

pub list-size-push : (ds : Datas) (d : Data) → data_size (list (ds ++ d ∷ [])) ≡ size_beside_next ds + data_size d
list-size-push ds d =
    list-size (ds ++ d ∷ []) ∙ ap (λ n. 1 + leb_size n + total data_size (ds ++ d ∷ [])) (length-append ds (d ∷ []))
    ∙ omega (arith, total-push data_size ds d, items-size ds)

pub object-size-push : (ms : Pairs) (name : Bytes) (d : Data) → data_size (object (ms ++ (name, d) ∷ [])) ≡ object_beside_next ms + name_size name + data_size d
object-size-push ms name d =
    object-size (ms ++ (name, d) ∷ []) ∙ ap (λ n. 1 + leb_size n + total pair_size (ms ++ (name, d) ∷ [])) (length-append ms ((name, d) ∷ []))
    ∙ omega (arith, total-push pair_size ms (name, d), members-size ms)

pub list-depth-push : (ds : Datas) (d : Data) → data_depth (list (ds ++ d ∷ [])) ≡ max (data_depth (list ds)) (data_depth d + 1)
list-depth-push ds d = omega (arith, list-depth (ds ++ d ∷ []), list-depth ds, greatest-push data_depth ds d)

pub object-depth-push : (ms : Pairs) (name : Bytes) (d : Data) → data_depth (object (ms ++ (name, d) ∷ [])) ≡ max (data_depth (object ms)) (data_depth d + 1)
object-depth-push ms name d = omega (arith, object-depth (ms ++ (name, d) ∷ []), object-depth ms, greatest-push pair_depth ms (name, d))

-- ---- each part takes a byte at least

some-pair : (m : Bytes × Data) → 1 ≤ pair_size m
some-pair m = omega (arith, some-size m.1)

pub list-length : (ds : Datas) → length ds ≤ data_size (list ds)
list-length ds = omega (arith, list-size ds, length-total data_size some-size ds)

pub object-length : (ms : Pairs) → length ms ≤ data_size (object ms)
object-length ms = omega (arith, object-size ms, length-total pair_size some-pair ms)

-- ---- of what the code keeps

abbrev pub member_size : Member → ℕ
member_size m = name_size (name_of m) + size m.value

total-items : (vs : List Value) → total data_size (map plain vs) ≡ total size vs
total-items [] = refl
total-items (v ∷ vs) = ap (λ n. size v + n) (total-items vs)

total-members : (ms : List Member) → total pair_size (map plain_member ms) ≡ total member_size ms
total-members [] = refl
total-members (m ∷ ms) = ap (λ n. member_size m + n) (total-members ms)

greatest-items : (vs : List Value) → greatest data_depth (map plain vs) ≡ greatest depth vs
greatest-items [] = refl
greatest-items (v ∷ vs) = ap (λ n. max (depth v) n) (greatest-items vs)

greatest-members : (ms : List Member) → greatest pair_depth (map plain_member ms) ≡ greatest member_depth ms
greatest-members [] = refl
greatest-members (m ∷ ms) = ap (λ n. max (member_depth m) n) (greatest-members ms)

pub items-measured : (vs : List Value) → data_size (list (map plain vs)) ≡ 1 + leb_size (length vs) + total size vs
items-measured vs = list-size (map plain vs) ∙ ap (λ n. 1 + leb_size n + total data_size (map plain vs)) (length-map vs plain) ∙ ap (λ n. 1 + leb_size (length vs) + n) (total-items vs)

pub members-measured : (ms : List Member) → data_size (object (map plain_member ms)) ≡ 1 + leb_size (length ms) + total member_size ms
members-measured ms = object-size (map plain_member ms) ∙ ap (λ n. 1 + leb_size n + total pair_size (map plain_member ms)) (length-map ms plain_member) ∙ ap (λ n. 1 + leb_size (length ms) + n) (total-members ms)

pub items-depth-is : (vs : List Value) → data_depth (list (map plain vs)) ≡ 1 + greatest depth vs
items-depth-is vs = list-depth (map plain vs) ∙ ap (λ n. 1 + n) (greatest-items vs)

pub members-depth-is : (ms : List Member) → data_depth (object (map plain_member ms)) ≡ 1 + greatest member_depth ms
members-depth-is ms = object-depth (map plain_member ms) ∙ ap (λ n. 1 + n) (greatest-members ms)
