-- A list or object with one part more is larger.
use Rattle.std.proofs.Common.{◌≡◌, ◌≤◌, ◌+◌, ◌/◌, max, ℕ, zero, suc, refl, ap, ◌∙◌, arith, Bool, true, false, nat_lt, if◌then◌else◌, [], ◌∷◌, ◌++◌, length, length-append}
use Rattle.uq_value.specs.Data.{Bytes, Data, Datas, Pairs, Items, no_items, item, Members, no_members, member, items_of, members_of, list_of, pairs_of, list, object, null, bool, int, text, sequence, mapping}
use Rattle.uq_value.specs.Size.{leb_size, leb_within, name_size, data_size, items_size, members_size}
use Rattle.uq_value.specs.Depth.{data_depth, items_depth, members_depth}
use Rattle.uq_value.specs.Laws.Levels.{list_of-items_of, pairs_of-members_of}

pub some-size : (d : Data) → 1 ≤ data_size d
some-size null = omega arith
some-size (bool b) = omega arith
some-size (int z) = omega arith
some-size (text bs) = omega arith
some-size (sequence ds) = omega arith
some-size (mapping ms) = omega arith

-- each part takes a byte at least
pub items_count : (ds : Items) → length (list_of ds) ≤ items_size ds
items_count no_items = omega arith
items_count (item d ds) = omega (arith, some-size d, items_count ds)

pub members_count : (ms : Members) → length (pairs_of ms) ≤ members_size ms
members_count no_members = omega arith
members_count (member n d ms) = omega (arith, some-size d, members_count ms)

-- ---- counts

leb-least : (k n : ℕ) → 1 ≤ leb_within k n
leb-least zero n = omega arith
leb-least (suc k) n = grind arith

leb-mono : (k n m : ℕ) → n ≤ m → leb_within k n ≤ leb_within k m
leb-mono zero n m h = omega arith
leb-mono (suc k) n m h = split (nat_lt n 128) (nat_lt m 128) refl refl (leb-mono k (n / 128) (m / 128) (omega arith))
  where
    split : (a b : Bool) → nat_lt n 128 ≡ a → nat_lt m 128 ≡ b → leb_within k (n / 128) ≤ leb_within k (m / 128) → (if a then 1 else 1 + leb_within k (n / 128)) ≤ (if b then 1 else 1 + leb_within k (m / 128))
    split true true e f r = omega arith
    split true false e f r = omega (arith, leb-least k (m / 128))
    split false true e f r = absurd (grind arith)
    split false false e f r = omega (arith, r)

pub leb_size-mono : (n m : ℕ) → n ≤ m → leb_size n ≤ leb_size m
unfolding leb_size
leb_size-mono n m h = leb-mono 9 n m h

-- ---- a part more

items-size-push : (ds : Datas) (d : Data) → items_size (items_of (ds ++ d ∷ [])) ≡ items_size (items_of ds) + data_size d
items-size-push [] d = omega arith
items-size-push (e ∷ ds) d = omega (arith, items-size-push ds d)

members-size-push : (ms : Pairs) (name : Bytes) (d : Data) → members_size (members_of (ms ++ (name, d) ∷ [])) ≡ members_size (members_of ms) + name_size name + data_size d
members-size-push [] name d = omega arith
members-size-push (m ∷ ms) name d = omega (arith, members-size-push ms name d)

counted : (ds : Datas) (d : Data) → length (list_of (items_of (ds ++ d ∷ []))) ≡ length (list_of (items_of ds)) + 1
counted ds d = ap (λ es. length es) (list_of-items_of (ds ++ d ∷ [])) ∙ omega (arith, length-append ds (d ∷ []), ap (λ es. length es) (list_of-items_of ds))

members-counted : (ms : Pairs) (m : Bytes × Data) → length (pairs_of (members_of (ms ++ m ∷ []))) ≡ length (pairs_of (members_of ms)) + 1
members-counted ms m = ap (λ ns. length ns) (pairs_of-members_of (ms ++ m ∷ [])) ∙ omega (arith, length-append ms (m ∷ []), ap (λ ns. length ns) (pairs_of-members_of ms))

pub list-grows : (ds : Datas) (d : Data) → data_size (list ds) + data_size d ≤ data_size (list (ds ++ d ∷ []))
list-grows ds d =
    let more = leb_size-mono (length (list_of (items_of ds))) (length (list_of (items_of (ds ++ d ∷ [])))) (omega (arith, counted ds d)) in
    omega (arith, more, items-size-push ds d)

pub object-grows : (ms : Pairs) (name : Bytes) (d : Data) → data_size (object ms) + name_size name + data_size d ≤ data_size (object (ms ++ (name, d) ∷ []))
object-grows ms name d =
    let more = leb_size-mono (length (pairs_of (members_of ms))) (length (pairs_of (members_of (ms ++ (name, d) ∷ [])))) (omega (arith, members-counted ms (name, d))) in
    omega (arith, more, members-size-push ms name d)

pub items-depth-push : (ds : Datas) (d : Data) → items_depth (items_of (ds ++ d ∷ [])) ≡ max (items_depth (items_of ds)) (data_depth d)
items-depth-push [] d = omega arith
items-depth-push (e ∷ ds) d = omega (arith, items-depth-push ds d)

pub members-depth-push : (ms : Pairs) (name : Bytes) (d : Data) → members_depth (members_of (ms ++ (name, d) ∷ [])) ≡ max (members_depth (members_of ms)) (data_depth d)
members-depth-push [] name d = omega arith
members-depth-push (m ∷ ms) name d = omega (arith, members-depth-push ms name d)
