-- The map without a key, in the pages.
use Rattle.std.proofs.Common.{◌≡◌, ℕ, ◌+◌, ◌<◌, true, Bor, List, [], ◌∷◌, ◌++◌, length, map, Option, None, Some, refl, sym, ap, subst, ◌∙◌, arith}
use Rattle.std.specs.Prelude.{slice_index}
use Rattle.std.specs.FinMap.{get, is_sorted, remove}
use Rattle.std.specs.FinMap.Entries.{find}
use Rattle.std.proofs.lemmas.List.{map-append}
use Rattle.std.proofs.lemmas.List.Elements.{All-nil}
use Rattle.uq_page.specs.declared.header.Header.{Header}
use Rattle.uq_page.specs.declared.cell.Cell.{Cell}
use Rattle.uq_chain.specs.FreeList.{IsFreeList, Turned}
use Rattle.uq_hash.specs.declared.opening.Open.{Open}
use Rattle.uq_hash.specs.declared.seeking.Bound.TheVariants.{Before}
use Rattle.uq_hash.specs.declared.searching.Standing.TheVariants.{Cell as AtCell, Nothing}
use Rattle.uq_hash.specs.Cells.{filled}
use Rattle.uq_hash.specs.Changed.{AreOld}
use Rattle.uq_hash.specs.Map.{HasSums, HasValue, HoldsMap, IsStored, Map, Stored, cell, entry, value_pages}
use Rattle.uq_hash.specs.Refill.{IsLaid}
use Rattle.uq_hash.specs.Standing.{front_of, rest_of}
use Rattle.uq_hash.specs.WalkOrder.{hash_start, walk_cmp}
use Rattle.uq_hash.proofs.FewerLemmas.{filled_fewer}
use Rattle.uq_hash.proofs.HeldLemmas.{for_all, in_bucket}
use Rattle.uq_hash.proofs.HoldLemmas.{Moved}
use Rattle.uq_hash.proofs.KeyLemmas.{AtKey, near_olds, old_of}
use Rattle.uq_hash.proofs.PutLemmas.{order_without, remove_is}
use Rattle.uq_hash.proofs.SplitLemmas.{sorted_right, split_at}
use Rattle.uq_hash.proofs.StepLemmas.{changed, front_at, row_filled}
use Rattle.uq_hash.proofs.SumLemmas.{IsOldOf}

-- the one entry of a list of one
one_of : (xs : List Stored) → length xs ≡ 1 → (it : Stored) × (xs ≡ it ∷ [])
one_of [] long = absurd (omega arith)
one_of (it ∷ []) long = (it, refl)
one_of (it ∷ next ∷ more) long = absurd (omega arith)

-- the pages after the two steps of a removal hold the map without the key
pub removed : (before b2 b3 : List (List ℕ)) (f2 f3 : ℕ) (header new : Header) (m : Map) (key : Bor (List ℕ)) (it : Open) (seen : Cell) (held : HoldsMap before header m) (so : AtKey before header m held key it (AtCell seen))
    (first : Turned before before header.free held.free [] [])
    → IsLaid before b2 f2 first.left it.rest.row.items (slice_index it.rest.row.items 0) (map cell (front_at so ++ ([] ++ (near_olds before header m held key it (AtCell seen) so).others)))
    → ((olds : List Stored) → AreOld b2 olds (AtCell seen) → (free : List ℕ) → IsFreeList b2 f2 free → Turned b2 b3 f3 free (value_pages olds) [])
    → Moved header new b3 f3 → HasSums new (remove m key.now) → HoldsMap b3 new (remove m key.now)
removed before b2 b3 f2 f3 header new m key it seen held so first laid drops moved sums =
    let bucket = so.at.bucket in
    let start = hash_start header in
    let o = near_olds before header m held key it (AtCell seen) so in
    let old = one_of o.olds o.gone in
    let within = in_bucket before header m key.now held bucket so.at.for in
    let split = split_at start before bucket.row bucket.cells (Before key) it.near.no it.near.spot so.at.near.found.stands in
    let front = front_of so.at.near.found.stands in
    let all : bucket.cells ≡ front ++ old.0 ∷ o.others = split.is ∙ ap (λ xs. front ++ xs) (o.is ∙ ap (λ (xs : List Stored). xs ++ o.others) old.1) in
    let sorted : is_sorted (walk_cmp start) (map entry (front ++ old.0 ∷ o.others)) ≡ true = subst (λ (xs : List Stored). is_sorted (walk_cmp start) (map entry xs) ≡ true) all within.chained.order in
    let same = remove_is start m key front old.0 o.others (o.same old.0 old.1) split.before (sorted_right start front (old.0 ∷ o.others) sorted)
    (λ q. ap (λ (xs : List Stored). find (walk_cmp start) q (map entry xs)) (sym all) ∙ (in_bucket before header m q held bucket (for_all before header m held bucket key.now so.at.for q)).found) in
    changed before before b2 b3 header.free f2 f3 header new m (remove m key.now) key it (AtCell seen) held so [] first (All-nil IsStored) (All-nil (HasValue before)) (order_without start front old.0 o.others sorted) same laid drops moved sums

-- what is left fills no more pages than the row has
pub leaves : (before : List (List ℕ)) (header : Header) (m : Map) (key : Bor (List ℕ)) (it : Open) (seen : Cell) (held : HoldsMap before header m) (so : AtKey before header m held key it (AtCell seen)) (free : ℕ)
    → free + length it.rest.row.items < length (filled [] (map cell (front_at so ++ ([] ++ (near_olds before header m held key it (AtCell seen) so).others)))) → ⊥
leaves before header m key it seen held so free short =
    let o = near_olds before header m held key it (AtCell seen) so in
    let old = one_of o.olds o.gone in
    let row = row_filled before header m held key it (AtCell seen) so in
    let rest : rest_of so.at.near.found.stands ≡ old.0 ∷ o.others = o.is ∙ ap (λ (xs : List Stored). xs ++ o.others) old.1 in
    let whole : length (filled [] (map cell (front_at so ++ rest_of so.at.near.found.stands))) ≡ length (filled [] (map cell (front_at so) ++ cell old.0 ∷ map cell o.others)) =
    ap (λ (xs : List Stored). length (filled [] (map cell (front_at so ++ xs)))) rest ∙ ap (λ xs. length (filled [] xs)) (map-append cell (front_at so) (old.0 ∷ o.others)) in
    let left = ap (λ xs. length (filled [] xs)) (map-append cell (front_at so) o.others) in
    let fewer = filled_fewer [] (map cell (front_at so)) (cell old.0) (map cell o.others) in
    omega arith

-- the value that the key has had
pub value_was : (before : List (List ℕ)) (header : Header) (m : Map) (key : Bor (List ℕ)) (it : Open) (seen : Cell) (held : HoldsMap before header m) → AtKey before header m held key it (AtCell seen)
    → (value : List ℕ) × (get m key.now ≡ Some value) × (seen.len ≡ length value)
value_was before header m key it seen held so = by_old (get m key.now) refl (old_of before header m held key it (AtCell seen) so)
  where
    by_old : (old : Option (List ℕ)) → get m key.now ≡ old → IsOldOf (AtCell seen) old → (value : List ℕ) × (get m key.now ≡ Some value) × (seen.len ≡ length value)
    by_old None is long = absurd long
    by_old (Some value) is long = (value, is, long)

-- and that it has none
pub missing : (m : Map) (key : List ℕ) → IsOldOf Nothing (get m key) → get m key ≡ None
missing m key is = by_old (get m key) is
  where
    by_old : (old : Option (List ℕ)) → IsOldOf Nothing old → old ≡ None
    by_old None is = refl
    by_old (Some value) is = absurd is
