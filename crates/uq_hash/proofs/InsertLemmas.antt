-- The map with a key put into it, in the pages.
use Rattle.std.proofs.Common.{◌≡◌, ℕ, ◌+◌, ◌-◌, ◌<◌, ◌≤◌, ◌^◌, true, Bor, List, [], ◌∷◌, ◌++◌, length, map, refl, sym, ap, subst, ◌∙◌, arith, append-nil}
use Rattle.std.specs.Prelude.{All, slice_index}
use Rattle.std.specs.FinMap.{from_entries, insert, is_sorted}
use Rattle.std.proofs.lemmas.List.{length-map}
use Rattle.std.proofs.lemmas.List.Elements.{All-cons, All-nil}
use Rattle.uq_page.specs.declared.header.Header.{Header}
use Rattle.uq_chain.specs.Chain.{pages_for}
use Rattle.uq_chain.specs.FreeList.{IsFreeList, Turned}
use Rattle.uq_hash.specs.declared.opening.Open.{Open}
use Rattle.uq_hash.specs.declared.seeking.Bound.TheVariants.{Before}
use Rattle.uq_hash.specs.declared.searching.Standing.{Standing}
use Rattle.uq_hash.specs.declared.searching.Standing.TheVariants.{Cell as AtCell, Nothing}
use Rattle.uq_hash.specs.Cells.{filled}
use Rattle.uq_hash.specs.Changed.{AreOld, StoresValue}
use Rattle.uq_hash.specs.Laid.{replaced}
use Rattle.uq_hash.specs.Map.{HasSums, HasValue, HoldsMap, IsStored, Map, Stored, cell, entry, value_pages}
use Rattle.uq_hash.specs.Place.{IsBefore, StopsAt}
use Rattle.uq_hash.specs.Refill.{IsLaid}
use Rattle.uq_hash.specs.Standing.{front_of, has_cell}
use Rattle.uq_hash.specs.WalkOrder.{hash_start, walk_cmp}
use Rattle.uq_hash.proofs.FewerLemmas.{filled_few}
use Rattle.uq_hash.proofs.HeldLemmas.{for_all, in_bucket, only_bucket}
use Rattle.uq_hash.proofs.HoldLemmas.{Moved}
use Rattle.uq_hash.proofs.KeyLemmas.{AtKey, near_olds}
use Rattle.uq_hash.proofs.PutLemmas.{Puts, insert_is, order_after, puts_new, puts_old}
use Rattle.uq_hash.proofs.RoomLemmas.{room, value_few}
use Rattle.uq_hash.proofs.SplitLemmas.{split_at}
use Rattle.uq_hash.proofs.StepLemmas.{changed, front_at, tail_few}

-- the entries with the new one are those of the map with the key
pub puts_at : (before : List (List ℕ)) (header : Header) (m : Map) (held : HoldsMap before header m) (key : Bor (List ℕ)) (value : List ℕ) (it : Open) (standing : Standing) (so : AtKey before header m held key it standing)
    → Puts (hash_start header) so.at.bucket.cells key.now value (front_of so.at.near.found.stands) (near_olds before header m held key it standing so).others
puts_at before header m held key value it standing so =
    let at = so.at in
    let split = split_at (hash_start header) before at.bucket.row at.bucket.cells (Before key) it.near.no it.near.spot at.near.found.stands in
    let o = near_olds before header m held key it standing so in
    by_olds o.olds o.others (split.is ∙ ap (λ xs. front_of at.near.found.stands ++ xs) o.is) split.before (subst (StopsAt (hash_start header) (Before key)) o.is split.stops) o.gone o.same o.other
  where
    few : Standing → ℕ
    few standing = replaced (has_cell standing)

    at_most : (s : Standing) → few s ≤ 1
    at_most (AtCell seen) = omega arith
    at_most Nothing = omega arith

    by_olds : (olds others : List Stored) → so.at.bucket.cells ≡ front_of so.at.near.found.stands ++ (olds ++ others) → All (IsBefore (hash_start header) (Before key)) (front_of so.at.near.found.stands) → StopsAt (hash_start header) (Before key) (olds ++ others)
        → length olds ≡ few standing → ((x : Stored) → olds ≡ x ∷ [] → x.key ≡ key.now) → (olds ≡ [] → (x : Stored) (more : List Stored) → others ≡ x ∷ more → x.key ≡ key.now → ⊥)
        → Puts (hash_start header) so.at.bucket.cells key.now value (front_of so.at.near.found.stands) others
    by_olds [] others is before stops gone same other = puts_new (hash_start header) so.at.bucket.cells key value (front_of so.at.near.found.stands) others is before stops (other refl)
    by_olds (x ∷ []) others is before stops gone same other = puts_old (hash_start header) so.at.bucket.cells key value (front_of so.at.near.found.stands) x others is before (same x refl)
    by_olds (x ∷ y ∷ more) others is before stops gone same other = let most = at_most standing in absurd (omega arith)

-- the entry that is put there
abbrev pub fresh : List ℕ → List ℕ → List ℕ → Stored
fresh key value row = record { key = key; value = value; row = row }

-- the pages after the three steps of an insertion hold the map with the key
pub inserted : (before b1 b2 b3 : List (List ℕ)) (f1 f2 f3 kept : ℕ) (header new : Header) (m : Map) (key : Bor (List ℕ)) (value : List ℕ) (it : Open) (standing : Standing) (held : HoldsMap before header m) (so : AtKey before header m held key it standing)
    (stored : StoresValue before b1 f1 held.free kept key.now value) → 1 ≤ length key.now → length key.now ≤ 3001 → length value ≤ 2 ^ 24 → kept < 2 ^ 32
    → IsLaid b1 b2 f2 stored.turned.left it.rest.row.items (slice_index it.rest.row.items 0) (map cell (front_at so ++ (fresh key.now value stored.row ∷ [] ++ (near_olds before header m held key it standing so).others)))
    → ((olds : List Stored) → AreOld b2 olds standing → (free : List ℕ) → IsFreeList b2 f2 free → Turned b2 b3 f3 free (value_pages olds) [])
    → Moved header new b3 f3 → HasSums new (insert m key.now value) → HoldsMap b3 new (insert m key.now value)
inserted before b1 b2 b3 f1 f2 f3 kept header new m key value it standing held so stored some few size fits laid drops moved sums =
    let bucket = so.at.bucket in
    let start = hash_start header in
    let o = near_olds before header m held key it standing so in
    let front = front_of so.at.near.found.stands in
    let it_is = fresh key.now value stored.row in
    let within = in_bucket before header m key.now held bucket so.at.for in
    let puts = puts_at before header m held key value it standing so in
    let sorted : is_sorted (walk_cmp start) (map entry (front ++ (it_is ∷ [] ++ o.others))) ≡ true =
    ap (is_sorted (walk_cmp start)) (puts.is stored.row) ∙ order_after start key.now value (map entry bucket.cells) within.chained.order in
    let same : insert m key.now value ≡ from_entries (map entry (front ++ (it_is ∷ [] ++ o.others))) =
    insert_is start m key.now value (map entry bucket.cells) (λ q. (in_bucket before header m q held bucket (for_all before header m held bucket key.now so.at.for q)).found) ∙ ap (λ xs. from_entries xs) (sym (puts.is stored.row)) in
    let is_stored : All IsStored (it_is ∷ []) =
    All-cons IsStored it_is [] (record { key = some; key_end = few; value = size; first = subst (λ (n : ℕ). n < 2 ^ 32) stored.first_is fits }) (All-nil IsStored) in
    let has_value : All (HasValue b1) (it_is ∷ []) = All-cons (HasValue b1) it_is [] stored.has (All-nil (HasValue b1)) in
    let P : List ℕ → Type 0 = λ zs. (first : Turned before b1 f1 held.free [] zs)
    → IsLaid b1 b2 f2 first.left it.rest.row.items (slice_index it.rest.row.items 0) (map cell (front_at so ++ (it_is ∷ [] ++ o.others))) → HoldsMap b3 new (insert m key.now value) in
    let all : P (value_pages (it_is ∷ [])) = λ first is_laid. changed before b1 b2 b3 f1 f2 f3 header new m (insert m key.now value) key it standing held so (it_is ∷ []) first is_stored has_value sorted same is_laid drops moved sums in
    subst P (append-nil stored.row) all stored.turned laid

-- a value needs few pages
pub pages_few : (len : ℕ) → len ≤ 2 ^ 24 → pages_for len ≤ 4113
pages_few len few = omega arith

-- pages that hold a map have a place for a value
pub stores : (before : List (List ℕ)) (header : Header) (m : Map) (held : HoldsMap before header m) (key : Bor (List ℕ)) (it : Open) (standing : Standing) (so : AtKey before header m held key it standing) (len size : ℕ)
    → header.entries ≤ 2 ^ 25 → header.bytes ≤ 2 ^ 31 → len ≤ 2 ^ 24 → size ≤ length before + pages_for len → size ≡ 2 ^ 32 - 1 → length held.free < pages_for len → ⊥
stores before header m held key it standing so len size entries bytes few grown full short =
    let one = only_bucket before header m held so.at.bucket key.now so.at.for in
    let within = in_bucket before header m key.now held so.at.bucket so.at.for in
    let has = room before header m held so.at.bucket one.0 within.chained in
    let free = has.free in
    let need = pages_few len few in
    omega arith

-- and then one for its cell
pub lays : (before b1 : List (List ℕ)) (f1 kept : ℕ) (header : Header) (m : Map) (key : Bor (List ℕ)) (value : List ℕ) (it : Open) (standing : Standing) (held : HoldsMap before header m) (so : AtKey before header m held key it standing)
    (stored : StoresValue before b1 f1 held.free kept key.now value) (size : ℕ) → header.entries ≤ 2 ^ 25 → header.bytes ≤ 2 ^ 31 → length value ≤ 2 ^ 24
    → size ≤ length b1 + (length (front_at so ++ (fresh key.now value stored.row ∷ [] ++ (near_olds before header m held key it standing so).others)) + 1) → size ≡ 2 ^ 32 - 1
    → length stored.turned.left + length it.rest.row.items < length (filled [] (map cell (front_at so ++ (fresh key.now value stored.row ∷ [] ++ (near_olds before header m held key it standing so).others)))) → ⊥
lays before b1 f1 kept header m key value it standing held so stored size entries bytes few grown full short =
    let one = only_bucket before header m held so.at.bucket key.now so.at.for in
    let within = in_bucket before header m key.now held so.at.bucket so.at.for in
    let has = room before header m held so.at.bucket one.0 within.chained in
    let free = has.free in
    let cells = has.cells in
    let it_is = fresh key.now value stored.row in
    let tail = front_at so ++ (it_is ∷ [] ++ (near_olds before header m held key it standing so).others) in
    let tail_len = tail_few before header m held key it standing so (it_is ∷ []) in
    let filled_len = filled_few [] (map cell tail) in
    let mapped = length-map tail cell in
    let row = value_few b1 it_is stored.has in
    let count = stored.turned.count in
    omega arith
