-- The sums of a map.
use Rattle.std.proofs.Common.{◌≡◌, ℕ, ◌+◌, ◌*◌, true, cond, List, [], ◌∷◌, length, Option, Some, None, refl, sym, ap, ◌∙◌, arith}
use Rattle.std.specs.Prelude.{sum_by}
use Rattle.std.specs.Ordering.{nat_cmp, is_eq}
use Rattle.std.specs.Cmp.Lexicographic.{slice_cmp, nat_list_cmp_total}
use Rattle.std.specs.FinMap.{get, insert, len, entries, entries_sorted, get-entries, entries-insert, len-entries}
use Rattle.std.specs.FinMap.Entries.{put, find, by_order, is_sorted}
use Rattle.std.specs.declared.cmp.Ordering.TheVariants.{Less, Equal, Greater}
use Rattle.std.proofs.lemmas.List.Sums.{sum_by-cons}
use Rattle.uq_page.specs.declared.layout.TheConstants.{CELL_HEAD}
use Rattle.uq_hash.specs.Laws.{entry_of}
use Rattle.uq_hash.specs.Map.{Map, Entry, bytes_in, cell_len, cells_len, entry_len}
use Rattle.uq_hash.proofs.WalkLemmas.{bytes_same, find_behind, sorted_rest, true_is}

sum_by-parts : (xs : List Entry) → sum_by cell_len xs ≡ CELL_HEAD * length xs + sum_by entry_len xs
sum_by-parts [] = refl
sum_by-parts (e ∷ xs) =
    let a = sum_by-cons cell_len e xs in
    let b = sum_by-cons entry_len e xs in
    let rest = sum_by-parts xs in
    omega arith

pub cells_by : (m : Map) → cells_len m ≡ CELL_HEAD * len m + bytes_in m
cells_by m = let count = len-entries m in let parts = sum_by-parts (entries m) in omega arith

-- a sum over the entries with a key put among them, and over the key's old one
put_sum : (f : Entry → ℕ) (k v : List ℕ) (xs : List Entry) → is_sorted (slice_cmp nat_cmp) xs ≡ true
    → sum_by f (put (slice_cmp nat_cmp) k v xs) + sum_by f (entry_of k (find (slice_cmp nat_cmp) k xs)) ≡ sum_by f xs + f (k, v)
put_sum f k v [] sorted = let one = sum_by-cons f (k, v) [] in omega arith
put_sum f k v (e ∷ xs) sorted =
    elim (slice_cmp nat_cmp k e.0) as (λ r. slice_cmp nat_cmp k e.0 ≡ r
    → sum_by f (by_order r ((k, v) ∷ e ∷ xs) ((e.0, v) ∷ xs) (e ∷ put (slice_cmp nat_cmp) k v xs))
    + sum_by f (entry_of k (cond (is_eq r) (Some e.1) (find (slice_cmp nat_cmp) k xs))) ≡ sum_by f (e ∷ xs) + f (k, v)) [
      | Less ↦ λ is.
          let first = sum_by-cons f (k, v) (e ∷ xs) in
          let none : find (slice_cmp nat_cmp) k xs ≡ None = find_behind nat_list_cmp_total k e xs is sorted in
          let nothing : sum_by f (entry_of k (find (slice_cmp nat_cmp) k xs)) ≡ 0 = ap (λ (o : Option (List ℕ)). sum_by f (entry_of k o)) none in
          omega arith
      | Equal ↦ λ is.
          let same : k ≡ e.0 = bytes_same k e.0 is in
          let now : sum_by f ((e.0, v) ∷ xs) ≡ f (k, v) + sum_by f xs = sum_by-cons f (e.0, v) xs ∙ ap (λ (x : List ℕ). f (x, v) + sum_by f xs) (sym same) in
          let was : sum_by f (entry_of k (Some e.1)) ≡ f e + 0 = sum_by-cons f (k, e.1) [] ∙ ap (λ (x : List ℕ). f (x, e.1) + 0) same in
          let all = sum_by-cons f e xs in
          omega arith
      | Greater ↦ λ is.
          let rest = put_sum f k v xs (sorted_rest (slice_cmp nat_cmp) e xs sorted) in
          let now = sum_by-cons f e (put (slice_cmp nat_cmp) k v xs) in
          let all = sum_by-cons f e xs in
          omega arith
    ] refl

in_order : (m : Map) → is_sorted (slice_cmp nat_cmp) (entries m) ≡ true
in_order m = true_is (is_sorted (slice_cmp nat_cmp) (entries m)) (entries_sorted m)

insert_sum : (f : Entry → ℕ) (m : Map) (key value : List ℕ) → sum_by f (entries (insert m key value)) + sum_by f (entry_of key (get m key)) ≡ sum_by f (entries m) + f (key, value)
insert_sum f m key value =
    ap (λ xs. sum_by f xs + sum_by f (entry_of key (get m key))) (entries-insert nat_list_cmp_total m key value)
    ∙ ap (λ (o : Option (List ℕ)). sum_by f (put (slice_cmp nat_cmp) key value (entries m)) + sum_by f (entry_of key o)) (get-entries m key)
    ∙ put_sum f key value (entries m) (in_order m)

count_by_sum : (xs : List Entry) → sum_by (λ e. 1) xs ≡ length xs
count_by_sum [] = refl
count_by_sum (e ∷ xs) = let rest = count_by_sum xs in let more = sum_by-cons (λ (x : Entry). 1) e xs in omega arith

pub sums_by_insert : (m : Map) (key value : List ℕ)
    → (len (insert m key value) + length (entry_of key (get m key)) ≡ len m + 1)
    × (bytes_in (insert m key value) + sum_by entry_len (entry_of key (get m key)) ≡ bytes_in m + (length key + length value))
sums_by_insert m key value =
    let ones = insert_sum (λ e. 1) m key value in
    let now = len-entries (insert m key value) in
    let was = len-entries m in
    let now_ones = count_by_sum (entries (insert m key value)) in
    let was_ones = count_by_sum (entries m) in
    let old_ones = count_by_sum (entry_of key (get m key)) in
    (omega arith, insert_sum entry_len m key value)
