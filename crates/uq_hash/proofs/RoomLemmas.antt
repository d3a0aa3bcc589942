-- Pages that hold a map have enough free ones for a change.
use Rattle.std.proofs.Common.{◌≡◌, ◌⊎◌, inl, inr, ℕ, zero, suc, ◌+◌, ◌<◌, ◌≤◌, true, false, cond, eqb, List, [], ◌∷◌, ◌++◌, length, map, Option, None, refl, sym, ap, ◌∙◌, arith, append-nil, length-append}
use Rattle.std.specs.Prelude.{sum_by}
use Rattle.std.specs.List.{AllByRecursion, flat_map}
use Rattle.std.specs.Ordering.{nat_cmp}
use Rattle.std.specs.Cmp.Lexicographic.{slice_cmp, nat_list_cmp_total}
use Rattle.std.specs.FinMap.{empty, entries, from_entries, get, get-from_entries, is_sorted, len, len-empty, len-entries}
use Rattle.std.specs.FinMap.Entries.{below_all}
use Rattle.std.proofs.lemmas.Bool.{cases_lt}
use Rattle.std.proofs.lemmas.Bool.Decides.{eqb_tells}
use Rattle.std.proofs.lemmas.List.{length-map, nil_from_length}
use Rattle.std.proofs.lemmas.List.Elements.{recursion_from_All}
use Rattle.std.proofs.lemmas.List.Sums.{sum_by-cons}
use Rattle.uq_page.specs.declared.header.Header.{Header}
use Rattle.uq_page.specs.declared.layout.TheConstants.{MOST_INLINE}
use Rattle.uq_page.specs.Numbers.{times}
use Rattle.uq_page.specs.NumberLaws.{range_within, times-cons, times_other, times_self}
use Rattle.uq_page.specs.RowLaws.{row_length}
use Rattle.uq_hash.specs.Cells.{bucket_page, filled}
use Rattle.uq_hash.specs.Laws.{entry_of}
use Rattle.uq_hash.specs.Map.{Bucket, Chained, Entry, HasValue, HoldsMap, Map, Stored, bytes_in, cell, entries_of, entry, entry_len, first_of, pages_of, value_pages}
use Rattle.uq_hash.specs.WalkOrder.{hash_start, walk_cmp}
use Rattle.uq_hash.proofs.FewerLemmas.{filled_few}
use Rattle.uq_hash.proofs.LawLemmas.{sums_by_insert}
use Rattle.uq_hash.proofs.PutLemmas.{below_none}
use Rattle.uq_hash.proofs.WalkLemmas.{and_left, and_right, find_walk}

-- a list without a number
without : ℕ → List ℕ → List ℕ
without n [] = []
without n (x ∷ xs) = cond (eqb x n) (without n xs) (x ∷ without n xs)

without_long : (n : ℕ) (xs : List ℕ) → length xs ≡ times n xs + length (without n xs)
unfolding without
without_long n [] = refl
without_long n (x ∷ xs) = by_test (without_long n xs) (eqb_tells x n)
  where
    by_test : length xs ≡ times n xs + length (without n xs) → ((eqb x n ≡ true) × (x ≡ n)) ⊎ ((eqb x n ≡ false) × (x ≡ n → ⊥))
        → length (x ∷ xs) ≡ times n (x ∷ xs) + length (cond (eqb x n) (without n xs) (x ∷ without n xs))
    by_test rest (inl is) =
        let split = times-cons n x xs in
        let one : times n (x ∷ []) ≡ 1 = ap (λ k. times n (k ∷ [])) is.1 ∙ times_self n in
        let size : length (cond (eqb x n) (without n xs) (x ∷ without n xs)) ≡ length (without n xs) = ap (λ b. length (cond b (without n xs) (x ∷ without n xs))) is.0 in
        omega arith
    by_test rest (inr is) =
        let split = times-cons n x xs in
        let none = times_other n x is.1 in
        let size : length (cond (eqb x n) (without n xs) (x ∷ without n xs)) ≡ length (x ∷ without n xs) = ap (λ b. length (cond b (without n xs) (x ∷ without n xs))) is.0 in
        omega arith

-- has the other numbers as often
without_other : (n k : ℕ) (xs : List ℕ) → (n ≡ k → ⊥) → times k (without n xs) ≡ times k xs
unfolding without
without_other n k [] unlike = refl
without_other n k (x ∷ xs) unlike = by_test (without_other n k xs unlike) (eqb_tells x n)
  where
    by_test : times k (without n xs) ≡ times k xs → ((eqb x n ≡ true) × (x ≡ n)) ⊎ ((eqb x n ≡ false) × (x ≡ n → ⊥)) → times k (cond (eqb x n) (without n xs) (x ∷ without n xs)) ≡ times k (x ∷ xs)
    by_test rest (inl is) =
        let split = times-cons k x xs in
        let none : times k (x ∷ []) ≡ 0 = times_other k x (λ same. unlike (sym is.1 ∙ same)) in
        let here : times k (cond (eqb x n) (without n xs) (x ∷ without n xs)) ≡ times k (without n xs) = ap (λ b. times k (cond b (without n xs) (x ∷ without n xs))) is.0 in
        omega arith
    by_test rest (inr is) =
        let split = times-cons k x xs in
        let split' = times-cons k x (without n xs) in
        let here : times k (cond (eqb x n) (without n xs) (x ∷ without n xs)) ≡ times k (x ∷ without n xs) = ap (λ b. times k (cond b (without n xs) (x ∷ without n xs))) is.0 in
        omega arith

-- a list with all numbers below n has at least n
many_numbers : (n : ℕ) (xs : List ℕ) → ((k : ℕ) → k < n → 1 ≤ times k xs) → n ≤ length xs
many_numbers zero xs all = omega arith
many_numbers (suc n) xs all =
    let long = without_long n xs in
    let here = all n (omega arith) in
    let rest = many_numbers n (without n xs) (λ k less. let same = without_other n k xs (λ is. absurd (omega arith)) in let some = all k (omega arith) in omega arith) in
    omega arith

-- the map of entries in order has them all
pub sums_of_entries : (start : ℕ) (xs : List Entry) → is_sorted (walk_cmp start) xs ≡ true → (len (from_entries {R = slice_cmp nat_cmp} xs) ≡ length xs) × (bytes_in (from_entries xs) ≡ sum_by entry_len xs)
sums_of_entries start [] sorted =
    let none = len-empty (slice_cmp nat_cmp) (List ℕ) in
    (none, ap (sum_by entry_len) (nil_from_length (entries {R = slice_cmp nat_cmp} empty) (sym (len-entries {R = slice_cmp nat_cmp} empty) ∙ none)))
sums_of_entries start (e ∷ xs) sorted =
    let rest = sums_of_entries start xs (and_right (below_all (walk_cmp start) e.0 xs) (is_sorted (walk_cmp start) xs) sorted) in
    let m : Map = from_entries xs in
    let none : get m e.0 ≡ None = get-from_entries nat_list_cmp_total xs e.0 ∙ sym (find_walk start e.0 xs) ∙ below_none start e.0 xs (and_left (below_all (walk_cmp start) e.0 xs) (is_sorted (walk_cmp start) xs) sorted) in
    let laws = sums_by_insert m e.0 e.1 in
    let keys_law = laws.0 in
    let bytes_law = laws.1 in
    let keys_rest = rest.0 in
    let bytes_rest = rest.1 in
    let no_key : length (entry_of e.0 (get m e.0)) ≡ 0 = ap (λ (o : Option (List ℕ)). length (entry_of e.0 o)) none in
    let no_bytes : sum_by entry_len (entry_of e.0 (get m e.0)) ≡ 0 = ap (λ (o : Option (List ℕ)). sum_by entry_len (entry_of e.0 o)) none in
    let sum = sum_by-cons entry_len e xs in
    (omega arith, omega arith)

-- a value has no more pages than bytes
pub value_few : (pages : List (List ℕ)) (it : Stored) → HasValue pages it → length it.row ≤ length it.value
value_few pages it has = by_cases (cases_lt MOST_INLINE (length it.value))
  where
    by_cases : (MOST_INLINE < length it.value) ⊎ (length it.value ≤ MOST_INLINE) → length it.row ≤ length it.value
    by_cases (inl more) = let chain = has.chained more in let full = chain.full in omega arith
    by_cases (inr less) = let none = ap length (has.inline less) in omega arith

values_few : (pages : List (List ℕ)) (cells : List Stored) → AllByRecursion (HasValue pages) cells → length (value_pages cells) ≤ sum_by entry_len (map entry cells)
values_few pages [] all = omega arith
values_few pages (it ∷ cells) all =
    let rest = values_few pages cells all.1 in
    let row = value_few pages it all.0 in
    let long = length-append it.row (value_pages cells) in
    let sum = sum_by-cons entry_len (entry it) (map entry cells) in
    omega arith

-- What the header's sums say of the pages: the bucket has no more entries, and all pages that are not free are counted.
pub record Room (pages : List (List ℕ)) (header : Header) (m : Map) (held : HoldsMap pages header m) (bucket : Bucket) : Type 0 where
  pub cells : length bucket.cells ≡ header.entries
  pub free : length pages ≤ length held.free + (header.entries + header.bytes + 2)

pub room : (pages : List (List ℕ)) (header : Header) (m : Map) (held : HoldsMap pages header m) (bucket : Bucket) → held.buckets ≡ bucket ∷ [] → Chained (hash_start header) pages bucket.row bucket.cells → Room pages header m held bucket
room pages header m held bucket one chained =
    let sums = sums_of_entries (hash_start header) (map entry bucket.cells) chained.order in
    let is : m ≡ from_entries (map entry bucket.cells) = held.same ∙ ap (λ (bs : List Bucket). from_entries (flat_map entries_of bs)) one ∙ ap (λ xs. from_entries xs) (append-nil (map entry bucket.cells)) in
    let keys : header.entries ≡ length (map entry bucket.cells) = held.sums.keys ∙ ap len is ∙ sums.0 in
    let bytes : header.bytes ≡ sum_by entry_len (map entry bucket.cells) = held.sums.bytes ∙ ap bytes_in is ∙ sums.1 in
    let count = length-map bucket.cells entry in
    let cells_count = length-map bucket.cells cell in
    let values = values_few pages bucket.cells (recursion_from_All (HasValue pages) bucket.cells chained.values) in
    let row = row_length bucket_page pages (first_of bucket.row) bucket.row (filled [] (map cell bucket.cells)) chained.linked in
    let few = filled_few [] (map cell bucket.cells) in
    let all : 0 ∷ (held.index ++ (held.free ++ flat_map pages_of held.buckets)) ≡ 0 ∷ (held.free ++ (pages_of bucket ++ [])) =
    ap (λ xs. 0 ∷ (xs ++ (held.free ++ flat_map pages_of held.buckets))) held.form.directory.none ∙ ap (λ (bs : List Bucket). 0 ∷ (held.free ++ flat_map pages_of bs)) one in
    let long = ap length all in
    let parts = length-append held.free (pages_of bucket ++ []) in
    let parts' = ap length (append-nil (pages_of bucket)) in
    let parts'' = length-append bucket.row (value_pages bucket.cells) in
    let used = many_numbers (length pages) (0 ∷ (held.index ++ (held.free ++ flat_map pages_of held.buckets))) (λ k less. let once = held.used k in let here = range_within k 0 (length pages) (omega arith) (omega arith) in omega arith) in
    record { cells = omega arith; free = omega arith }
