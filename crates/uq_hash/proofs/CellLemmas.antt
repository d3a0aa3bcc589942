-- Cells in the page of a bucket.
use Rattle.std.proofs.Common.{◌≡◌, ℕ, ◌+◌, ◌-◌, ◌<◌, ◌≤◌, Bool, true, false, cond, List, [], ◌∷◌, ◌++◌, length, map, take, drop, refl, sym, ap, subst, ◌∙◌, arith, append_assoc, append-nil, length-append}
use Rattle.std.specs.Prelude.{nat_le}
use Rattle.std.specs.List.{concat}
use Rattle.std.proofs.lemmas.List.{take_at, drop_at, drop-drop, drop_more, take_more, take-append-drop, map-append}
use Rattle.std.proofs.lemmas.Bool.Decides.{leb_tells}
use Rattle.std.proofs.Common.{◌⊎◌, inl, inr}
use Rattle.std.specs.Int.{w32, to_be_bytes}
use Rattle.uq_page.specs.Bucket.{bucket_fields}
use Rattle.uq_page.specs.Cell.{cell_bytes, cell_lengths, kept_len, IsCellAt}
use Rattle.uq_page.specs.NextLaws.{same_bucket_next}
use Rattle.uq_page.specs.Page.{zeros}
use Rattle.uq_page.specs.RowLaws.{Tells}
use Rattle.uq_hash.specs.Cells.{bucket_page}
use Rattle.uq_hash.specs.Map.{Stored, IsStored, cell, kept, first_of}
use Rattle.uq_hash.specs.Place.{IsSmall, at, cells_bytes, entries_page, nothing}
use Rattle.uq_page.specs.declared.layout.TheConstants.{CELLS_AT, CELLS_ROOM, CELL_HEAD, MOST_INLINE}

pub concat-append : (xs ys : List (List ℕ)) → concat (xs ++ ys) ≡ concat xs ++ concat ys
concat-append [] ys = refl
concat-append (x ∷ xs) ys = ap (λ zs. x ++ zs) (concat-append xs ys) ∙ sym (append_assoc x (concat xs) (concat ys))

pub length-concat-append : (xs ys : List (List ℕ)) → length (concat (xs ++ ys)) ≡ length (concat xs) + length (concat ys)
length-concat-append xs ys = ap length (concat-append xs ys) ∙ length-append (concat xs) (concat ys)

length-cell_lengths : (key_len len : ℕ) → length (cell_lengths key_len len) ≡ CELL_HEAD
unfolding cell_lengths
length-cell_lengths key_len len = refl

length-cell_bytes : (key : List ℕ) (len : ℕ) (kept : List ℕ) → length (cell_bytes key len kept) ≡ CELL_HEAD + length key + length kept
length-cell_bytes key len kept =
    length-append (cell_lengths (length key) len ++ key) kept
    ∙ ap (λ n. n + length kept) (length-append (cell_lengths (length key) len) key ∙ ap (λ n. n + length key) (length-cell_lengths (length key) len))

pub take-bucket_page : (cells : List (List ℕ)) (next : ℕ) → take CELLS_AT (bucket_page cells next) ≡ bucket_fields (record { cells = length cells; next = next; end = CELLS_AT + length (concat cells) })
unfolding bucket_page
take-bucket_page cells next = refl

pub drop-bucket_page : (cells : List (List ℕ)) (next : ℕ) → drop CELLS_AT (bucket_page cells next) ≡ concat cells ++ zeros (CELLS_ROOM - length (concat cells))
unfolding bucket_page
drop-bucket_page cells next = refl

pub bucket_tells : Tells bucket_page
unfolding bucket_page
bucket_tells a b m n fits fits' same =
    same_bucket_next (record { cells = length a; next = m; end = CELLS_AT + length (concat a) }) (record { cells = length b; next = n; end = CELLS_AT + length (concat b) })
    (concat a ++ zeros (CELLS_ROOM - length (concat a))) (concat b ++ zeros (CELLS_ROOM - length (concat b))) fits fits' same

pub length-kept : (it : Stored) → length (kept it) ≡ kept_len (length it.value)
length-kept it = by_test (nat_le (length it.value) MOST_INLINE)
  where
    by_test : (b : Bool) → length (cond b it.value (to_be_bytes w32 (first_of it.row))) ≡ cond b (length it.value) 4
    by_test true = refl
    by_test false = refl

pub length-cell : (it : Stored) → length (cell it) ≡ CELL_HEAD + length it.key + kept_len (length it.value)
unfolding cell
length-cell it = length-cell_bytes it.key (length it.value) (kept it) ∙ ap (λ n. CELL_HEAD + length it.key + n) (length-kept it)

pub kept_few : (n : ℕ) → kept_len n ≤ MOST_INLINE
kept_few n = by_test (leb_tells n MOST_INLINE)
  where
    by_test : ((nat_le n MOST_INLINE ≡ true) × (n ≤ MOST_INLINE)) ⊎ ((nat_le n MOST_INLINE ≡ false) × (MOST_INLINE < n)) → kept_len n ≤ MOST_INLINE
    by_test (inl is) = let same : kept_len n ≡ n = ap (λ b. cond b n 4) is.0 in let few = is.1 in omega arith
    by_test (inr is) = let same : kept_len n ≡ 4 = ap (λ b. cond b n 4) is.0 in omega arith

-- a cell fits into an empty page
pub cell_fits : (it : Stored) → IsStored it → length (cell it) ≤ CELLS_ROOM
cell_fits it is = let size = length-cell it in let few = kept_few (length it.value) in let high = is.key_end in omega arith

-- what stands behind the first cells
drop-cells : (page : List ℕ) (before behind : List (List ℕ)) (next : ℕ) → page ≡ bucket_page (before ++ behind) next
    → drop (CELLS_AT + length (concat before)) page ≡ concat behind ++ zeros (CELLS_ROOM - length (concat (before ++ behind)))
drop-cells page before behind next is =
    let rest = zeros (CELLS_ROOM - length (concat (before ++ behind))) in
    sym (drop-drop (length (concat before)) 16 page)
    ∙ ap (drop (length (concat before))) (ap (drop CELLS_AT) is ∙ drop-bucket_page (before ++ behind) next ∙ ap (λ xs. xs ++ rest) (concat-append before behind) ∙ append_assoc (concat before) (concat behind) rest)
    ∙ drop_at (concat before) (concat behind ++ rest) (length (concat before)) refl

pub cell_at : (page : List ℕ) (before behind : List (List ℕ)) (next : ℕ) (it : Stored) → page ≡ bucket_page (before ++ cell it ∷ behind) next → length (concat (before ++ cell it ∷ behind)) ≤ CELLS_ROOM → IsStored it
    → IsCellAt page (CELLS_AT + length (concat before)) it.key (length it.value) (kept it)
unfolding cell
cell_at page before behind next it is fits stored =
    let all = length-concat-append before (cell it ∷ behind) in
    let rest = zeros (CELLS_ROOM - length (concat (before ++ cell it ∷ behind))) in
    let size = length-cell it in
    let size_kept = length-kept it in
    let both = length-append (cell it) (concat behind) in
    let few = stored.value in
    record {
      low = omega arith;
      high = omega arith;
      len_fits = omega arith;
      kept_size = size_kept;
      bytes = ap (take (length (cell it))) (drop-cells page before (cell it ∷ behind) next is ∙ append_assoc (cell it) (concat behind) rest) ∙ take_at (cell it) (concat behind ++ rest) (length (cell it)) refl;
    }

-- the cell of an entry of a page lies behind those before it
pub cell_in : (page : List ℕ) (group : List Stored) (next i : ℕ) → page ≡ entries_page group next → IsSmall group → i < length group → IsStored (at group i)
    → IsCellAt page (CELLS_AT + length (cells_bytes (take i group))) (at group i).key (length (at group i).value) (kept (at group i))
cell_in page group next i is small within stored =
    let split : group ≡ take i group ++ at group i ∷ drop (i + 1) group = sym (take-append-drop i group) ∙ ap (λ ys. take i group ++ ys) (drop_more group i nothing within) in
    let cells : map cell group ≡ map cell (take i group) ++ cell (at group i) ∷ map cell (drop (i + 1) group) = ap (map cell) split ∙ map-append cell (take i group) (at group i ∷ drop (i + 1) group) in
    cell_at page (map cell (take i group)) (map cell (drop (i + 1) group)) next (at group i) (is ∙ ap (λ ys. bucket_page ys next) cells)
    (subst (λ (ys : List (List ℕ)). length (concat ys) ≤ CELLS_ROOM) cells small) stored

pub bytes_more : (group : List Stored) (i : ℕ) → i < length group → length (cells_bytes (take (i + 1) group)) ≡ length (cells_bytes (take i group)) + length (cell (at group i))
bytes_more group i within =
    ap (λ ys. length (cells_bytes ys)) (take_more group i nothing within) ∙ ap (λ ys. length (concat ys)) (map-append cell (take i group) (at group i ∷ []))
    ∙ length-concat-append (map cell (take i group)) (cell (at group i) ∷ []) ∙ ap (λ ys. length (cells_bytes (take i group)) + length ys) (append-nil (cell (at group i)))

pub cell_behind : (page : List ℕ) (group : List Stored) (next i here : ℕ) → page ≡ entries_page group next → IsSmall group → i < length group → IsStored (at group i)
    → here ≡ CELLS_AT + length (cells_bytes (take i group)) → IsCellAt page here (at group i).key (length (at group i).value) (kept (at group i))
cell_behind page group next i here is small within stored begins =
    subst (λ (n : ℕ). IsCellAt page n (at group i).key (length (at group i).value) (kept (at group i))) (sym begins) (cell_in page group next i is small within stored)

-- the size of a cell, by what was read of it
pub length-cell-read : (group : List Stored) (i : ℕ) (key : List ℕ) (len : ℕ) → key ≡ (at group i).key → len ≡ length (at group i).value → CELL_HEAD + length key + kept_len len ≡ length (cell (at group i))
length-cell-read group i key len key_is len_is =
    ap (λ (k : List ℕ). CELL_HEAD + length k + kept_len len) key_is ∙ ap (λ n. CELL_HEAD + length (at group i).key + kept_len n) len_is ∙ sym (length-cell (at group i))
