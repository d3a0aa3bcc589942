-- Cells one behind the other in a page.
use Rattle.std.proofs.Common.{◌≡◌, ◌⊎◌, inl, inr, ℕ, ◌+◌, ◌-◌, ◌<◌, ◌≤◌, List, [], ◌∷◌, ◌++◌, length, map, take, drop, get_or, Some, refl, sym, ap, subst, ◌∙◌, arith, append_assoc, append-nil, length-append}
use Rattle.std.specs.Prelude.{All, slice_get, sum}
use Rattle.std.proofs.lemmas.Option.{same_Some, slice_get-get_or, slice_get_within}
use Rattle.std.specs.List.{concat}
use Rattle.std.proofs.lemmas.List.{length-drop, take_at, drop_at, drop-drop, drop_more, take_more, take-append-drop, take-take, drop-take, map-append}
use Rattle.std.proofs.lemmas.List.Elements.{All-take, All-drop, All-append, All-cons, All-nil, All-tail}
use Rattle.std.proofs.lemmas.List.Sums.{sum_by-cons, sum_by-append}
use Rattle.uq_page.specs.declared.layout.TheConstants.{CELLS_AT, CELLS_ROOM}
use Rattle.uq_page.specs.Cell.{IsCellAt}
use Rattle.uq_page.specs.Page.{zeros}
use Rattle.uq_hash.specs.Lying.{LiesAt, IsCut, sizes_of}
use Rattle.uq_hash.specs.Map.{Stored, IsStored, cell, kept}
use Rattle.uq_hash.specs.Place.{IsSmall, at, cells_bytes, entries_page, nothing}
use Rattle.uq_hash.specs.Refill.{Fits}
use Rattle.uq_hash.proofs.CellLemmas.{bytes_more, cell_fits, concat-append, drop-bucket_page, length-cell, length-kept}

pub cells_bytes-append : (xs ys : List Stored) → cells_bytes (xs ++ ys) ≡ cells_bytes xs ++ cells_bytes ys
cells_bytes-append xs ys = ap concat (map-append cell xs ys) ∙ concat-append (map cell xs) (map cell ys)

pub sizes_of-append : (xs ys : List Stored) → sizes_of (xs ++ ys) ≡ sizes_of xs ++ sizes_of ys
sizes_of-append xs ys = ap (map length) (map-append cell xs ys) ∙ map-append length (map cell xs) (map cell ys)

-- a part of what lies at the front
part_of : (ys a b c : List ℕ) (total : ℕ) → take total ys ≡ a ++ (b ++ c) → length (a ++ (b ++ c)) ≤ total → take (length b) (drop (length a) ys) ≡ b
part_of ys a b c total front all =
    let l1 = length-append a (b ++ c) in
    let l2 = length-append b c in
    sym (drop-take (length a) (length b) ys)
    ∙ ap (drop (length a)) (sym (take-take (length a + length b) total ys (omega arith)))
    ∙ ap (λ zs. drop (length a) (take (length a + length b) zs)) front
    ∙ drop-take (length a) (length b) (a ++ (b ++ c))
    ∙ ap (take (length b)) (drop_at a (b ++ c) (length a) refl) ∙ take_at b c (length b) refl

split_bytes : (xs : List Stored) (i : ℕ) → i < length xs → cells_bytes xs ≡ cells_bytes (take i xs) ++ (cell (at xs i) ++ cells_bytes (drop (i + 1) xs))
split_bytes xs i within =
    ap cells_bytes (sym (take-append-drop i xs) ∙ ap (λ ys. take i xs ++ ys) (drop_more xs i nothing within)) ∙ cells_bytes-append (take i xs) (at xs i ∷ drop (i + 1) xs)

-- the cell of one of the entries lies behind those before it
pub cell_lies : (page : List ℕ) (from i here : ℕ) (xs : List Stored) → LiesAt page from xs → i < length xs → here ≡ from + length (cells_bytes (take i xs))
    → IsCellAt page here (at xs i).key (length (at xs i).value) (kept (at xs i))
unfolding cell
cell_lies page from i here xs lies within begins =
    let it = at xs i in
    let stored = lies.stored i nothing within in
    let split = split_bytes xs i within in
    let l0 = ap length split in
    let l1 = length-append (cells_bytes (take i xs)) (cell it ++ cells_bytes (drop (i + 1) xs)) in
    let l2 = length-append (cell it) (cells_bytes (drop (i + 1) xs)) in
    let size = length-cell it in
    let size_kept = length-kept it in
    let low = lies.low in
    let high = lies.high in
    let few = stored.value in
    let P : ℕ → Type 0 = λ n. IsCellAt page n it.key (length it.value) (kept it) in
    subst P (sym begins) (record {
      low = omega arith;
      high = omega arith;
      len_fits = omega arith;
      kept_size = size_kept;
      bytes = ap (take (length (cell it))) (sym (drop-drop (length (cells_bytes (take i xs))) from page))
          ∙ part_of (drop from page) (cells_bytes (take i xs)) (cell it) (cells_bytes (drop (i + 1) xs)) (length (cells_bytes xs)) (lies.bytes ∙ split) (omega arith);
    })

-- a cell has a size that fits into a page
pub cell_size_fits : (it : Stored) → IsStored it → Fits (length (cell it))
cell_size_fits it is = let size = length-cell it in let some = is.key in (omega arith, cell_fits it is)

-- the cells of a bucket's page up to a place, and from it on
pub lies_front : (page : List ℕ) (group : List Stored) (next i : ℕ) → page ≡ entries_page group next → IsSmall group → All IsStored group → LiesAt page CELLS_AT (take i group)
lies_front page group next i is small stored =
    let split : cells_bytes group ≡ cells_bytes (take i group) ++ cells_bytes (drop i group) = ap cells_bytes (sym (take-append-drop i group)) ∙ cells_bytes-append (take i group) (drop i group) in
    let l0 = ap length split in
    let l1 = length-append (cells_bytes (take i group)) (cells_bytes (drop i group)) in
    let rest = zeros (CELLS_ROOM - length (cells_bytes group)) in
    record {
      low = omega arith;
      high = omega arith;
      bytes = ap (take (length (cells_bytes (take i group)))) (ap (drop CELLS_AT) is ∙ drop-bucket_page (map cell group) next ∙ ap (λ xs. xs ++ rest) split ∙ append_assoc (cells_bytes (take i group)) (cells_bytes (drop i group)) rest)
          ∙ take_at (cells_bytes (take i group)) (cells_bytes (drop i group) ++ rest) (length (cells_bytes (take i group))) refl;
      stored = All-take IsStored i group stored;
    }

pub lies_behind : (page : List ℕ) (group : List Stored) (next i here : ℕ) → page ≡ entries_page group next → IsSmall group → All IsStored group → here ≡ CELLS_AT + length (cells_bytes (take i group)) → LiesAt page here (drop i group)
lies_behind page group next i here is small stored begins =
    let split : cells_bytes group ≡ cells_bytes (take i group) ++ cells_bytes (drop i group) = ap cells_bytes (sym (take-append-drop i group)) ∙ cells_bytes-append (take i group) (drop i group) in
    let l0 = ap length split in
    let l1 = length-append (cells_bytes (take i group)) (cells_bytes (drop i group)) in
    let rest = zeros (CELLS_ROOM - length (cells_bytes group)) in
    let behind : drop (CELLS_AT + length (cells_bytes (take i group))) page ≡ cells_bytes (drop i group) ++ rest =
    sym (drop-drop (length (cells_bytes (take i group))) CELLS_AT page)
    ∙ ap (drop (length (cells_bytes (take i group)))) (ap (drop CELLS_AT) is ∙ drop-bucket_page (map cell group) next ∙ ap (λ xs. xs ++ rest) split ∙ append_assoc (cells_bytes (take i group)) (cells_bytes (drop i group)) rest)
    ∙ drop_at (cells_bytes (take i group)) (cells_bytes (drop i group) ++ rest) (length (cells_bytes (take i group))) refl in
    let P : ℕ → Type 0 = λ n. LiesAt page n (drop i group) in
    subst P (sym begins) (record {
      low = omega arith;
      high = omega arith;
      bytes = ap (take (length (cells_bytes (drop i group)))) behind ∙ take_at (cells_bytes (drop i group)) rest (length (cells_bytes (drop i group))) refl;
      stored = All-drop IsStored i group stored;
    })

pub sum-append : (xs ys : List ℕ) → sum (xs ++ ys) ≡ sum xs + sum ys
sum-append xs ys = sum_by-append (λ (x : ℕ). x) xs ys

pub sum-push : (xs : List ℕ) (x : ℕ) → sum (xs ++ x ∷ []) ≡ sum xs + x
sum-push xs x = let a = sum-append xs (x ∷ []) in let b = sum_by-cons (λ (y : ℕ). y) x [] in omega arith

pub fits_push : (xs : List ℕ) (x : ℕ) → All Fits xs → Fits x → All Fits (xs ++ x ∷ [])
fits_push xs x all fits = All-append Fits xs (x ∷ []) all (All-cons Fits x [] fits (All-nil Fits))

-- So many of the cells are passed: their sizes stand behind those that were there.
pub record Sizing (from count here i : ℕ) (sizes now : List ℕ) (xs : List Stored) : Type 0 where
  pub begins : here ≡ from + length (cells_bytes (take i xs))
  pub sizes_are : now ≡ sizes ++ sizes_of (take i xs)

pub sizing_none : (from count : ℕ) (sizes : List ℕ) (xs : List Stored) → Sizing from count from 0 sizes sizes xs
sizing_none from count sizes xs = record { begins = omega arith; sizes_are = sym (append-nil sizes) }

pub sizing_more : (from count here i size : ℕ) (sizes now : List ℕ) (xs : List Stored) → Sizing from count here i sizes now xs → i < length xs → size ≡ length (cell (at xs i)) → Sizing from count (here + size) (i + 1) sizes (now ++ size ∷ []) xs
sizing_more from count here i size sizes now xs so within size_is =
    let begins = so.begins in
    let more = bytes_more xs i within in
    record {
      begins = omega arith;
      sizes_are = ap (λ ys. ys ++ size ∷ []) so.sizes_are ∙ append_assoc sizes (sizes_of (take i xs)) (size ∷ [])
          ∙ ap (λ n. sizes ++ (sizes_of (take i xs) ++ n ∷ [])) size_is ∙ ap (λ ys. sizes ++ ys) (sym (sizes_of-append (take i xs) (at xs i ∷ [])) ∙ ap sizes_of (sym (take_more xs i nothing within)));
    }

-- what is cut stays so with more behind it, and without its first piece
pub cut_append : (sizes bytes more_sizes more : List ℕ) → IsCut sizes bytes → IsCut more_sizes more → IsCut (sizes ++ more_sizes) (bytes ++ more)
cut_append sizes bytes more_sizes more first second =
    let a = sum-append sizes more_sizes in
    let b = length-append bytes more in
    let whole = first.whole in
    let whole' = second.whole in
    record { whole = omega arith; fits = All-append Fits sizes more_sizes first.fits second.fits }

pub cut_drop : (sizes bytes : List ℕ) → 1 ≤ length sizes → IsCut sizes bytes → IsCut (drop 1 sizes) (drop (get_or sizes 0 0) bytes)
cut_drop [] bytes some is = absurd (omega arith)
cut_drop (s ∷ sizes) bytes some is =
    let split = sum_by-cons (λ (x : ℕ). x) s sizes in
    let dropped = length-drop s bytes in
    let whole = is.whole in
    record { whole = omega arith; fits = All-tail Fits s sizes is.fits }

-- what is cut, with what is left of other pieces behind it: all of them, or those behind the first
pub cut_from : (n k : ℕ) (sizes bytes rest_sizes rest new_sizes new_bytes : List ℕ) → IsCut sizes bytes → IsCut rest_sizes rest → new_sizes ≡ sizes ++ drop n rest_sizes → new_bytes ≡ bytes ++ drop k rest
    → ((n ≡ 0) × (k ≡ 0)) ⊎ ((n ≡ 1) × (slice_get rest_sizes 0 ≡ Some k)) → IsCut new_sizes new_bytes
cut_from n k sizes bytes rest_sizes rest new_sizes new_bytes first second sizes_are bytes_are place =
    subst (λ (xs : List ℕ). IsCut xs new_bytes) (sym sizes_are) (subst (λ (xs : List ℕ). IsCut (sizes ++ drop n rest_sizes) xs) (sym bytes_are)
    (cut_append sizes bytes (drop n rest_sizes) (drop k rest) first (elim place [
      | inl all ↦ subst (λ (i : ℕ). IsCut (drop i rest_sizes) (drop k rest)) (sym all.0) (subst (λ (i : ℕ). IsCut rest_sizes (drop i rest)) (sym all.1) second)
      | inr behind ↦
          let some = slice_get_within rest_sizes 0 k behind.1 in
          let here : k ≡ get_or rest_sizes 0 0 = same_Some k (get_or rest_sizes 0 0) (sym behind.1 ∙ slice_get-get_or rest_sizes 0 0 some) in
          subst (λ (i : ℕ). IsCut (drop i rest_sizes) (drop k rest)) (sym behind.0) (subst (λ (i : ℕ). IsCut (drop 1 rest_sizes) (drop i rest)) (sym here) (cut_drop rest_sizes rest some second))
    ])))
