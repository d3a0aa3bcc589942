-- How many pages cells fill.
use Rattle.std.proofs.Common.{◌≡◌, ◌⊎◌, inl, inr, ℕ, suc, ◌+◌, ◌<◌, ◌≤◌, Bool, true, false, cond, List, [], ◌∷◌, ◌++◌, length, ap, arith, append-nil}
use Rattle.std.specs.Prelude.{nat_le}
use Rattle.std.specs.List.{concat}
use Rattle.std.proofs.lemmas.Bool.{cases_lt, le-leb}
use Rattle.uq_page.specs.declared.layout.TheConstants.{CELLS_ROOM}
use Rattle.uq_hash.specs.Cells.{filled}
use Rattle.uq_hash.proofs.CellLemmas.{length-concat-append}
use Rattle.uq_hash.proofs.FillingLemmas.{not_le}

-- no more than there are cells, and one
pub filled_few : (page cells : List (List ℕ)) → length (filled page cells) ≤ suc (length cells)
filled_few page [] = omega arith
filled_few page (c ∷ cells) = by_test (nat_le (length (concat page) + length c) CELLS_ROOM) (filled_few (page ++ c ∷ []) cells) (filled_few (c ∷ []) cells)
  where
    by_test : (b : Bool) → length (filled (page ++ c ∷ []) cells) ≤ suc (length cells) → length (filled (c ∷ []) cells) ≤ suc (length cells)
        → length (cond b (filled (page ++ c ∷ []) cells) (page ∷ filled (c ∷ []) cells)) ≤ suc (suc (length cells))
    by_test true here there = omega arith
    by_test false here there = omega arith

-- a cell that has room goes into the page, and another one into the next
cell_here : (page : List (List ℕ)) (c : List ℕ) (cells : List (List ℕ)) → length (concat page) + length c ≤ CELLS_ROOM → length (filled page (c ∷ cells)) ≡ length (filled (page ++ c ∷ []) cells)
cell_here page c cells few = ap (λ b. length (cond b (filled (page ++ c ∷ []) cells) (page ∷ filled (c ∷ []) cells))) (le-leb (length (concat page) + length c) CELLS_ROOM few)

cell_next : (page : List (List ℕ)) (c : List ℕ) (cells : List (List ℕ)) → CELLS_ROOM < length (concat page) + length c → length (filled page (c ∷ cells)) ≡ suc (length (filled (c ∷ []) cells))
cell_next page c cells more = ap (λ b. length (cond b (filled (page ++ c ∷ []) cells) (page ∷ filled (c ∷ []) cells))) (not_le (length (concat page) + length c) CELLS_ROOM more)

push_bytes : (page : List (List ℕ)) (c : List ℕ) → length (concat (page ++ c ∷ [])) ≡ length (concat page) + length c
push_bytes page c = let both = length-concat-append page (c ∷ []) in let one : length (concat (c ∷ [])) ≡ length c = ap length (append-nil c) in omega arith

-- From a page with less the cells fill no more pages, and from any page at most one more.
abbrev pub Fewer : List (List ℕ) → List (List ℕ) → List (List ℕ) → Type 0
Fewer p q cells = (length (concat p) ≤ length (concat q) → length (filled p cells) ≤ length (filled q cells)) × (length (filled p cells) ≤ suc (length (filled q cells)))

fewer_step : (p q : List (List ℕ)) (c : List ℕ) (cells : List (List ℕ)) → Fewer (p ++ c ∷ []) (q ++ c ∷ []) cells → Fewer (p ++ c ∷ []) (c ∷ []) cells → Fewer (c ∷ []) (q ++ c ∷ []) cells
    → (CELLS_ROOM < length (concat p) + length c) ⊎ (length (concat p) + length c ≤ CELLS_ROOM) → (CELLS_ROOM < length (concat q) + length c) ⊎ (length (concat q) + length c ≤ CELLS_ROOM) → Fewer p q (c ∷ cells)
fewer_step p q c cells both left right (inr p_fits) (inr q_fits) =
    let p_is = cell_here p c cells p_fits in
    let q_is = cell_here q c cells q_fits in
    let p_long = push_bytes p c in
    let q_long = push_bytes q c in
    let more = both.1 in
    (λ less. let no_more = both.0 (omega arith) in omega arith, omega arith)
fewer_step p q c cells both left right (inr p_fits) (inl q_full) =
    let p_is = cell_here p c cells p_fits in
    let q_is = cell_next q c cells q_full in
    let more = left.1 in
    (λ less. omega arith, omega arith)
fewer_step p q c cells both left right (inl p_full) (inr q_fits) =
    let p_is = cell_next p c cells p_full in
    let q_is = cell_here q c cells q_fits in
    let q_long = push_bytes q c in
    let one : length (concat (c ∷ [])) ≡ length c = ap length (append-nil c) in
    let no_more = right.0 (omega arith) in
    (λ less. absurd (omega arith), omega arith)
fewer_step p q c cells both left right (inl p_full) (inl q_full) =
    let p_is = cell_next p c cells p_full in
    let q_is = cell_next q c cells q_full in
    (λ less. omega arith, omega arith)

fewer : (p q cells : List (List ℕ)) → Fewer p q cells
fewer p q [] = (λ less. omega arith, omega arith)
fewer p q (c ∷ cells) =
    fewer_step p q c cells (fewer (p ++ c ∷ []) (q ++ c ∷ []) cells) (fewer (p ++ c ∷ []) (c ∷ []) cells) (fewer (c ∷ []) (q ++ c ∷ []) cells)
    (cases_lt CELLS_ROOM (length (concat p) + length c)) (cases_lt CELLS_ROOM (length (concat q) + length c))

-- without one of the cells they fill no more pages
pub filled_fewer : (page front : List (List ℕ)) (c : List ℕ) (others : List (List ℕ)) → length (filled page (front ++ others)) ≤ length (filled page (front ++ c ∷ others))
filled_fewer page [] c others = by_case (cases_lt CELLS_ROOM (length (concat page) + length c))
  where
    by_case : (CELLS_ROOM < length (concat page) + length c) ⊎ (length (concat page) + length c ≤ CELLS_ROOM) → length (filled page others) ≤ length (filled page (c ∷ others))
    by_case (inl full) = let is = cell_next page c others full in let more = (fewer page (c ∷ []) others).1 in omega arith
    by_case (inr fits) = let is = cell_here page c others fits in let long = push_bytes page c in let more = (fewer page (page ++ c ∷ []) others).0 (omega arith) in omega arith
filled_fewer page (x ∷ front) c others =
    by_test (nat_le (length (concat page) + length x) CELLS_ROOM) (filled_fewer (page ++ x ∷ []) front c others) (filled_fewer (x ∷ []) front c others)
  where
    by_test : (b : Bool) → length (filled (page ++ x ∷ []) (front ++ others)) ≤ length (filled (page ++ x ∷ []) (front ++ c ∷ others)) → length (filled (x ∷ []) (front ++ others)) ≤ length (filled (x ∷ []) (front ++ c ∷ others))
        → length (cond b (filled (page ++ x ∷ []) (front ++ others)) (page ∷ filled (x ∷ []) (front ++ others))) ≤ length (cond b (filled (page ++ x ∷ []) (front ++ c ∷ others)) (page ∷ filled (x ∷ []) (front ++ c ∷ others)))
    by_test true here there = here
    by_test false here there = omega arith
