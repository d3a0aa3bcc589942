-- How cells fill the pages of a bucket.
use Rattle.std.proofs.Common.{◌≡◌, ◌⊎◌, inl, inr, ℕ, ◌+◌, ◌*◌, ◌<◌, ◌≤◌, ◌^◌, Bool, true, false, cond, List, [], ◌∷◌, ◌++◌, length, map, take, drop, get_or, refl, sym, ap, subst, ◌∙◌, arith, lit≤, append_assoc, append-nil, length-append}
use Rattle.std.specs.Prelude.{nat_le, All}
use Rattle.std.specs.List.{concat, flat_map}
use Rattle.std.proofs.lemmas.Bool.{le-leb}
use Rattle.std.proofs.lemmas.Bool.Decides.{leb_tells}
use Rattle.std.proofs.lemmas.List.{append_cancel_left, take_at, drop_at, take-map, drop-map, length-map}
use Rattle.std.proofs.lemmas.List.Elements.{All-cons, All-head, All-tail, All-nil}
use Rattle.uq_page.specs.Bucket.{IsBucketHead}
use Rattle.uq_hash.specs.Cells.{bucket_page, filled}
use Rattle.uq_hash.specs.Map.{Stored, cell}
use Rattle.uq_hash.proofs.CellLemmas.{length-concat-append, length-cell, take-bucket_page}
use Rattle.uq_page.specs.declared.layout.TheConstants.{CELLS_AT, CELLS_ROOM, CELL_HEAD}

-- the cells of pages in a row
abbrev pub flat : List (List (List ℕ)) → List (List ℕ)
flat groups = flat_map (λ group. group) groups

abbrev pub IsSmall : List (List ℕ) → Type 0
IsSmall group = length (concat group) ≤ CELLS_ROOM

-- no cell is lost, and none comes twice
pub filled_flat : (page cells : List (List ℕ)) → flat (filled page cells) ≡ page ++ cells
filled_flat page [] = refl
filled_flat page (c ∷ cells) = by_test (nat_le (length (concat page) + length c) CELLS_ROOM) (filled_flat (page ++ c ∷ []) cells) (filled_flat (c ∷ []) cells)
  where
    by_test : (b : Bool) → flat (filled (page ++ c ∷ []) cells) ≡ page ++ c ∷ [] ++ cells → flat (filled (c ∷ []) cells) ≡ c ∷ [] ++ cells
        → flat (cond b (filled (page ++ c ∷ []) cells) (page ∷ filled (c ∷ []) cells)) ≡ page ++ c ∷ cells
    by_test true here there = here ∙ append_assoc page (c ∷ []) cells
    by_test false here there = ap (λ xs. page ++ xs) there

-- the cells of each page have room there
pub filled_small : (page cells : List (List ℕ)) → length (concat page) ≤ CELLS_ROOM → All (λ c. length c ≤ CELLS_ROOM) cells → All IsSmall (filled page cells)
filled_small page [] fits all = All-cons IsSmall page [] fits (All-nil IsSmall)
filled_small page (c ∷ cells) fits all =
    by_test (leb_tells (length (concat page) + length c) CELLS_ROOM) (λ few. filled_small (page ++ c ∷ []) cells few (All-tail (λ c. length c ≤ CELLS_ROOM) c cells all))
    (filled_small (c ∷ []) cells (let one = All-head (λ c. length c ≤ CELLS_ROOM) c cells all in let same = append-nil c in subst (λ (xs : List ℕ). length xs ≤ CELLS_ROOM) (sym same) one) (All-tail (λ c. length c ≤ CELLS_ROOM) c cells all))
  where
    by_test : ((nat_le (length (concat page) + length c) CELLS_ROOM ≡ true) × (length (concat page) + length c ≤ CELLS_ROOM)) ⊎ ((nat_le (length (concat page) + length c) CELLS_ROOM ≡ false) × (CELLS_ROOM < length (concat page) + length c))
        → (length (concat (page ++ c ∷ [])) ≤ CELLS_ROOM → All IsSmall (filled (page ++ c ∷ []) cells)) → All IsSmall (filled (c ∷ []) cells)
        → All IsSmall (cond (nat_le (length (concat page) + length c) CELLS_ROOM) (filled (page ++ c ∷ []) cells) (page ∷ filled (c ∷ []) cells))
    by_test (inl is) here there =
        let long = length-concat-append page (c ∷ []) in
        let one : length (concat (c ∷ [])) ≡ length c = ap length (append-nil c) in
        let few = is.1 in
        subst (λ (b : Bool). All IsSmall (cond b (filled (page ++ c ∷ []) cells) (page ∷ filled (c ∷ []) cells))) (sym is.0) (here (omega arith))
    by_test (inr is) here there =
        subst (λ (b : Bool). All IsSmall (cond b (filled (page ++ c ∷ []) cells) (page ∷ filled (c ∷ []) cells))) (sym is.0) (All-cons IsSmall page (filled (c ∷ []) cells) fits there)

pub filled_some : (page cells : List (List ℕ)) → 1 ≤ length (filled page cells)
filled_some page [] = omega arith
filled_some page (c ∷ cells) = by_test (nat_le (length (concat page) + length c) CELLS_ROOM) (filled_some (page ++ c ∷ []) cells)
  where
    by_test : (b : Bool) → 1 ≤ length (filled (page ++ c ∷ []) cells) → 1 ≤ length (cond b (filled (page ++ c ∷ []) cells) (page ∷ filled (c ∷ []) cells))
    by_test true here = here
    by_test false here = omega arith

-- where a front of the cells is filled, the rest goes on from its last page
pub filled_append : (page xs ys : List (List ℕ)) (done : List (List (List ℕ))) (last : List (List ℕ)) → filled page xs ≡ done ++ last ∷ [] → filled page (xs ++ ys) ≡ done ++ filled last ys
filled_append page [] ys [] last is = ap (λ p. filled p ys) (ap (λ gs. get_or gs 0 []) is)
filled_append page [] ys (d ∷ done) last is = let long = length-append done (last ∷ []) in let same = ap length is in absurd (omega arith)
filled_append page (c ∷ xs) ys done last is =
    by_test (nat_le (length (concat page) + length c) CELLS_ROOM) done is (λ done' here. filled_append (page ++ c ∷ []) xs ys done' last here) (λ done' there. filled_append (c ∷ []) xs ys done' last there)
  where
    by_test : (b : Bool) (done : List (List (List ℕ))) → cond b (filled (page ++ c ∷ []) xs) (page ∷ filled (c ∷ []) xs) ≡ done ++ last ∷ []
        → ((done : List (List (List ℕ))) → filled (page ++ c ∷ []) xs ≡ done ++ last ∷ [] → filled (page ++ c ∷ []) (xs ++ ys) ≡ done ++ filled last ys)
        → ((done : List (List (List ℕ))) → filled (c ∷ []) xs ≡ done ++ last ∷ [] → filled (c ∷ []) (xs ++ ys) ≡ done ++ filled last ys)
        → cond b (filled (page ++ c ∷ []) (xs ++ ys)) (page ∷ filled (c ∷ []) (xs ++ ys)) ≡ done ++ filled last ys
    by_test true done is here there = here done is
    by_test false [] is here there = let some = filled_some (c ∷ []) xs in let same = ap length is in absurd (omega arith)
    by_test false (d ∷ done) is here there = ap (λ gs. page ∷ gs) (there done (ap (drop 1) is)) ∙ ap (λ p. p ∷ (done ++ filled last ys)) (ap (λ gs. get_or gs 0 []) is)

-- the front of the entries whose cells are these
pub front_cells : (group more : List (List ℕ)) (rest : List Stored) → group ++ more ≡ map cell rest
    → (length group ≤ length rest) × (group ≡ map cell (take (length group) rest)) × (more ≡ map cell (drop (length group) rest))
front_cells group more rest is =
    let long : length group + length more ≡ length rest = sym (length-append group more) ∙ ap length is ∙ length-map rest cell in (
      omega arith,
      sym (take_at group more (length group) refl) ∙ ap (take (length group)) is ∙ take-map cell (length group) rest,
      sym (drop_at group more (length group) refl) ∙ ap (drop (length group)) is ∙ drop-map cell (length group) rest,
    )

pub few_cells : (xs : List Stored) → CELL_HEAD * length xs ≤ length (concat (map cell xs))
few_cells [] = lit≤ tt
few_cells (x ∷ xs) = let more = length-append (cell x) (concat (map cell xs)) in let size = length-cell x in let rest = few_cells xs in omega arith

-- the head of a bucket's page
pub page_head : (cells : List (List ℕ)) (next : ℕ) (page : List ℕ) → next < 2 ^ 32 → length (concat cells) ≤ CELLS_ROOM → length cells < 2 ^ 16 → page ≡ bucket_page cells next
    → IsBucketHead page (record { cells = length cells; next = next; end = CELLS_AT + length (concat cells) })
page_head cells next page fits few count is = record { fits = record { cells = count; next = fits }; low = omega arith; high = omega arith; bytes = ap (take CELLS_AT) is ∙ take-bucket_page cells next }

-- cells that have room in one page fill one page
pub filled_whole : (page cells more : List (List ℕ)) → length (concat (page ++ cells)) ≤ CELLS_ROOM → filled page (cells ++ more) ≡ filled (page ++ cells) more
filled_whole page [] more fits = ap (λ p. filled p more) (sym (append-nil page))
filled_whole page (c ∷ cells) more fits =
    let regroup : page ++ c ∷ [] ++ cells ≡ page ++ c ∷ cells = append_assoc page (c ∷ []) cells in
    let all = length-concat-append (page ++ c ∷ []) cells in
    let one = length-concat-append page (c ∷ []) in
    let size : length (concat (c ∷ [])) ≡ length c = ap length (append-nil c) in
    let same : length (concat (page ++ c ∷ [] ++ cells)) ≡ length (concat (page ++ c ∷ cells)) = ap (λ xs. length (concat xs)) regroup in
    let room : nat_le (length (concat page) + length c) CELLS_ROOM ≡ true = le-leb (length (concat page) + length c) CELLS_ROOM (omega arith) in
    ap (λ b. cond b (filled (page ++ c ∷ []) (cells ++ more)) (page ∷ filled (c ∷ []) (cells ++ more))) room
    ∙ filled_whole (page ++ c ∷ []) cells more (omega arith) ∙ ap (λ p. filled p more) regroup

-- Refilling from the place on: the pages before that of the last cell before the place stay, and that page and those behind it are filled
-- anew with its cells up to the place and what comes then.
pub refilled : (front more : List (List ℕ)) (done : List (List (List ℕ))) (last : List (List ℕ)) → filled [] front ≡ done ++ last ∷ [] → length (concat last) ≤ CELLS_ROOM → filled [] (front ++ more) ≡ done ++ filled [] (last ++ more)
refilled front more done last is fits = filled_append [] front more done last is ∙ ap (λ gs. done ++ gs) (sym (filled_whole [] last more fits))

-- the first page has at least the cells that it has already
first_more : (page cells : List (List ℕ)) (first : List (List ℕ)) (rest : List (List (List ℕ))) → filled page cells ≡ first ∷ rest → length page ≤ length first
first_more page [] first rest is = let same : page ≡ first = ap (λ gs. get_or gs 0 []) is in let long = ap length same in omega arith
first_more page (c ∷ cells) first rest is = by_test (nat_le (length (concat page) + length c) CELLS_ROOM) (λ here. first_more (page ++ c ∷ []) cells first rest here) is
  where
    by_test : (b : Bool) → (filled (page ++ c ∷ []) cells ≡ first ∷ rest → length (page ++ c ∷ []) ≤ length first) → cond b (filled (page ++ c ∷ []) cells) (page ∷ filled (c ∷ []) cells) ≡ first ∷ rest → length page ≤ length first
    by_test true more here = let less = more here in let long = length-append page (c ∷ []) in omega arith
    by_test false more here = let same : page ≡ first = ap (λ gs. get_or gs 0 []) here in let long = ap length same in omega arith

-- The cells up to one that stands on a page fill the pages before it and the front of that page. It is the premise of `refilled`.
pub filled_front : (page xs ys : List (List ℕ)) (done : List (List (List ℕ))) (last more : List (List ℕ)) (rest : List (List (List ℕ))) → filled page (xs ++ ys) ≡ done ++ (last ++ more) ∷ rest → page ++ xs ≡ flat done ++ last → 1 ≤ length last ⊎ (done ≡ [])
    → filled page xs ≡ done ++ last ∷ []
filled_front page [] ys [] last more rest is split some = ap (λ p. p ∷ []) (sym (append-nil page) ∙ split)
filled_front page [] ys (d ∷ done) last more rest is split (inl some) =
    let first = first_more page ys d (done ++ (last ++ more) ∷ rest) is in
    let long = ap length (sym (append-nil page) ∙ split) in
    let parts = length-append (d ++ flat done) last in
    let parts' = length-append d (flat done) in
    absurd (omega arith)
filled_front page [] ys (d ∷ done) last more rest is split (inr none) = let long = ap length none in absurd (omega arith)
filled_front page (c ∷ xs) ys done last more rest is split some =
    by_test (nat_le (length (concat page) + length c) CELLS_ROOM) done is split some (λ done' here there has. filled_front (page ++ c ∷ []) xs ys done' last more rest here there has) (λ done' here there has. filled_front (c ∷ []) xs ys done' last more rest here there has)
  where
    by_test : (b : Bool) (done : List (List (List ℕ))) → cond b (filled (page ++ c ∷ []) (xs ++ ys)) (page ∷ filled (c ∷ []) (xs ++ ys)) ≡ done ++ (last ++ more) ∷ rest → page ++ c ∷ xs ≡ flat done ++ last → 1 ≤ length last ⊎ (done ≡ [])
        → ((done : List (List (List ℕ))) → filled (page ++ c ∷ []) (xs ++ ys) ≡ done ++ (last ++ more) ∷ rest → page ++ c ∷ [] ++ xs ≡ flat done ++ last → 1 ≤ length last ⊎ (done ≡ []) → filled (page ++ c ∷ []) xs ≡ done ++ last ∷ [])
        → ((done : List (List (List ℕ))) → filled (c ∷ []) (xs ++ ys) ≡ done ++ (last ++ more) ∷ rest → c ∷ [] ++ xs ≡ flat done ++ last → 1 ≤ length last ⊎ (done ≡ []) → filled (c ∷ []) xs ≡ done ++ last ∷ [])
        → cond b (filled (page ++ c ∷ []) xs) (page ∷ filled (c ∷ []) xs) ≡ done ++ last ∷ []
    by_test true done is split some here there = here done is (append_assoc page (c ∷ []) xs ∙ split) some
    by_test false [] is split some here there =
        let same : page ≡ last ++ more = ap (λ gs. get_or gs 0 []) is in
        let long = ap length same in
        let parts = length-append last more in
        let all = ap length split in
        let whole = length-append page (c ∷ xs) in
        absurd (omega arith)
    by_test false (d ∷ done) is split (inl some) here there =
        let same : page ≡ d = ap (λ gs. get_or gs 0 []) is in
        let behind : c ∷ xs ≡ flat done ++ last = append_cancel_left d (c ∷ xs) (flat done ++ last) (ap (λ p. p ++ c ∷ xs) (sym same) ∙ split ∙ append_assoc d (flat done) last) in
        ap (λ p. p ∷ filled (c ∷ []) xs) same ∙ ap (λ gs. d ∷ gs) (there done (ap (drop 1) is) behind (inl some))
    by_test false (d ∷ done) is split (inr none) here there = let long = ap length none in absurd (omega arith)

-- every page but the first has a cell
abbrev pub HasCell : List (List ℕ) → Type 0
HasCell group = 1 ≤ length group

filled_all : (page cells : List (List ℕ)) → 1 ≤ length page → All HasCell (filled page cells)
filled_all page [] some = All-cons HasCell page [] some (All-nil HasCell)
filled_all page (c ∷ cells) some =
    by_test (nat_le (length (concat page) + length c) CELLS_ROOM) (filled_all (page ++ c ∷ []) cells (let long = length-append page (c ∷ []) in omega arith)) (filled_all (c ∷ []) cells (omega arith))
  where
    by_test : (b : Bool) → All HasCell (filled (page ++ c ∷ []) cells) → All HasCell (filled (c ∷ []) cells) → All HasCell (cond b (filled (page ++ c ∷ []) cells) (page ∷ filled (c ∷ []) cells))
    by_test true here there = here
    by_test false here there = All-cons HasCell page (filled (c ∷ []) cells) some there

pub filled_behind : (page cells : List (List ℕ)) → All HasCell (drop 1 (filled page cells))
filled_behind page [] = All-nil HasCell
filled_behind page (c ∷ cells) = by_test (nat_le (length (concat page) + length c) CELLS_ROOM) (filled_behind (page ++ c ∷ []) cells) (filled_all (c ∷ []) cells (omega arith))
  where
    by_test : (b : Bool) → All HasCell (drop 1 (filled (page ++ c ∷ []) cells)) → All HasCell (filled (c ∷ []) cells) → All HasCell (drop 1 (cond b (filled (page ++ c ∷ []) cells) (page ∷ filled (c ∷ []) cells)))
    by_test true here there = here
    by_test false here there = there
