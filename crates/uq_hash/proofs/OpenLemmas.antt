-- The pages of a bucket with the entries of each.
use Rattle.std.proofs.Common.{◌≡◌, ◌⊎◌, inl, inr, ℕ, ◌≤◌, List, [], ◌∷◌, ◌++◌, length, map, take, drop, refl, ap, subst, ◌∙◌, arith, append-nil}
use Rattle.std.specs.Prelude.{All}
use Rattle.std.proofs.lemmas.List.{take_at, drop_at, take-append-drop, map-append, length-map}
use Rattle.std.proofs.lemmas.List.Concat.{flat_map-append}
use Rattle.std.proofs.lemmas.List.Elements.{All-take, All-drop, All-nil, All-cons, All-head, All-tail, All-map, All-weaker}
use Rattle.uq_page.specs.declared.layout.TheConstants.{CELLS_ROOM}
use Rattle.uq_page.specs.Row.{IsRow}
use Rattle.uq_hash.specs.Cells.{bucket_page, filled}
use Rattle.uq_hash.specs.Map.{Stored, IsStored, Chained, cell, first_of}
use Rattle.uq_hash.specs.Place.{IsSmall, Opened, entries_page, flat}
use Rattle.uq_hash.proofs.CellLemmas.{cell_fits}
use Rattle.uq_hash.proofs.FillLemmas.{HasCell, filled_behind, filled_flat, filled_small, front_cells}
use Rattle.uq_hash.proofs.FillLemmas as fill

pub all_left : {X : Type 0} (P : X → Type 0) (xs ys : List X) → All P (xs ++ ys) → All P xs
all_left P xs ys all = subst (All P) (take_at xs ys (length xs) refl) (All-take P (length xs) (xs ++ ys) all)

pub all_right : {X : Type 0} (P : X → Type 0) (xs ys : List X) → All P (xs ++ ys) → All P ys
all_right P xs ys all = subst (All P) (drop_at xs ys (length xs) refl) (All-drop P (length xs) (xs ++ ys) all)

pub flat-append : (xs ys : List (List Stored)) → flat (xs ++ ys) ≡ flat xs ++ flat ys
flat-append xs ys = flat_map-append (λ (group : List Stored). group) xs ys

pub flat_push : (xs : List (List Stored)) (group : List Stored) → flat (xs ++ group ∷ []) ≡ flat xs ++ group
flat_push xs group = flat-append xs (group ∷ []) ∙ ap (λ ys. flat xs ++ ys) (append-nil group)

-- the groups of cells, as groups of the entries that they are of
record Regrouped (gs : List (List (List ℕ))) (cells : List Stored) : Type 0 where
  pub groups : List (List Stored)
  pub all : flat groups ≡ cells
  pub are : gs ≡ map (map cell) groups

regroup : (gs : List (List (List ℕ))) (cells : List Stored) → fill.flat gs ≡ map cell cells → Regrouped gs cells
regroup [] [] is = record { groups = []; all = refl; are = refl }
regroup [] (x ∷ cells) is = let long = ap length is in absurd (omega arith)
regroup (g ∷ gs) cells is =
    let front = front_cells g (fill.flat gs) cells is in
    let rest = regroup gs (drop (length g) cells) front.2 in
    record {
      groups = take (length g) cells ∷ rest.groups;
      all = ap (λ xs. take (length g) cells ++ xs) rest.all ∙ take-append-drop (length g) cells;
      are = ap (λ h. h ∷ gs) front.1 ∙ ap (λ hs. map cell (take (length g) cells) ∷ hs) rest.are;
    }

-- a row by its cells, and by its entries
pub row_entries : (pages : List (List ℕ)) (head : ℕ) (row : List ℕ) (groups : List (List Stored)) → IsRow bucket_page pages head row (map (map cell) groups) → IsRow entries_page pages head row groups
row_entries pages head [] [] is = is
row_entries pages head [] (g ∷ gs) is = absurd is
row_entries pages head (n ∷ row) [] is = absurd is
row_entries pages head (n ∷ row) (g ∷ gs) is = record { is = is.is; some = is.some; next = is.next; fits = is.fits; page = is.page; rest = row_entries pages is.next row gs is.rest }

pub row_cells : (pages : List (List ℕ)) (head : ℕ) (row : List ℕ) (groups : List (List Stored)) → IsRow entries_page pages head row groups → IsRow bucket_page pages head row (map (map cell) groups)
row_cells pages head [] [] is = is
row_cells pages head [] (g ∷ gs) is = absurd is
row_cells pages head (n ∷ row) [] is = absurd is
row_cells pages head (n ∷ row) (g ∷ gs) is = record { is = is.is; some = is.some; next = is.next; fits = is.fits; page = is.page; rest = row_cells pages is.next row gs is.rest }

small_entries : (groups : List (List Stored)) → All fill.IsSmall (map (map cell) groups) → All IsSmall groups
small_entries [] all = All-nil IsSmall
small_entries (g ∷ gs) all = All-cons IsSmall g gs (All-head fill.IsSmall (map cell g) (map (map cell) gs) all) (small_entries gs (All-tail fill.IsSmall (map cell g) (map (map cell) gs) all))

pub cells_fit : (cells : List Stored) → All IsStored cells → All (λ (c : List ℕ). length c ≤ CELLS_ROOM) (map cell cells)
cells_fit cells sizes = All-map (λ (c : List ℕ). length c ≤ CELLS_ROOM) cell cells (All-weaker IsStored (λ it. length (cell it) ≤ CELLS_ROOM) cell_fits cells sizes)

pub opened : (start : ℕ) (pages : List (List ℕ)) (row : List ℕ) (cells : List Stored) → Chained start pages row cells → Opened pages row cells
opened start pages row cells is =
    let re = regroup (filled [] (map cell cells)) cells (filled_flat [] (map cell cells)) in
    record {
      groups = re.groups;
      all = re.all;
      filled_are = re.are;
      linked = row_entries pages (first_of row) row re.groups (subst (IsRow bucket_page pages (first_of row) row) re.are is.linked);
      sizes = is.sizes;
      small = small_entries re.groups (subst (All fill.IsSmall) re.are (filled_small [] (map cell cells) (omega arith) (cells_fit cells is.sizes)));
    }

-- a row goes on behind its first pages
pub row_behind : {A : Type 0} (page_of : A → ℕ → List ℕ) (pages : List (List ℕ)) (head : ℕ) (passed row : List ℕ) (firsts items : List A) → length passed ≡ length firsts
    → IsRow page_of pages head (passed ++ row) (firsts ++ items) → (next : ℕ) × IsRow page_of pages next row items
row_behind page_of pages head [] row [] items long is = (head, is)
row_behind page_of pages head [] row (a ∷ firsts) items long is = absurd (omega arith)
row_behind page_of pages head (n ∷ passed) row [] items long is = absurd (omega arith)
row_behind page_of pages head (n ∷ passed) row (a ∷ firsts) items long is = row_behind page_of pages is.next passed row firsts items (omega arith) is.rest

-- a row that has a first page has pages, and one that has none has none
pub row_some : {A : Type 0} (page_of : A → ℕ → List ℕ) (pages : List (List ℕ)) (head : ℕ) (row : List ℕ) (items : List A) → IsRow page_of pages head row items → (head ≡ 0 → ⊥) → 1 ≤ length row
row_some page_of pages head [] [] is some = absurd (some is)
row_some page_of pages head [] (i ∷ items) is some = absurd is
row_some page_of pages head (n ∷ row) items is some = omega arith

pub row_none : {A : Type 0} (page_of : A → ℕ → List ℕ) (pages : List (List ℕ)) (head : ℕ) (row : List ℕ) (items : List A) → IsRow page_of pages head row items → head ≡ 0 → items ≡ []
row_none page_of pages head row [] is none = refl
row_none page_of pages head [] (i ∷ items) is none = absurd is
row_none page_of pages head (n ∷ row) (i ∷ items) is none = let here = is.is in let some = is.some in absurd (omega arith)

-- a page of a bucket has an entry, but for the first
pub group_some : (early : List (List Stored)) (group : List Stored) (more : List (List Stored)) (cells : List Stored) → filled [] (map cell cells) ≡ map (map cell) (early ++ group ∷ more) → (1 ≤ length group) ⊎ (early ≡ [])
group_some [] group more cells is = inr refl
group_some (e ∷ early) group more cells is =
    let behind : All HasCell (map (map cell) (early ++ group ∷ more)) = subst (All HasCell) (ap (drop 1) is) (filled_behind [] (map cell cells)) in
    let split : All HasCell (map (map cell) early ++ map cell group ∷ map (map cell) more) = subst (All HasCell) (map-append (map cell) early (group ∷ more)) behind in
    let some = All-head HasCell (map cell group) (map (map cell) more) (all_right HasCell (map (map cell) early) (map cell group ∷ map (map cell) more) split) in
    let long = length-map group cell in
    inl (omega arith)
