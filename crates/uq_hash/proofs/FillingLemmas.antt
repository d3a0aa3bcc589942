-- Cells put into pages one after another.
use Rattle.std.proofs.Common.{◌≡◌, ℕ, ◌+◌, ◌<◌, ◌≤◌, true, false, cond, List, [], ◌∷◌, ◌++◌, length, map, drop, get_or, refl, sym, ap, ◌∙◌, arith, append_assoc, append-nil}
use Rattle.std.specs.Prelude.{nat_le}
use Rattle.std.specs.List.{concat}
use Rattle.std.proofs.lemmas.List.{drop_more, drop_all, length_push, map_push, length-map, get_or-map}
use Rattle.std.proofs.Common.{◌⊎◌, inl, inr}
use Rattle.std.proofs.lemmas.Bool.{le-leb}
use Rattle.std.proofs.lemmas.Bool.Decides.{leb_tells}
use Rattle.uq_hash.specs.Cells.{filled}
use Rattle.uq_hash.proofs.CellLemmas.{length-concat-append}
use Rattle.uq_page.specs.declared.layout.TheConstants.{CELLS_ROOM}

abbrev pub bytes_len : List (List ℕ) → ℕ
bytes_len group = length (concat group)

-- Pages are done, and the present page has some cells: the first j cells are in them.
pub record Filling (cells : List (List ℕ)) (done_counts done_lens : List ℕ) (count bytes j : ℕ) : Type 0 where
  pub done : List (List (List ℕ))
  pub page : List (List ℕ)
  pub is : filled [] cells ≡ done ++ filled page (drop j cells)
  pub counts_are : done_counts ≡ map length done
  pub lens_are : done_lens ≡ map bytes_len done
  pub count_is : count ≡ length page
  pub bytes_is : bytes ≡ length (concat page)

pub filling_none : (cells : List (List ℕ)) → Filling cells [] [] 0 0 0
filling_none cells = record { done = []; page = []; is = refl; counts_are = refl; lens_are = refl; count_is = refl; bytes_is = refl }

pub not_le : (m n : ℕ) → n < m → nat_le m n ≡ false
not_le m n more = by_test (leb_tells m n)
  where
    by_test : ((nat_le m n ≡ true) × (m ≤ n)) ⊎ ((nat_le m n ≡ false) × (n < m)) → nat_le m n ≡ false
    by_test (inl is) = let less = is.1 in absurd (omega arith)
    by_test (inr is) = is.0

step : (cells : List (List ℕ)) (sizes : List ℕ) (j size : ℕ) → map length cells ≡ sizes → j < length sizes → size ≡ get_or sizes j 0 → (j < length cells) × (length (get_or cells j []) ≡ size)
step cells sizes j size sizes_are within is =
    let long : length sizes ≡ length cells = ap length (sym sizes_are) ∙ length-map cells length in
    let inside : j < length cells = omega arith in
    (inside, sym (get_or-map length cells j [] 0 inside) ∙ ap (λ xs. get_or xs j 0) sizes_are ∙ sym is)

one_concat : (c : List ℕ) → length (concat (c ∷ [])) ≡ length c
one_concat c = ap length (append-nil c)

pub filling_here : (cells : List (List ℕ)) (sizes done_counts done_lens : List ℕ) (count bytes j size : ℕ) → map length cells ≡ sizes → j < length sizes → size ≡ get_or sizes j 0 → bytes + size ≤ CELLS_ROOM
    → Filling cells done_counts done_lens count bytes j → Filling cells done_counts done_lens (count + 1) (bytes + size) (j + 1)
filling_here cells sizes done_counts done_lens count bytes j size sizes_are within is fits so =
    let this = step cells sizes j size sizes_are within is in
    let c = get_or cells j [] in
    let long = this.1 in
    let bytes_are = so.bytes_is in
    let count_are = so.count_is in
    let pushed = length_push so.page c in
    let both = length-concat-append so.page (c ∷ []) in
    let one = one_concat c in
    let room : nat_le (length (concat so.page) + length c) CELLS_ROOM ≡ true = le-leb (length (concat so.page) + length c) CELLS_ROOM (omega arith) in
    record {
      done = so.done;
      page = so.page ++ c ∷ [];
      is = so.is ∙ ap (λ xs. so.done ++ filled so.page xs) (drop_more cells j [] this.0)
          ∙ ap (λ b. so.done ++ cond b (filled (so.page ++ c ∷ []) (drop (j + 1) cells)) (so.page ∷ filled (c ∷ []) (drop (j + 1) cells))) room;
      counts_are = so.counts_are;
      lens_are = so.lens_are;
      count_is = omega arith;
      bytes_is = omega arith;
    }

pub filling_next : (cells : List (List ℕ)) (sizes done_counts done_lens : List ℕ) (count bytes j size : ℕ) → map length cells ≡ sizes → j < length sizes → size ≡ get_or sizes j 0 → CELLS_ROOM < bytes + size
    → Filling cells done_counts done_lens count bytes j → Filling cells (done_counts ++ count ∷ []) (done_lens ++ bytes ∷ []) 1 size (j + 1)
filling_next cells sizes done_counts done_lens count bytes j size sizes_are within is full so =
    let this = step cells sizes j size sizes_are within is in
    let c = get_or cells j [] in
    let long = this.1 in
    let bytes_are = so.bytes_is in
    let one = one_concat c in
    let room : nat_le (length (concat so.page) + length c) CELLS_ROOM ≡ false = not_le (length (concat so.page) + length c) CELLS_ROOM (omega arith) in
    record {
      done = so.done ++ so.page ∷ [];
      page = c ∷ [];
      is = so.is ∙ ap (λ xs. so.done ++ filled so.page xs) (drop_more cells j [] this.0)
          ∙ ap (λ b. so.done ++ cond b (filled (so.page ++ c ∷ []) (drop (j + 1) cells)) (so.page ∷ filled (c ∷ []) (drop (j + 1) cells))) room
          ∙ sym (append_assoc so.done (so.page ∷ []) (filled (c ∷ []) (drop (j + 1) cells)));
      counts_are = ap (λ xs. xs ++ count ∷ []) so.counts_are ∙ ap (λ n. map length so.done ++ n ∷ []) so.count_is ∙ sym (map_push length so.done so.page);
      lens_are = ap (λ xs. xs ++ bytes ∷ []) so.lens_are ∙ ap (λ n. map bytes_len so.done ++ n ∷ []) so.bytes_is ∙ sym (map_push bytes_len so.done so.page);
      count_is = refl;
      bytes_is = omega arith;
    }

pub filling_all : (cells : List (List ℕ)) (sizes done_counts done_lens : List ℕ) (count bytes j : ℕ) → map length cells ≡ sizes → length sizes ≤ j → Filling cells done_counts done_lens count bytes j
    → (done_counts ++ count ∷ [] ≡ map length (filled [] cells)) × (done_lens ++ bytes ∷ [] ≡ map bytes_len (filled [] cells))
filling_all cells sizes done_counts done_lens count bytes j sizes_are all so =
    let long : length sizes ≡ length cells = ap length (sym sizes_are) ∙ length-map cells length in
    let whole : filled [] cells ≡ so.done ++ so.page ∷ [] = so.is ∙ ap (λ xs. so.done ++ filled so.page xs) (drop_all j cells (omega arith)) in (
      ap (λ xs. xs ++ count ∷ []) so.counts_are ∙ ap (λ n. map length so.done ++ n ∷ []) so.count_is ∙ sym (map_push length so.done so.page) ∙ sym (ap (map length) whole),
      ap (λ xs. xs ++ bytes ∷ []) so.lens_are ∙ ap (λ n. map bytes_len so.done ++ n ∷ []) so.bytes_is ∙ sym (map_push bytes_len so.done so.page) ∙ sym (ap (map bytes_len) whole),
    )
