-- The bytes of the cells of one page among those of all.
use Rattle.std.proofs.Common.{◌≡◌, ℕ, ◌+◌, ◌-◌, ◌<◌, ◌≤◌, List, [], ◌∷◌, ◌++◌, length, map, take, drop, get_or, refl, sym, ap, ◌∙◌, arith, append_assoc, append-nil, length-append}
use Rattle.std.specs.Prelude.{All, sum}
use Rattle.std.specs.List.{concat}
use Rattle.std.proofs.lemmas.List.{take_more, take-append-drop, take_at, drop_at, take_all, nil_from_length, length-take-le, length-drop, length-map, get_or-map}
use Rattle.std.proofs.lemmas.List.Concat.{flat_map-append}
use Rattle.std.proofs.lemmas.List.Sums.{sum_by-cons}
use Rattle.std.proofs.lemmas.List.Elements.{All-get_or}
use Rattle.uq_hash.specs.declared.refilling.Fill.{Fill}
use Rattle.uq_hash.specs.Cells.{filled}
use Rattle.uq_hash.specs.Refill.{Fits, counts, lens}
use Rattle.uq_hash.proofs.CellLemmas.{concat-append}
use Rattle.uq_hash.proofs.FillLemmas.{flat, IsSmall, filled_flat, filled_small}
use Rattle.uq_hash.proofs.FillingLemmas.{bytes_len}
use Rattle.uq_page.specs.declared.layout.TheConstants.{CELLS_ROOM}

-- bytes cut into cells of these sizes
pub record CutUp (sizes bytes : List ℕ) : Type 0 where
  pub cells : List (List ℕ)
  pub sizes_are : map length cells ≡ sizes
  pub bytes_are : concat cells ≡ bytes

pub cut_up : (sizes bytes : List ℕ) → sum sizes ≡ length bytes → CutUp sizes bytes
cut_up [] bytes all = record { cells = []; sizes_are = refl; bytes_are = sym (nil_from_length bytes (sym all)) }
cut_up (s ∷ sizes) bytes all =
    let split = sum_by-cons (λ (x : ℕ). x) s sizes in
    let dropped = length-drop s bytes in
    let rest = cut_up sizes (drop s bytes) (omega arith) in
    let long : length (take s bytes) ≡ s = length-take-le s bytes (omega arith) in
    record {
      cells = take s bytes ∷ rest.cells;
      sizes_are = ap (λ n. n ∷ map length rest.cells) long ∙ ap (λ ns. s ∷ ns) rest.sizes_are;
      bytes_are = ap (λ xs. take s bytes ++ xs) rest.bytes_are ∙ take-append-drop s bytes;
    }

pub record Part (cells : List (List ℕ)) (bytes : List ℕ) (i stop : ℕ) (fill : Fill) : Type 0 where
  pub within : i < length (filled [] cells)
  pub count : length (get_or (filled [] cells) i []) ≡ fill.cells
  pub fits : fill.bytes ≤ stop
  pub high : stop ≤ length bytes
  pub few : fill.bytes ≤ CELLS_ROOM
  pub piece : concat (get_or (filled [] cells) i []) ≡ take (stop - (stop - fill.bytes)) (drop (stop - fill.bytes) bytes)
  pub begins : stop - fill.bytes ≡ length (concat (flat (take i (filled [] cells))))

pub part : (cells : List (List ℕ)) (sizes bytes : List ℕ) (fills : List Fill) (i stop : ℕ) (fill : Fill) → All Fits sizes → map length cells ≡ sizes → concat cells ≡ bytes
    → map counts fills ≡ map length (filled [] cells) → map lens fills ≡ map bytes_len (filled [] cells) → i < length fills → fill ≡ get_or fills i fill → stop ≡ length (concat (flat (take (i + 1) (filled [] cells)))) → Part cells bytes i stop fill
part cells sizes bytes fills i stop fill all sizes_are bytes_are counts_are lens_are inside is stop_is =
    let gs = filled [] cells in
    let long : length fills ≡ length gs = sym (length-map fills counts) ∙ ap length counts_are ∙ length-map gs length in
    let within : i < length gs = omega arith in
    let g = get_or gs i [] in
    let count : fill.cells ≡ length g = ap (λ (f : Fill). f.cells) is ∙ sym (get_or-map counts fills i fill 0 inside) ∙ ap (λ ns. get_or ns i 0) counts_are ∙ get_or-map length gs i [] 0 within in
    let size : fill.bytes ≡ length (concat g) = ap (λ (f : Fill). f.bytes) is ∙ sym (get_or-map lens fills i fill 0 inside) ∙ ap (λ ns. get_or ns i 0) lens_are ∙ get_or-map bytes_len gs i [] 0 within in
    let front : flat (take (i + 1) gs) ≡ flat (take i gs) ++ g =
    ap flat (take_more gs i [] within) ∙ flat_map-append (λ (x : List (List ℕ)). x) (take i gs) (g ∷ []) ∙ ap (λ xs. flat (take i gs) ++ xs) (append-nil g) in
    let front_bytes : concat (flat (take (i + 1) gs)) ≡ concat (flat (take i gs)) ++ concat g = ap concat front ∙ concat-append (flat (take i gs)) g in
    let front_len = ap length front_bytes in
    let front_sum = length-append (concat (flat (take i gs))) (concat g) in
    let whole : bytes ≡ concat (flat (take (i + 1) gs)) ++ concat (flat (drop (i + 1) gs)) =
    sym bytes_are ∙ ap concat (sym (filled_flat [] cells)) ∙ ap (λ xs. concat (flat xs)) (sym (take-append-drop (i + 1) gs)) ∙ ap concat (flat_map-append (λ (x : List (List ℕ)). x) (take (i + 1) gs) (drop (i + 1) gs))
    ∙ concat-append (flat (take (i + 1) gs)) (flat (drop (i + 1) gs)) in
    let whole_len = ap length whole in
    let whole_sum = length-append (concat (flat (take (i + 1) gs))) (concat (flat (drop (i + 1) gs))) in
    let begins : stop - fill.bytes ≡ length (concat (flat (take i gs))) = omega arith in
    let back : stop - (stop - fill.bytes) ≡ length (concat g) = omega arith in
    let split : bytes ≡ concat (flat (take i gs)) ++ (concat g ++ concat (flat (drop (i + 1) gs))) =
    whole ∙ ap (λ xs. xs ++ concat (flat (drop (i + 1) gs))) front_bytes ∙ append_assoc (concat (flat (take i gs))) (concat g) (concat (flat (drop (i + 1) gs))) in
    let small = All-get_or IsSmall gs i [] within (filled_small [] cells (omega arith) (few_bytes cells sizes all sizes_are)) in
    record {
      within = within;
      count = sym count;
      fits = omega arith;
      high = omega arith;
      few = omega arith;
      piece = sym (ap (λ n. take (stop - (stop - fill.bytes)) (drop n bytes)) begins ∙ ap (λ n. take n (drop (length (concat (flat (take i gs)))) bytes)) back
          ∙ ap (λ xs. take (length (concat g)) (drop (length (concat (flat (take i gs)))) xs)) split
          ∙ ap (take (length (concat g))) (drop_at (concat (flat (take i gs))) (concat g ++ concat (flat (drop (i + 1) gs))) (length (concat (flat (take i gs)))) refl)
          ∙ take_at (concat g) (concat (flat (drop (i + 1) gs))) (length (concat g)) refl);
      begins = begins;
    }
  where
    few_bytes : (cells : List (List ℕ)) (sizes : List ℕ) → All Fits sizes → map length cells ≡ sizes → All (λ (c : List ℕ). length c ≤ CELLS_ROOM) cells
    few_bytes cells sizes all sizes_are k d below =
        let long : length sizes ≡ length cells = ap length (sym sizes_are) ∙ length-map cells length in
        let one = all k 0 (omega arith) in
        let high = one.1 in
        let same : length (get_or cells k d) ≡ get_or sizes k 0 = sym (get_or-map length cells k d 0 below) ∙ ap (λ ns. get_or ns k 0) sizes_are in
        omega arith

pub ends_all : (cells : List (List ℕ)) (bytes : List ℕ) (n : ℕ) → length (filled [] cells) ≤ n → concat cells ≡ bytes → length bytes ≡ length (concat (flat (take n (filled [] cells))))
ends_all cells bytes n all bytes_are = ap length (sym bytes_are ∙ ap concat (sym (filled_flat [] cells)) ∙ ap (λ xs. concat (flat xs)) (sym (take_all n (filled [] cells) all)))

pub as_many : (fills : List Fill) (cells : List (List ℕ)) → map counts fills ≡ map length (filled [] cells) → length fills ≡ length (filled [] cells)
as_many fills cells counts_are = sym (length-map fills counts) ∙ ap length counts_are ∙ length-map (filled [] cells) length
