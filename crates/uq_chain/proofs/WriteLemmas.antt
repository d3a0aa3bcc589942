-- A chain written from its last page to its first.
use Rattle.std.proofs.Common.{◌≡◌, ◌⊎◌, inl, inr, ℕ, ◌+◌, ◌-◌, ◌*◌, ◌/◌, ◌<◌, ◌≤◌, ◌^◌, List, [], ◌∷◌, ◌++◌, length, take, drop, Some, refl, sym, ap, subst, ◌∙◌, arith}
use Rattle.std.specs.Prelude.{slice_get, min}
use Rattle.std.proofs.lemmas.Bool.{cases_lt}
use Rattle.std.proofs.lemmas.List.{length-append, length-drop, drop_all, drop-drop, take_all}
use Rattle.uq_page.specs.declared.layout.TheConstants.{VALUE_ROOM}
use Rattle.uq_page.specs.ValuePage.{value_page}
use Rattle.uq_page.specs.Numbers.{times}
use Rattle.uq_chain.specs.FreeList.{IsFreeList, Turned}
use Rattle.uq_chain.specs.Chain.{IsChain, IsWritten, pages_for, pieces}
use Rattle.uq_page.specs.NumberLaws.{times-append, times-cons}
use Rattle.uq_page.specs.RowLaws.{row_within}
use Rattle.uq_chain.specs.TurnLaws.{turned_none, turned_then, turned_as, taken_apart}
use Rattle.uq_chain.specs.ChainLaws.{keeps_chain, chain_more}

-- so many pages are still to be written, and `stop` is where their bytes end
pub record Cut (len stop pages : ℕ) : Type 0 where
  pub is : stop ≡ min (VALUE_ROOM * pages) len
  pub few : VALUE_ROOM * pages < len + VALUE_ROOM

pub cut_all : (len : ℕ) → Cut len len (pages_for len)
cut_all len = record { is = omega arith; few = omega arith }

-- where the next page's bytes begin
pub cut_next : (len stop pages : ℕ) → Cut len stop pages → 1 ≤ stop → Cut len ((stop - 1) / VALUE_ROOM * VALUE_ROOM) (pages - 1)
cut_next len stop pages cut some = let is = cut.is in let few = cut.few in record { is = omega arith; few = omega arith }

pub written_none : (pages : List (List ℕ)) (head : ℕ) (free bytes : List ℕ) → IsFreeList pages head free → IsWritten pages pages head free 0 (drop (length bytes) bytes)
written_none pages head free bytes list =
    let P : List ℕ → Type 0 = λ xs. IsWritten pages pages head free 0 xs in
    subst P (sym (drop_all (length bytes) bytes (omega arith))) (record { row = []; chain = record { linked = refl; enough = omega arith; full = omega arith }; turned = turned_none pages head free list })

-- the bytes of the next page, and those behind them
piece_is : (bytes : List ℕ) (from stop : ℕ) → from + VALUE_ROOM ≡ stop ⊎ (stop ≡ length bytes) → stop ≤ from + VALUE_ROOM → stop ≤ length bytes → from ≤ stop → take (stop - from) (drop from bytes) ≡ take VALUE_ROOM (drop from bytes)
piece_is bytes from stop (inl whole) high within low = let size : stop - from ≡ VALUE_ROOM = omega arith in ap (λ n. take n (drop from bytes)) size
piece_is bytes from stop (inr last) high within low =
    let long = length-drop from bytes in
    take_all (stop - from) (drop from bytes) (omega arith) ∙ sym (take_all VALUE_ROOM (drop from bytes) (omega arith))

rest_is : (bytes : List ℕ) (from stop : ℕ) → from + VALUE_ROOM ≡ stop ⊎ (stop ≡ length bytes) → stop ≤ from + VALUE_ROOM → drop stop bytes ≡ drop VALUE_ROOM (drop from bytes)
rest_is bytes from stop (inl whole) high = ap (λ n. drop n bytes) (sym whole) ∙ sym (drop-drop VALUE_ROOM from bytes)
rest_is bytes from stop (inr last) high =
    let long = length-drop from bytes in
    drop_all stop bytes (omega arith) ∙ sym (drop_all VALUE_ROOM (drop from bytes) (omega arith))

whole_or_last : (len stop pages : ℕ) → Cut len stop pages → 1 ≤ stop → (stop - 1) / VALUE_ROOM * VALUE_ROOM + VALUE_ROOM ≡ stop ⊎ (stop ≡ len)
whole_or_last len stop pages cut some = by_cases (cases_lt (VALUE_ROOM * pages) len)
  where
    by_cases : (VALUE_ROOM * pages < len) ⊎ (len ≤ VALUE_ROOM * pages) → (stop - 1) / VALUE_ROOM * VALUE_ROOM + VALUE_ROOM ≡ stop ⊎ (stop ≡ len)
    by_cases (inl less) = let is = cut.is in inl (omega arith)
    by_cases (inr more) = let is = cut.is in inr (omega arith)

pub written_more : (before now after : List (List ℕ)) (head now_head next : ℕ) (free bytes piece : List ℕ) (first n stop pages : ℕ) → IsFreeList before head free → (so : IsWritten before now now_head free first (drop stop bytes))
    → Cut (length bytes) stop pages → 1 ≤ stop → piece ≡ take (stop - (stop - 1) / VALUE_ROOM * VALUE_ROOM) (drop ((stop - 1) / VALUE_ROOM * VALUE_ROOM) bytes) → first < 2 ^ 32 → 1 ≤ n
    → Turned now after next so.turned.left [] (n ∷ []) → slice_get after n ≡ Some (value_page piece first) → IsWritten before after next free n (drop ((stop - 1) / VALUE_ROOM * VALUE_ROOM) bytes)
written_more before now after head now_head next free bytes piece first n stop pages list so cut some piece_are fits one taken there =
    let from = (stop - 1) / VALUE_ROOM * VALUE_ROOM in
    let is = cut.is in
    let few = cut.few in
    let low : from ≤ stop = omega arith in
    let high : stop ≤ from + VALUE_ROOM = omega arith in
    let within : stop ≤ length bytes = omega arith in
    let where_it_ends = whole_or_last (length bytes) stop pages cut some in
    let long = length-drop from bytes in
    let stays : (k : ℕ) → 1 ≤ times k so.row → slice_get after k ≡ slice_get now k = λ k among.
    let inside = row_within value_page now first so.row (pieces so.row (drop stop bytes)) k so.chain.linked among in
    let apart = taken_apart before now head now_head free so.row k list so.turned in
    let sum = times-append k so.turned.left [] in
    taken.others k inside.1 (omega arith) in
    let P : List ℕ → Type 0 = λ xs. IsChain after first so.row xs in
    let behind = subst P (rest_is bytes from stop where_it_ends high) (keeps_chain now after first so.row (drop stop bytes) stays so.chain) in
    record {
      row = n ∷ so.row;
      chain = chain_more after n first so.row (drop from bytes) piece one fits there (piece_are ∙ piece_is bytes from stop where_it_ends high within low) (omega arith) behind;
      turned = turned_as before after next free [] (so.row ++ n ∷ []) [] (n ∷ so.row) (turned_then before now after now_head next free [] so.row [] (n ∷ []) so.turned taken)
          (λ k. refl) refl (λ k. let a = times-append k so.row (n ∷ []) in let b = times-cons k n so.row in omega arith) (let a = length-append so.row (n ∷ []) in omega arith);
    }

-- where there is no page for the next piece, the free list had too few from the beginning
pub too_few : (before now : List (List ℕ)) (head now_head : ℕ) (free bytes : List ℕ) (first stop pages : ℕ) (so : IsWritten before now now_head free first (drop stop bytes))
    → Cut (length bytes) stop pages → 1 ≤ stop → length so.turned.left < 1 → length free < pages_for (length bytes)
too_few before now head now_head free bytes first stop pages so cut some none =
    let is = cut.is in
    let few = cut.few in
    let full = so.chain.full in
    let long = length-drop stop bytes in
    let count = so.turned.count in
    let longer = so.turned.longer in
    omega arith
