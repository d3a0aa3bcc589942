-- A chain made longer.
use Rattle.std.proofs.Common.{◌≡◌, ◌⊎◌, inl, inr, ℕ, ◌+◌, ◌-◌, ◌*◌, ◌<◌, ◌≤◌, ◌^◌, List, [], ◌∷◌, ◌++◌, length, take, drop, Some, refl, sym, ap, subst, ◌∙◌, arith, append_assoc, append-nil, length-append}
use Rattle.std.specs.Prelude.{slice_get, slice_set, min}
use Rattle.std.proofs.lemmas.Bool.{cases_lt}
use Rattle.std.proofs.lemmas.List.{length-drop, length-take, nil_from_length, drop_all, drop-drop, drop-append-le, take_all, take-append-le, take_at, drop_at, take-append-drop}
use Rattle.uq_page.specs.declared.layout.TheConstants.{VALUE_AT, VALUE_ROOM}
use Rattle.uq_page.specs.ValuePage.{value_page, value_fields}
use Rattle.uq_page.specs.declared.value_page.ValueHead.{ValueHead}
use Rattle.uq_page.specs.Numbers.{times}
use Rattle.uq_chain.specs.Grown.{grown}
use Rattle.uq_page.specs.Row.{IsRow}
use Rattle.uq_chain.specs.FreeList.{IsFreeList, Turned}
use Rattle.uq_chain.specs.Chain.{IsAppended, IsChain, IsTail, IsWritten, pieces}
use Rattle.uq_page.specs.NumberLaws.{times-append, times_self}
use Rattle.uq_chain.specs.GrownLaws.{grown_below}
use Rattle.uq_page.specs.RowLaws.{keeps_row, row_joined, row_once, row_within, get_set_other, get_set_same}
use Rattle.uq_chain.specs.TurnLaws.{turned_write}
use Rattle.uq_chain.specs.ChainLaws.{reads, value_tells}
use Rattle.uq_chain.proofs.PartLemmas.{part_drop, rest_len}
use Rattle.uq_chain.proofs.FreeingLemmas.{chain_not_free}

-- whole pages of a chain are passed
pub record Passing (pages : List (List ℕ)) (at left : ℕ) (row bytes : List ℕ) : Type 0 where
  pub passed : List ℕ
  pub rest : List ℕ
  pub split : row ≡ passed ++ rest
  pub behind : IsChain pages at rest (drop (length bytes - left) bytes)
  pub whole : VALUE_ROOM * length passed + left ≡ length bytes

pub passing_none : (pages : List (List ℕ)) (first len : ℕ) (row bytes : List ℕ) → IsChain pages first row bytes → length bytes ≡ len → Passing pages first len row bytes
passing_none pages first len row bytes is long =
    let none : length bytes - len ≡ 0 = omega arith in
    let P : ℕ → Type 0 = λ n. IsChain pages first row (drop n bytes) in
    record { passed = []; rest = row; split = refl; behind = subst P (sym none) is; whole = omega arith }

pub passing_more : (pages : List (List ℕ)) (at left : ℕ) (row bytes page : List ℕ) (head : ValueHead) → Passing pages at left row bytes → VALUE_ROOM < left → slice_get pages at ≡ Some page → head.next < 2 ^ 32 → take VALUE_AT page ≡ value_fields head → head.held ≡ min left VALUE_ROOM
    → Passing pages head.next (left - head.held) row bytes
passing_more pages at left row bytes page head so more there fits fields held =
    let whole = so.whole in
    let rest : List ℕ = drop (length bytes - left) bytes in
    let long = rest_len left bytes (omega arith) in
    let held_is : head.held ≡ min (length rest) VALUE_ROOM = held ∙ ap (λ n. min n VALUE_ROOM) (sym long) in
    let part = reads pages at so.rest rest page head so.behind (omega arith) there fits fields held_is in
    let gone : length bytes - (left - head.held) ≡ length bytes - (left - min left VALUE_ROOM) = ap (λ n. length bytes - (left - n)) held in
    let P : List ℕ → Type 0 = λ xs. IsChain pages head.next part.rest xs in
    let more_passed = length-append so.passed (at ∷ []) in
    record {
      passed = so.passed ++ at ∷ [];
      rest = part.rest;
      split = so.split ∙ ap (λ xs. so.passed ++ xs) part.split ∙ sym (append_assoc so.passed (at ∷ []) part.rest);
      behind = subst P (sym (ap (λ n. drop n bytes) gone ∙ part_drop left bytes (omega arith))) part.behind;
      whole = omega arith;
    }

pub passing_last : (pages : List (List ℕ)) (at left : ℕ) (row bytes page : List ℕ) (head : ValueHead) → Passing pages at left row bytes → left ≤ VALUE_ROOM → 1 ≤ left → slice_get pages at ≡ Some page → head.next < 2 ^ 32 → take VALUE_AT page ≡ value_fields head → head.held ≡ min left VALUE_ROOM
    → IsTail pages row bytes at head.held page
passing_last pages at left row bytes page head so less some there fits fields held =
    let whole = so.whole in
    let rest : List ℕ = drop (length bytes - left) bytes in
    let long = rest_len left bytes (omega arith) in
    let held_is : head.held ≡ min (length rest) VALUE_ROOM = held ∙ ap (λ n. min n VALUE_ROOM) (sym long) in
    let part = reads pages at so.rest rest page head so.behind (omega arith) there fits fields held_is in
    let full = part.behind.full in
    let dropped = length-drop VALUE_ROOM rest in
    let nil : part.rest ≡ [] = nil_from_length part.rest (omega arith) in
    let done : length bytes - left ≡ VALUE_ROOM * length so.passed = omega arith in
    record {
      passed = so.passed;
      split = so.split ∙ ap (λ xs. so.passed ++ xs) (part.split ∙ ap (λ xs. at ∷ xs) nil);
      whole = omega arith;
      bytes_are = part.bytes_are ∙ take_all VALUE_ROOM rest (omega arith) ∙ ap (λ n. drop n bytes) done;
    }

pieces-append : (xs ys bytes : List ℕ) → pieces (xs ++ ys) bytes ≡ pieces xs bytes ++ pieces ys (drop (VALUE_ROOM * length xs) bytes)
pieces-append [] ys bytes = refl
pieces-append (x ∷ xs) ys bytes =
    let size : VALUE_ROOM + VALUE_ROOM * length xs ≡ VALUE_ROOM * length (x ∷ xs) = omega arith in
    ap (λ ps. take VALUE_ROOM bytes ∷ ps) (pieces-append xs ys (drop VALUE_ROOM bytes) ∙ ap (λ zs. pieces xs (drop VALUE_ROOM bytes) ++ pieces ys zs) (drop-drop (VALUE_ROOM * length xs) VALUE_ROOM bytes ∙ ap (λ n. drop n bytes) size))

pieces-front : (xs bytes more : List ℕ) → VALUE_ROOM * length xs ≤ length bytes → pieces xs (bytes ++ more) ≡ pieces xs bytes
pieces-front [] bytes more fits = refl
pieces-front (x ∷ xs) bytes more fits =
    let dropped = length-drop VALUE_ROOM bytes in
    ap (λ p. p ∷ pieces xs (drop VALUE_ROOM (bytes ++ more))) (take-append-le VALUE_ROOM bytes more (omega arith))
    ∙ ap (λ ps. take VALUE_ROOM bytes ∷ ps) (ap (pieces xs) (drop-append-le VALUE_ROOM bytes more (omega arith)) ∙ pieces-front xs (drop VALUE_ROOM bytes) more (omega arith))

-- what fits into the last page, and what does not
front_is : (tail more : List ℕ) (now : ℕ) → length tail ≤ VALUE_ROOM → now ≡ min (length more) (VALUE_ROOM - length tail) → (take VALUE_ROOM (tail ++ more) ≡ tail ++ take now more) × (drop VALUE_ROOM (tail ++ more) ≡ drop now more)
front_is tail more now few is = by_cases (cases_lt (length more) (VALUE_ROOM - length tail))
  where
    by_cases : (length more < VALUE_ROOM - length tail) ⊎ (VALUE_ROOM - length tail ≤ length more) → (take VALUE_ROOM (tail ++ more) ≡ tail ++ take now more) × (drop VALUE_ROOM (tail ++ more) ≡ drop now more)
    by_cases (inl all) =
        let long = length-append tail more in
        (take_all VALUE_ROOM (tail ++ more) (omega arith) ∙ ap (λ xs. tail ++ xs) (sym (take_all now more (omega arith))), drop_all VALUE_ROOM (tail ++ more) (omega arith) ∙ sym (drop_all now more (omega arith)))
    by_cases (inr part) =
        let long = length-append tail (take now more) in
        let cut = length-take now more in
        let size : length (tail ++ take now more) ≡ VALUE_ROOM = omega arith in
        let split : tail ++ more ≡ (tail ++ take now more) ++ drop now more = ap (λ xs. tail ++ xs) (sym (take-append-drop now more)) ∙ sym (append_assoc tail (take now more) (drop now more)) in
        (ap (take VALUE_ROOM) split ∙ take_at (tail ++ take now more) (drop now more) VALUE_ROOM size, ap (drop VALUE_ROOM) split ∙ drop_at (tail ++ take now more) (drop now more) VALUE_ROOM size)

pub appended : (before mid : List (List ℕ)) (head last : ℕ) (free row bytes more page : List ℕ) (first at held now next : ℕ) → IsChain before first row bytes → IsTail before row bytes at held page → held ≤ VALUE_ROOM → 1 ≤ held → IsFreeList before head free
    → now ≡ min (length more) (VALUE_ROOM - held) → next < 2 ^ 32 → IsWritten before mid last free next (drop now more)
    → IsAppended before (slice_set mid at (value_page (take held (drop VALUE_AT page) ++ take now more) next)) last free row first (bytes ++ more)
appended before mid head last free row bytes more page first at held now next is tail few some list now_is fits written =
    let new = value_page (take held (drop VALUE_AT page) ++ take now more) next in
    let after = slice_set mid at new in
    let whole = tail.whole in
    let done = VALUE_ROOM * length tail.passed in
    let last_bytes : List ℕ = drop done bytes in
    let last_len : length last_bytes ≡ held = length-drop done bytes ∙ (omega arith) in
    let fronts = front_is last_bytes more now (omega arith) (now_is ∙ ap (λ n. min (length more) (VALUE_ROOM - n)) (sym last_len)) in
    let enough = written.chain.enough in
    let full = written.chain.full in
    let more_len = length-drop now more in
    let both = length-append bytes more in
    let count : length (tail.passed ++ at ∷ written.row) ≡ length tail.passed + length (at ∷ written.row) = length-append tail.passed (at ∷ written.row) in
    let turned = written.turned in
    let in_row : (k : ℕ) → times k row ≡ times k tail.passed + times k (at ∷ []) = λ k. ap (times k) tail.split ∙ times-append k tail.passed (at ∷ []) in
    let once : (k : ℕ) → times k row ≤ 1 = λ k. row_once value_page value_tells before first row (pieces row bytes) k is.linked in
    let not_free : (k : ℕ) → 1 ≤ times k row → times k free ≡ 0 = λ k among. chain_not_free before first row bytes head free k is list among in
    let within : (k : ℕ) → 1 ≤ times k row → k < length before = λ k among. (row_within value_page before first row (pieces row bytes) k is.linked among).1 in
    let self = times_self at in
    let at_row : 1 ≤ times at row = let split = in_row at in omega arith in
    let sums : (k : ℕ) → times k turned.left + times k written.row ≡ times k free + times k (grown (length before) (length mid)) = λ k.
    let all = turned.once k in
    let a = times-append k turned.left written.row in
    let b = times-append k (free ++ []) (grown (length before) (length mid)) in
    let c = ap (times k) (append-nil free) in
    omega arith in
    let at_sum = sums at in
    let at_free = not_free at at_row in
    let at_within = within at at_row in
    let at_new = grown_below at (length before) (length mid) at_within in
    let longer = turned.longer in
    let stays : (k : ℕ) → 1 ≤ times k tail.passed → slice_get after k ≡ slice_get before k = λ k among.
    let split = in_row k in
    let one = once k in
    let free_k = not_free k (omega arith) in
    let nil = ap (times k) (append-nil free) in
    get_set_other mid at k new (λ same. let own : times k (at ∷ []) ≡ 1 = ap (λ m. times m (at ∷ [])) same ∙ self in absurd (omega arith)) ∙ turned.others k (within k (omega arith)) (omega arith) in
    let new_stays : (k : ℕ) → 1 ≤ times k written.row → slice_get after k ≡ slice_get mid k = λ k among.
    get_set_other mid at k new (λ same. let none : times k written.row ≡ 0 = ap (λ m. times m written.row) same ∙ (omega arith) in absurd (omega arith)) in
    let X : List ℕ = last_bytes ++ more in
    let tail_linked : IsRow value_page after at (at ∷ written.row) (pieces (at ∷ written.row) X) = record {
      is = refl;
      some = (row_within value_page before first row (pieces row bytes) at is.linked at_row).0;
      next = next;
      fits = fits;
      page = get_set_same mid at new (omega arith) ∙ ap (λ xs. Some (value_page xs next)) (ap (λ xs. xs ++ take now more) tail.bytes_are ∙ sym fronts.0);
      rest = subst (λ (xs : List ℕ). IsRow value_page after next written.row (pieces written.row xs)) (sym fronts.1) (keeps_row value_page mid after next written.row (pieces written.row (drop now more)) new_stays written.chain.linked);
    } in
    let old_linked : IsRow value_page before first (tail.passed ++ at ∷ []) (pieces tail.passed bytes ++ take VALUE_ROOM last_bytes ∷ []) =
    subst (λ (ps : List (List ℕ)). IsRow value_page before first (tail.passed ++ at ∷ []) ps) (pieces-append tail.passed (at ∷ []) bytes) (subst (λ (xs : List ℕ). IsRow value_page before first xs (pieces xs bytes)) tail.split is.linked) in
    let joined = row_joined value_page before after first at tail.passed [] (pieces tail.passed bytes) (take VALUE_ROOM last_bytes) [] (at ∷ written.row) (pieces (at ∷ written.row) X) (pieces_len tail.passed bytes) stays old_linked tail_linked in
    let pieces_are : pieces tail.passed bytes ++ pieces (at ∷ written.row) X ≡ pieces (tail.passed ++ at ∷ written.row) (bytes ++ more) =
    sym (pieces-append tail.passed (at ∷ written.row) (bytes ++ more) ∙ ap (λ ps. ps ++ pieces (at ∷ written.row) (drop done (bytes ++ more))) (pieces-front tail.passed bytes more (omega arith))
    ∙ ap (λ xs. pieces tail.passed bytes ++ pieces (at ∷ written.row) xs) (drop-append-le done bytes more (omega arith))) in
    let made_is : tail.passed ++ at ∷ written.row ≡ row ++ written.row = sym (append_assoc tail.passed (at ∷ []) written.row) ∙ ap (λ xs. xs ++ written.row) (sym tail.split) in
    record {
      made = tail.passed ++ at ∷ written.row;
      chain = record { linked = subst (λ (ps : List (List ℕ)). IsRow value_page after first (tail.passed ++ at ∷ written.row) ps) pieces_are joined; enough = omega arith; full = omega arith };
      turned = subst (λ (xs : List ℕ). Turned before after last free row xs) (sym made_is) (turned_write before mid last free row (row ++ written.row) at new
          (record {
            left = turned.left;
            free = turned.free;
            once = λ k.
                let all = sums k in
                let a = times-append k turned.left (row ++ written.row) in
                let b = times-append k row written.row in
                let c = times-append k (free ++ row) (grown (length before) (length mid)) in
                let d = times-append k free row in
                omega arith;
            count = let all = turned.count in let parts = length-append row written.row in omega arith;
            longer = turned.longer;
            others = λ k inside apart. let d = times-append k free row in let nil = ap (times k) (append-nil free) in turned.others k inside (omega arith);
          })
          (let b = times-append at row written.row in omega arith) (omega arith));
    }
  where
    pieces_len : (xs bytes : List ℕ) → length xs ≡ length (pieces xs bytes)
    pieces_len [] bytes = refl
    pieces_len (x ∷ xs) bytes = let rest = pieces_len xs (drop VALUE_ROOM bytes) in omega arith
