-- Cells laid into the pages of a row.
use Rattle.std.proofs.Common.{◌≡◌, ◌⊎◌, inl, inr, ℕ, ◌+◌, ◌<◌, ◌≤◌, ◌^◌, List, [], ◌∷◌, ◌++◌, length, take, drop, get_or, Option, Some, None, refl, sym, ap, subst, ◌∙◌, arith, append_assoc, append-nil, length-append, is_some}
use Rattle.std.specs.Prelude.{slice_get, slice_set, min}
use Rattle.std.specs.Option.{option_map}
use Rattle.std.proofs.lemmas.Bool.{false≢true}
use Rattle.std.proofs.lemmas.List.{take_more, drop_more, drop_all, take_all, take-append-drop, take_min, length-drop}
use Rattle.std.proofs.lemmas.Option.{same_Some}
use Rattle.uq_page.specs.Numbers.{times}
use Rattle.uq_chain.specs.Grown.{grown}
use Rattle.uq_chain.specs.GrownLaws.{grown_below}
use Rattle.uq_page.specs.Row.{IsRow}
use Rattle.uq_chain.specs.FreeList.{IsFreeList, Turned}
use Rattle.uq_page.specs.NumberLaws.{times-append, times-cons, times_self, none_or_some}
use Rattle.uq_page.specs.RowLaws.{keeps_row, row_within, get_set_other, get_set_same, row_length}
use Rattle.uq_chain.specs.TurnLaws.{turned_then, turned_as, turned_write, listed_once}
use Rattle.uq_hash.specs.Cells.{bucket_page}
use Rattle.uq_hash.specs.Refill.{Owned}

-- what was told is told
pub told_still : (old new : Option (List (List ℕ))) (before : List (List ℕ)) → is_some new ≡ is_some old → old ≡ Some before → (now : List (List ℕ)) × (new ≡ Some now)
told_still old None before same was = absurd (false≢true (same ∙ ap is_some was))
told_still old (Some now) before same was = (now, refl)

-- a page at a place of the row stands once, and so not before
pub place_once : (row : List ℕ) (j n : ℕ) → j < length row → n ≡ get_or row j 0 → times n row ≤ 1 → (times n (take j row) ≡ 0) × (1 ≤ times n row)
place_once row j n within is once =
    let self : times n (n ∷ []) ≡ 1 = times_self n in
    let split : times n row ≡ times n (take j row) + times n (drop j row) = sym (ap (times n) (take-append-drop j row)) ∙ times-append n (take j row) (drop j row) in
    let here : times n (drop j row) ≡ times n (n ∷ drop (j + 1) row) = ap (times n) (drop_more row j 0 within) ∙ ap (λ m. times n (m ∷ drop (j + 1) row)) (sym is) in
    let cons = times-cons n n (drop (j + 1) row) in
    (omega arith, omega arith)

-- a page of the row stays while the pages before it are given up
pub still_there : (before now : List (List ℕ)) (head : ℕ) (free row : List ℕ) (j n : ℕ) {page : List ℕ} → Owned before row free → (so : Turned before now head free (take j row) []) → j < length row → n ≡ get_or row j 0 → slice_get before n ≡ Some page → slice_get now n ≡ Some page
still_there before now head free row j n owned so within is there =
    let once = owned.once n in
    let here = place_once row j n within is (omega arith) in
    let none_before = here.0 in
    let some = here.1 in
    let inside = owned.within n some in
    let s3 = times-append n free (take j row) in
    so.others n inside (omega arith) ∙ there

pub given_more : (before now after : List (List ℕ)) (head next : ℕ) (free row : List ℕ) (j n : ℕ) → j < length row → n ≡ get_or row j 0 → (so : Turned before now head free (take j row) [])
    → Turned now after next so.left (n ∷ []) [] → Turned before after next free (take (j + 1) row) []
given_more before now after head next free row j n within is so given =
    let P : List ℕ → Type 0 = λ xs. Turned before after next free xs [] in
    subst P (ap (λ m. take j row ++ m ∷ []) is ∙ sym (take_more row j 0 within)) (turned_then before now after head next free (take j row) [] (n ∷ []) [] so given)

-- a page in use is in the row, free or new, once
owned_once : (before : List (List ℕ)) (head : ℕ) (row free : List ℕ) (size n : ℕ) → Owned before row free → IsFreeList before head free → length before ≤ size → times n row + times n free + times n (grown (length before) size) ≤ 1
owned_once before head row free size n owned list up =
    by_cases (none_or_some (times n row)) (owned.once n) (listed_once before head free size n up list)
  where
    by_cases : (times n row ≡ 0) ⊎ (1 ≤ times n row) → times n row + times n free ≤ 1 → times n free + times n (grown (length before) size) ≤ 1 → times n row + times n free + times n (grown (length before) size) ≤ 1
    by_cases (inl none) once listed = omega arith
    by_cases (inr some) once listed = let fresh = grown_below n (length before) size (owned.within n some) in omega arith

-- The pages from number `left` on are laid, and the row's pages before it are kept for the others.
pub record Laying (before now : List (List ℕ)) (head : ℕ) (free row : List ℕ) (groups : List (List (List ℕ))) (left next : ℕ) : Type 0 where
  pub made : List ℕ
  pub linked : IsRow bucket_page now next made (drop left groups)
  pub turned : Turned before now head free row (take left row ++ made)

used_apart : (before now : List (List ℕ)) (head last : ℕ) (free row made : List ℕ) (n : ℕ) → Owned before row free → IsFreeList before head free → (so : Turned before now last free row made) → times n so.left + times n made ≤ 1
used_apart before now head last free row made n owned list so =
    let all = so.once n in
    let one = owned_once before head row free (length now) n owned list so.longer in
    let s1 = times-append n so.left made in
    let s3 = times-append n (free ++ row) (grown (length before) (length now)) in
    let s4 = times-append n free row in
    omega arith

laying_apart : (before now : List (List ℕ)) (head last : ℕ) (free row : List ℕ) (groups : List (List (List ℕ))) (left next n : ℕ) → Owned before row free → IsFreeList before head free → (so : Laying before now last free row groups left next)
    → times n so.turned.left + times n (take left row) + times n so.made ≤ 1
laying_apart before now head last free row groups left next n owned list so =
    let all = so.turned.once n in
    let one = owned_once before head row free (length now) n owned list so.turned.longer in
    let s1 = times-append n so.turned.left (take left row ++ so.made) in
    let s2 = times-append n (take left row) so.made in
    let s3 = times-append n (free ++ row) (grown (length before) (length now)) in
    let s4 = times-append n free row in
    omega arith

pub laying_none : (before now : List (List ℕ)) (head : ℕ) (free row : List ℕ) (groups : List (List (List ℕ))) (left kept : ℕ) → length groups ≡ left → kept ≡ min left (length row) → Turned before now head free (drop kept row) [] → Laying before now head free row groups left 0
laying_none before now head free row groups left kept count kept_is given =
    let P : List (List (List ℕ)) → Type 0 = λ gs. IsRow bucket_page now 0 [] gs in
    let front : take kept row ≡ take left row = ap (λ n. take n row) kept_is ∙ take_min left row in
    let whole = take-append-drop kept row in
    let long = ap length whole in
    let parts = length-append (take kept row) (drop kept row) in
    let counted = given.count in
    let nil = append-nil (take left row) in
    let Q : List ℕ → Type 0 = λ xs. Turned before now head free row xs in
    record {
      made = [];
      linked = subst P (sym (drop_all left groups (omega arith))) refl;
      turned = subst Q (front ∙ sym nil) (record {
        left = given.left;
        free = given.free;
        once = λ n.
            let all = given.once n in
            let split = ap (times n) whole in
            let s0 = times-append n (take kept row) (drop kept row) in
            let s1 = times-append n given.left [] in
            let s2 = times-append n (free ++ drop kept row) (grown (length before) (length now)) in
            let s3 = times-append n free (drop kept row) in
            let s4 = times-append n given.left (take kept row) in
            let s5 = times-append n (free ++ row) (grown (length before) (length now)) in
            let s6 = times-append n free row in
            omega arith;
        count = omega arith;
        longer = given.longer;
        others = λ n inside apart.
            let split = ap (times n) whole in
            let s0 = times-append n (take kept row) (drop kept row) in
            let s3 = times-append n free (drop kept row) in
            let s6 = times-append n free row in
            given.others n inside (omega arith);
      });
    }

-- one more page is laid, on a page of the row
pub laying_reuse : (before now : List (List ℕ)) (head last : ℕ) (free row : List ℕ) (groups : List (List (List ℕ))) (i next n : ℕ) (page : List ℕ) → Owned before row free → IsFreeList before head free → Laying before now last free row groups (i + 1) next
    → i < length row → i < length groups → n ≡ get_or row i 0 → 1 ≤ n → next < 2 ^ 32 → page ≡ bucket_page (get_or groups i []) next → Laying before (slice_set now n page) last free row groups i n
laying_reuse before now head last free row groups i next n page owned list so in_row within is some fits page_is =
    let after = slice_set now n page in
    let apart = laying_apart before now head last free row groups (i + 1) next n owned list so in
    let front : take (i + 1) row ≡ take i row ++ n ∷ [] = take_more row i 0 in_row ∙ ap (λ m. take i row ++ m ∷ []) (sym is) in
    let once = owned.once n in
    let here = place_once row i n in_row is (omega arith) in
    let some_row = here.1 in
    let self = times_self n in
    let among : times n (take (i + 1) row) ≡ times n (take i row) + times n (n ∷ []) = ap (times n) front ∙ times-append n (take i row) (n ∷ []) in
    let inside = owned.within n some_row in
    let longer = so.turned.longer in
    let P : List (List (List ℕ)) → Type 0 = λ gs. IsRow bucket_page after n (n ∷ so.made) gs in
    let made_len : length (take (i + 1) row ++ so.made) ≡ length (take i row ++ n ∷ so.made) = ap (λ xs. length (xs ++ so.made)) front ∙ ap length (append_assoc (take i row) (n ∷ []) so.made) in
    let moved : Turned before now last free row (take i row ++ n ∷ so.made) = turned_as before now last free row (take (i + 1) row ++ so.made) row (take i row ++ n ∷ so.made) so.turned
    (λ k. refl) refl (λ k. ap (λ xs. times k (xs ++ so.made)) front ∙ ap (times k) (append_assoc (take i row) (n ∷ []) so.made)) made_len in
    let m1 = times-append n (take i row) (n ∷ so.made) in
    let m2 = times-cons n n so.made in
    record {
      made = n ∷ so.made;
      linked = subst P (sym (drop_more groups i [] within)) (record {
        is = refl;
        some = some;
        next = next;
        fits = fits;
        page = get_set_same now n page (omega arith) ∙ ap Some page_is;
        rest = keeps_row bucket_page now after next so.made (drop (i + 1) groups) (λ k made_k. get_set_other now n k page (λ same. let none : times n so.made ≡ 0 = omega arith in let other : times k so.made ≡ 0 = ap (λ m. times m so.made) same ∙ none in absurd (omega arith))) so.linked;
      });
      turned = let used = used_apart before now head last free row (take i row ++ n ∷ so.made) n owned list moved in turned_write before now last free row (take i row ++ n ∷ so.made) n page moved (omega arith) (omega arith);
    }

-- one more page is laid, on a page that is taken
pub laying_place : (before now after : List (List ℕ)) (head last new_head : ℕ) (free row : List ℕ) (groups : List (List (List ℕ))) (i next n : ℕ) (page : List ℕ) → Owned before row free → IsFreeList before head free → (so : Laying before now last free row groups (i + 1) next)
    → length row ≤ i → i < length groups → 1 ≤ n → next < 2 ^ 32 → page ≡ bucket_page (get_or groups i []) next → Turned now after new_head so.turned.left [] (n ∷ []) → slice_get after n ≡ Some page → Laying before after new_head free row groups i n
laying_place before now after head last new_head free row groups i next n page owned list so past within some fits page_is taken there =
    let P : List (List (List ℕ)) → Type 0 = λ gs. IsRow bucket_page after n (n ∷ so.made) gs in
    let same : take (i + 1) row ≡ take i row = take_all (i + 1) row (omega arith) ∙ sym (take_all i row past) in
    let joined = turned_then before now after last new_head free row (take (i + 1) row ++ so.made) [] (n ∷ []) so.turned taken in
    let l1 = length-append (take (i + 1) row ++ so.made) (n ∷ []) in
    let l2 = length-append (take (i + 1) row) so.made in
    let l3 = length-append (take i row) (n ∷ so.made) in
    let l4 = ap length same in
    record {
      made = n ∷ so.made;
      linked = subst P (sym (drop_more groups i [] within)) (record {
        is = refl;
        some = some;
        next = next;
        fits = fits;
        page = there ∙ ap Some page_is;
        rest = keeps_row bucket_page now after next so.made (drop (i + 1) groups) (λ k made_k.
            let inside = row_within bucket_page now next so.made (drop (i + 1) groups) k so.linked made_k in
            let apart = laying_apart before now head last free row groups (i + 1) next k owned list so in
            let sum = times-append k so.turned.left [] in
            taken.others k inside.1 (omega arith)) so.linked;
      });
      turned = turned_as before after new_head free (row ++ []) ((take (i + 1) row ++ so.made) ++ n ∷ []) row (take i row ++ n ∷ so.made) joined
          (λ k. ap (times k) (append-nil row)) (ap length (append-nil row))
          (λ k.
          let a = times-append k (take (i + 1) row ++ so.made) (n ∷ []) in
          let b = times-append k (take (i + 1) row) so.made in
          let c = times-append k (take i row) (n ∷ so.made) in
          let d = times-cons k n so.made in
          let e = ap (times k) same in
          omega arith)
          (omega arith);
    }

-- where there is no page for the next one, the free list had too few from the beginning
pub laying_short : (before now : List (List ℕ)) (last : ℕ) (free row : List ℕ) (groups : List (List (List ℕ))) (i next : ℕ) (so : Laying before now last free row groups (i + 1) next) → length row ≤ i → i < length groups
    → length so.turned.left < 1 → length free + length row < length groups
laying_short before now last free row groups i next so past within none =
    let count = so.turned.count in
    let longer = so.turned.longer in
    let all = take_all (i + 1) row (omega arith) in
    let both = ap length all in
    let parts = length-append (take (i + 1) row) so.made in
    let made = row_length bucket_page now next so.made (drop (i + 1) groups) so.linked in
    let dropped = length-drop (i + 1) groups in
    omega arith

-- the rest of a row that is in use
pub owned_rest : (pages : List (List ℕ)) (row free : List ℕ) (k : ℕ) → Owned pages row free → Owned pages (drop k row) free
owned_rest pages row free k owned = record {
  within = λ n some. owned.within n (let less = fewer row k n in omega arith);
  once = λ n. let less = fewer row k n in let once = owned.once n in omega arith;
}
  where
    fewer : (row : List ℕ) (k n : ℕ) → times n (drop k row) ≤ times n row
    fewer row k n = let split = ap (times n) (take-append-drop k row) in let sum = times-append n (take k row) (drop k row) in omega arith

pub is_some-map : (f : List (List ℕ) → List (List ℕ)) (o : Option (List (List ℕ))) → is_some (option_map f o) ≡ is_some o
is_some-map f None = refl
is_some-map f (Some x) = refl

pub written_as : (n : ℕ) (page : List ℕ) (old new : Option (List (List ℕ))) (before after : List (List ℕ)) → new ≡ option_map (λ pages. slice_set pages n page) old → old ≡ Some before → new ≡ Some after → slice_set before n page ≡ after
written_as n page old new before after change was is = same_Some (slice_set before n page) after (sym (change ∙ ap (option_map (λ pages. slice_set pages n page)) was) ∙ is)
