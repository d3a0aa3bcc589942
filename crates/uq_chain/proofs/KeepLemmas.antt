-- Pages that are told, of which those on a path change.
use Rattle.std.proofs.Common.{◌≡◌, ◌⊎◌, inl, inr, ℕ, ◌+◌, ◌≤◌, List, [], ◌∷◌, ◌++◌, length, Option, Some, Result, Ok, Err, is_some, refl, sym, ap, subst, ◌∙◌, arith}
use Rattle.std.specs.Prelude.{slice_get, slice_set, IfOk, OnOk}
use Rattle.std.specs.Option.{ForSome, option_map}
use Rattle.std.proofs.lemmas.Option.{same_Some}
use Rattle.uq_page.specs.declared.value_page.ValueHead.{ValueHead}
use Rattle.uq_page.specs.FreePage.{free_page, IsFreePage}
use Rattle.uq_page.specs.NextLaws.{value_not_free}
use Rattle.uq_page.specs.Numbers.{times}
use Rattle.uq_page.specs.NumberLaws.{none_or_some, times-append, times_self}
use Rattle.uq_page.specs.RowLaws.{get_longer, get_set_other}
use Rattle.uq_page.specs.ValuePage.{IsValueHead, value_page}
use Rattle.uq_chain.specs.ChainLaws.{take-value_page}
use Rattle.uq_chain.specs.FreeList.{GrowsLast, IsTaken}
use Rattle.uq_chain.specs.Path.{Along, IsNotFree, IsPath, IsValuePage, KeepsBut, KeepsButBoth, KeepsButFree, KeepsPages}
use Rattle.uq_chain.specs.PathLaws.{along_none, along_then, along_set, along_grown, path_then}
use Rattle.uq_chain.proofs.ToldLemmas.{told_as, told_still}

-- a page of a chain is in use
pub value_in_use : (bytes : List ℕ) (next : ℕ) → IsNotFree (value_page bytes next)
value_in_use bytes next n free = value_not_free (value_page bytes next) (record { held = length bytes; next = next }) n (take-value_page bytes next) free.bytes

-- a free page is none of a chain
pub free_no_value : (head n : ℕ) → IsValuePage (free_page head) n → ⊥
free_no_value head n is = value_not_free (free_page head) is.head head is.is.bytes refl

pub keeps_none : (Is : List ℕ → ℕ → Type 0) (old new : Option (List (List ℕ))) (head : ℕ) → new ≡ old → KeepsBut Is old new head head
keeps_none Is old new head same before was after now =
    let P : List (List ℕ) → Type 0 = λ pages. Along Is before pages head head in
    subst P (same_Some before after (sym was ∙ sym same ∙ now)) (along_none Is before head)

pub keeps_then : (Is : List ℕ → ℕ → Type 0) (old mid new : Option (List (List ℕ))) (head at last : ℕ) → is_some mid ≡ is_some old → KeepsBut Is old mid head at → KeepsBut Is mid new at last → KeepsBut Is old new head last
keeps_then Is old mid new head at last told first second before was after now =
    let middle = told_still old mid before told was in
    along_then Is before middle.0 after head at last (first before was middle.0 middle.1) (second middle.0 middle.1 after now)

pub keeps_grown : (Is : List ℕ → ℕ → Type 0) (old new : Option (List (List ℕ))) (head : ℕ) (page : List ℕ) → new ≡ option_map (λ pages. pages ++ page ∷ []) old → ((n : ℕ) → Is page n → ⊥) → KeepsBut Is old new head head
keeps_grown Is old new head page change other before was after now =
    let P : List (List ℕ) → Type 0 = λ pages. Along Is before pages head head in
    subst P (told_as (λ pages. pages ++ page ∷ []) old new before after change was now) (along_grown Is before head page other)

pub keeps_set : (Is : List ℕ → ℕ → Type 0) (old mid new : Option (List (List ℕ))) (head n next : ℕ) (page : List ℕ) → mid ≡ old → n ≡ head → ForSome old (λ pages. IsPath Is pages head (head ∷ []) next)
    → new ≡ option_map (λ pages. slice_set pages n page) mid → ((k : ℕ) → Is page k → ⊥) → KeepsBut Is old new head next
keeps_set Is old mid new head n next page same at leads change other before was after now =
    let step = leads before was in
    let P : List (List ℕ) → Type 0 = λ pages. Along Is before pages head next in
    let Q : ℕ → Type 0 = λ k. Along Is before (slice_set before k page) head next in
    let R : ℕ → Type 0 = λ k. Along Is before (slice_set before head page) head k in
    subst P (told_as (λ pages. slice_set pages n page) mid new before after change (same ∙ was) now)
    (subst Q (sym at) (subst R step.rest (along_set Is before head step.next step.page page step.there step.kind other)))

pub keeps_all : (old new : Option (List (List ℕ))) → new ≡ old → KeepsPages old new
keeps_all old new same before was after now n within = ap (λ pages. slice_get pages n) (sym (same_Some before after (sym was ∙ sym same ∙ now)))

pub keeps_longer : (old new : Option (List (List ℕ))) (page : List ℕ) → new ≡ option_map (λ pages. pages ++ page ∷ []) old → KeepsPages old new
keeps_longer old new page change before was after now n within =
    ap (λ pages. slice_get pages n) (sym (told_as (λ pages. pages ++ page ∷ []) old new before after change was now)) ∙ get_longer before (page ∷ []) n within

-- the last page of a chain is written after free pages were taken
pub keeps_both : (old mid new : Option (List (List ℕ))) (head now_head first at : ℕ) (old_page page : List ℕ) (valued : ValueHead) → is_some mid ≡ is_some old → KeepsBut IsFreePage old mid head now_head
    → ForSome old (λ pages. (path : List ℕ) × IsPath IsValuePage pages first path at) → ForSome old (λ pages. slice_get pages at ≡ Some old_page) → IsValueHead old_page valued
    → new ≡ option_map (λ pages. slice_set pages at page) mid → KeepsButBoth old new head first
keeps_both old mid new head now_head first at old_page page valued told taken leads there is change before was after now =
    let middle = told_still old mid before told was in
    let free = taken before was middle.0 middle.1 in
    let path = leads before was in
    let end : IsPath IsValuePage before at (at ∷ []) valued.next = record { is = refl; page = old_page; next = valued.next; there = there before was; kind = record { head = valued; is = is; names = refl }; rest = refl } in
    let same = told_as (λ pages. slice_set pages at page) mid new middle.0 after change middle.1 now in
    let self = times_self at in
    record {
      free = free.path;
      free_last = now_head;
      free_leads = free.leads;
      chain = path.0 ++ at ∷ [];
      chain_last = valued.next;
      chain_leads = path_then IsValuePage before first at valued.next path.0 (at ∷ []) path.1 end;
      others = λ n within apart.
          let sum = times-append n free.path (path.0 ++ at ∷ []) in
          let chain = times-append n path.0 (at ∷ []) in
          ap (λ pages. slice_get pages n) (sym same)
          ∙ get_set_other middle.0 at n page (λ here. let one : times n (at ∷ []) ≡ 1 = ap (λ k. times k (at ∷ [])) here ∙ self in absurd (omega arith))
          ∙ free.others n within (omega arith);
    }

-- two facts of an answer that is Ok
pub on_both : {T E P Q R : Type 0} (r : Result T E) → (P → Q → R) → OnOk r P → OnOk r Q → OnOk r R
on_both (Ok x) f p q = f p q
on_both (Err e) f p q = tt

pub keeps_appended : (old new : Option (List (List ℕ))) (head now : ℕ) (page : List ℕ) → IsNotFree page → new ≡ option_map (λ pages. pages ++ page ∷ []) old → now ≡ head → KeepsButFree old new head now
keeps_appended old new head now page used change same =
    subst (λ (h : ℕ). KeepsButFree old new head h) (sym same) (keeps_grown IsFreePage old new head page change used)

-- the page that was taken, by the ways in which it is
pub taken_new : {E : Type 0} (r : Result ℕ E) (head last before now : ℕ) → head ≡ 0 → IfOk r (λ n. n ≡ before) → OnOk r (now ≡ before + 1) → OnOk r (last ≡ head) → IfOk r (λ n. IsTaken head last before now n)
taken_new (Ok n) head last before now none is larger list = record { listed = λ some. absurd (some none); grown = λ _. (is, larger, list ∙ none) }
taken_new (Err e) head last before now none is larger list = tt

pub taken_listed : {E : Type 0} (r : Result ℕ E) (head last before now : ℕ) → (head ≡ 0 → ⊥) → IfOk r (λ n. n ≡ head) → now ≡ before → IfOk r (λ n. IsTaken head last before now n)
taken_listed (Ok n) head last before now some is same = record { listed = λ _. (is, same); grown = λ none. absurd (some none) }
taken_listed (Err e) head last before now some is same = tt

-- one page more
pub grows_on : (head at last before mid now n : ℕ) → GrowsLast at before mid → IsTaken at last mid now n → GrowsLast last before now
grows_on head at last before mid now n first next = by_cases (none_or_some at) first
  where
    by_cases : (at ≡ 0) ⊎ (1 ≤ at) → (mid ≡ before) ⊎ (at ≡ 0) → (now ≡ before) ⊎ (last ≡ 0)
    by_cases (inl none) so = inr (next.grown none).2
    by_cases (inr some) (inl same) = inl ((next.listed (λ none. absurd (omega arith))).1 ∙ same)
    by_cases (inr some) (inr none) = absurd (omega arith)
