-- Pages that are told, before a call and after it.
use Rattle.std.proofs.Common.{◌≡◌, ℕ, ◌<◌, ◌≤◌, ◌^◌, List, [], ◌∷◌, ◌++◌, length, Option, Some, None, is_some, refl, sym, ap, subst, ◌∙◌, arith}
use Rattle.std.specs.Prelude.{slice_get, slice_set}
use Rattle.std.specs.Option.{ForSome, option_map}
use Rattle.std.proofs.lemmas.Option.{none-some, same_Some, slice_get_within}
use Rattle.std.proofs.lemmas.Bool.{false≢true}
use Rattle.uq_page.specs.FreePage.{free_page, IsFreePage}
use Rattle.uq_page.specs.Numbers.{times}
use Rattle.uq_chain.specs.FreeList.{IsFreeList, Turned, Turns, WasRight}
use Rattle.uq_page.specs.NumberLaws.{times_self}
use Rattle.uq_page.specs.RowLaws.{get_last, get_set_same}
use Rattle.uq_chain.specs.TurnLaws.{turned_reused, turned_grown, turned_given, turned_write, taken_apart, given_back}

-- what is told after a change of what was told
pub told_as : (f : List (List ℕ) → List (List ℕ)) (old new : Option (List (List ℕ))) (before after : List (List ℕ))
    → new ≡ option_map f old → old ≡ Some before → new ≡ Some after → f before ≡ after
told_as f old new before after change was is = same_Some (f before) after (sym (change ∙ ap (option_map f) was) ∙ is)

pub told_same : (old new : Option (List (List ℕ))) (before after : List (List ℕ)) → new ≡ old → old ≡ Some before → new ≡ Some after → before ≡ after
told_same old new before after same was is = same_Some before after (sym (same ∙ was) ∙ is)

pub turns_given : (old new : Option (List (List ℕ))) (head n size : ℕ) (page : List ℕ) → ForSome old (λ pages. size ≡ length pages) → head < 2 ^ 32 → 1 ≤ n → n < size
    → ForSome old (λ pages. (row : List ℕ) → IsFreeList pages head row → times n row ≡ 0) → new ≡ option_map (λ pages. slice_set pages n page) old → page ≡ free_page head
    → Turns old new head n (n ∷ []) []
turns_given old new head n size page count fits some within used change is before was row free after now =
    let size_is = count before was in
    let P : List (List ℕ) → Type 0 = λ pages. Turned before pages n row (n ∷ []) [] in
    subst P (ap (λ x. slice_set before n x) (sym is) ∙ told_as (λ pages. slice_set pages n page) old new before after change was now)
    (turned_given before head n row fits some (omega arith) (used before was row free) free)

pub turns_grown : (old new : Option (List (List ℕ))) (head n size : ℕ) (page : List ℕ) → ForSome old (λ pages. size ≡ length pages) → head ≡ 0 → n ≡ size
    → new ≡ option_map (λ pages. pages ++ page ∷ []) old → Turns old new head head [] (n ∷ [])
turns_grown old new head n size page count none is change before was row free after now =
    let size_is : n ≡ length before = is ∙ count before was in
    let P : List (List ℕ) → ℕ → ℕ → Type 0 = λ pages h k. Turned before pages h row [] (k ∷ []) in
    let H : ℕ → Type 0 = λ h. IsFreeList before h row in
    let grown = turned_grown before page row (subst H none free) in
    subst (λ pages. P pages head n) (told_as (λ pages. pages ++ page ∷ []) old new before after change was now)
    (subst (λ k. P (before ++ page ∷ []) head k) (sym size_is) (subst (λ h. P (before ++ page ∷ []) h (length before)) (sym none) grown))

pub turns_reused : (old new : Option (List (List ℕ))) (head next : ℕ) (page : List ℕ) → (head ≡ 0 → ⊥) → ForSome old (λ pages. slice_get pages head ≡ Some page) → IsFreePage page next
    → new ≡ old → Turns old new head next [] (head ∷ [])
turns_reused old new head next page some there is same before was row free after now =
    let P : List (List ℕ) → Type 0 = λ pages. Turned before pages next row [] (head ∷ []) in
    subst P (told_same old new before after same was now) (turned_reused before head next page row some (there before was) is free)

-- the head of a free list that is right is a free page
pub head_is_free : (pages : List (List ℕ)) (head : ℕ) (page row : List ℕ) → (head ≡ 0 → ⊥) → slice_get pages head ≡ Some page → IsFreeList pages head row → (next : ℕ) × IsFreePage page next
head_is_free pages head page [] some there free = absurd (some free)
head_is_free pages head page (n ∷ row) some there free =
    (free.next, record { fits = free.fits; bytes = same_Some page (free_page free.next) (sym there ∙ ap (slice_get pages) free.is ∙ free.page) })

pub head_within : (pages : List (List ℕ)) (head : ℕ) (row : List ℕ) → (head ≡ 0 → ⊥) → IsFreeList pages head row → head < length pages
head_within pages head [] some free = absurd (some free)
head_within pages head (n ∷ row) some free = let is = free.is in let within = slice_get_within pages n _ free.page in omega arith

pub head_none : (pages : List (List ℕ)) (head : ℕ) (row : List ℕ) → head ≡ 0 → IsFreeList pages head row → length row < 1
head_none pages head [] none free = omega arith
head_none pages head (n ∷ row) none free = let is = free.is in let some = free.some in absurd (omega arith)

-- a page is taken and written
pub turns_placed : (old mid new : Option (List (List ℕ))) (head last n : ℕ) (page : List ℕ) → Turns old mid head last [] (n ∷ []) → new ≡ option_map (λ pages. slice_set pages n page) mid
    → Turns old new head last [] (n ∷ [])
turns_placed old None new head last n page taken change before was row free after now = absurd (none-some after (sym change ∙ now))
turns_placed old (Some mid) new head last n page taken change before was row free after now =
    let first = taken before was row free mid refl in
    let self = times_self n in
    let apart = taken_apart before mid head last row (n ∷ []) n free first in
    let P : List (List ℕ) → Type 0 = λ pages. Turned before pages last row [] (n ∷ []) in
    subst P (same_Some (slice_set mid n page) after (sym change ∙ now)) (turned_write before mid last row [] (n ∷ []) n page first (omega arith) (omega arith))

pub placed_there : (mid new : Option (List (List ℕ))) (n size : ℕ) (page : List ℕ) → ForSome mid (λ pages. size ≡ length pages) → n < size → new ≡ option_map (λ pages. slice_set pages n page) mid
    → ForSome new (λ after. slice_get after n ≡ Some page)
placed_there None new n size page count within change after now = absurd (none-some after (sym change ∙ now))
placed_there (Some mid) new n size page count within change after now =
    let size_is = count mid refl in
    let P : List (List ℕ) → Type 0 = λ pages. slice_get pages n ≡ Some page in
    subst P (same_Some (slice_set mid n page) after (sym change ∙ now)) (get_set_same mid n page (omega arith))

-- what was told is told
pub told_still : (old new : Option (List (List ℕ))) (before : List (List ℕ)) → is_some new ≡ is_some old → old ≡ Some before → (now : List (List ℕ)) × (new ≡ Some now)
told_still old None before same was = absurd (false≢true (same ∙ ap is_some was))
told_still old (Some now) before same was = (now, refl)

pub was_right : (old new : Option (List (List ℕ))) (head n size : ℕ) (page : List ℕ) → ForSome old (λ pages. size ≡ length pages) → head < 2 ^ 32 → 1 ≤ n → n < size
    → new ≡ option_map (λ pages. slice_set pages n page) old → page ≡ free_page head → WasRight old new head n
was_right old new head n size page count fits some within change is after now left free before was =
    let size_is = count before was in
    let same : slice_set before n page ≡ after = told_as (λ pages. slice_set pages n page) old new before after change was now in
    let P : List (List ℕ) → Type 0 = λ pages. IsFreeList pages n left in
    given_back before head n left fits some (omega arith) (subst P (sym (ap (λ x. slice_set before n x) (sym is) ∙ same)) free)

-- the page that was appended is the last
pub grown_there : (old new : Option (List (List ℕ))) (n size : ℕ) (page : List ℕ) → ForSome old (λ pages. size ≡ length pages) → n ≡ size → new ≡ option_map (λ pages. pages ++ page ∷ []) old
    → ForSome new (λ after. slice_get after n ≡ Some page)
grown_there None new n size page count is change after now = absurd (none-some after (sym change ∙ now))
grown_there (Some old) new n size page count is change after now =
    ap (λ pages. slice_get pages n) (sym (same_Some (old ++ page ∷ []) after (sym change ∙ now))) ∙ ap (slice_get (old ++ page ∷ [])) (is ∙ count old refl) ∙ get_last old page
