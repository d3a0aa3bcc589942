-- What a main file is, page by page.
use Rattle.std.specs.Prelude.{◌≡◌, ℕ, zero, suc, ◌+◌, ◌*◌, ◌/◌, ◌%◌, ◌==◌, ◌<◌, ◌≤◌, cond, true, false, nat_lt, List, [], ◌∷◌, ◌++◌, length, take, drop, slice_set, Option, Some, None}
use Rattle.std.specs.List.{All, AllByRecursion}
use Rattle.std.proofs.Common.{refl, sym, ◌∙◌, ap, subst, inl, inr, arith, length-take, length-drop, length-append, append_assoc, take-append-drop}
use Rattle.std.proofs.lemmas.Bool.{cases_Bool}
use Rattle.std.proofs.lemmas.Bool.Decides.{nat_tests}
use Rattle.std.proofs.lemmas.List.{drop_all, take_all, take_at, drop_at, set_split}
use Rattle.std.proofs.lemmas.List.Elements.{All-from_recursion}
use Rattle.std.proofs.Math.Seq.{take-append-add, drop-append-add}
use Rattle.uq_facts.specs.Written.{written}
use Rattle.uq_page.specs.declared.layout.TheConstants.{PAGE_SIZE}
use Rattle.uq_journal.specs.Batches.{Original}
use Rattle.uq_outside.specs.Files.{Files}
use Rattle.uq_journal.specs.Calls.{HasPages}
use Rattle.uq_journal.specs.Pages.{IsWhole, joined, pages_in, pages_of, with_batch, with_page}
use Rattle.uq_journal.specs.Recovered.{with_pages}

-- each page is whole
abbrev pub AreWhole : List (List ℕ) → Type 0
AreWhole = AllByRecursion IsWhole

pub length_joined : (pages : List (List ℕ)) → AreWhole pages → length (joined pages) ≡ PAGE_SIZE * length pages
length_joined [] whole = refl
length_joined (page ∷ pages) whole = omega (arith, length-append page (joined pages), whole.0, length_joined pages whole.1)

take_joined : (k n : ℕ) (pages : List (List ℕ)) → n ≡ PAGE_SIZE * k → AreWhole pages → take n (joined pages) ≡ joined (take k pages)
take_joined zero n pages is whole = ap (λ (m : ℕ). take m (joined pages)) is
take_joined (suc k) n [] is whole = take_all n [] (omega arith)
take_joined (suc k) n (page ∷ pages) is whole =
    let place : n ≡ length page + PAGE_SIZE * k = omega (arith, is, whole.0) in
    ap (λ (m : ℕ). take m (page ++ joined pages)) place ∙ take-append-add page (joined pages) (PAGE_SIZE * k) ∙ ap (λ (l : List ℕ). page ++ l) (take_joined k (PAGE_SIZE * k) pages refl whole.1)

drop_joined : (k n : ℕ) (pages : List (List ℕ)) → n ≡ PAGE_SIZE * k → AreWhole pages → drop n (joined pages) ≡ joined (drop k pages)
drop_joined zero n pages is whole = ap (λ (m : ℕ). drop m (joined pages)) is
drop_joined (suc k) n [] is whole = drop_all n [] (omega arith)
drop_joined (suc k) n (page ∷ pages) is whole =
    let place : n ≡ length page + PAGE_SIZE * k = omega (arith, is, whole.0) in
    ap (λ (m : ℕ). drop m (page ++ joined pages)) place ∙ drop-append-add page (joined pages) (PAGE_SIZE * k) ∙ drop_joined k (PAGE_SIZE * k) pages refl whole.1

joined_both : (xs ys : List (List ℕ)) → joined (xs ++ ys) ≡ joined xs ++ joined ys
joined_both [] ys = refl
joined_both (x ∷ xs) ys = ap (λ (l : List ℕ). x ++ l) (joined_both xs ys) ∙ sym (append_assoc x (joined xs) (joined ys))

-- the list with the page at this place
abbrev spliced : ℕ → List ℕ → List (List ℕ) → List (List ℕ)
spliced k page pages = take k pages ++ page ∷ drop (k + 1) pages

-- a write of a page is the page in its place
spliced_written : (k : ℕ) (page : List ℕ) (pages : List (List ℕ)) → length page ≡ PAGE_SIZE → AreWhole pages → written (PAGE_SIZE * k) page (joined pages) ≡ joined (spliced k page pages)
spliced_written k page pages size whole =
    let front = take_joined k (PAGE_SIZE * k) pages refl whole in
    let behind = drop_joined (k + 1) (PAGE_SIZE * k + length page) pages (omega (arith, size)) whole in
    (λ i. (front i) ++ page ++ (behind i)) ∙ append_assoc (joined (take k pages)) page (joined (drop (k + 1) pages)) ∙ sym (joined_both (take k pages) (page ∷ drop (k + 1) pages))

-- which is the page in its place, or behind the last one
spliced_is : (k : ℕ) (page : List ℕ) (pages : List (List ℕ)) → with_page k page pages ≡ spliced k page pages
spliced_is k page pages =
    elim (cases_Bool (nat_lt k (length pages))) [
      | inl test ↦
          let lt : k < length pages = grind (arith, nat_tests) in
          let next : suc k ≡ k + 1 = omega arith in
          ap (λ b. cond b (slice_set pages k page) (pages ++ page ∷ [])) test ∙ set_split pages k page lt ∙ ap (λ (n : ℕ). take k pages ++ page ∷ drop n pages) next
      | inr test ↦
          let le : length pages ≤ k = grind (arith, nat_tests) in
          ap (λ b. cond b (slice_set pages k page) (pages ++ page ∷ [])) test
          ∙ (λ i. sym (take_all k pages le) i ++ page ∷ sym (drop_all (k + 1) pages (omega (arith, le))) i)
    ]

pub page_written : (k : ℕ) (page : List ℕ) (pages : List (List ℕ)) → IsWhole page → AreWhole pages → written (PAGE_SIZE * k) page (joined pages) ≡ joined (with_page k page pages)
page_written k page pages size whole = spliced_written k page pages size whole ∙ ap joined (sym (spliced_is k page pages))

whole_both : (xs ys : List (List ℕ)) → AreWhole xs → AreWhole ys → AreWhole (xs ++ ys)
whole_both [] ys one two = two
whole_both (x ∷ xs) ys one two = (one.0, whole_both xs ys one.1 two)

whole_take : (k : ℕ) (pages : List (List ℕ)) → AreWhole pages → AreWhole (take k pages)
whole_take zero pages whole = tt
whole_take (suc k) [] whole = tt
whole_take (suc k) (page ∷ pages) whole = (whole.0, whole_take k pages whole.1)

whole_drop : (k : ℕ) (pages : List (List ℕ)) → AreWhole pages → AreWhole (drop k pages)
whole_drop zero pages whole = whole
whole_drop (suc k) [] whole = tt
whole_drop (suc k) (page ∷ pages) whole = whole_drop k pages whole.1

pub whole_with : (k : ℕ) (page : List ℕ) (pages : List (List ℕ)) → IsWhole page → AreWhole pages → AreWhole (with_page k page pages)
whole_with k page pages size whole =
    subst AreWhole (sym (spliced_is k page pages)) (whole_both (take k pages) (page ∷ drop (k + 1) pages) (whole_take k pages whole) (size, whole_drop (k + 1) pages whole))

-- the pages of a batch are whole
abbrev pub AreSized : List Original → Type 0
AreSized = AllByRecursion (λ page. IsWhole page.1)

-- a batch written over the bytes is the batch in the list of pages
pub batch_written : (batch : List Original) (pages : List (List ℕ)) → AreSized batch → AreWhole pages → with_pages batch (joined pages) ≡ joined (with_batch batch pages)
batch_written [] pages sized whole = refl
batch_written (page ∷ later) pages sized whole =
    ap (with_pages later) (page_written page.0 page.1 pages sized.0 whole) ∙ batch_written later (with_page page.0 page.1 pages) sized.1 (whole_with page.0 page.1 pages sized.0 whole)

pub batch_whole : (batch : List Original) (pages : List (List ℕ)) → AreSized batch → AreWhole pages → AreWhole (with_batch batch pages)
batch_whole [] pages sized whole = whole
batch_whole (page ∷ later) pages sized whole = batch_whole later (with_page page.0 page.1 pages) sized.1 (whole_with page.0 page.1 pages sized.0 whole)

length_in : (n : ℕ) (bytes : List ℕ) → length (pages_in n bytes) ≡ n
length_in zero bytes = refl
length_in (suc n) bytes = ap (λ (m : ℕ). suc m) (length_in n (drop PAGE_SIZE bytes))

nothing : (bytes : List ℕ) → length bytes ≡ 0 → [] ≡ bytes
nothing [] none = refl
nothing (x ∷ bytes) none = absurd (omega (arith, none))

joined_in : (n : ℕ) (bytes : List ℕ) → length bytes ≡ PAGE_SIZE * n → joined (pages_in n bytes) ≡ bytes
joined_in zero bytes size = nothing bytes (omega (arith, size))
joined_in (suc n) bytes size =
    ap (λ (l : List ℕ). take PAGE_SIZE bytes ++ l) (joined_in n (drop PAGE_SIZE bytes) (omega (arith, size, length-drop PAGE_SIZE bytes))) ∙ take-append-drop PAGE_SIZE bytes

whole_in : (n : ℕ) (bytes : List ℕ) → length bytes ≡ PAGE_SIZE * n → AreWhole (pages_in n bytes)
whole_in zero bytes size = tt
whole_in (suc n) bytes size =
    (omega (arith, size, length-take PAGE_SIZE bytes), whole_in n (drop PAGE_SIZE bytes) (omega (arith, size, length-drop PAGE_SIZE bytes)))

in_joined : (pages : List (List ℕ)) → AreWhole pages → pages_in (length pages) (joined pages) ≡ pages
in_joined [] whole = refl
in_joined (page ∷ pages) whole =
    let here : take PAGE_SIZE (page ++ joined pages) ≡ page = take_at page (joined pages) PAGE_SIZE whole.0 in
    let later : pages_in (length pages) (drop PAGE_SIZE (page ++ joined pages)) ≡ pages = ap (pages_in (length pages)) (drop_at page (joined pages) PAGE_SIZE whole.0) ∙ in_joined pages whole.1 in
    λ i. here i ∷ later i

no_rest : (m n : ℕ) → m ≡ PAGE_SIZE * n → ((m % PAGE_SIZE) == 0) ≡ true
no_rest m n is = let none : m % PAGE_SIZE ≡ 0 = omega (arith, is) in grind (arith, nat_tests)

quotient : (m n : ℕ) → m ≡ PAGE_SIZE * n → m / PAGE_SIZE ≡ n
quotient m n is = omega (arith, is)

-- whole pages are the pages of their bytes
pub of_joined : (pages : List (List ℕ)) → AreWhole pages → pages_of (joined pages) ≡ Some pages
of_joined pages whole =
    let main : List ℕ = joined pages in
    let size : length main ≡ PAGE_SIZE * length pages = length_joined pages whole in
    ap (λ b. cond b (Some (pages_in (length main / PAGE_SIZE) main)) None) (no_rest (length main) (length pages) size)
    ∙ ap (λ (n : ℕ). Some (pages_in n main)) (quotient (length main) (length pages) size) ∙ ap (λ (ps : List (List ℕ)). Some ps) (in_joined pages whole)

-- a main file of so many pages has their number
pub has_pages : (count : ℕ) (files : Files) → length files.main ≡ PAGE_SIZE * count → HasPages count files
has_pages count files size =
    let main : List ℕ = files.main in (
      pages_in count main,
      ap (λ b. cond b (Some (pages_in (length main / PAGE_SIZE) main)) None) (no_rest (length main) count size)
          ∙ ap (λ (n : ℕ). Some (pages_in n main)) (quotient (length main) count size),
      length_in count main,
    )

some_is : {x y : List (List ℕ)} → ◌≡◌ {A = Option (List (List ℕ))} (Some x) (Some y) → x ≡ y
some_is is = cc

-- what the pages of a main file are
pub record HasThese (main : List ℕ) (pages : List (List ℕ)) : Type 0 where
  pub bytes : main ≡ joined pages
  pub size : length main ≡ PAGE_SIZE * length pages
  pub whole : AreWhole pages

no_pages : (main : List ℕ) (pages : List (List ℕ)) → pages_of main ≡ Some pages → ((length main % PAGE_SIZE) == 0) ≡ false → HasThese main pages
no_pages main pages is test =
    let none : ◌≡◌ {A = Option (List (List ℕ))} None (Some pages) = sym (ap (λ b. cond b (Some (pages_in (length main / PAGE_SIZE) main)) None) test) ∙ is in cc

some_pages : (main : List ℕ) (pages : List (List ℕ)) → pages_of main ≡ Some pages → ((length main % PAGE_SIZE) == 0) ≡ true → HasThese main pages
some_pages main pages is test =
    let n : ℕ = length main / PAGE_SIZE in
    let none : length main % PAGE_SIZE ≡ 0 = grind (arith, nat_tests) in
    let size : length main ≡ PAGE_SIZE * n = omega (arith, none) in
    let same : pages_in n main ≡ pages = some_is (sym (ap (λ b. cond b (Some (pages_in n main)) None) test) ∙ is) in
    record {
      bytes = sym (joined_in n main size) ∙ ap joined same;
      size = size ∙ ap (λ (m : ℕ). PAGE_SIZE * m) (sym (length_in n main) ∙ ap length same);
      whole = subst AreWhole same (whole_in n main size);
    }

pub these_pages : (main : List ℕ) (pages : List (List ℕ)) → pages_of main ≡ Some pages → HasThese main pages
these_pages main pages is =
    elim (cases_Bool ((length main % PAGE_SIZE) == 0)) [ inl test ↦ some_pages main pages is test | inr test ↦ no_pages main pages is test ]

-- each of them is whole
pub all_whole : (main : List ℕ) (pages : List (List ℕ)) → pages_of main ≡ Some pages → All IsWhole pages
all_whole main pages is = All-from_recursion IsWhole pages (these_pages main pages is).whole

-- the pages of a main file with a batch in place
pub pages_with : (batch : List Original) (main : List ℕ) (pages : List (List ℕ)) → AreSized batch → pages_of main ≡ Some pages → pages_of (with_pages batch main) ≡ Some (with_batch batch pages)
pages_with batch main pages sized is =
    let these = these_pages main pages is in
    ap (λ (l : List ℕ). pages_of (with_pages batch l)) these.bytes ∙ ap pages_of (batch_written batch pages sized these.whole)
    ∙ of_joined (with_batch batch pages) (batch_whole batch pages sized these.whole)
