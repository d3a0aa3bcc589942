-- Rows of pages.
use Rattle.std.proofs.Common.{◌≡◌, ◌⊎◌, inl, inr, ℕ, zero, suc, ◌+◌, ◌<◌, ◌≤◌, ◌^◌, true, false, cond, eqb, List, [], ◌∷◌, ◌++◌, length, Some, refl, sym, ap, subst, ◌∙◌, arith, get_or-set_other, get_or-set_same}
use Rattle.std.proofs.lemmas.Bool.Decides.{eqb_tells}
use Rattle.std.specs.Prelude.{slice_get, slice_set}
use Rattle.std.proofs.lemmas.Bool.{cases_lt}
use Rattle.std.proofs.lemmas.List.{length-set, length-append, get_or_append_left, get_or_at}
use Rattle.std.proofs.lemmas.Option.{slice_get-get_or, slice_get_within, slice_get_past, same_Some}
use Rattle.uq_page.specs.Numbers.{times}
use Rattle.uq_page.specs.Row.{IsRow}
use Rattle.uq_page.specs.NumberLaws.{times-cons, times_self, times_other, times_of_one, none_or_some}

-- pages that are read after a write or a growth
pub get_set_other : (xs : List (List ℕ)) (i k : ℕ) (x : List ℕ) → (k ≡ i → ⊥) → slice_get (slice_set xs i x) k ≡ slice_get xs k
get_set_other xs i k x unlike = by_cases (cases_lt k (length xs))
  where
    by_cases : (k < length xs) ⊎ (length xs ≤ k) → slice_get (slice_set xs i x) k ≡ slice_get xs k
    by_cases (inl within) =
        let long = length-set xs i x in
        slice_get-get_or (slice_set xs i x) k [] (omega arith) ∙ ap Some (get_or-set_other xs i k x [] unlike) ∙ sym (slice_get-get_or xs k [] within)
    by_cases (inr past) = let long = length-set xs i x in slice_get_past (slice_set xs i x) k (omega arith) ∙ sym (slice_get_past xs k past)

pub get_set_same : (xs : List (List ℕ)) (i : ℕ) (x : List ℕ) → i < length xs → slice_get (slice_set xs i x) i ≡ Some x
get_set_same xs i x within =
    let long = length-set xs i x in
    slice_get-get_or (slice_set xs i x) i [] (omega arith) ∙ ap Some (get_or-set_same xs i x [] within)

pub get_longer : (xs ys : List (List ℕ)) (k : ℕ) → k < length xs → slice_get (xs ++ ys) k ≡ slice_get xs k
get_longer xs ys k within =
    let long = length-append xs ys in
    slice_get-get_or (xs ++ ys) k [] (omega arith) ∙ ap Some (get_or_append_left xs ys [] k within) ∙ sym (slice_get-get_or xs k [] within)

pub get_last : (xs : List (List ℕ)) (x : List ℕ) → slice_get (xs ++ x ∷ []) (length xs) ≡ Some x
get_last xs x =
    let long = length-append xs (x ∷ []) in
    slice_get-get_or (xs ++ x ∷ []) (length xs) [] (omega arith) ∙ ap Some (get_or_at xs x [] [] (length xs) refl)

front_among : (n : ℕ) (row : List ℕ) → 1 ≤ times n (n ∷ row)
front_among n row = let split = times-cons n n row in let self = times_self n in omega arith

rest_among : (k n : ℕ) (row : List ℕ) → 1 ≤ times k row → 1 ≤ times k (n ∷ row)
rest_among k n row some = let split = times-cons k n row in omega arith

-- a row whose pages stay is a row
pub keeps_row : {A : Type 0} (page_of : A → ℕ → List ℕ) (before after : List (List ℕ)) (head : ℕ) (row : List ℕ) (items : List A)
    → ((n : ℕ) → 1 ≤ times n row → slice_get after n ≡ slice_get before n) → IsRow page_of before head row items → IsRow page_of after head row items
keeps_row page_of before after head [] [] same is = is
keeps_row page_of before after head [] (i ∷ items) same is = absurd is
keeps_row page_of before after head (n ∷ row) [] same is = absurd is
keeps_row page_of before after head (n ∷ row) (i ∷ items) same is = record {
  is = is.is;
  some = is.some;
  next = is.next;
  fits = is.fits;
  page = same n (front_among n row) ∙ is.page;
  rest = keeps_row page_of before after is.next row items (λ k among. same k (rest_among k n row among)) is.rest;
}

-- the pages of a row lie among the pages, and page 0 is none of them
pub row_within : {A : Type 0} (page_of : A → ℕ → List ℕ) (pages : List (List ℕ)) (head : ℕ) (row : List ℕ) (items : List A) (k : ℕ)
    → IsRow page_of pages head row items → 1 ≤ times k row → (1 ≤ k) × (k < length pages)
row_within page_of pages head [] items k is some = absurd (omega arith)
row_within page_of pages head (n ∷ row) [] k is some = absurd is
row_within page_of pages head (n ∷ row) (i ∷ items) k is some =
    let split = times-cons k n row in
    elim (times_of_one k n) [
      | inl here ↦ let same = here.0 in let some = is.some in let within = slice_get_within pages n _ is.page in (omega arith, omega arith)
      | inr other ↦ let none = other.1 in row_within page_of pages is.next row items k is.rest (omega arith)
    ]

-- a page of another kind is not in the row
pub kind_apart : {A : Type 0} (page_of : A → ℕ → List ℕ) (pages : List (List ℕ)) (head : ℕ) (row : List ℕ) (items : List A) (k : ℕ) (page : List ℕ)
    → slice_get pages k ≡ Some page → ((a : A) (next : ℕ) → page ≡ page_of a next → ⊥) → IsRow page_of pages head row items → times k row ≡ 0
kind_apart page_of pages head [] items k page there unlike is = refl
kind_apart page_of pages head (n ∷ row) [] k page there unlike is = absurd is
kind_apart page_of pages head (n ∷ row) (i ∷ items) k page there unlike is =
    let split = times-cons k n row in
    elim (times_of_one k n) [
      | inl here ↦ absurd (unlike i is.next (same_Some page (page_of i is.next) (sym there ∙ ap (slice_get pages) (sym here.0) ∙ is.page)))
      | inr other ↦ let none = other.1 in let rest = kind_apart page_of pages is.next row items k page there unlike is.rest in omega arith
    ]

-- a page tells the next one
abbrev pub Tells : {A : Type 0} → (A → ℕ → List ℕ) → Type 0
Tells {A} page_of = (a b : A) (m n : ℕ) → m < 2 ^ 32 → n < 2 ^ 32 → page_of a m ≡ page_of b n → m ≡ n

-- from one page on there is one row
pub one_row : {A : Type 0} (page_of : A → ℕ → List ℕ) (tells : Tells page_of) (pages : List (List ℕ)) (head : ℕ) (row : List ℕ) (items : List A) (other : List ℕ) (others : List A)
    → IsRow page_of pages head row items → IsRow page_of pages head other others → row ≡ other
one_row page_of tells pages head [] [] [] [] a b = refl
one_row page_of tells pages head [] [] [] (j ∷ js) a b = absurd b
one_row page_of tells pages head [] [] (m ∷ ms) [] a b = absurd b
one_row page_of tells pages head [] [] (m ∷ ms) (j ∷ js) a b = let is = b.is in let some = b.some in absurd (omega arith)
one_row page_of tells pages head [] (i ∷ items) other others a b = absurd a
one_row page_of tells pages head (n ∷ row) [] other others a b = absurd a
one_row page_of tells pages head (n ∷ row) (i ∷ items) [] [] a b = let is = a.is in let some = a.some in absurd (omega arith)
one_row page_of tells pages head (n ∷ row) (i ∷ items) [] (j ∷ js) a b = absurd b
one_row page_of tells pages head (n ∷ row) (i ∷ items) (m ∷ ms) [] a b = absurd b
one_row page_of tells pages head (n ∷ row) (i ∷ items) (m ∷ ms) (j ∷ js) a b =
    let here : n ≡ m = sym a.is ∙ b.is in
    let page = same_Some _ _ (sym a.page ∙ ap (slice_get pages) here ∙ b.page) in
    let next : a.next ≡ b.next = tells i j a.next b.next a.fits b.fits page in
    let P : ℕ → Type 0 = λ h. IsRow page_of pages h ms js in
    let rest = one_row page_of tells pages a.next row items ms js a.rest (subst P (sym next) b.rest) in
    ap (λ k. k ∷ row) here ∙ ap (λ ks. m ∷ ks) rest

-- from a page of a row on there is a row
record Rest {A : Type 0} (page_of : A → ℕ → List ℕ) (pages : List (List ℕ)) (head most : ℕ) : Type 0 where
  pub row : List ℕ
  pub items : List A
  pub short : length row ≤ most
  pub is : IsRow page_of pages head row items

rest_from : {A : Type 0} (page_of : A → ℕ → List ℕ) (pages : List (List ℕ)) (head : ℕ) (row : List ℕ) (items : List A) (k : ℕ)
    → IsRow page_of pages head row items → 1 ≤ times k row → Rest page_of pages k (length row)
rest_from page_of pages head [] items k is some = absurd (omega arith)
rest_from page_of pages head (n ∷ row) [] k is some = absurd is
rest_from page_of pages head (n ∷ row) (i ∷ items) k is some =
    let split = times-cons k n row in
    elim (times_of_one k n) [
      | inl here ↦ let P : ℕ → Type 0 = λ h. IsRow page_of pages h (n ∷ row) (i ∷ items) in
          record { row = n ∷ row; items = i ∷ items; short = omega arith; is = subst P (is.is ∙ here.0) is }
      | inr other ↦ let none = other.1 in let rest = rest_from page_of pages is.next row items k is.rest (omega arith) in
          record { row = rest.row; items = rest.items; short = let short = rest.short in omega arith; is = rest.is }
    ]

-- the first page of a row does not come again
pub first_once : {A : Type 0} (page_of : A → ℕ → List ℕ) (tells : Tells page_of) (pages : List (List ℕ)) (head n : ℕ) (row : List ℕ) (item : A) (items : List A)
    → IsRow page_of pages head (n ∷ row) (item ∷ items) → times n row ≡ 0
first_once page_of tells pages head n row item items is = by_cases (none_or_some (times n row))
  where
    by_cases : (times n row ≡ 0) ⊎ (1 ≤ times n row) → times n row ≡ 0
    by_cases (inl none) = none
    by_cases (inr some) =
        let again = rest_from page_of pages is.next row items n is.rest some in
        let P : ℕ → Type 0 = λ h. IsRow page_of pages h (n ∷ row) (item ∷ items) in
        let same = one_row page_of tells pages n (n ∷ row) (item ∷ items) again.row again.items (subst P is.is is) again.is in
        let long : suc (length row) ≡ length again.row = ap length same in
        let short = again.short in
        absurd (omega arith)

-- each page of a row comes once
pub row_once : {A : Type 0} (page_of : A → ℕ → List ℕ) (tells : Tells page_of) (pages : List (List ℕ)) (head : ℕ) (row : List ℕ) (items : List A) (k : ℕ)
    → IsRow page_of pages head row items → times k row ≤ 1
row_once page_of tells pages head [] items k is = omega arith
row_once page_of tells pages head (n ∷ row) [] k is = absurd is
row_once page_of tells pages head (n ∷ row) (i ∷ items) k is =
    let split = times-cons k n row in
    elim (times_of_one k n) [
      | inl here ↦ let one = here.1 in let none = ap (λ m. times m row) (sym here.0) ∙ first_once page_of tells pages head n row i items is in omega arith
      | inr other ↦ let none = other.1 in let rest = row_once page_of tells pages is.next row items k is.rest in omega arith
    ]

-- the page of a row that stands at a number
record Page {A : Type 0} (page_of : A → ℕ → List ℕ) (pages : List (List ℕ)) (k : ℕ) : Type 0 where
  pub item : A
  pub next : ℕ
  pub there : slice_get pages k ≡ Some (page_of item next)

row_page : {A : Type 0} (page_of : A → ℕ → List ℕ) (pages : List (List ℕ)) (head : ℕ) (row : List ℕ) (items : List A) (k : ℕ)
    → IsRow page_of pages head row items → 1 ≤ times k row → Page page_of pages k
row_page page_of pages head [] items k is some = absurd (omega arith)
row_page page_of pages head (n ∷ row) [] k is some = absurd is
row_page page_of pages head (n ∷ row) (i ∷ items) k is some =
    let split = times-cons k n row in
    elim (times_of_one k n) [
      | inl here ↦ record { item = i; next = is.next; there = ap (slice_get pages) (sym here.0) ∙ is.page }
      | inr other ↦ let none = other.1 in row_page page_of pages is.next row items k is.rest (omega arith)
    ]

-- rows of two kinds have no page in common
pub rows_apart : {A B : Type 0} (page_of : A → ℕ → List ℕ) (other : B → ℕ → List ℕ) → ((a : A) (m : ℕ) (b : B) (n : ℕ) → page_of a m ≡ other b n → ⊥)
    → (pages : List (List ℕ)) (head : ℕ) (row : List ℕ) (items : List A) (head' : ℕ) (row' : List ℕ) (items' : List B) (k : ℕ)
    → IsRow page_of pages head row items → IsRow other pages head' row' items' → 1 ≤ times k row → times k row' ≡ 0
rows_apart page_of other unlike pages head row items head' row' items' k is is' some =
    let here = row_page page_of pages head row items k is some in
    kind_apart other pages head' row' items' k (page_of here.item here.next) here.there (λ b n same. unlike here.item here.next b n same) is'

-- a list without a number
without : ℕ → List ℕ → List ℕ
without n [] = []
without n (x ∷ xs) = cond (eqb x n) (without n xs) (x ∷ without n xs)

without_long : (n : ℕ) (xs : List ℕ) → length xs ≡ times n xs + length (without n xs)
unfolding without
without_long n [] = refl
without_long n (x ∷ xs) =
    by_cases (without_long n xs) (eqb_tells x n)
  where
    by_cases : length xs ≡ times n xs + length (without n xs) → ((eqb x n ≡ true) × (x ≡ n)) ⊎ ((eqb x n ≡ false) × (x ≡ n → ⊥))
        → length (x ∷ xs) ≡ times n (x ∷ xs) + length (cond (eqb x n) (without n xs) (x ∷ without n xs))
    by_cases rest (inl is) =
        let split = times-cons n x xs in
        let one : times n (x ∷ []) ≡ 1 = ap (λ k. times n (k ∷ [])) is.1 ∙ times_self n in
        let size : length (cond (eqb x n) (without n xs) (x ∷ without n xs)) ≡ length (without n xs) = ap (λ b. length (cond b (without n xs) (x ∷ without n xs))) is.0 in
        omega arith
    by_cases rest (inr is) =
        let split = times-cons n x xs in
        let none = times_other n x is.1 in
        let size : length (cond (eqb x n) (without n xs) (x ∷ without n xs)) ≡ length (x ∷ without n xs) = ap (λ b. length (cond b (without n xs) (x ∷ without n xs))) is.0 in
        omega arith

without_less : (n k : ℕ) (xs : List ℕ) → (times k (without n xs) ≤ times k xs) × (times n (without n xs) ≡ 0)
unfolding without
without_less n k [] = (omega arith, refl)
without_less n k (x ∷ xs) = by_cases (without_less n k xs) (eqb_tells x n)
  where
    by_cases : (times k (without n xs) ≤ times k xs) × (times n (without n xs) ≡ 0) → ((eqb x n ≡ true) × (x ≡ n)) ⊎ ((eqb x n ≡ false) × (x ≡ n → ⊥))
        → (times k (cond (eqb x n) (without n xs) (x ∷ without n xs)) ≤ times k (x ∷ xs)) × (times n (cond (eqb x n) (without n xs) (x ∷ without n xs)) ≡ 0)
    by_cases rest (inl is) =
        let split = times-cons k x xs in
        let same : times k (cond (eqb x n) (without n xs) (x ∷ without n xs)) ≡ times k (without n xs) = ap (λ b. times k (cond b (without n xs) (x ∷ without n xs))) is.0 in
        let less = rest.0 in
        (omega arith, ap (λ b. times n (cond b (without n xs) (x ∷ without n xs))) is.0 ∙ rest.1)
    by_cases rest (inr is) =
        let split = times-cons k x xs in
        let same : times k (cond (eqb x n) (without n xs) (x ∷ without n xs)) ≡ times k (x ∷ without n xs) = ap (λ b. times k (cond b (without n xs) (x ∷ without n xs))) is.0 in
        let split' = times-cons k x (without n xs) in
        let split_n = times-cons n x (without n xs) in
        let none = times_other n x is.1 in
        let less = rest.0 in
        let zero_n = rest.1 in
        (omega arith, ap (λ b. times n (cond b (without n xs) (x ∷ without n xs))) is.0 ∙ (omega arith))

-- numbers below n, each at most once, are at most n
pub few_numbers : (n : ℕ) (xs : List ℕ) → ((k : ℕ) → times k xs ≤ 1) → ((k : ℕ) → 1 ≤ times k xs → k < n) → length xs ≤ n
few_numbers zero [] once below = omega arith
few_numbers zero (x ∷ xs) once below = absurd (by_front (below x (front_among x xs)))
  where
    by_front : x < 0 → ⊥
    by_front less = omega arith
few_numbers (suc n) xs once below =
    let long = without_long n xs in
    let one = once n in
    let rest = few_numbers n (without n xs) (λ k. let less = (without_less n k xs).0 in let once_k = once k in omega arith)
    (λ k some. let less = (without_less n k xs).0 in let high = below k (omega arith) in by_cases (cases_lt k n) high some) in
    omega arith
  where
    by_cases : {k : ℕ} → (k < n) ⊎ (n ≤ k) → k < suc n → 1 ≤ times k (without n xs) → k < n
    by_cases (inl less) high some = less
    by_cases {k = k} (inr more) high some = let is : k ≡ n = omega arith in let none : times k (without n xs) ≡ 0 = ap (λ m. times m (without n xs)) is ∙ (without_less n n xs).1 in absurd (omega arith)

-- a row has no more pages than there are
pub row_short : {A : Type 0} (page_of : A → ℕ → List ℕ) (tells : Tells page_of) (pages : List (List ℕ)) (head : ℕ) (row : List ℕ) (items : List A) → IsRow page_of pages head row items → length row ≤ length pages
row_short page_of tells pages head row items is =
    few_numbers (length pages) row (λ k. row_once page_of tells pages head row items k is) (λ k some. (row_within page_of pages head row items k is some).1)

-- a row has as many pages as items
pub row_length : {A : Type 0} (page_of : A → ℕ → List ℕ) (pages : List (List ℕ)) (head : ℕ) (row : List ℕ) (items : List A) → IsRow page_of pages head row items → length row ≡ length items
row_length page_of pages head [] [] is = refl
row_length page_of pages head [] (i ∷ items) is = absurd is
row_length page_of pages head (n ∷ row) [] is = absurd is
row_length page_of pages head (n ∷ row) (i ∷ items) is = let rest = row_length page_of pages is.next row items is.rest in omega arith

-- where the first pages of a row stay, and from the next on another row begins, the two are one row
pub row_joined : {A : Type 0} (page_of : A → ℕ → List ℕ) (before after : List (List ℕ)) (head n : ℕ) (passed : List ℕ) (behind : List ℕ) (firsts : List A) (item : A) (items : List A) (row : List ℕ) (news : List A)
    → length passed ≡ length firsts → ((k : ℕ) → 1 ≤ times k passed → slice_get after k ≡ slice_get before k) → IsRow page_of before head (passed ++ n ∷ behind) (firsts ++ item ∷ items) → IsRow page_of after n row news
    → IsRow page_of after head (passed ++ row) (firsts ++ news)
row_joined page_of before after head n [] behind [] item items row news long same is new = let P : ℕ → Type 0 = λ h. IsRow page_of after h row news in subst P (sym is.is) new
row_joined page_of before after head n [] behind (a ∷ firsts) item items row news long same is new = absurd (omega arith)
row_joined page_of before after head n (k ∷ passed) behind [] item items row news long same is new = absurd (omega arith)
row_joined page_of before after head n (k ∷ passed) behind (a ∷ firsts) item items row news long same is new = record {
  is = is.is;
  some = is.some;
  next = is.next;
  fits = is.fits;
  page = same k (front_among k passed) ∙ is.page;
  rest = row_joined page_of before after is.next n passed behind firsts item items row news (omega arith) (λ j among. same j (rest_among j k passed among)) is.rest new;
}
