-- How often numbers stand in lists.
use Rattle.std.proofs.Common.{◌≡◌, ◌⊎◌, inl, inr, ℕ, zero, suc, ◌+◌, ◌<◌, ◌≤◌, true, false, cond, eqb, List, [], ◌∷◌, ◌++◌, refl, ap, ◌∙◌, arith}
use Rattle.std.specs.List.{range_with_len}
use Rattle.std.proofs.lemmas.Bool.{cases_lt}
use Rattle.std.proofs.lemmas.Bool.Decides.{eqb_tells}
use Rattle.std.proofs.lemmas.List.Sums.{sum_by-cons, sum_by-append}
use Rattle.uq_page.specs.Numbers.{times}

pub times-append : (n : ℕ) (xs ys : List ℕ) → times n (xs ++ ys) ≡ times n xs + times n ys
times-append n xs ys = sum_by-append (λ x. cond (eqb x n) 1 0) xs ys

pub times-cons : (n x : ℕ) (xs : List ℕ) → times n (x ∷ xs) ≡ times n (x ∷ []) + times n xs
times-cons n x xs = times-append n (x ∷ []) xs

one : (n x : ℕ) → times n (x ∷ []) ≡ cond (eqb x n) 1 0 + 0
one n x = sum_by-cons (λ y. cond (eqb y n) 1 0) x []

-- a number stands in the list of one number once where it is that number, else not
pub times_of_one : (n x : ℕ) → ((x ≡ n) × (times n (x ∷ []) ≡ 1)) ⊎ ((x ≡ n → ⊥) × (times n (x ∷ []) ≡ 0))
times_of_one n x = by_test (eqb_tells x n)
  where
    by_test : ((eqb x n ≡ true) × (x ≡ n)) ⊎ ((eqb x n ≡ false) × (x ≡ n → ⊥)) → ((x ≡ n) × (times n (x ∷ []) ≡ 1)) ⊎ ((x ≡ n → ⊥) × (times n (x ∷ []) ≡ 0))
    by_test (inl is) = inl (is.1, one n x ∙ ap (λ b. cond b 1 0 + 0) is.0)
    by_test (inr is) = inr (is.1, one n x ∙ ap (λ b. cond b 1 0 + 0) is.0)

pub times_self : (n : ℕ) → times n (n ∷ []) ≡ 1
times_self n = elim (times_of_one n n) [ inl is ↦ is.1 | inr is ↦ absurd (is.0 refl) ]

pub times_other : (n x : ℕ) → (x ≡ n → ⊥) → times n (x ∷ []) ≡ 0
times_other n x unlike = elim (times_of_one n x) [ inl is ↦ absurd (unlike is.0) | inr is ↦ is.1 ]

pub none_or_some : (k : ℕ) → (k ≡ 0) ⊎ (1 ≤ k)
none_or_some zero = inl refl
none_or_some (suc k) = inr (omega arith)

pub range_below : (n a k : ℕ) → n < a → times n (range_with_len a k) ≡ 0
range_below n a zero less = refl
range_below n a (suc k) less =
    let front = times-cons n a (range_with_len (a + 1) k) in
    let first = times_other n a (λ same. absurd (omega arith)) in
    let rest = range_below n (a + 1) k (omega arith) in
    omega arith

pub range_above : (n a k : ℕ) → a + k ≤ n → times n (range_with_len a k) ≡ 0
range_above n a zero more = refl
range_above n a (suc k) more =
    let front = times-cons n a (range_with_len (a + 1) k) in
    let first = times_other n a (λ same. absurd (omega arith)) in
    let rest = range_above n (a + 1) k (omega arith) in
    omega arith

pub range_within : (n a k : ℕ) → a ≤ n → n < a + k → times n (range_with_len a k) ≡ 1
range_within n a zero low high = absurd (omega arith)
range_within n a (suc k) low high =
    let front = times-cons n a (range_with_len (a + 1) k) in
    elim (times_of_one n a) [
      | inl is ↦ let first = is.1 in let same = is.0 in let rest = range_below n (a + 1) k (omega arith) in omega arith
      | inr is ↦ let first = is.1 in let unlike = is.0 in let rest = range_within n (a + 1) k (by_cases (cases_lt a n) unlike) (omega arith) in omega arith
    ]
  where
    by_cases : (a < n) ⊎ (n ≤ a) → (a ≡ n → ⊥) → a + 1 ≤ n
    by_cases (inl less) unlike = omega arith
    by_cases (inr more) unlike = absurd (unlike (omega arith))
