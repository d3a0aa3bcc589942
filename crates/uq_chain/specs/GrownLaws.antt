-- How often numbers stand among those of the pages that were appended.
use Rattle.std.proofs.Common.{◌≡◌, ◌⊎◌, inl, inr, ℕ, ◌+◌, ◌-◌, ◌<◌, ◌≤◌, [], ◌∷◌, length, sym, ap, ◌∙◌, arith}
use Rattle.std.specs.List.{range_with_len}
use Rattle.std.proofs.lemmas.Bool.{cases_lt}
use Rattle.std.proofs.lemmas.List.FromFn.{length-range_with_len}
use Rattle.uq_page.specs.Numbers.{times}
use Rattle.uq_page.specs.NumberLaws.{range_above, range_below, range_within, times_of_one}
use Rattle.uq_chain.specs.Grown.{grown}

pub grown_below : (n a b : ℕ) → n < a → times n (grown a b) ≡ 0
unfolding grown
grown_below n a b less = range_below n a (b - a) less

pub grown_above : (n a b : ℕ) → a ≤ b → b ≤ n → times n (grown a b) ≡ 0
unfolding grown
grown_above n a b up more = range_above n a (b - a) (omega arith)

pub grown_within : (n a b : ℕ) → a ≤ n → n < b → times n (grown a b) ≡ 1
unfolding grown
grown_within n a b low high = range_within n a (b - a) low (omega arith)

pub length-grown : (a b : ℕ) → length (grown a b) ≡ b - a
unfolding grown
length-grown a b = length-range_with_len a (b - a)

pub grown_one : (n a : ℕ) → times n (grown a (a + 1)) ≡ times n (a ∷ [])
grown_one n a = elim (times_of_one n a) [
  | inl is ↦ grown_within n a (a + 1) (let same = is.0 in omega arith) (let same = is.0 in omega arith) ∙ sym is.1
  | inr is ↦ apart (cases_lt n a) is.0 ∙ sym is.1
]
  where
    apart : (n < a) ⊎ (a ≤ n) → (a ≡ n → ⊥) → times n (grown a (a + 1)) ≡ 0
    apart (inl less) unlike = grown_below n a (a + 1) less
    apart (inr more) unlike = grown_above n a (a + 1) (omega arith) (by_cases (cases_lt a n) unlike)
      where
        by_cases : (a < n) ⊎ (n ≤ a) → (a ≡ n → ⊥) → a + 1 ≤ n
        by_cases (inl less) unlike = omega arith
        by_cases (inr less) unlike = absurd (unlike (omega arith))

pub grown_none : (n a : ℕ) → times n (grown a a) ≡ 0
grown_none n a = elim (cases_lt n a) [ inl less ↦ grown_below n a a less | inr more ↦ grown_above n a a (omega arith) more ]

-- a count that grows twice
pub grown_twice : (n a b c : ℕ) → a ≤ b → b ≤ c → times n (grown a c) ≡ times n (grown a b) + times n (grown b c)
grown_twice n a b c up up' = by_cases (cases_lt n a) (cases_lt n b) (cases_lt n c)
  where
    by_cases : (n < a) ⊎ (a ≤ n) → (n < b) ⊎ (b ≤ n) → (n < c) ⊎ (c ≤ n) → times n (grown a c) ≡ times n (grown a b) + times n (grown b c)
    by_cases (inl x) y z = let p = grown_below n a c x in let q = grown_below n a b x in let r = grown_below n b c (omega arith) in omega arith
    by_cases (inr x) (inl y) z = let p = grown_within n a c x (omega arith) in let q = grown_within n a b x y in let r = grown_below n b c y in omega arith
    by_cases (inr x) (inr y) (inl z) = let p = grown_within n a c x z in let q = grown_above n a b up y in let r = grown_within n b c y z in omega arith
    by_cases (inr x) (inr y) (inr z) = let p = grown_above n a c (omega arith) z in let q = grown_above n a b up y in let r = grown_above n b c up' z in omega arith

pub grown_once : (n a b : ℕ) → a ≤ b → times n (grown a b) ≤ 1
grown_once n a b up = by_cases (cases_lt n a) (cases_lt n b)
  where
    by_cases : (n < a) ⊎ (a ≤ n) → (n < b) ⊎ (b ≤ n) → times n (grown a b) ≤ 1
    by_cases (inl x) y = let p = grown_below n a b x in omega arith
    by_cases (inr x) (inl y) = let p = grown_within n a b x y in omega arith
    by_cases (inr x) (inr y) = let p = grown_above n a b up y in omega arith

grown_whole : (n k : ℕ) → times n (grown 0 k) ≡ times n (range_with_len 0 k)
unfolding grown
grown_whole n k = let less : k - 0 ≡ k = omega arith in ap (λ m. times n (range_with_len 0 m)) less

-- all pages are the old ones and those by which they have grown
pub grown_all : (n a b : ℕ) → a ≤ b → times n (range_with_len 0 b) ≡ times n (range_with_len 0 a) + times n (grown a b)
grown_all n a b up = sym (grown_whole n b) ∙ grown_twice n 0 a b (omega arith) up ∙ ap (λ m. m + times n (grown a b)) (grown_whole n a)
