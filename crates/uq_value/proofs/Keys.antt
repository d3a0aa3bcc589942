-- The order of keys.
use Rattle.std.proofs.Common.{◌≡◌, ℕ, refl, ap, ◌∙◌, arith, Bool, true, false, List, ◌∷◌, nat_lt, nat_eq, if◌then◌else◌}
use Rattle.std.proofs.lemmas.Bool.Decides.{nat_tests}
use Rattle.std.specs.Ordering.{nat_cmp, is_lt, ordering_then, ordering_reverse}
use Rattle.std.specs.declared.cmp.Ordering.{Ordering}
use Rattle.std.specs.declared.cmp.Ordering.TheVariants.{Less, Equal, Greater}
use Rattle.std.specs.Cmp.Lexicographic.{slice_cmp}
use Rattle.std.proofs.lemmas.Cmp.{nat_list_cmp_total, tied_itself}
use Rattle.std.proofs.lemmas.Map.Lookups.{exact_bytes}
use Rattle.uq_value.specs.Internal.NameOrder.{is_before}

less-is : (o : Ordering) → is_lt o ≡ true → o ≡ Less
less-is Less h = refl
less-is Equal h = absurd (cc)
less-is Greater h = absurd (cc)

pub before-trans : (a b c : List ℕ) → is_before a b ≡ true → is_before b c ≡ true → is_before a c ≡ true
unfolding is_before
before-trans a b c h k = ap (λ o. is_lt o) (nat_list_cmp_total.trans a b c (less-is _ h) (less-is _ k))

pub before-itself : (a : List ℕ) → is_before a a ≡ false
unfolding is_before
before-itself a = ap (λ o. is_lt o) (tied_itself nat_list_cmp_total a)

-- what is behind a key that doesn't come before another does not either
pub before-not : (a b c : List ℕ) → is_before a c ≡ false → is_before a b ≡ true → is_before b c ≡ false
before-not a b c h k = split (is_before b c) refl
  where
    split : (t : Bool) → is_before b c ≡ t → is_before b c ≡ false
    split true e = absurd (let x : is_before a c ≡ true = before-trans a b c k e in cc)
    split false e = e

-- of two keys one comes first
pub before-other : (a b : List ℕ) → is_before a b ≡ false → (a ≡ b → ⊥) → is_before b a ≡ true
unfolding is_before
before-other a b h k = split (slice_cmp nat_cmp a b) refl
  where
    split : (o : Ordering) → slice_cmp nat_cmp a b ≡ o → is_lt (slice_cmp nat_cmp b a) ≡ true
    split Less e = absurd (let x : is_lt (slice_cmp nat_cmp a b) ≡ true = ap (λ o. is_lt o) e in cc)
    split Equal e = absurd (k (exact_bytes a b e))
    split Greater e = ap (λ o. is_lt o) (nat_list_cmp_total.antisymm b a ∙ ap (λ o. ordering_reverse o) e)

-- ---- keys of which the first numbers decide

by_number : (t u : Bool) (o : Ordering) → (u ≡ true → ⊥) → t ≡ is_lt (ordering_then (if t then Less else (if u then Equal else Greater)) o)
by_number true u o k = refl
by_number false true o k = absurd (k refl)
by_number false false o k = refl

by_rest : (t u : Bool) (o : Ordering) → t ≡ false → u ≡ true → is_lt o ≡ is_lt (ordering_then (if t then Less else (if u then Equal else Greater)) o)
by_rest true u o h k = absurd (cc)
by_rest false true o h k = refl
by_rest false false o h k = absurd (cc)

eq-is : (m n : ℕ) → nat_eq m n ≡ true → m ≡ n
eq-is m n e = grind (arith, nat_tests)

pub number-decides : (m n : ℕ) (xs ys : List ℕ) → (m ≡ n → ⊥) → nat_lt m n ≡ is_before (m ∷ xs) (n ∷ ys)
unfolding is_before
number-decides m n xs ys k = by_number (nat_lt m n) (nat_eq m n) (slice_cmp nat_cmp xs ys) (λ e. k (eq-is m n e))

pub rest-decides : (m n : ℕ) (xs ys : List ℕ) → m ≡ n → is_lt (slice_cmp nat_cmp xs ys) ≡ is_before (m ∷ xs) (n ∷ ys)
unfolding is_before
rest-decides m n xs ys e = by_rest (nat_lt m n) (nat_eq m n) (slice_cmp nat_cmp xs ys) (grind (arith, nat_tests)) (grind (arith, nat_tests))
