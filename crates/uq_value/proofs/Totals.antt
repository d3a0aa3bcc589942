-- The sum and the greatest of what the parts of a list weigh, when one part changes or comes last.
use Rattle.std.proofs.Common.{◌≡◌, ◌≤◌, ◌<◌, ◌+◌, max, ℕ, zero, suc, ap, ◌∙◌, sym, arith, add-one, List, [], ◌∷◌, ◌++◌, length, set, get_or, take}
use Rattle.std.proofs.Math.Seq.{take-suc}

-- the greatest weight, 0 where there is none
abbrev pub greatest : {A : Type 0} → (A → ℕ) → List A → ℕ
greatest g [] = 0
greatest g (x ∷ xs) = max (g x) (greatest g xs)

-- the sum of the weights
abbrev pub total : {A : Type 0} → (A → ℕ) → List A → ℕ
total f [] = 0
total f (x ∷ xs) = f x + total f xs

module _ {A : Type 0} (f : A → ℕ) where
  pub total-push : (xs : List A) (y : A) → total f (xs ++ y ∷ []) ≡ total f xs + f y
  total-push [] y = omega arith
  total-push (x ∷ xs) y = omega (arith, total-push xs y)

  pub total-set : (xs : List A) (at : ℕ) (y d : A) → at < length xs → total f (set xs at y) + f (get_or xs at d) ≡ total f xs + f y
  total-set [] at y d h = absurd (omega arith)
  total-set (x ∷ xs) zero y d h = omega arith
  total-set (x ∷ xs) (suc at) y d h = omega (arith, total-set xs at y d (omega arith))

  pub total-get_or : (xs : List A) (at : ℕ) (d : A) → at < length xs → f (get_or xs at d) ≤ total f xs
  total-get_or [] at d h = absurd (omega arith)
  total-get_or (x ∷ xs) zero d h = omega arith
  total-get_or (x ∷ xs) (suc at) d h = omega (arith, total-get_or xs at d (omega arith))

  pub total-take : (xs : List A) (i : ℕ) (x : A) → x ≡ get_or xs i x → i < length xs → total f (take (i + 1) xs) ≡ total f (take i xs) + f x
  total-take xs i x e h =
      ap (λ n. total f (take n xs)) (add-one i) ∙ ap (λ ys. total f ys) (take-suc xs i x h) ∙ total-push (take i xs) (get_or xs i x) ∙ ap (λ y. total f (take i xs) + f y) (sym e)

  -- each part weighs something
  pub length-total : ((x : A) → 1 ≤ f x) → (xs : List A) → length xs ≤ total f xs
  length-total one [] = omega arith
  length-total one (x ∷ xs) = omega (arith, one x, length-total one xs)

-- what all parts but one weigh at most, before and after a change of that one
pub record Others {A : Type 0} (g : A → ℕ) (xs after : List A) (old new : A) : Type 0 where
  pub most : ℕ
  pub before : greatest g xs ≡ max most (g old)
  pub now : greatest g after ≡ max most (g new)

module _ {A : Type 0} (g : A → ℕ) where
  pub greatest-push : (xs : List A) (y : A) → greatest g (xs ++ y ∷ []) ≡ max (greatest g xs) (g y)
  greatest-push [] y = omega arith
  greatest-push (x ∷ xs) y = omega (arith, greatest-push xs y)

  pub others : (xs : List A) (at : ℕ) (y d : A) → at < length xs → Others g xs (set xs at y) (get_or xs at d) y
  others [] at y d h = absurd (omega arith)
  others (x ∷ xs) zero y d h = record { most = greatest g xs; before = omega arith; now = omega arith }
  others (x ∷ xs) (suc at) y d h =
      let o : Others g xs (set xs at y) (get_or xs at d) y = others xs at y d (omega arith)
      in record { most = max (g x) o.most; before = omega (arith, o.before); now = omega (arith, o.now) }

  pub greatest-get_or : (xs : List A) (at : ℕ) (d : A) → at < length xs → g (get_or xs at d) ≤ greatest g xs
  greatest-get_or [] at d h = absurd (omega arith)
  greatest-get_or (x ∷ xs) zero d h = omega arith
  greatest-get_or (x ∷ xs) (suc at) d h = omega (arith, greatest-get_or xs at d (omega arith))

  pub greatest-take : (xs : List A) (i : ℕ) (x : A) → x ≡ get_or xs i x → i < length xs → greatest g (take (i + 1) xs) ≡ max (greatest g (take i xs)) (g x)
  greatest-take xs i x e h =
      ap (λ n. greatest g (take n xs)) (add-one i) ∙ ap (λ ys. greatest g ys) (take-suc xs i x h) ∙ greatest-push (take i xs) (get_or xs i x)
      ∙ ap (λ y. max (greatest g (take i xs)) (g y)) (sym e)
