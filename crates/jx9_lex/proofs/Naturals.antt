-- The number of digits in a base, one more digit at a time.
use Rattle.std.proofs.Common.{◌≡◌, ◌<◌, ◌≤◌, ◌+◌, ◌*◌, ◌-◌, ◌^◌, min, ℕ, Bool, true, false, leb, refl, sym, ap, ◌∙◌, add-one, [], ◌∷◌, ◌++◌, length, take, get_or, arith}
use Rattle.std.specs.Char.{digit_value}
use Rattle.std.proofs.Math.Seq.{take-suc}
use Rattle.std.proofs.Math.Nat.{mul-le-mul_left}
use Rattle.std.proofs.lemmas.Bool.{leb-true}
use Rattle.uq_value.specs.Data.{Bytes}
use Rattle.jx9_syntax.specs.Bytes.{value_in}

value_push : (base n : ℕ) (bs : Bytes) (c : ℕ) → value_in base n (bs ++ c ∷ []) ≡ value_in base n bs * base + digit_value c
value_push base n [] c = refl
value_push base n (b ∷ bs) c = value_push base (n * base + digit_value b) bs c

value_take : (base : ℕ) (bs : Bytes) (i : ℕ) → i < length bs → value_in base 0 (take (i + 1) bs) ≡ value_in base 0 (take i bs) * base + digit_value (get_or bs i 0)
value_take base bs i h =
    ap (λ n. value_in base 0 (take n bs)) (add-one i) ∙ ap (λ cs. value_in base 0 cs) (take-suc bs i 0 h) ∙ value_push base 0 (take i bs) (get_or bs i 0)

-- what is at its end already stays there
one_step : (most base v d n by_base more : ℕ) → 1 ≤ base → n ≡ min v most → by_base ≡ min (n * base) most → more ≡ min (by_base + d) most → more ≡ min (v * base + d) most
one_step most base v d n by_base more h so_far based added = by (leb v most) refl
  where
    by : (t : Bool) → leb v most ≡ t → more ≡ min (v * base + d) most
    by true e =
        let small : n ≡ v = omega (arith, so_far, leb-true v most e) in
        let same : n * base ≡ v * base = ap (λ k. k * base) small in
        omega (arith, same, based, added)
    by false e =
        let large : most < v = grind arith in
        let full : n ≡ most = omega (arith, so_far, large) in
        let same : n * base ≡ most * base = ap (λ k. k * base) full in
        let one : most * 1 ≤ most * base = mul-le-mul_left most h in
        let other : v * 1 ≤ v * base = mul-le-mul_left v h in
        omega (arith, same, based, added, one, other, large)

pub one_digit_more : (base : ℕ) (bs : Bytes) (i n by_base more : ℕ) → 1 ≤ base → i < length bs → n ≡ min (value_in base 0 (take i bs)) (2 ^ 64 - 1)
    → by_base ≡ min (n * base) (2 ^ 64 - 1) → more ≡ min (by_base + digit_value (get_or bs i 0)) (2 ^ 64 - 1) → more ≡ min (value_in base 0 (take (i + 1) bs)) (2 ^ 64 - 1)
one_digit_more base bs i n by_base more h within so_far based added =
    one_step (2 ^ 64 - 1) base (value_in base 0 (take i bs)) (digit_value (get_or bs i 0)) n by_base more h so_far based added
    ∙ ap (λ k. min k (2 ^ 64 - 1)) (sym (value_take base bs i within))
