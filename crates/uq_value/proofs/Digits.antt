-- The number of decimal digits, one more digit at a time.
use Rattle.std.proofs.Common.{◌≡◌, ◌<◌, ◌+◌, ◌*◌, ℕ, refl, ap, ◌∙◌, add-one, [], ◌∷◌, ◌++◌, length, take, get_or, true, false, not, ◌||◌, if◌then◌else◌, Some, None, arith}
use Rattle.std.specs.Char.{digit_value, is_ascii_digit}
use Rattle.std.specs.List.{list_all}
use Rattle.std.proofs.Math.Seq.{take-suc}
use Rattle.uq_value.specs.Data.{Bytes}
use Rattle.uq_value.specs.Truth.{is_empty}
use Rattle.uq_value.specs.Number.{digits_value, unsigned}

digits-push : (n : ℕ) (bs : Bytes) (c : ℕ) → digits_value n (bs ++ c ∷ []) ≡ digits_value n bs * 10 + digit_value c
digits-push n [] c = refl
digits-push n (b ∷ bs) c = digits-push (n * 10 + digit_value b) bs c

pub digits-take : (bs : Bytes) (i : ℕ) → i < length bs → digits_value 0 (take (i + 1) bs) ≡ digits_value 0 (take i bs) * 10 + digit_value (get_or bs i 0)
digits-take bs i h =
    ap (λ n. digits_value 0 (take n bs)) (add-one i) ∙ ap (λ cs. digits_value 0 cs) (take-suc bs i 0 h) ∙ digits-push 0 (take i bs) (get_or bs i 0)

pub nothing : (bs : Bytes) → length bs ≡ 0 → unsigned bs ≡ None
nothing [] e = refl
nothing (b ∷ bs) e = absurd (omega (arith, e))

filled : (bs : Bytes) → 0 < length bs → is_empty bs ≡ false
filled [] h = absurd (omega (arith, h))
filled (b ∷ bs) h = refl

pub unsigned_of : (bs : Bytes) → 0 < length bs → list_all is_ascii_digit bs ≡ true → unsigned bs ≡ Some (digits_value 0 bs)
unsigned_of bs h e = ap (λ b. if b || not (list_all is_ascii_digit bs) then None else Some (digits_value 0 bs)) (filled bs h) ∙ ap (λ b. if not b then None else Some (digits_value 0 bs)) e

pub no_unsigned : (bs : Bytes) → 0 < length bs → list_all is_ascii_digit bs ≡ false → unsigned bs ≡ None
no_unsigned bs h e = ap (λ b. if b || not (list_all is_ascii_digit bs) then None else Some (digits_value 0 bs)) (filled bs h) ∙ ap (λ b. if not b then None else Some (digits_value 0 bs)) e
