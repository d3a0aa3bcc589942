-- Digits without a leading zero, as digits.
use Rattle.std.proofs.Common.{◌≡◌, refl, sym, ap, ◌∙◌, [], ◌∷◌, Bool, true, false, not, ◌||◌, if◌then◌else◌, ℤ, Option, Some, None}
use Rattle.std.specs.Char.{is_ascii_digit}
use Rattle.std.specs.List.{list_all}
use Rattle.uq_value.specs.Data.{Bytes}
use Rattle.uq_value.specs.Number.{digits_value, unsigned, positive, negative, signed}
use Rattle.uq_value.specs.Truth.{is_empty}
use Rattle.uq_json.specs.Grammar.{has_no_leading_zero}
use Rattle.uq_json.specs.Internal.Reading.{natural}

some_digit : (ds : Bytes) → has_no_leading_zero ds ≡ true → is_empty ds ≡ false
some_digit [] e = absurd (cc)
some_digit (c ∷ cs) e = refl

as_unsigned : (ds : Bytes) → list_all is_ascii_digit ds ≡ true → has_no_leading_zero ds ≡ true → unsigned ds ≡ natural ds
as_unsigned ds all leads =
    ap (λ b. if b || not (list_all is_ascii_digit ds) then None else Some (digits_value 0 ds)) (some_digit ds leads)
    ∙ ap (λ b. if not b then None else Some (digits_value 0 ds)) all
    ∙ sym (ap (λ b. if b then Some (digits_value 0 ds) else None) leads)

pub read_natural : (is_negative : Bool) (ds : Bytes) → list_all is_ascii_digit ds ≡ true → has_no_leading_zero ds ≡ true → signed is_negative ds ≡ (if is_negative then negative (natural ds) else positive (natural ds))
read_natural is_negative ds all leads = ap (λ n. if is_negative then negative n else positive n) (as_unsigned ds all leads)

pub no_natural : (is_negative : Bool) (ds : Bytes) → has_no_leading_zero ds ≡ false → ◌≡◌ {A = Option ℤ} None (if is_negative then negative (natural ds) else positive (natural ds))
no_natural true ds e = sym (ap (λ b. negative (if b then Some (digits_value 0 ds) else None)) e)
no_natural false ds e = sym (ap (λ b. positive (if b then Some (digits_value 0 ds) else None)) e)
