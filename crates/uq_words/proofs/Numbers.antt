-- Numbers of options, read from the left.
use Rattle.std.proofs.Common.{◌≡◌, ℕ, ◌+◌, ◌*◌, ◌<◌, ◌≤◌, Bool, true, false, not, ◌&&◌, ◌||◌, leb, cond, if◌then◌else◌, [], ◌∷◌, Option, Some, None, refl, ap, ◌∙◌, arith}
use Rattle.std.specs.Char.{digit_value, is_ascii_digit}
use Rattle.std.specs.List.{list_all}
use Rattle.uq_value.specs.Data.{Bytes}
use Rattle.uq_value.specs.Number.{digits_value}
use Rattle.uq_words.specs.Options.{number, within}

-- the number of digits behind some that stand for a value
abbrev pub number_behind : ℕ → ℕ → Bytes → Option ℕ
number_behind most value digits = within most (if list_all is_ascii_digit digits then Some (digits_value value digits) else None)

pub number_begins : (most : ℕ) (text : Bytes) → number_behind most 0 text ≡ number most text
number_begins most [] = refl
number_begins most (c ∷ cs) = by (list_all is_ascii_digit (c ∷ cs))
  where
    by : (b : Bool) → within most (cond b (Some (digits_value 0 (c ∷ cs))) None) ≡ within most (cond (false || not b) None (Some (digits_value 0 (c ∷ cs))))
    by true = refl
    by false = refl

pub number_goes_on : (most value c : ℕ) (cs : Bytes) → is_ascii_digit c ≡ true → number_behind most value (c ∷ cs) ≡ number_behind most (value * 10 + digit_value c) cs
number_goes_on most value c cs is = ap (λ (b : Bool). within most (cond (b && list_all is_ascii_digit cs) (Some (digits_value (value * 10 + digit_value c) cs)) None)) is

-- a byte that is no digit
pub number_stops : (most value c : ℕ) (cs : Bytes) → is_ascii_digit c ≡ false → number_behind most value (c ∷ cs) ≡ None
number_stops most value c cs is = ap (λ (b : Bool). within most (cond (b && list_all is_ascii_digit cs) (Some (digits_value (value * 10 + digit_value c) cs)) None)) is

-- more digits stand for no less
grows : (value : ℕ) (digits : Bytes) → value ≤ digits_value value digits
grows value [] = omega arith
grows value (c ∷ cs) = let more = grows (value * 10 + digit_value c) cs in omega arith

above : (most n : ℕ) → most < n → within most (Some n) ≡ None
above most n less = ap (λ (b : Bool). cond (leb 1 n && b) (Some n) None) (let no : leb n most ≡ false = grind arith in no) ∙ both (leb 1 n)
  where
    both : (b : Bool) → cond (b && false) (Some n) None ≡ None
    both true = refl
    both false = refl

pub number_exceeds : (most value : ℕ) (digits : Bytes) → most < value → number_behind most value digits ≡ None
number_exceeds most value digits less = by (list_all is_ascii_digit digits)
  where
    by : (b : Bool) → within most (cond b (Some (digits_value value digits)) None) ≡ None
    by true = let more = grows value digits in above most (digits_value value digits) (omega arith)
    by false = refl

pub number_ends : (most value : ℕ) → value ≤ most → 0 < value → number_behind most value [] ≡ Some value
number_ends most value few some =
    let at_least : leb 1 value ≡ true = grind arith in
    let at_most : leb value most ≡ true = grind arith in
    ap (λ (b : Bool). cond (b && leb value most) (Some value) None) at_least ∙ ap (λ (b : Bool). cond b (Some value) None) at_most
