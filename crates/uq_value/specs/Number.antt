-- The number of a value.
use Rattle.std.specs.Prelude.{Bool, true, false, ℕ, zero, suc, ◌+◌, ◌*◌, ◌^◌, not, ◌||◌, if◌then◌else◌, ◌==◌, nat_lt, ℤ, pos, negsuc, [], ◌∷◌, Option, Some, None}
use Rattle.std.specs.List.{list_all}
use Rattle.std.specs.Char.{is_ascii_digit, digit_value}
use Rattle.uq_value.specs.Data.{Bytes}
use Rattle.uq_value.specs.Truth.{is_empty}
use Rattle.uq_value.specs.declared.value.Value.{Value}

-- what decimal digits stand for, behind some that stand for n
abbrev pub digits_value : ℕ → Bytes → ℕ
digits_value n [] = n
digits_value n (c ∷ cs) = digits_value (n * 10 + digit_value c) cs

-- one decimal digit or more
abbrev pub unsigned : Bytes → Option ℕ
unsigned bs = if is_empty bs || not (list_all is_ascii_digit bs) then None else Some (digits_value 0 bs)

-- the number, where it fits in 64 bits with a sign
abbrev pub positive : Option ℕ → Option ℤ
positive None = None
positive (Some n) = if nat_lt n (2 ^ 63) then Some (pos n) else None

-- its opposite, where that fits
abbrev pub negative : Option ℕ → Option ℤ
negative None = None
negative (Some zero) = Some (pos zero)
negative (Some (suc n)) = if nat_lt n (2 ^ 63) then Some (negsuc n) else None

-- the number of a sign and decimal digits
abbrev pub signed : Bool → Bytes → Option ℤ
signed is_negative digits = if is_negative then negative (unsigned digits) else positive (unsigned digits)

-- the number of a text of `-`? and decimal digits
abbrev pub text_number : Bytes → Option ℤ
text_number [] = None
text_number (c ∷ cs) = if c == 45 then signed true cs else signed false (c ∷ cs)

-- null and false are 0, true is 1, a whole number is itself; lists and objects have none
abbrev pub number : Value → Option ℤ
number Value.Null = Some (pos 0)
number (Value.Bool b) = Some (if b then pos 1 else pos 0)
number (Value.Int z) = Some z
number (Value.Text bs) = text_number bs
number (Value.List ds) = None
number (Value.Object ms) = None
