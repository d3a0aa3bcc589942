-- The number at the front of a text.
use Rattle.std.specs.Char.{is_ascii_hexdigit, digit_value}
use Rattle.std.specs.Prelude.{ℕ, ◌+◌, ◌*◌, ◌&&◌, if◌then◌else◌, Option, Some, Bool, false, ◌==◌, [], ◌∷◌, None}
use Rattle.uq_value.specs.Data.{Bytes}
use Rattle.jx9_syntax.specs.Bytes.{Class}
use Rattle.jx9_syntax.specs.Front.{Taken, number_at}

-- whether the first byte is of the class
abbrev pub begins_with : Class → Bytes → Bool
begins_with p [] = false
begins_with p (b ∷ bs) = p b

abbrev pub is_zero : Class
is_zero b = b == 0x30

abbrev pub first_number : Bytes → Taken
first_number [] = None
first_number (b ∷ bs) = number_at b bs

-- the byte of two hexadecimal digits
abbrev pub hexadecimal_byte : ℕ → ℕ → Option ℕ
hexadecimal_byte high low =
    if is_ascii_hexdigit high && is_ascii_hexdigit low then Some (digit_value high * 16 + digit_value low) else None
