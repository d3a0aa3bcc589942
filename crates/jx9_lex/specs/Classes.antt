-- The classes of bytes whose runs are taken at once.
use Rattle.std.specs.Prelude.{ℕ, Bool, not, ◌&&◌, ◌==◌, if◌then◌else◌}
use Rattle.std.specs.Char.{is_ascii_digit, is_ascii_hexdigit}
use Rattle.jx9_syntax.specs.Bytes.{is_blank, is_name_byte, is_in_line}
use Rattle.jx9_lex.specs.declared.class.Class.{Class}
use Rattle.jx9_lex.specs.declared.class.Class.TheVariants.{Blank, Name, Decimal, Hexadecimal, InLine, Single, Double}

abbrev pub test : Class → ℕ → Bool
test Blank = is_blank
test Name = is_name_byte
test Decimal = is_ascii_digit
test Hexadecimal = is_ascii_hexdigit
test InLine = is_in_line
test Single = λ b. not (b == 0x27) && not (b == 0x5c)
test Double = λ b. not (b == 0x22) && not (b == 0x5c) && not (b == 0x24)

-- what stands for itself in a text that this quote closes
abbrev pub verbatim_class : ℕ → Class
verbatim_class quote = if quote == 0x22 then Double else Single
