-- Classes of bytes, and runs of a class.
use Rattle.std.specs.Prelude.{ℕ, ◌+◌, ◌*◌, nat_le, Bool, true, not, ◌&&◌, ◌||◌, ◌==◌, ◌≡◌, if◌then◌else◌, [], ◌∷◌, count_by}
use Rattle.std.specs.List.{list_all}
use Rattle.std.specs.Char.{is_ascii_alphabetic, is_ascii_digit, digit_value}
use Rattle.uq_value.specs.Data.{Bytes}

abbrev pub Class : Type 0
Class = ℕ → Bool

-- tab, line feed, vertical tab, form feed, carriage return, space
abbrev pub is_blank : Class
is_blank b = (nat_le 0x09 b && nat_le b 0x0d) || b == 0x20

-- what a name begins with, and what it goes on with
abbrev pub is_letter : Class
is_letter b = is_ascii_alphabetic b || b == 0x5f

abbrev pub is_name_byte : Class
is_name_byte b = is_letter b || is_ascii_digit b

-- any byte but a line feed
abbrev pub is_in_line : Class
is_in_line b = not (b == 0x0a)

abbrev pub AllOf : Class → Bytes → Type 0
AllOf p word = list_all p word ≡ true

-- the longest run of a class at the front, and what stands behind it
abbrev pub run : Class → Bytes → Bytes
run p [] = []
run p (b ∷ bs) = if p b then b ∷ run p bs else []

abbrev pub behind : Class → Bytes → Bytes
behind p [] = []
behind p (b ∷ bs) = if p b then behind p bs else b ∷ bs

-- what digits stand for in a base, behind some that stand for n
abbrev pub value_in : ℕ → ℕ → Bytes → ℕ
value_in base n [] = n
value_in base n (c ∷ cs) = value_in base (n * base + digit_value c) cs

-- how many line feeds there are
abbrev pub breaks : Bytes → ℕ
breaks word = count_by (λ b. b == 0x0a) word
