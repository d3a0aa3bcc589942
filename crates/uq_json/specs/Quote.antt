-- Bytes as a JSON string (RFC 8259, section 7) with the shortest escapes.
use Rattle.std.specs.Prelude.{ℕ, ◌+◌, ◌/◌, ◌%◌, ◌==◌, nat_lt, if◌then◌else◌, [], ◌∷◌, ◌++◌, codes}
use Rattle.std.specs.List.{flat_map}
use Rattle.uq_value.specs.Data.{Bytes}

-- a hexadecimal digit, of lower case
abbrev pub hex_digit : ℕ → ℕ
hex_digit n = if nat_lt n 10 then 0x30 + n else 0x57 + n

-- a control byte that has no letter of its own
abbrev pub escaped_control : ℕ → Bytes
escaped_control b = codes "\\u00" ++ hex_digit (b / 16) ∷ hex_digit (b % 16) ∷ []

-- bytes from 0x20 on stand as they are, but for the quote and the backslash
abbrev pub escaped : ℕ → Bytes
escaped b =
    if b == 0x22 then codes "\\\"" else if b == 0x5c then codes "\\\\"
    else if b == 0x08 then codes "\\b" else if b == 0x09 then codes "\\t"
    else if b == 0x0a then codes "\\n" else if b == 0x0c then codes "\\f"
    else if b == 0x0d then codes "\\r" else if nat_lt b 0x20 then escaped_control b else b ∷ []

abbrev pub quoted : Bytes → Bytes
quoted bs = 0x22 ∷ flat_map escaped bs ++ 0x22 ∷ []
