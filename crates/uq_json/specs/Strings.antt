-- What a JSON string spells (RFC 8259, section 7).
use Rattle.std.specs.Prelude.{◌≡◌, ℕ, ◌+◌, ◌-◌, ◌*◌, ◌/◌, ◌%◌, ◌≤◌, ◌≢◌, ◌==◌, nat_lt, nat_le, Bool, true, false, ◌&&◌, if◌then◌else◌, List, [], ◌∷◌, ◌++◌, Option, Some, None}
use Rattle.std.specs.Char.{digit_value}
use Rattle.uq_value.specs.Data.{Bytes}

-- a string is made of bytes, and of numbers of 16 bits that are written as `\uXXXX`
pub data Piece : Type 0 where
  byte : ℕ → Piece
  code : ℕ → Piece

-- a byte from 0x20 on stands for itself, but for the quote and the backslash
pub record IsPlain (c : ℕ) : Type 0 where
  pub printed : 0x20 ≤ c
  pub no_quote : c ≢ 0x22
  pub no_backslash : c ≢ 0x5c

-- what a letter behind a backslash stands for
abbrev pub letter : ℕ → Option ℕ
letter c =
    if c == 0x22 then Some 0x22 else if c == 0x5c then Some 0x5c else if c == 0x2f then Some 0x2f
    else if c == 0x62 then Some 0x08 else if c == 0x66 then Some 0x0c else if c == 0x6e then Some 0x0a
    else if c == 0x72 then Some 0x0d else if c == 0x74 then Some 0x09 else None

-- hexadecimal digits of either case
abbrev pub is_hex : ℕ → Bool
is_hex c = nat_lt (digit_value c) 16

abbrev pub are_hex : ℕ → ℕ → ℕ → ℕ → Bool
are_hex p q r s = is_hex p && is_hex q && is_hex r && is_hex s

abbrev pub hex_number : ℕ → ℕ → ℕ → ℕ → ℕ
hex_number p q r s = ((digit_value p * 16 + digit_value q) * 16 + digit_value r) * 16 + digit_value s

-- one piece of a string
pub data IsPiece (word : Bytes) (piece : Piece) : Type 0 where
  itself : (c : ℕ) → word ≡ c ∷ [] → IsPlain c → piece ≡ byte c → IsPiece word piece
  by_letter : (c b : ℕ) → word ≡ 0x5c ∷ c ∷ [] → letter c ≡ Some b → piece ≡ byte b → IsPiece word piece
  by_number : (p q r s : ℕ) → word ≡ 0x5c ∷ 0x75 ∷ p ∷ q ∷ r ∷ s ∷ [] → are_hex p q r s ≡ true → piece ≡ code (hex_number p q r s) → IsPiece word piece

-- pieces and the quote that ends a string
abbrev pub Inside : Bytes → List Piece → Type 0
Inside body [] = body ≡ 0x22 ∷ []
Inside body (p ∷ ps) = (front : Bytes) × (back : Bytes) × (body ≡ front ++ back) × IsPiece front p × Inside back ps

abbrev pub is_high : ℕ → Bool
is_high n = nat_le 0xd800 n && nat_lt n 0xdc00

abbrev pub is_low : ℕ → Bool
is_low n = nat_le 0xdc00 n && nat_lt n 0xe000

-- whether this number and the piece behind it are one character
abbrev pub pairs_with : ℕ → Piece → Bool
pairs_with n (byte b) = false
pairs_with n (code m) = is_high n && is_low m

abbrev pub number_of : Piece → ℕ
number_of (byte b) = b
number_of (code n) = n

-- the character of a high and a low surrogate
abbrev pub pair : ℕ → ℕ → ℕ
pair high low = 0x10000 + (high - 0xd800) * 0x400 + (low - 0xdc00)

-- the bytes that the scheme of UTF-8 has for a number, also for one that is no character
abbrev pub utf8 : ℕ → Bytes
utf8 n =
    if nat_lt n 0x80 then n ∷ []
    else if nat_lt n 0x800 then (0xc0 + n / 0x40) ∷ (0x80 + n % 0x40) ∷ []
    else if nat_lt n 0x10000 then (0xe0 + n / 0x1000) ∷ (0x80 + n / 0x40 % 0x40) ∷ (0x80 + n % 0x40) ∷ []
    else (0xf0 + n / 0x40000) ∷ (0x80 + n / 0x1000 % 0x40) ∷ (0x80 + n / 0x40 % 0x40) ∷ (0x80 + n % 0x40) ∷ []

-- the bytes of pieces: a high surrogate and a low one directly behind it give one character
abbrev pub bytes_of : List Piece → Bytes
bytes_of [] = []
bytes_of (byte b ∷ ps) = b ∷ bytes_of ps
bytes_of (code n ∷ []) = utf8 n
bytes_of (code n ∷ p ∷ ps) = if pairs_with n p then utf8 (pair n (number_of p)) ++ bytes_of ps else utf8 n ++ bytes_of (p ∷ ps)

-- the text is a JSON string that spells these bytes
pub record IsString (word : Bytes) (bs : Bytes) : Type 0 where
  pub body : Bytes
  pub pieces : List Piece
  pub opened : word ≡ 0x22 ∷ body
  pub inside : Inside body pieces
  pub spelled : bytes_of pieces ≡ bs
