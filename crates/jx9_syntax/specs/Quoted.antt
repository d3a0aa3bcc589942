-- Texts in quotes: their pieces from the left, and what they stand for.
use Rattle.std.specs.Prelude.{◌≡◌, ℕ, ◌+◌, ◌*◌, ◌==◌, if◌then◌else◌, ◌||◌, ◌&&◌, List, [], ◌∷◌, Option, Some, None}
use Rattle.std.specs.Char.{is_ascii_hexdigit, digit_value}
use Rattle.uq_value.specs.Data.{Bytes}
use Rattle.jx9_syntax.specs.Bytes.{is_letter, is_name_byte, run, behind}
use Rattle.jx9_syntax.specs.declared.parts.Part.{Part}
use Rattle.jx9_syntax.specs.declared.parts.Part.TheVariants.{Text, Var}

-- a byte of the text, or a variable by its name
pub data Piece : Type 0 where
  byte : ℕ → Piece
  variable : Bytes → Piece

-- a piece and what stands behind it
abbrev pub Cut : Type 0
Cut = Option (Piece × Bytes)

-- ---- behind a backslash; where no escape begins there, the backslash stands

abbrev pub backslash : Bytes → Cut
backslash rest = Some (byte 0x5c, rest)

-- in single quotes: `\'` and `\\`
abbrev pub single_escape_at : Bytes → Cut
single_escape_at [] = backslash []
single_escape_at (c ∷ cs) = if c == 0x27 || c == 0x5c then Some (byte c, cs) else backslash (c ∷ cs)

-- in double quotes: `\n`, `\t`, `\r`, `\\`, `\"`, `\$`
abbrev pub letter : ℕ → Option ℕ
letter c =
    if c == 0x6e then Some 0x0a else if c == 0x74 then Some 0x09 else if c == 0x72 then Some 0x0d
    else if c == 0x5c then Some 0x5c else if c == 0x22 then Some 0x22 else if c == 0x24 then Some 0x24 else None

-- and `\x` with two hexadecimal digits, here behind the `x`
abbrev pub number_escape_at : Bytes → Cut
number_escape_at [] = backslash (0x78 ∷ [])
number_escape_at (h ∷ []) = backslash (0x78 ∷ h ∷ [])
number_escape_at (h ∷ l ∷ rest) =
    if is_ascii_hexdigit h && is_ascii_hexdigit l then Some (byte (digit_value h * 16 + digit_value l), rest) else backslash (0x78 ∷ h ∷ l ∷ rest)

abbrev pub letter_escape_at : Option ℕ → ℕ → Bytes → Cut
letter_escape_at (Some b) c rest = Some (byte b, rest)
letter_escape_at None c rest = backslash (c ∷ rest)

abbrev pub double_escape_at : Bytes → Cut
double_escape_at [] = backslash []
double_escape_at (c ∷ cs) = if c == 0x78 then number_escape_at cs else letter_escape_at (letter c) c cs

abbrev pub escape_at : ℕ → Bytes → Cut
escape_at quote rest = if quote == 0x22 then double_escape_at rest else single_escape_at rest

-- ---- behind a `$`

-- in double quotes `$` and a name is a variable; another `$` stands
abbrev pub variable_at : Bytes → Cut
variable_at [] = Some (byte 0x24, [])
variable_at (c ∷ cs) = if is_letter c then Some (variable (c ∷ run is_name_byte cs), behind is_name_byte cs) else Some (byte 0x24, c ∷ cs)

abbrev pub dollar_at : ℕ → Bytes → Cut
dollar_at quote rest = if quote == 0x22 then variable_at rest else Some (byte 0x24, rest)

-- ---- pieces

-- The piece at the front, inside a text that this quote closes. None begins with the quote. Any other byte stands.
abbrev pub piece_at : ℕ → Bytes → Cut
piece_at quote [] = None
piece_at quote (b ∷ bs) =
    if b == quote then None else if b == 0x5c then escape_at quote bs else if b == 0x24 then dollar_at quote bs else Some (byte b, bs)

-- behind the opening quote: these pieces, and the closing quote, behind which the rest stands
abbrev pub Inside : ℕ → Bytes → List Piece → Bytes → Type 0
Inside quote text [] rest = text ≡ quote ∷ rest
Inside quote text (p ∷ ps) rest = (middle : Bytes) × (piece_at quote text ≡ Some (p, middle)) × Inside quote middle ps rest

-- ---- what they stand for

-- bytes that stand side by side are one text, and no text is empty
abbrev pub with_byte : ℕ → List Part → List Part
with_byte b [] = Text (b ∷ []) ∷ []
with_byte b (Text bs ∷ others) = Text (b ∷ bs) ∷ others
with_byte b (Var name ∷ others) = Text (b ∷ []) ∷ Var name ∷ others

abbrev pub parts_of : List Piece → List Part
parts_of [] = []
parts_of (byte b ∷ ps) = with_byte b (parts_of ps)
parts_of (variable name ∷ ps) = Var name ∷ parts_of ps

-- no text is empty, and no two texts stand side by side
abbrev pub StandApart : List Part → Type 0
StandApart [] = Unit {0}
StandApart (Var name ∷ ps) = StandApart ps
StandApart (Text [] ∷ ps) = ⊥
StandApart (Text (b ∷ bs) ∷ []) = Unit {0}
StandApart (Text (b ∷ bs) ∷ Text cs ∷ ps) = ⊥
StandApart (Text (b ∷ bs) ∷ Var name ∷ ps) = StandApart ps
