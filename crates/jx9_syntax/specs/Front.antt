-- What stands at the front of a text, as a function, and what stands behind it.
use Rattle.std.specs.Prelude.{◌≡◌, ℕ, zero, suc, ◌<◌, ◌++◌, ◌==◌, if◌then◌else◌, pos, List, [], ◌∷◌, length, Option, Some, None}
use Rattle.std.specs.Char.{is_ascii_digit, is_ascii_hexdigit}
use Rattle.uq_value.specs.Data.{Bytes}
use Rattle.jx9_syntax.specs.Bytes.{is_blank, is_letter, is_name_byte, is_in_line, run, behind, value_in}
use Rattle.jx9_syntax.specs.Quoted.{Piece, piece_at, parts_of}
use Rattle.jx9_syntax.specs.Signs.{sign_at}
use Rattle.jx9_syntax.specs.Tokens.{Lexeme, Of, Gap, Unclosed, Begins, Longest, quoted_kind, behind_comment}
use Rattle.jx9_syntax.specs.declared.sign.Sign.{Sign}
use Rattle.jx9_syntax.specs.declared.token.TokenKind.TheVariants as kind

abbrev pub Taken : Type 0
Taken = Option (Lexeme × Bytes)

infixl 10 ◌>>=◌
abbrev pub ◌>>=◌ : {A B : Type 0} → Option A → (A → Option B) → Option B
(Some x) >>= f = f x
None >>= f = None

-- ---- numbers

-- behind `0x`
abbrev pub hexadecimal_at : Bytes → Bytes → Bytes → Taken
hexadecimal_at [] after all = Some (Of (kind.Int (pos 0)), all)
hexadecimal_at (c ∷ cs) after all = Some (Of (kind.Int (pos (value_in 16 0 (c ∷ cs)))), after)

-- behind `0`
abbrev pub zero_at : Bytes → Taken
zero_at [] = Some (Of (kind.Int (pos 0)), [])
zero_at (c ∷ cs) = if c == 0x78 then hexadecimal_at (run is_ascii_hexdigit cs) (behind is_ascii_hexdigit cs) (c ∷ cs) else Some (Of (kind.Int (pos 0)), c ∷ cs)

abbrev pub number_at : ℕ → Bytes → Taken
number_at b bs = if b == 0x30 then zero_at bs else Some (Of (kind.Int (pos (value_in 10 0 (b ∷ run is_ascii_digit bs)))), behind is_ascii_digit bs)

-- ---- names

-- behind `$`
abbrev pub variable_at : Bytes → Taken
variable_at [] = None
variable_at (c ∷ cs) = if is_letter c then Some (Of (kind.Var (c ∷ run is_name_byte cs)), behind is_name_byte cs) else None

-- ---- texts in quotes

-- behind the opening quote: the pieces up to the closing one, at most so many
abbrev pub pieces_within : ℕ → ℕ → Bytes → Option (List Piece × Bytes)
pieces_within q zero text = None
pieces_within q (suc n) [] = None
pieces_within q (suc n) (b ∷ bs) =
    if b == q then Some ([], bs) else (piece_at q (b ∷ bs) >>= λ x. pieces_within q n x.1 >>= λ y. Some (x.0 ∷ y.0, y.1))

abbrev pub inside_at : ℕ → Bytes → Option (List Piece × Bytes)
inside_at q text = pieces_within q (length text) text

abbrev pub quoted_at : ℕ → Bytes → Taken
quoted_at q text = inside_at q text >>= λ x. Some (Of (quoted_kind (parts_of x.0)), x.1)

-- ---- signs and comments

abbrev pub of_sign : Option (Sign × Bytes) → Taken
of_sign found = found >>= λ x. Some (Of (kind.Sign x.0), x.1)

abbrev pub of_comment : Option Bytes → Taken
of_comment None = Some (Unclosed, [])
of_comment (Some rest) = Some (Gap, rest)

-- behind `/`
abbrev pub slash_at : Bytes → Taken
slash_at [] = of_sign (sign_at (0x2f ∷ []))
slash_at (c ∷ cs) =
    if c == 0x2f then Some (Gap, behind is_in_line cs)
    else if c == 0x2a then of_comment (behind_comment cs) else of_sign (sign_at (0x2f ∷ c ∷ cs))

-- what else begins so, which one byte tells
abbrev pub other_at : ℕ → Bytes → Taken
other_at b bs =
    if is_blank b then Some (Gap, behind is_blank bs)
    else if b == 0x24 then variable_at bs
    else if b == 0x22 then quoted_at b bs
    else if b == 0x27 then quoted_at b bs
    else if b == 0x23 then Some (Gap, behind is_in_line bs)
    else if b == 0x2f then slash_at bs
    else of_sign (sign_at (b ∷ bs))

unfoldable pub front : Bytes → Taken
front [] = None
front (b ∷ bs) =
    if is_letter b then Some (Of (kind.Name (b ∷ run is_name_byte bs)), behind is_name_byte bs)
    else if is_ascii_digit b then number_at b bs
    else other_at b bs

-- what is taken is a word, of a byte at least, and none is longer
pub record TakesLongest (text rest : Bytes) (x : Lexeme) : Type 0 where
  pub word : Bytes
  pub split : text ≡ word ++ rest
  pub shorter : length rest < length text
  pub longest : Longest text rest x

-- the function is right: what it takes is the longest, and where it takes nothing, nothing begins there
abbrev pub IsFront : Bytes → Taken → Type 0
IsFront text (Some x) = TakesLongest text x.1 x.0
IsFront text None = (rest : Bytes) (x : Lexeme) → Begins text rest x → ⊥
