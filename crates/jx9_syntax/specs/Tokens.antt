-- The tokens of a text. They are cut off its front, the longest first, with blanks and comments between them.
use Rattle.std.specs.Prelude.{◌≡◌, ◌≢◌, ℕ, ◌+◌, ◌^◌, ◌<◌, ◌≤◌, ◌==◌, ◌&&◌, ◌⊎◌, if◌then◌else◌, true, pos, negsuc, List, [], ◌∷◌, ◌++◌, length, Option, Some, None}
use Rattle.std.specs.Char.{is_ascii_digit, is_ascii_hexdigit}
use Rattle.uq_value.specs.Data.{Bytes}
use Rattle.uq_value.specs.Size.{text_size, most_size}
use Rattle.jx9_syntax.specs.Bytes.{is_blank, is_letter, is_name_byte, is_in_line, AllOf, value_in, breaks}
use Rattle.jx9_syntax.specs.Quoted.{Piece, Inside, parts_of}
use Rattle.jx9_syntax.specs.Signs.{spelling}
use Rattle.jx9_syntax.specs.declared.parts.Part.{Part}
use Rattle.jx9_syntax.specs.declared.parts.Part.TheVariants as part
use Rattle.jx9_syntax.specs.declared.sign.Sign.{Sign}
use Rattle.jx9_syntax.specs.declared.token.Token.{Token}
use Rattle.jx9_syntax.specs.declared.token.TokenKind.{TokenKind}
use Rattle.jx9_syntax.specs.declared.token.TokenKind.TheVariants as kind

-- what may stand at a place: a token, blanks or a comment, or a comment that is not closed
pub data Lexeme : Type 0 where
  Of : TokenKind → Lexeme
  Gap : Lexeme
  Unclosed : Lexeme

-- ---- words

-- a letter or `_`, then letters, digits, `_`
abbrev pub IsName : Bytes → Type 0
IsName [] = ⊥
IsName (c ∷ cs) = (is_letter c ≡ true) × AllOf is_name_byte cs

-- digits without a leading zero
abbrev pub IsDecimal : Bytes → Type 0
IsDecimal [] = ⊥
IsDecimal (c ∷ cs) = (is_ascii_digit c ≡ true) × (c ≢ 0x30) × AllOf is_ascii_digit cs

-- hexadecimal digits, at least one
abbrev pub AreHexadecimal : Bytes → Type 0
AreHexadecimal [] = ⊥
AreHexadecimal (c ∷ cs) = (is_ascii_hexdigit c ≡ true) × AllOf is_ascii_hexdigit cs

abbrev pub AreBlanks : Bytes → Type 0
AreBlanks [] = ⊥
AreBlanks (c ∷ cs) = (is_blank c ≡ true) × AllOf is_blank cs

-- a text that names no variable is a Text, and any other Mixed
abbrev pub quoted_kind : List Part → TokenKind
quoted_kind [] = kind.Text []
quoted_kind (part.Text bs ∷ []) = kind.Text bs
quoted_kind (part.Text bs ∷ p ∷ ps) = kind.Mixed (part.Text bs ∷ p ∷ ps)
quoted_kind (part.Var bs ∷ ps) = kind.Mixed (part.Var bs ∷ ps)

-- `'` or `"`
abbrev pub IsQuote : ℕ → Type 0
IsQuote q = (q ≡ 0x27) ⊎ (q ≡ 0x22)

-- behind `/*`: what stands behind the first `*/`
abbrev pub behind_comment : Bytes → Option Bytes
behind_comment [] = None
behind_comment (b ∷ []) = None
behind_comment (b ∷ c ∷ cs) = if b == 0x2a && c == 0x2f then Some cs else behind_comment (c ∷ cs)

-- the text begins with this, behind which the rest stands
pub data Begins (text rest : Bytes) (x : Lexeme) : Type 0 where
  name : (word : Bytes) → text ≡ word ++ rest → IsName word → x ≡ Of (kind.Name word) → Begins text rest x
  variable : (word : Bytes) → text ≡ 0x24 ∷ (word ++ rest) → IsName word → x ≡ Of (kind.Var word) → Begins text rest x
  zero_int : text ≡ 0x30 ∷ rest → x ≡ Of (kind.Int (pos 0)) → Begins text rest x
  decimal : (word : Bytes) → text ≡ word ++ rest → IsDecimal word → x ≡ Of (kind.Int (pos (value_in 10 0 word))) → Begins text rest x
  hexadecimal : (word : Bytes) → text ≡ 0x30 ∷ 0x78 ∷ (word ++ rest) → AreHexadecimal word → x ≡ Of (kind.Int (pos (value_in 16 0 word))) → Begins text rest x
  quoted : (q : ℕ) (inner : Bytes) (ps : List Piece) → text ≡ q ∷ inner → IsQuote q → Inside q inner ps rest → x ≡ Of (quoted_kind (parts_of ps)) → Begins text rest x
  sign : (s : Sign) → text ≡ spelling s ++ rest → x ≡ Of (kind.Sign s) → Begins text rest x
  blanks : (word : Bytes) → text ≡ word ++ rest → AreBlanks word → x ≡ Gap → Begins text rest x
  hash_comment : (word : Bytes) → text ≡ 0x23 ∷ (word ++ rest) → AllOf is_in_line word → x ≡ Gap → Begins text rest x
  line_comment : (word : Bytes) → text ≡ 0x2f ∷ 0x2f ∷ (word ++ rest) → AllOf is_in_line word → x ≡ Gap → Begins text rest x
  comment : (inner : Bytes) → text ≡ 0x2f ∷ 0x2a ∷ inner → behind_comment inner ≡ Some rest → x ≡ Gap → Begins text rest x
  -- it takes all that is left, and so no sign `/` is seen there
  unclosed : (inner : Bytes) → text ≡ 0x2f ∷ 0x2a ∷ inner → behind_comment inner ≡ None → rest ≡ [] → x ≡ Unclosed → Begins text rest x

-- no more of the text can be taken
pub record Longest (text rest : Bytes) (x : Lexeme) : Type 0 where
  pub begins : Begins text rest x
  pub longest : (after : Bytes) (y : Lexeme) → Begins text after y → length rest ≤ length after

-- ---- limits

-- as a text it is within the limit of a value
abbrev pub FitsText : Bytes → Type 0
FitsText bs = text_size bs ≤ most_size

abbrev pub PartsFit : List Part → Type 0
PartsFit [] = Unit {0}
PartsFit (part.Text bs ∷ ps) = FitsText bs × PartsFit ps
PartsFit (part.Var bs ∷ ps) = FitsText bs × PartsFit ps

-- The limits are asked of the longest token: one that is beyond them is no shorter one.
abbrev pub InLimit : TokenKind → Type 0
InLimit (kind.Name bs) = FitsText bs
InLimit (kind.Var bs) = FitsText bs
InLimit (kind.Int (pos n)) = n < 2 ^ 63
InLimit (kind.Int (negsuc n)) = ⊥
InLimit (kind.Text bs) = FitsText bs
InLimit (kind.Mixed ps) = PartsFit ps
InLimit (kind.Sign s) = Unit {0}
InLimit kind.End = ⊥

-- ---- all tokens

abbrev pub token_at : ℕ → TokenKind → Token
token_at line k = record { kind = k; line = line }

-- the tokens of a text that begins in this line, and its end
pub data Lexes : ℕ → Bytes → List Token → Type 0 where
  end : {line : ℕ} → Lexes line [] (token_at line kind.End ∷ [])
  gap : {line : ℕ} {text : Bytes} {ts : List Token} (word rest : Bytes) → text ≡ word ++ rest → Longest text rest Gap
      → Lexes (line + breaks word) rest ts → Lexes line text ts
  token : {line : ℕ} {text : Bytes} {ts : List Token} (word rest : Bytes) (k : TokenKind) → text ≡ word ++ rest → Longest text rest (Of k) → InLimit k
      → Lexes (line + breaks word) rest ts → Lexes line text (token_at line k ∷ ts)

-- the first byte at which no token begins is in this line
pub data Stuck : ℕ → Bytes → ℕ → Type 0 where
  nothing : {line : ℕ} (b : ℕ) (bs : Bytes) → ((rest : Bytes) (x : Lexeme) → Begins (b ∷ bs) rest x → ⊥) → Stuck line (b ∷ bs) line
  unclosed : {line : ℕ} {text : Bytes} (rest : Bytes) → Longest text rest Unclosed → Stuck line text line
  too_large : {line : ℕ} {text : Bytes} (rest : Bytes) (k : TokenKind) → Longest text rest (Of k) → (InLimit k → ⊥) → Stuck line text line
  behind_gap : {line at : ℕ} {text : Bytes} (word rest : Bytes) → text ≡ word ++ rest → Longest text rest Gap
      → Stuck (line + breaks word) rest at → Stuck line text at
  behind_token : {line at : ℕ} {text : Bytes} (word rest : Bytes) (k : TokenKind) → text ≡ word ++ rest → Longest text rest (Of k) → InLimit k
      → Stuck (line + breaks word) rest at → Stuck line text at

-- a text has one list of tokens, or it is stuck at one line
pub record HasOneAnswer (text : Bytes) : Type 0 where
  pub one_list : (ts us : List Token) → Lexes 1 text ts → Lexes 1 text us → ts ≡ us
  pub one_line : (m n : ℕ) → Stuck 1 text m → Stuck 1 text n → m ≡ n
  pub not_both : (ts : List Token) (line : ℕ) → Lexes 1 text ts → Stuck 1 text line → ⊥
  pub one_of_both : ((ts : List Token) × Lexes 1 text ts) ⊎ ((line : ℕ) × Stuck 1 text line)
