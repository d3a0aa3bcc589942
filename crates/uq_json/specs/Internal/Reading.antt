-- Reading from the left: what is read and the bytes behind it, or the fault at which reading stops.
use Rattle.std.specs.Prelude.{◌≡◌, ℕ, zero, suc, ℤ, Bool, true, false, ◌==◌, nat_le, not, ◌&&◌, if◌then◌else◌, List, [], ◌∷◌, length, drop, Option, Some, None, Result, Ok, Err, codes}
use Rattle.std.specs.Char.{is_ascii_digit}
use Rattle.uq_value.specs.Data.{Bytes, Data, null, bool, int, text, list, object}
use Rattle.uq_value.specs.Number.{digits_value, positive, negative}
use Rattle.uq_json.specs.Strings.{Piece, byte, code, letter, are_hex, hex_number, bytes_of}
use Rattle.uq_json.specs.Grammar.{is_blank, has_no_leading_zero, merged}
use Rattle.uq_json.specs.declared.error.JsonFault.{JsonFault}
use Rattle.uq_json.specs.declared.error.JsonFault.TheVariants.{NotJson, TooDeep, TooLarge, Memory}

abbrev pub Read : Type 0 → Type 0
Read A = Result (A × Bytes) JsonFault

infixl 10 ◌>>=◌
abbrev pub ◌>>=◌ : {A B : Type 0} → Read A → (A × Bytes → Read B) → Read B
(Ok x) >>= f = f x
(Err e) >>= f = Err e

-- what a function answered is what reading gives, unless memory ran out
abbrev pub Fails : {Y : Type 0} → JsonFault → Read Y → Type 0
Fails Memory read = Unit {0}
Fails NotJson read = read ≡ Err NotJson
Fails TooDeep read = read ≡ Err TooDeep
Fails TooLarge read = ⊥

abbrev pub Gives : {X Y : Type 0} → (X → Y × Bytes) → Result X JsonFault → Read Y → Type 0
Gives view (Ok x) read = read ≡ Ok (view x)
Gives view (Err e) read = Fails e read

-- whether this byte is next
abbrev pub is_next : ℕ → Bytes → Bool
is_next expected [] = false
is_next expected (c ∷ cs) = c == expected

-- the bytes behind the blanks
abbrev pub skip_blanks : Bytes → Bytes
skip_blanks [] = []
skip_blanks (c ∷ cs) = if is_blank c then skip_blanks cs else c ∷ cs

abbrev pub padded : {A : Type 0} → (Bytes → Read A) → Bytes → Read A
padded r ts = r (skip_blanks ts) >>= λ x. Ok (x.0, skip_blanks x.1)

-- the bytes behind one that has to be there
abbrev pub behind : ℕ → Bytes → Read (Unit {0})
behind expected [] = Err NotJson
behind expected (c ∷ cs) = if c == expected then Ok (tt, cs) else Err NotJson

-- the value of a word that has to be there
abbrev pub literal : Bytes → Data → Bytes → Read Data
literal [] d ts = Ok (d, ts)
literal (w ∷ ws) d [] = Err NotJson
literal (w ∷ ws) d (c ∷ cs) = if c == w then literal ws d cs else Err NotJson

-- ---- numbers

abbrev pub digits_of : Bytes → Bytes
digits_of [] = []
digits_of (c ∷ cs) = if is_ascii_digit c then c ∷ digits_of cs else []

abbrev pub behind_digits : Bytes → Bytes
behind_digits [] = []
behind_digits (c ∷ cs) = if is_ascii_digit c then behind_digits cs else c ∷ cs

abbrev pub natural : Bytes → Option ℕ
natural digits = if has_no_leading_zero digits then Some (digits_value 0 digits) else None

abbrev pub number_or_fault : Option ℤ → Bytes → Read ℤ
number_or_fault (Some z) rest = Ok (z, rest)
number_or_fault None rest = Err NotJson

abbrev pub number_at : Bytes → Read ℤ
number_at [] = Err NotJson
number_at (c ∷ cs) =
    if c == 0x2d then number_or_fault (negative (natural (digits_of cs))) (behind_digits cs)
    else number_or_fault (positive (natural (digits_of (c ∷ cs)))) (behind_digits (c ∷ cs))

-- ---- strings

abbrev pub letter_or_fault : Option ℕ → Bytes → Read Piece
letter_or_fault (Some b) rest = Ok (byte b, rest)
letter_or_fault None rest = Err NotJson

abbrev pub unicode_at : Bytes → Read Piece
unicode_at (p ∷ q ∷ r ∷ s ∷ rest) = if are_hex p q r s then Ok (code (hex_number p q r s), rest) else Err NotJson
unicode_at _ = Err NotJson

abbrev pub escape_at : Bytes → Read Piece
escape_at [] = Err NotJson
escape_at (c ∷ cs) = if c == 0x75 then unicode_at cs else letter_or_fault (letter c) cs

abbrev pub piece_at : Bytes → Read Piece
piece_at [] = Err NotJson
piece_at (c ∷ cs) = if c == 0x5c then escape_at cs else (if nat_le 0x20 c then Ok (byte c, cs) else Err NotJson)

-- a byte that stands for itself, and ends no string
abbrev pub is_verbatim : ℕ → Bool
is_verbatim c = nat_le 0x20 c && not (c == 0x22) && not (c == 0x5c)

abbrev pub verbatim_of : Bytes → Bytes
verbatim_of [] = []
verbatim_of (c ∷ cs) = if is_verbatim c then c ∷ verbatim_of cs else []

abbrev pub behind_verbatim : Bytes → Bytes
behind_verbatim [] = []
behind_verbatim (c ∷ cs) = if is_verbatim c then behind_verbatim cs else c ∷ cs

-- pieces up to the quote, at most so many
abbrev pub pieces_within : ℕ → Bytes → Read (List Piece)
pieces_within zero ts = Err NotJson
pieces_within (suc n) [] = Err NotJson
pieces_within (suc n) (c ∷ cs) = if c == 0x22 then Ok ([], cs) else piece_at (c ∷ cs) >>= λ x. pieces_within n x.1 >>= λ y. Ok (x.0 ∷ y.0, y.1)

-- behind the opening quote
abbrev pub inside_at : Bytes → Read Bytes
inside_at ts = pieces_within (length ts) ts >>= λ x. Ok (bytes_of x.0, x.1)

abbrev pub string_at : Bytes → Read Bytes
string_at ts = behind 0x22 ts >>= λ x. inside_at x.1

-- ---- values

abbrev pub string_data_at : Bytes → Read Data
string_data_at ts = inside_at ts >>= λ x. Ok (text x.0, x.1)

abbrev pub scalar_at : Bytes → Read Data
scalar_at [] = Err NotJson
scalar_at (c ∷ cs) =
    if c == 0x22 then string_data_at cs
    else if c == 0x6e then literal (codes "null") null (c ∷ cs)
    else if c == 0x74 then literal (codes "true") (bool true) (c ∷ cs)
    else if c == 0x66 then literal (codes "false") (bool false) (c ∷ cs)
    else number_at (c ∷ cs) >>= λ x. Ok (int x.0, x.1)

-- whether a comma is next, and not the closing bracket
abbrev pub separator_at : ℕ → Bytes → Read Bool
separator_at close [] = Err NotJson
separator_at close (c ∷ cs) = if c == 0x2c then Ok (true, cs) else (if c == close then Ok (false, cs) else Err NotJson)

-- behind one of a list or object: a comma and others, or the closing bracket
abbrev pub others_at : {A : Type 0} → ℕ → (Bytes → Read (List A)) → A → Bytes → Read (List A)
others_at close more a [] = Err NotJson
others_at close more a (c ∷ cs) = if c == 0x2c then (more cs >>= λ y. Ok (a ∷ y.0, y.1)) else (if c == close then Ok (a ∷ [], cs) else Err NotJson)

abbrev pub listed_within : {A : Type 0} → (Bytes → Read A) → ℕ → ℕ → Bytes → Read (List A)
listed_within r close zero ts = Err NotJson
listed_within r close (suc n) ts = r ts >>= λ x. others_at close (listed_within r close n) x.0 x.1

-- behind the opening bracket
abbrev pub bracketed_at : {A : Type 0} → (Bytes → Read A) → ℕ → Bytes → Read (List A)
bracketed_at r close ts =
    if is_next close (skip_blanks ts) then Ok ([], drop 1 (skip_blanks ts)) else listed_within r close (suc (length ts)) ts

abbrev pub member_at : (Bytes → Read Data) → Bytes → Read (Bytes × Data)
member_at r ts = padded string_at ts >>= λ name. behind 0x3a name.1 >>= λ x. r x.1 >>= λ d. Ok ((name.0, d.0), d.1)

-- behind `[`, and behind `{`
abbrev pub list_at : (Bytes → Read Data) → Bytes → Read Data
list_at r ts = bracketed_at r 0x5d ts >>= λ x. Ok (list x.0, x.1)

abbrev pub object_at : (Bytes → Read Data) → Bytes → Read Data
object_at r ts = bracketed_at (member_at r) 0x7d ts >>= λ x. Ok (object (merged x.0), x.1)

abbrev pub value_at : (Bytes → Read Data) → (Bytes → Read Data) → Bytes → Read Data
value_at in_list in_object [] = Err NotJson
value_at in_list in_object (c ∷ cs) = if c == 0x5b then in_list cs else if c == 0x7b then in_object cs else scalar_at (c ∷ cs)

abbrev pub too_deep : Bytes → Read Data
too_deep ts = Err TooDeep

-- a value with blanks around it, of at most so many levels
unfoldable pub element_at : ℕ → Bytes → Read Data
element_at zero ts = padded (value_at too_deep too_deep) ts
element_at (suc k) ts = padded (value_at (list_at (element_at k)) (object_at (element_at k))) ts

-- the same without the blanks
abbrev pub value_within : ℕ → Bytes → Read Data
value_within zero ts = value_at too_deep too_deep ts
value_within (suc k) ts = value_at (list_at (element_at k)) (object_at (element_at k)) ts
