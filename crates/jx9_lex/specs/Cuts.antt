-- What is cut off the front of a text, within the limits.
use Rattle.std.specs.Prelude.{◌≡◌, ◌<◌, ◌==◌, ℤ, [], ◌∷◌, Option, Some, None, Result, Ok, Err}
use Rattle.std.specs.Borrow.{Bor}
use Rattle.uq_value.specs.Data.{Bytes}
use Rattle.uq_value.specs.Size.{text_size, most_size}
use Rattle.jx9_syntax.specs.Tokens.{Of, Gap, Unclosed, FitsText, InLimit}
use Rattle.jx9_syntax.specs.Bytes.{Class, is_name_byte, run, behind}
use Rattle.jx9_syntax.specs.Front.{Taken, slash_at, other_at}
use Rattle.jx9_syntax.specs.declared.token.TokenKind.{TokenKind}
use Rattle.jx9_syntax.specs.declared.token.TokenKind.TheVariants as kind
use Rattle.jx9_lex.specs.declared.stop.Stop.{Stop}
use Rattle.jx9_lex.specs.declared.stop.Stop.TheVariants.{Bad, Memory}

-- no token is taken, or one that is beyond the limits
abbrev pub IsBad : Taken → Type 0
IsBad None = Unit {0}
IsBad (Some (Of k, rest)) = InLimit k → ⊥
IsBad (Some (Gap, rest)) = ⊥
IsBad (Some (Unclosed, rest)) = Unit {0}

abbrev pub Fails : Stop → Taken → Type 0
Fails Bad taken = IsBad taken
Fails Memory taken = Unit {0}

-- a token within the limits
abbrev pub TakesToken : TokenKind → Bytes → Taken → Type 0
TakesToken k rest taken = (taken ≡ Some (Of k, rest)) × InLimit k

abbrev pub CutsToken : Result (TokenKind × Bor Bytes) Stop → Taken → Type 0
CutsToken (Ok x) taken = TakesToken x.0 x.1.now taken
CutsToken (Err e) taken = Fails e taken

abbrev pub CutsInt : Result (ℤ × Bor Bytes) Stop → Taken → Type 0
CutsInt (Ok x) taken = TakesToken (kind.Int x.0) x.1.now taken
CutsInt (Err e) taken = Fails e taken

-- a token, or blanks or a comment
abbrev pub TakesFront : Option TokenKind → Bytes → Taken → Type 0
TakesFront (Some k) rest taken = TakesToken k rest taken
TakesFront None rest taken = taken ≡ Some (Gap, rest)

abbrev pub Cuts : Result (Option TokenKind × Bor Bytes) Stop → Taken → Type 0
Cuts (Ok x) taken = TakesFront x.0 x.1.now taken
Cuts (Err e) taken = Fails e taken

-- why bytes are no text
abbrev pub TextStop : Bytes → Stop → Type 0
TextStop bs Bad = most_size < text_size bs
TextStop bs Memory = Unit {0}

-- bytes as a text
abbrev pub GivesText : Bytes → Result Bytes Stop → Type 0
GivesText bs (Ok t) = (t ≡ bs) × FitsText bs
GivesText bs (Err e) = TextStop bs e

-- the run of a name's bytes
abbrev pub CutsName : Result (Bytes × Bor Bytes) Stop → Bytes → Type 0
CutsName (Ok x) text = (x.0 ≡ run is_name_byte text) × FitsText (run is_name_byte text) × (x.1.now ≡ behind is_name_byte text)
CutsName (Err e) text = GivesText (run is_name_byte text) (Err e)

-- what the first byte tells, where it is no letter and no digit
abbrev pub first_other : Bytes → Taken
first_other [] = None
first_other (b ∷ bs) = other_at b bs

abbrev pub is_slash : Class
is_slash b = b == 0x2f

abbrev pub first_slash : Bytes → Taken
first_slash [] = None
first_slash (b ∷ bs) = slash_at bs
