-- The parts of a text in quotes, as far as they are read.
use Rattle.std.specs.Prelude.{◌≡◌, ◌⊎◌, List, [], ◌∷◌, ◌++◌, map, Option, Some, None, Result, Ok, Err}
use Rattle.uq_value.specs.Data.{Bytes}
use Rattle.jx9_syntax.specs.Quoted.{Piece, byte, variable, parts_of}
use Rattle.jx9_syntax.specs.Tokens.{Of, PartsFit, InLimit, quoted_kind}
use Rattle.jx9_syntax.specs.Front.{Taken, ◌>>=◌}
use Rattle.jx9_syntax.specs.declared.parts.Part.{Part}
use Rattle.jx9_syntax.specs.declared.token.TokenKind.{TokenKind}
use Rattle.jx9_syntax.specs.declared.token.TokenKind.TheVariants as kind
use Rattle.jx9_lex.specs.declared.builder.Builder.{Builder}
use Rattle.jx9_lex.specs.declared.piece.Piece.{Piece as Piece'}
use Rattle.jx9_lex.specs.declared.piece.Piece.TheVariants.{Byte, Variable}
use Rattle.jx9_lex.specs.declared.stop.Stop.{Stop}
use Rattle.jx9_lex.specs.declared.stop.Stop.TheVariants.{Bad, Memory}

abbrev pub piece : Piece' → Piece
piece (Byte b) = byte b
piece (Variable name) = variable name.now

-- the text of bytes, which is no part where there is none
abbrev pub text_parts : Bytes → List Part
text_parts bs = parts_of (map byte bs)

-- all parts, where these parts and then these bytes are read, and these pieces follow
abbrev pub all_parts : List Part → Bytes → List Piece → List Part
all_parts parts pending ps = parts ++ parts_of (map byte pending ++ ps)

-- what is taken, where reading goes on behind them
abbrev pub taken_behind : List Part → Bytes → Option (List Piece × Bytes) → Taken
taken_behind parts pending read = read >>= λ x. Some (Of (quoted_kind (all_parts parts pending x.0)), x.1)

-- what is taken where no piece is next: at the quote the text is whole
abbrev pub closed_at : List Part → Bytes → Bytes → Taken
closed_at parts pending [] = None
closed_at parts pending (b ∷ bs) = Some (Of (quoted_kind (all_parts parts pending [])), bs)

-- no variable is read, or whatever follows, there is one
abbrev pub IsOpen : List Part → Type 0
IsOpen parts = (parts ≡ []) ⊎ ((others : List Part) → quoted_kind (parts ++ others) ≡ kind.Mixed (parts ++ others))

-- one piece more
pub record AddsPiece (p : Piece) (old : List Part) (old_bytes : Bytes) (new : List Part) (new_bytes : Bytes) : Type 0 where
  pub shows : (ps : List Piece) → all_parts new new_bytes ps ≡ all_parts old old_bytes (p ∷ ps)
  pub fits : PartsFit old → PartsFit new
  pub is_open : IsOpen old → IsOpen new

abbrev pub Adds : Piece → Builder → Builder → Type 0
Adds p old new = AddsPiece p old.parts.items old.pending.items new.parts.items new.pending.items

-- with this piece they can't be within the limits
abbrev pub CannotAdd : Piece → List Part → Bytes → Stop → Type 0
CannotAdd p parts pending Bad = (ps : List Piece) → InLimit (quoted_kind (all_parts parts pending (p ∷ ps))) → ⊥
CannotAdd p parts pending Memory = Unit {0}

abbrev pub GivesKind : TokenKind → Result TokenKind Stop → Type 0
GivesKind k (Ok found) = (found ≡ k) × InLimit k
GivesKind k (Err Bad) = InLimit k → ⊥
GivesKind k (Err Memory) = Unit {0}

abbrev pub GivesParts : List Part → Result (List Part) Stop → Type 0
GivesParts ps (Ok found) = (found ≡ ps) × PartsFit ps
GivesParts ps (Err Bad) = PartsFit ps → ⊥
GivesParts ps (Err Memory) = Unit {0}
