-- The parts of a text in quotes stand apart.
use Rattle.std.proofs.Common.{ℕ, List, [], ◌∷◌}
use Rattle.jx9_syntax.specs.Quoted.{Piece, byte, variable, with_byte, parts_of, StandApart}
use Rattle.jx9_syntax.specs.declared.parts.Part.{Part}
use Rattle.jx9_syntax.specs.declared.parts.Part.TheVariants.{Text, Var}

byte_apart : (b : ℕ) (ps : List Part) → StandApart ps → StandApart (with_byte b ps)
byte_apart b [] h = tt
byte_apart b (Var name ∷ ps) h = h
byte_apart b (Text [] ∷ ps) h = absurd h
byte_apart b (Text (c ∷ cs) ∷ []) h = tt
byte_apart b (Text (c ∷ cs) ∷ Text ds ∷ ps) h = absurd h
byte_apart b (Text (c ∷ cs) ∷ Var name ∷ ps) h = h

pub all_apart : (ps : List Piece) → StandApart (parts_of ps)
all_apart [] = tt
all_apart (byte b ∷ ps) = byte_apart b (parts_of ps) (all_apart ps)
all_apart (variable name ∷ ps) = all_apart ps
