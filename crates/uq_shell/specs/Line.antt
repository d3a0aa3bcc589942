-- Lines of the output. Each stands on a line of its own.
use Rattle.std.specs.Prelude.{ℕ, ◌==◌, if◌then◌else◌, List, [], ◌∷◌, ◌++◌, Option, Some, None}

-- the last byte of what was written
abbrev pub last_byte : List ℕ → Option ℕ
last_byte [] = None
last_byte (byte ∷ []) = Some byte
last_byte (byte ∷ next ∷ bytes) = last_byte (next ∷ bytes)

-- the line feed that a line behind this byte needs before it
abbrev pub owed_feed : Option ℕ → List ℕ
owed_feed None = []
owed_feed (Some byte) = if byte == 0x0a then [] else 0x0a ∷ []

-- a text as a line behind this byte
abbrev pub line_after : Option ℕ → List ℕ → List ℕ
line_after last text = owed_feed last ++ text ++ 0x0a ∷ []
