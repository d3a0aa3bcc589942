-- The bytes of pieces, one piece after the other.
use Rattle.std.specs.Prelude.{[], ◌∷◌, ◌++◌, List, Option, Some, None, ℕ, Ok}
use Rattle.uq_value.specs.Data.{Bytes}
use Rattle.uq_json.specs.Strings.{Piece, byte, code, bytes_of, utf8}
use Rattle.uq_json.specs.Internal.Reading.{Read, ◌>>=◌}
use Rattle.uq_json.specs.declared.piece.Piece.{Piece as Piece'}
use Rattle.uq_json.specs.declared.piece.Piece.TheVariants.{Byte, Code}

abbrev pub piece : Piece' → Piece
piece (Byte b) = byte b
piece (Code n) = code n

-- the bytes of pieces behind a number that waits for its low surrogate
abbrev pub bytes_behind : Option ℕ → List Piece → Bytes
bytes_behind None ps = bytes_of ps
bytes_behind (Some n) ps = bytes_of (code n ∷ ps)

-- its own bytes, where none comes
abbrev pub waiting_bytes : Option ℕ → Bytes
waiting_bytes None = []
waiting_bytes (Some n) = utf8 n

-- some bytes, and then those of the pieces that are read
abbrev pub decoded : Bytes → Option ℕ → Read (List Piece) → Read Bytes
decoded bs waiting read = read >>= λ x. Ok (bs ++ bytes_behind waiting x.0, x.1)
