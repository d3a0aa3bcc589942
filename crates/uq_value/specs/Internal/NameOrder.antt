-- The order in which an object's names are looked up: by a number made of the name, and then by its bytes.
use Rattle.std.specs.Prelude.{ℕ, Bool, ◌+◌, ◌*◌, ◌%◌, ◌^◌, List, [], ◌∷◌}
use Rattle.std.specs.Ordering.{nat_cmp, is_lt}
use Rattle.std.specs.Cmp.Lexicographic.{slice_cmp}
use Rattle.uq_value.specs.Data.{Bytes}

-- the bytes as digits to the base 257 behind those so far, of which the lowest 64 bits count
unfoldable pub digest_onto : ℕ → Bytes → ℕ
digest_onto digest [] = digest
digest_onto digest (b ∷ bs) = digest_onto ((digest * 257 % 2 ^ 64 + b) % 2 ^ 64) bs

-- a number by which most names are told apart
abbrev pub digest : Bytes → ℕ
digest name = digest_onto 0 name

-- what a name is looked up by
abbrev pub key : Bytes → List ℕ
key name = digest name ∷ name

-- whether one key comes before another
unfoldable pub is_before : List ℕ → List ℕ → Bool
is_before a b = is_lt (slice_cmp nat_cmp a b)
