-- Where a member stands.
use Rattle.std.specs.Prelude.{ℕ, ◌+◌, if◌then◌else◌, List, [], ◌∷◌}
use Rattle.std.specs.Str.{bytes_eq}
use Rattle.uq_value.specs.Data.{Bytes}

-- the place of the first of these names that is this one, or their number
abbrev pub place_of : Bytes → List Bytes → ℕ
place_of name [] = 0
place_of name (n ∷ ns) = if bytes_eq n name then 0 else 1 + place_of name ns
