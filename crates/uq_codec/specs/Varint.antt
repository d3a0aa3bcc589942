-- Lengths and counts as unsigned LEB128: groups of seven bits, the lowest first, of which each but the last has 128
-- added. The last is not 0 behind others, so each number has one spelling.
use Rattle.std.specs.Prelude.{◌≡◌, ℕ, ◌+◌, ◌*◌, ◌<◌, [], ◌∷◌}
use Rattle.uq_value.specs.Data.{Bytes}

abbrev pub IsVarint : Bytes → ℕ → Type 0
IsVarint [] n = ⊥
IsVarint (group ∷ []) n = (group < 128) × (n ≡ group)
IsVarint (group ∷ next ∷ groups) n =
    (low : ℕ) × (high : ℕ) × (low < 128) × (group ≡ low + 128) × (0 < high) × (n ≡ low + 128 * high) × IsVarint (next ∷ groups) high
