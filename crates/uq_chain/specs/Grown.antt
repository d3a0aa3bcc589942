-- Pages that were appended.
use Rattle.std.specs.Prelude.{ℕ, ◌-◌, List}
use Rattle.std.specs.List.{range_with_len}

-- the numbers of the pages by which a count has grown
unfoldable pub grown : ℕ → ℕ → List ℕ
grown before now = range_with_len before (now - before)
