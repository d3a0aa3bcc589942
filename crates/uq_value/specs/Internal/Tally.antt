-- How often each depth stands among some.
use Rattle.std.specs.Prelude.{◌≡◌, ◌<◌, ◌≤◌, ◌+◌, ◌^◌, max, nat_eq, if◌then◌else◌, ℕ, List, [], ◌∷◌, ◌++◌, length, slice_index_or, slice_set}
use Rattle.uq_value.specs.Depth.{most_depth}

-- 1 where the two are the same
abbrev pub one_if : ℕ → ℕ → ℕ
one_if e d = if nat_eq e d then 1 else 0

-- how many of them are d
abbrev pub occurrences : ℕ → List ℕ → ℕ
occurrences d [] = 0
occurrences d (e ∷ es) = one_if e d + occurrences d es

-- the greatest of them, 0 where there is none
abbrev pub deepest_of : List ℕ → ℕ
deepest_of [] = 0
deepest_of (e ∷ es) = max e (deepest_of es)

-- the counts are right for each depth that a part can have
pub record IsTally (counts ds : List ℕ) : Type 0 where
  pub long : length counts ≡ most_depth
  pub right : (d : ℕ) → d < most_depth → slice_index_or counts d 0 ≡ occurrences d ds

-- from what is told of some depths follows what is told of them with one more
abbrev pub Adds : (List ℕ → Type 0) → (List ℕ → Type 0) → ℕ → Type 0
Adds Before After depth = (ds : List ℕ) → length ds + 1 < 2 ^ 32 → Before ds → After (ds ++ depth ∷ [])

-- and of them with another in the place of one
abbrev pub Changes : (List ℕ → Type 0) → (List ℕ → Type 0) → ℕ → ℕ → Type 0
Changes Before After before after =
    (ds : List ℕ) (at : ℕ) → length ds + 1 < 2 ^ 32 → at < length ds → slice_index_or ds at 0 ≡ before
    → Before ds → After (slice_set ds at after)

-- the greatest of the depths of which this is told, where none is above the most
abbrev pub IsDeepest : (List ℕ → Type 0) → ℕ → ℕ → Type 0
IsDeepest Told most depth = (ds : List ℕ) → deepest_of ds ≤ most → Told ds → depth ≡ deepest_of ds
