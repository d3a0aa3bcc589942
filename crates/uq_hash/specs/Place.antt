-- A place among the entries of a bucket.
use Rattle.std.specs.Prelude.{◌≡◌, ℕ, ◌+◌, ◌-◌, ◌<◌, ◌≤◌, Bool, true, false, List, [], ◌∷◌, ◌++◌, length, map, take, drop, get_or, All}
use Rattle.std.specs.List.{concat, flat_map}
use Rattle.std.specs.Ordering.{is_ge, is_gt}
use Rattle.uq_page.specs.declared.layout.TheConstants.{CELLS_AT, CELLS_ROOM}
use Rattle.uq_page.specs.Row.{IsRow}
use Rattle.uq_hash.specs.declared.seeking.Bound.{Bound}
use Rattle.uq_hash.specs.declared.seeking.Bound.TheVariants.{Start, Before, Behind, End}
use Rattle.uq_hash.specs.declared.seeking.Spot.{Spot}
use Rattle.uq_hash.specs.Cells.{bucket_page, filled}
use Rattle.uq_hash.specs.Map.{Stored, IsStored, cell, first_of}
use Rattle.uq_hash.specs.WalkOrder.{walk_cmp, walk_rank}

-- the key lies before the bound, in the walk order with this start
abbrev pub passes : ℕ → Bound → List ℕ → Bool
passes start Start key = false
passes start (Before bound) key = is_gt (walk_cmp start bound.now key)
passes start (Behind bound) key = is_ge (walk_cmp start bound.now key)
passes start End key = true

-- this is the rank of the bound's key, where it has one
abbrev pub IsRank : ℕ → Bound → ℕ → Type 0
IsRank start Start rank = Unit {0}
IsRank start (Before bound) rank = rank ≡ walk_rank start bound.now
IsRank start (Behind bound) rank = rank ≡ walk_rank start bound.now
IsRank start End rank = Unit {0}

-- the page of a bucket with the cells of these entries
abbrev pub entries_page : List Stored → ℕ → List ℕ
entries_page group next = bucket_page (map cell group) next

-- the bytes of the cells of these entries
abbrev pub cells_bytes : List Stored → List ℕ
cells_bytes group = concat (map cell group)

abbrev pub nothing : Stored
nothing = record { key = []; value = []; row = [] }

-- the entry at a place
abbrev pub at : List Stored → ℕ → Stored
at xs i = get_or xs i nothing

abbrev pub IsBefore : ℕ → Bound → Stored → Type 0
IsBefore start bound it = passes start bound it.key ≡ true

-- On a page with these entries the search for the bound ends here: the entries before `index` lie before the bound, and the next one,
-- where the page has one, does not.
pub record IsSpot (start : ℕ) (group : List Stored) (bound : Bound) (spot : Spot) : Type 0 where
  pub within : spot.index ≤ length group
  pub begins : spot.at ≡ CELLS_AT + length (cells_bytes (take spot.index group))
  pub last : 1 ≤ spot.index → spot.last ≡ CELLS_AT + length (cells_bytes (take (spot.index - 1) group))
  pub before : All (IsBefore start bound) (take spot.index group)
  pub stops : spot.index < length group → passes start bound (at group spot.index).key ≡ false

abbrev pub flat : List (List Stored) → List Stored
flat groups = flat_map (λ group. group) groups

abbrev pub IsSmall : List Stored → Type 0
IsSmall group = length (cells_bytes group) ≤ CELLS_ROOM

-- the first of these entries, where there is one, does not lie before the bound
abbrev pub StopsAt : ℕ → Bound → List Stored → Type 0
StopsAt start bound rest = (it : Stored) (others : List Stored) → rest ≡ it ∷ others → passes start bound it.key ≡ false

-- the pages of a bucket, with the entries of each
pub record Opened (pages : List (List ℕ)) (row : List ℕ) (cells : List Stored) : Type 0 where
  pub groups : List (List Stored)
  pub all : flat groups ≡ cells
  pub filled_are : filled [] (map cell cells) ≡ map (map cell) groups
  pub linked : IsRow entries_page pages (first_of row) row groups
  pub small : All IsSmall groups
  pub sizes : All IsStored cells

-- The search for the bound ends on this page: the pages before it have entries before the bound alone.
pub record Stands (start : ℕ) (pages : List (List ℕ)) (row : List ℕ) (cells : List Stored) (bound : Bound) (no : ℕ) (spot : Spot) : Type 0 where
  pub opened : Opened pages row cells
  pub passed : List ℕ
  pub behind : List ℕ
  pub done : List (List Stored)
  pub group : List Stored
  pub more : List (List Stored)
  pub row_is : row ≡ passed ++ no ∷ behind
  pub groups_are : opened.groups ≡ done ++ group ∷ more
  pub as_many : length passed ≡ length done
  pub before : All (IsBefore start bound) (flat done)
  pub spot_is : IsSpot start group bound spot
  pub stops : StopsAt start bound (drop spot.index group ++ flat more)
