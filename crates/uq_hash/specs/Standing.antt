-- What stands behind a place in a bucket.
use Rattle.std.specs.Prelude.{◌≡◌, ℕ, Bool, true, false, List, [], ◌∷◌, ◌++◌, length, take, drop, Option, None, Some}
use Rattle.uq_page.specs.declared.cell.Cell.{Cell}
use Rattle.uq_page.specs.Cell.{kept_bytes, IsKept}
use Rattle.uq_hash.specs.declared.seeking.Bound.{Bound}
use Rattle.uq_hash.specs.declared.seeking.Spot.{Spot}
use Rattle.uq_hash.specs.declared.searching.Standing.{Standing}
use Rattle.uq_hash.specs.declared.searching.Standing.TheVariants.{Cell as AtCell, Nothing}
use Rattle.uq_hash.specs.Map.{Stored, kept}
use Rattle.uq_hash.specs.Place.{Stands, flat}

-- the entries behind a place
abbrev pub rest_of : {start : ℕ} {pages : List (List ℕ)} {row : List ℕ} {cells : List Stored} {bound : Bound} {no : ℕ} {spot : Spot} → Stands start pages row cells bound no spot → List Stored
rest_of {spot = spot} stands = drop spot.index stands.group ++ flat stands.more

-- the entries before a place
abbrev pub front_of : {start : ℕ} {pages : List (List ℕ)} {row : List ℕ} {cells : List Stored} {bound : Bound} {no : ℕ} {spot : Spot} → Stands start pages row cells bound no spot → List Stored
front_of {spot = spot} stands = flat stands.done ++ take spot.index stands.group

-- the cell is that of the entry
pub record IsCellOf (it : Stored) (cell : Cell) : Type 0 where
  pub key : cell.key.now ≡ it.key
  pub long : cell.len ≡ length it.value
  pub bytes : kept_bytes cell.value ≡ kept it
  pub is : IsKept cell.len cell.value

-- the cell of the first of these entries, or nothing where there is none
abbrev pub IsStanding : List Stored → Standing → Type 0
IsStanding [] (AtCell cell) = ⊥
IsStanding [] Nothing = Unit {0}
IsStanding (it ∷ rest) (AtCell cell) = IsCellOf it cell
IsStanding (it ∷ rest) Nothing = ⊥

-- the cell of the first of these entries, where that has the key, and else nothing
abbrev pub IsKeyed : List Stored → List ℕ → Standing → Type 0
IsKeyed [] key (AtCell cell) = ⊥
IsKeyed [] key Nothing = Unit {0}
IsKeyed (it ∷ rest) key (AtCell cell) = IsCellOf it cell × (it.key ≡ key)
IsKeyed (it ∷ rest) key Nothing = it.key ≡ key → ⊥

-- what stands in place of the value is as long as it should be
abbrev pub IsSound : Standing → Type 0
IsSound (AtCell cell) = IsKept cell.len cell.value
IsSound Nothing = Unit {0}

-- the key of what stands there
abbrev pub standing_key : Standing → Option (List ℕ)
standing_key (AtCell cell) = Some cell.key.now
standing_key Nothing = None

-- whether there is a cell
abbrev pub has_cell : Standing → Bool
has_cell (AtCell cell) = true
has_cell Nothing = false

-- how long the value of the cell is
abbrev pub standing_len : Standing → Option ℕ
standing_len (AtCell cell) = Some cell.len
standing_len Nothing = None
