-- Cells one behind the other.
use Rattle.std.specs.Prelude.{◌≡◌, ℕ, ◌+◌, ◌≤◌, List, ◌∷◌, ◌++◌, length, map, sum, take, drop, All, Option}
use Rattle.std.specs.Option.{ForSome}
use Rattle.uq_page.specs.declared.layout.TheConstants.{CELLS_AT, PAGE_SIZE}
use Rattle.uq_hash.specs.declared.gathering.Rest.{Rest}
use Rattle.uq_hash.specs.declared.searching.Place.{Place}
use Rattle.uq_hash.specs.declared.seeking.Bound.{Bound}
use Rattle.uq_hash.specs.Found.{IsNear}
use Rattle.uq_hash.specs.Map.{Stored, IsStored, cell}
use Rattle.uq_hash.specs.Place.{cells_bytes}
use Rattle.uq_hash.specs.Refill.{Fits}
use Rattle.uq_hash.specs.Standing.{rest_of}

-- from this byte of a page on lie the cells of these entries
pub record LiesAt (page : List ℕ) (from : ℕ) (xs : List Stored) : Type 0 where
  pub low : CELLS_AT ≤ from
  pub high : from + length (cells_bytes xs) ≤ PAGE_SIZE
  pub bytes : take (length (cells_bytes xs)) (drop from page) ≡ cells_bytes xs
  pub stored : All IsStored xs

-- so many cells do not lie there
abbrev pub NoCells : List ℕ → ℕ → ℕ → Type 0
NoCells page from count = (xs : List Stored) → LiesAt page from xs → count ≡ length xs → ⊥

-- bytes in pieces of these sizes, of which each fits into a page
pub record IsCut (sizes bytes : List ℕ) : Type 0 where
  pub whole : sum sizes ≡ length bytes
  pub fits : All Fits sizes

-- the sizes of the cells of these entries
abbrev pub sizes_of : List Stored → List ℕ
sizes_of xs = map length (map cell xs)

-- The sizes and the bytes of so many cells from this byte of a page on stand behind those that were there.
abbrev pub Appended : List ℕ → ℕ → ℕ → List ℕ → List ℕ → List ℕ → List ℕ → Type 0
Appended page from count sizes bytes new_sizes new_bytes = (xs : List Stored) → LiesAt page from xs → count ≡ length xs → (new_sizes ≡ sizes ++ sizes_of xs) × (new_bytes ≡ bytes ++ cells_bytes xs)

-- the pages from that of a place on, and the cells behind the place
pub record Gathers (start : ℕ) (pages : List (List ℕ)) (row : List ℕ) (cells : List Stored) (bound : Bound) (place : Place) (rest : Rest) (near : IsNear start pages row cells bound place) : Type 0 where
  pub row_is : rest.row.items ≡ place.no ∷ near.found.stands.behind
  pub sizes_are : rest.sizes.items ≡ sizes_of (rest_of near.found.stands)
  pub bytes_are : rest.bytes.items ≡ cells_bytes (rest_of near.found.stands)

-- the same where the pages are told, and this is a place in a bucket
abbrev pub GathersWhere : Option (List (List ℕ)) → Place → Rest → Type 0
GathersWhere told place rest = ForSome told (λ pages. (start : ℕ) (row : List ℕ) (cells : List Stored) (bound : Bound) (near : IsNear start pages row cells bound place) → Gathers start pages row cells bound place rest near)

-- the pages are not told, or this is no place in a bucket
abbrev pub NoNear : Option (List (List ℕ)) → Place → Type 0
NoNear told place = ForSome told (λ pages. (start : ℕ) (row : List ℕ) (cells : List Stored) (bound : Bound) → IsNear start pages row cells bound place → ⊥)
