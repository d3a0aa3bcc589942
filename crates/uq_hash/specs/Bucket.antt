-- A bucket as a call reads it.
use Rattle.std.specs.Prelude.{◌≡◌, ℕ, ◌+◌, ◌<◌, ◌≤◌, ◌^◌, List, length, Option, Some, slice_get}
use Rattle.std.specs.Option.{ForSome}
use Rattle.std.specs.List.{concat}
use Rattle.uq_page.specs.declared.bucket.BucketHead.{BucketHead}
use Rattle.uq_page.specs.declared.layout.TheConstants.{CELLS_AT, CELLS_ROOM}
use Rattle.uq_hash.specs.Cells.{bucket_page}
use Rattle.uq_hash.specs.Map.{Chained, Stored, first_of}

-- the head of a bucket page with these cells
abbrev pub head_of : List (List ℕ) → ℕ → BucketHead
head_of cells next = record { cells = length cells; next = next; end = CELLS_AT + length (concat cells) }

-- a page with these cells, of which there are not too many, that names this next page
pub record IsBucketPage (page : List ℕ) (cells : List (List ℕ)) (next : ℕ) : Type 0 where
  pub fits : next < 2 ^ 32
  pub few : length (concat cells) ≤ CELLS_ROOM
  pub count : length cells < 2 ^ 16
  pub is : page ≡ bucket_page cells next

-- the pages are not told, or no page of a bucket stands there
abbrev pub NoBucketPage : Option (List (List ℕ)) → ℕ → Type 0
NoBucketPage told at = ForSome told (λ pages. (page : List ℕ) (cells : List (List ℕ)) (next : ℕ)
    → 1 ≤ at → slice_get pages at ≡ Some page → IsBucketPage page cells next → ⊥)

-- P of the bucket's entries, where the pages are told and a bucket begins there
abbrev pub WhereChained : ℕ → Option (List (List ℕ)) → ℕ → (List (List ℕ) → List ℕ → List Stored → Type 0) → Type 0
WhereChained start told first P = ForSome told (λ pages. (row : List ℕ) (cells : List Stored)
    → first ≡ first_of row → Chained start pages row cells → P pages row cells)

-- the pages are not told, or no bucket begins at this page
abbrev pub NoBucket : ℕ → Option (List (List ℕ)) → ℕ → Type 0
NoBucket start told first = WhereChained start told first (λ pages row cells. ⊥)
