-- Cells laid into the pages of a row.
use Rattle.std.specs.Prelude.{ℕ, ◌+◌, ◌<◌, ◌≤◌, List, [], length, map, Option, ◌≡◌, ◌-◌, ◌^◌, All, Some, slice_get}
use Rattle.std.specs.Option.{ForSome}
use Rattle.std.specs.List.{concat}
use Rattle.uq_chain.specs.FreeList.{IsFreeList, Turned}
use Rattle.uq_page.specs.Numbers.{times}
use Rattle.uq_page.specs.Row.{IsRow}
use Rattle.uq_hash.specs.Bucket.{IsBucketPage}
use Rattle.uq_hash.specs.Cells.{bucket_page, filled}
use Rattle.uq_hash.specs.declared.refilling.Fill.{Fill}
use Rattle.uq_page.specs.declared.layout.TheConstants.{CELLS_ROOM}

-- a cell has some bytes, and fits into an empty page
abbrev pub Fits : ℕ → Type 0
Fits size = (1 ≤ size) × (size ≤ CELLS_ROOM)

abbrev pub counts : Fill → ℕ
counts fill = fill.cells

abbrev pub lens : Fill → ℕ
lens fill = fill.bytes

-- pages that are in use: each is there, stands once in the row, and is not free
pub record Owned (pages : List (List ℕ)) (row free : List ℕ) : Type 0 where
  pub within : (n : ℕ) → 1 ≤ times n row → n < length pages
  pub once : (n : ℕ) → times n row + times n free ≤ 1

-- a page of a bucket stands at this number
pub record IsBucketAt (pages : List (List ℕ)) (n : ℕ) : Type 0 where
  pub page : List ℕ
  pub cells : List (List ℕ)
  pub next : ℕ
  pub some : 1 ≤ n
  pub there : slice_get pages n ≡ Some page
  pub is : IsBucketPage page cells next

-- the pages are not told, or the free list is not right, or the row is none of a bucket's pages that are in use
abbrev pub NoRow : Option (List (List ℕ)) → ℕ → List ℕ → Type 0
NoRow told head row = ForSome told (λ pages. (free : List ℕ) → IsFreeList pages head free → Owned pages row free → All (IsBucketAt pages) row → ⊥)

-- There can be no more pages, and the free list, where it is told and right, and the row, which is in use, have together fewer than the
-- cells of these sizes and bytes fill.
abbrev pub IsShortFor : Option (List (List ℕ)) → ℕ → List ℕ → ℕ → List ℕ → List ℕ → Type 0
IsShortFor told head row size sizes bytes = (size ≡ 2 ^ 32 - 1) × ForSome told (λ pages. (free : List ℕ) → IsFreeList pages head free → Owned pages row free
    → (cells : List (List ℕ)) → map length cells ≡ sizes → concat cells ≡ bytes → length free + length row < length (filled [] cells))

-- From one list of pages to the next the cells were laid into pages that begin at `first`, in place of those of the row.
pub record IsLaid (before after : List (List ℕ)) (head : ℕ) (free row : List ℕ) (first : ℕ) (cells : List (List ℕ)) : Type 0 where
  pub made : List ℕ
  pub linked : IsRow bucket_page after first made (filled [] cells)
  pub turned : Turned before after head free row made
