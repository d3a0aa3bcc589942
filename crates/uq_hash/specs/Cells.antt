-- Cells in the pages of a bucket.
use Rattle.std.specs.Prelude.{ℕ, ◌+◌, ◌-◌, List, [], ◌∷◌, ◌++◌, length, nat_le, if◌then◌else◌}
use Rattle.std.specs.List.{concat}
use Rattle.uq_page.specs.declared.layout.TheConstants.{CELLS_AT, CELLS_ROOM}
use Rattle.uq_page.specs.Page.{zeros}
use Rattle.uq_page.specs.Bucket.{bucket_fields}

-- the page of a bucket with these cells, of which each is its bytes, and this next page
unfoldable pub bucket_page : List (List ℕ) → ℕ → List ℕ
bucket_page cells next =
    bucket_fields (record { cells = length cells; next = next; end = CELLS_AT + length (concat cells) })
    ++ (concat cells ++ zeros (CELLS_ROOM - length (concat cells)))

-- The cells of each page, where `page` has those of the first so far: a cell goes into the present page where it fits, else into the
-- next. Every page but the first has a cell.
abbrev pub filled : List (List ℕ) → List (List ℕ) → List (List (List ℕ))
filled page [] = page ∷ []
filled page (cell ∷ cells) =
    if nat_le (length (concat page) + length cell) CELLS_ROOM then filled (page ++ cell ∷ []) cells else page ∷ filled (cell ∷ []) cells
