-- A main file as a list of pages.
use Rattle.std.specs.Prelude.{◌≡◌, ℕ, zero, suc, ◌/◌, ◌%◌, ◌==◌, nat_lt, if◌then◌else◌, List, [], ◌∷◌, ◌++◌, length, take, drop, slice_set, Option, Some, None}
use Rattle.std.specs.List.{flat_map}
use Rattle.uq_page.specs.declared.layout.TheConstants.{PAGE_SIZE}
use Rattle.uq_journal.specs.Batches.{Original}

-- the first n pages of these bytes
abbrev pub pages_in : ℕ → List ℕ → List (List ℕ)
pages_in zero bytes = []
pages_in (suc n) bytes = take PAGE_SIZE bytes ∷ pages_in n (drop PAGE_SIZE bytes)

-- the pages of a main file, where it is a whole number of them
abbrev pub pages_of : List ℕ → Option (List (List ℕ))
pages_of main = if (length main % PAGE_SIZE) == 0 then Some (pages_in (length main / PAGE_SIZE) main) else None

-- the bytes of pages, one behind the other
abbrev pub joined : List (List ℕ) → List ℕ
joined pages = flat_map (λ page. page) pages

-- a page has its size
abbrev pub IsWhole : List ℕ → Type 0
IsWhole page = length page ≡ PAGE_SIZE

-- a page in its place, or behind the last one
abbrev pub with_page : ℕ → List ℕ → List (List ℕ) → List (List ℕ)
with_page k page pages = if nat_lt k (length pages) then slice_set pages k page else pages ++ page ∷ []

-- the pages of a batch in their places, one after the other
abbrev pub with_batch : List Original → List (List ℕ) → List (List ℕ)
with_batch [] pages = pages
with_batch (page ∷ later) pages = with_batch later (with_page page.0 page.1 pages)
