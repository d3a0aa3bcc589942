-- The clean pages that are held.
use Rattle.std.specs.Prelude.{◌≡◌, ℕ, ◌<◌, List, nat_eq, slice_get, Option, Some, None}
use Rattle.std.specs.Map.{lookup}
use Rattle.uq_journal.specs.Batches.{Original}
use Rattle.uq_page.specs.Page.{bytes_of}
use Rattle.uq_page.specs.declared.page.Page.{Page}
use Rattle.uq_pager.specs.Places.{entry_of}

-- the page held under this number
abbrev pub clean_of : ℕ → List (ℕ × Page) → Option Page
clean_of k clean = lookup (nat_eq k) clean

-- each is the page of its number
abbrev pub AreOf : List (List ℕ) → List (ℕ × Page) → Type 0
AreOf pages clean = (k : ℕ) (page : Page) → clean_of k clean ≡ Some page → slice_get pages k ≡ Some (bytes_of page)

-- each has a number below this
abbrev pub AreBelow : ℕ → List (ℕ × Page) → Type 0
AreBelow count clean = (k : ℕ) (page : Page) → clean_of k clean ≡ Some page → k < count

-- a changed page is not held as a clean one too
abbrev pub AreApart : List Original → List (ℕ × Page) → Type 0
AreApart batch clean = (k : ℕ) (page : List ℕ) → entry_of k batch ≡ Some page → clean_of k clean ≡ None
