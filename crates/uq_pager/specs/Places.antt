-- The changed pages of a transaction, and where each stands among them.
use Rattle.std.specs.Prelude.{◌≡◌, ◌↔◌, ◌≤◌, ℕ, List, [], map, slice_get, Option, Some}
use Rattle.std.specs.Option.{option_map, option_map_or}
use Rattle.std.specs.Map.{lookup}
use Rattle.std.specs.BTreeMap.{is_at}
use Rattle.std.specs.Ordering.{nat_cmp}
use Rattle.uq_journal.specs.Batches.{Original}
use Rattle.uq_journal.specs.declared.dirty.Dirty.{Dirty}
use Rattle.uq_page.specs.Page.{bytes_of}

-- what a list that is ordered by numbers has for this one
abbrev pub entry_of : {X : Type 0} → ℕ → List (ℕ × X) → Option X
entry_of k entries = lookup (is_at (nat_cmp k)) entries

-- the number of the page at this place
abbrev pub number_at : List Dirty → ℕ → Option ℕ
number_at pages at = option_map (λ it. it.no) (slice_get pages at)

-- the bytes of the page at this place
abbrev pub bytes_at : List Dirty → ℕ → List ℕ
bytes_at pages at = option_map_or (λ it. bytes_of it.page) (slice_get pages at) []

-- each number has the place of its page, from this place on, and no other has one
abbrev pub Places : ℕ → List Dirty → List (ℕ × ℕ) → Type 0
Places from pages places = (k at : ℕ) → (entry_of k places ≡ Some at) ↔ ((from ≤ at) × (number_at pages at ≡ Some k))

-- the pages in order of their numbers
abbrev pub in_order : List Dirty → List (ℕ × ℕ) → List Original
in_order pages places = map (λ e. (e.0, bytes_at pages e.1)) places
