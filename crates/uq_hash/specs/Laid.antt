-- The pages of a bucket from a place on, laid anew.
use Rattle.std.specs.Prelude.{◌≡◌, ℕ, ◌+◌, ◌-◌, ◌^◌, ◌<◌, Bool, true, false, List, [], ◌∷◌, ◌++◌, length, map, Option, None, Some, slice_index}
use Rattle.std.specs.Option.{ForSome}
use Rattle.uq_page.specs.Page.{bytes_of}
use Rattle.uq_page.specs.declared.layout.TheConstants.{CELLS_AT}
use Rattle.uq_chain.specs.FreeList.{IsFreeList}
use Rattle.uq_hash.specs.declared.opening.Open.{Open}
use Rattle.uq_hash.specs.Cells.{filled}
use Rattle.uq_hash.specs.Lying.{LiesAt, sizes_of}
use Rattle.uq_hash.specs.Map.{Stored, cell}
use Rattle.uq_hash.specs.Place.{cells_bytes}
use Rattle.uq_hash.specs.Refill.{IsLaid, Owned}

-- one entry where a cell is replaced, and else none
abbrev pub replaced : Bool → ℕ
replaced true = 1
replaced false = 0

-- the one entry whose cell this is, or none where there is no cell
abbrev pub IsNew : List Stored → Option (List ℕ) → Type 0
IsNew [] None = Unit {0}
IsNew [] (Some bytes) = ⊥
IsNew (it ∷ more) None = ⊥
IsNew (it ∷ more) (Some bytes) = (more ≡ []) × (bytes ≡ cell it)

-- The entries that are laid anew: those before the place on its page, the new one, and those behind the place without the one that is
-- replaced.
pub record IsTail (it : Open) (is_replaced : Bool) (new : Option (List ℕ)) (front olds news others : List Stored) : Type 0 where
  pub lies : LiesAt (bytes_of it.near.it.page) CELLS_AT front
  pub index : it.near.spot.index ≡ length front
  pub sizes_are : it.rest.sizes.items ≡ sizes_of (olds ++ others)
  pub bytes_are : it.rest.bytes.items ≡ cells_bytes (olds ++ others)
  pub gone : length olds ≡ replaced is_replaced
  pub new_is : IsNew news new

-- where the pages are told and the free list is right, these entries are laid in place of the row
abbrev pub Lays : Option (List (List ℕ)) → Option (List (List ℕ)) → ℕ → ℕ → Open → Bool → Option (List ℕ) → Type 0
Lays old new head now it is_replaced cell_of = ForSome old (λ before. (free : List ℕ) → IsFreeList before head free → Owned before it.rest.row.items free → ForSome new (λ after.
    (front olds news others : List Stored) → IsTail it is_replaced cell_of front olds news others
    → IsLaid before after now free it.rest.row.items (slice_index it.rest.row.items 0) (map cell (front ++ (news ++ others)))))

-- There can be no more pages, and the free list, where it is told and right, and the row have together fewer than these entries fill.
abbrev pub LacksPages : Option (List (List ℕ)) → ℕ → ℕ → Open → Bool → Option (List ℕ) → Type 0
LacksPages told head size it is_replaced cell_of = (size ≡ 2 ^ 32 - 1) × ForSome told (λ pages. (free : List ℕ) → IsFreeList pages head free → Owned pages it.rest.row.items free
    → (front olds news others : List Stored) → IsTail it is_replaced cell_of front olds news others
    → length free + length it.rest.row.items < length (filled [] (map cell (front ++ (news ++ others)))))
