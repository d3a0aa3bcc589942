-- A page of the free list.
use Rattle.std.specs.Prelude.{◌≡◌, ℕ, ◌-◌, ◌<◌, ◌^◌, List, [], ◌∷◌, ◌++◌}
use Rattle.std.specs.Int.{w32, to_be_bytes}
use Rattle.uq_page.specs.declared.layout.TheConstants.{FREE_SIZE, PAGE_SIZE}
use Rattle.uq_page.specs.Page.{zeros}

-- bytes 0 to 7: the mark, the next free page
abbrev pub free_fields : ℕ → List ℕ
free_fields next = 0x46 ∷ 0 ∷ 0 ∷ 0 ∷ [] ++ to_be_bytes w32 next

-- the whole page
unfoldable pub free_page : ℕ → List ℕ
free_page next = free_fields next ++ zeros (PAGE_SIZE - FREE_SIZE)

-- the page is free, with this next free page
pub record IsFreePage (page : List ℕ) (next : ℕ) : Type 0 where
  pub fits : next < 2 ^ 32
  pub bytes : page ≡ free_page next
