-- The cells that are laid anew where a bucket changes.
use Rattle.std.specs.Prelude.{◌≡◌, ℕ, Bool, true, false, List, [], ◌∷◌, ◌++◌, length, drop, get_or, Option, None, Some}
use Rattle.std.specs.Borrow.{Bor}
use Rattle.uq_page.specs.Page.{bytes_of}
use Rattle.uq_page.specs.declared.layout.TheConstants.{CELLS_AT}
use Rattle.uq_hash.specs.declared.gathering.Rest.{Rest}
use Rattle.uq_hash.specs.declared.searching.Place.{Place}
use Rattle.uq_hash.specs.Lying.{LiesAt, sizes_of}
use Rattle.uq_hash.specs.Map.{Stored}
use Rattle.uq_hash.specs.Place.{cells_bytes}
use Rattle.uq_hash.specs.Refill.{Fits}

-- the cell that is put there, where there is one, fits into a page
abbrev pub FitsNew : Option (Bor (List ℕ)) → Type 0
FitsNew None = Unit {0}
FitsNew (Some cell) = Fits (length cell.now)

-- the sizes and the bytes without those of the first cell, where it is replaced
abbrev pub rest_sizes : Bool → List ℕ → List ℕ
rest_sizes true sizes = drop 1 sizes
rest_sizes false sizes = sizes

abbrev pub rest_bytes : Bool → List ℕ → List ℕ → List ℕ
rest_bytes true sizes bytes = drop (get_or sizes 0 0) bytes
rest_bytes false sizes bytes = bytes

-- there is no cell that could be replaced
abbrev pub NoneToReplace : Bool → List ℕ → Type 0
NoneToReplace is_replaced sizes = (is_replaced ≡ true) × (sizes ≡ [])

-- the size and the bytes of the new cell, where there is one
abbrev pub new_sizes : Option (Bor (List ℕ)) → List ℕ
new_sizes None = []
new_sizes (Some cell) = length cell.now ∷ []

abbrev pub new_bytes : Option (Bor (List ℕ)) → List ℕ
new_bytes None = []
new_bytes (Some cell) = cell.now

-- the cells of the first entries of the place's page, the new one, and those that were gathered
abbrev pub Assembles : Place → Rest → Bool → Option (Bor (List ℕ)) → List ℕ → List ℕ → Type 0
Assembles place rest is_replaced new sizes bytes = (front : List Stored) → LiesAt (bytes_of place.it.page) CELLS_AT front → place.spot.index ≡ length front
    → (sizes ≡ sizes_of front ++ (new_sizes new ++ rest_sizes is_replaced rest.sizes.items)) × (bytes ≡ cells_bytes front ++ (new_bytes new ++ rest_bytes is_replaced rest.sizes.items rest.bytes.items))
