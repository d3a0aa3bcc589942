-- What a look-up reads.
use Rattle.std.specs.Prelude.{◌≡◌, ℕ, List, length, Option}
use Rattle.std.specs.Option.{ForSome}
use Rattle.uq_hash.specs.Map.{Stored, HasValue, IsStored, kept}

-- the entry of a cell with this length of its value, and this in the value's place
pub record IsEntry (pages : List (List ℕ)) (it : Stored) (len : ℕ) (bytes : List ℕ) : Type 0 where
  pub stored : IsStored it
  pub has : HasValue pages it
  pub long : len ≡ length it.value
  pub bytes_are : bytes ≡ kept it

-- P of the entry, where the pages are told and hold the value of the cell
abbrev pub WhereEntry : Option (List (List ℕ)) → ℕ → List ℕ → (List (List ℕ) → Stored → Type 0) → Type 0
WhereEntry told len bytes P = ForSome told (λ pages. (it : Stored) → IsEntry pages it len bytes → P pages it)

-- the pages are not told, or no value of this length stands where a cell says
abbrev pub NoValue : Option (List (List ℕ)) → ℕ → List ℕ → Type 0
NoValue told len bytes = WhereEntry told len bytes (λ pages it. ⊥)
