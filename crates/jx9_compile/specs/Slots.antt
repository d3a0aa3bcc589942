-- The variables of a function's slots.
use Rattle.std.specs.Prelude.{◌≡◌, ℕ, true, false, List, [], ◌∷◌, Some, slice_get}
use Rattle.std.specs.Str.{bytes_eq}
use Rattle.uq_value.specs.Data.{Bytes}

abbrev pub IsAbsent : Bytes → List Bytes → Type 0
IsAbsent name [] = Unit {0}
IsAbsent name (n ∷ ns) = (bytes_eq n name ≡ false) × (bytes_eq name n ≡ false) × IsAbsent name ns

-- no name stands twice
abbrev pub AreDistinct : List Bytes → Type 0
AreDistinct [] = Unit {0}
AreDistinct (n ∷ ns) = (bytes_eq n n ≡ true) × IsAbsent n ns × AreDistinct ns

-- what has a slot keeps it
pub record KeepsSlots (names names' : List Bytes) : Type 0 where
  pub slot : (i : ℕ) (name : Bytes) → slice_get names i ≡ Some name → slice_get names' i ≡ Some name
