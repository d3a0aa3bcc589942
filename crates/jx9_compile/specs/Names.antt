-- Variables in a map by their names, each with its slot.
use Rattle.std.specs.Prelude.{◌≡◌, ℕ, zero, suc, ◌<◌, nat_eq, if◌then◌else◌, List, [], ◌∷◌, ◌++◌, length, position, Option}
use Rattle.std.specs.Map.{lookup}
use Rattle.std.specs.Str.{bytes_eq}
use Rattle.uq_value.specs.Data.{Bytes}

-- the slot of a name
abbrev pub slot_in : {K : Type 0} (bytes : K → Bytes) → List (K × ℕ) → Bytes → Option ℕ
slot_in bytes es name = lookup (λ k. bytes_eq name (bytes k)) es

-- the name that has a slot
abbrev pub name_at : {K : Type 0} (bytes : K → Bytes) → List (K × ℕ) → ℕ → Bytes
name_at bytes [] slot = []
name_at bytes (e ∷ es) slot = if nat_eq e.1 slot then bytes e.0 else name_at bytes es slot

-- the names of the first slots, in order
abbrev pub names_below : {K : Type 0} (bytes : K → Bytes) → List (K × ℕ) → ℕ → List Bytes
names_below bytes es zero = []
names_below bytes es (suc n) = names_below bytes es n ++ name_at bytes es n ∷ []

abbrev pub names_of : {K : Type 0} (bytes : K → Bytes) → List (K × ℕ) → List Bytes
names_of bytes es = names_below bytes es (length es)

abbrev pub AreBelow : {K : Type 0} → ℕ → List (K × ℕ) → Type 0
AreBelow n [] = Unit {0}
AreBelow n (e ∷ es) = (e.1 < n) × AreBelow n es

-- There are as many slots as names, and the map finds each name at its place.
pub record AreSlots {K : Type 0} (bytes : K → Bytes) (es : List (K × ℕ)) : Type 0 where
  pub below : AreBelow (length es) es
  pub found : (name : Bytes) → slot_in bytes es name ≡ position (λ n. bytes_eq n name) (names_of bytes es)
