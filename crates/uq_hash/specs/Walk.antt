-- The first and the last of a map's keys in walk order.
use Rattle.std.specs.Prelude.{◌≡◌, List, ℕ, Option, Some, None, true}
use Rattle.std.specs.FinMap.{contains_key}
use Rattle.std.specs.declared.cmp.Ordering.TheVariants.{Less, Greater}
use Rattle.uq_hash.specs.Map.{Map}
use Rattle.uq_hash.specs.WalkOrder.{walk_cmp}

-- of the keys for which P holds, this one is the first
pub record IsFirst (start : ℕ) (m : Map) (P : List ℕ → Type 0) (key : List ℕ) : Type 0 where
  pub there : contains_key m key ≡ true
  pub is : P key
  pub first : (other : List ℕ) → contains_key m other ≡ true → P other → walk_cmp start key other ≡ Greater → ⊥

-- and the last
pub record IsLast (start : ℕ) (m : Map) (P : List ℕ → Type 0) (key : List ℕ) : Type 0 where
  pub there : contains_key m key ≡ true
  pub is : P key
  pub last : (other : List ℕ) → contains_key m other ≡ true → P other → walk_cmp start key other ≡ Less → ⊥

-- there is none
abbrev pub HasNone : Map → (List ℕ → Type 0) → Type 0
HasNone m P = (key : List ℕ) → contains_key m key ≡ true → P key → ⊥

-- the first of them, or none where there is none
abbrev pub GivesFirst : ℕ → Map → (List ℕ → Type 0) → Option (List ℕ) → Type 0
GivesFirst start m P None = HasNone m P
GivesFirst start m P (Some key) = IsFirst start m P key

abbrev pub GivesLast : ℕ → Map → (List ℕ → Type 0) → Option (List ℕ) → Type 0
GivesLast start m P None = HasNone m P
GivesLast start m P (Some key) = IsLast start m P key

-- any key
abbrev pub Any : List ℕ → Type 0
Any key = Unit {0}
