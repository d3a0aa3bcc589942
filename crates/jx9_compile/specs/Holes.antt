-- Places that are not known yet.
use Rattle.std.specs.Prelude.{◌≡◌, ℕ, ◌<◌, ◌≤◌, List, [], ◌∷◌, Some, length, slice_get}
use Rattle.jx9_compile.specs.declared.op.Op.{Op}
use Rattle.jx9_compile.specs.declared.op.Op.TheVariants.{Jump}

-- what stands for such a place
abbrev pub hole : ℕ
hole = 4294967295

-- every op but a jump to the hole
abbrev pub IsKnown : Op → Type 0
IsKnown (Jump to) = to < hole
IsKnown _ = Unit {0}

-- the holes from one place up to another are filled in, and all else stays
pub record IsFilled (after from to : ℕ) (old new : List Op) : Type 0 where
  pub long : length new ≡ length old
  pub before : (i : ℕ) → i < from → slice_get new i ≡ slice_get old i
  pub behind : (i : ℕ) → to ≤ i → slice_get new i ≡ slice_get old i
  pub kept : (i : ℕ) (op : Op) → slice_get old i ≡ Some op → IsKnown op → slice_get new i ≡ Some op
  pub filled : (i : ℕ) → from ≤ i → i < to → slice_get old i ≡ Some (Jump hole) → slice_get new i ≡ Some (Jump after)

-- a place that is none of these
abbrev pub Misses : ℕ → List ℕ → Type 0
Misses i [] = Unit {0}
Misses i (p ∷ ps) = (i ≡ p → ⊥) × Misses i ps

-- these places, as far as there are so many ops, have this op, and all else stays
pub record AreSet (places : List ℕ) (op : Op) (old new : List Op) : Type 0 where
  pub long : length new ≡ length old
  pub kept : (i : ℕ) → Misses i places → slice_get new i ≡ slice_get old i
  pub set : (j p : ℕ) → slice_get places j ≡ Some p → p < length old → slice_get new p ≡ Some op
