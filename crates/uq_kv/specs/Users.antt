-- The user's keys among those of both spaces, in walk order.
use Rattle.std.specs.Prelude.{◌≡◌, ◌==◌, ℕ, Bool, true, false, List, [], ◌∷◌, Option, Some, None}
use Rattle.std.specs.declared.cmp.Ordering.TheVariants.{Less}
use Rattle.uq_hash.specs.Walk.{GivesFirst, GivesLast}
use Rattle.uq_hash.specs.WalkOrder.{walk_cmp}
use Rattle.uq_kv.specs.Stored.{Stored}

-- with what the hash starts by which keys are walked: the offset basis of FNV-1a
abbrev pub walk_start : ℕ
walk_start = 2166136261

-- whether a stored key is the user's
abbrev pub is_of_keys : List ℕ → Bool
is_of_keys [] = false
is_of_keys (space ∷ key) = space == 0x4b

abbrev pub IsOfKeys : List ℕ → Type 0
IsOfKeys stored = is_of_keys stored ≡ true

-- with a key those behind it are meant too, or those before it
abbrev pub IsUpward : (List ℕ → Bool) → Type 0
IsUpward Q = (a b : List ℕ) → Q a ≡ true → walk_cmp walk_start a b ≡ Less → Q b ≡ true

abbrev pub IsDownward : (List ℕ → Bool) → Type 0
IsDownward Q = (a b : List ℕ) → Q b ≡ true → walk_cmp walk_start a b ≡ Less → Q a ≡ true

-- the user's first stored key, the last, the next one behind a stored key, and the last one before it; None where there is none
abbrev pub FirstOf : Stored → Option (List ℕ) → Type 0
FirstOf stored found_key = GivesFirst walk_start stored IsOfKeys found_key

abbrev pub LastOf : Stored → Option (List ℕ) → Type 0
LastOf stored found_key = GivesLast walk_start stored IsOfKeys found_key

abbrev pub NextOf : List ℕ → Stored → Option (List ℕ) → Type 0
NextOf key stored found_key = GivesFirst walk_start stored (λ other. (walk_cmp walk_start key other ≡ Less) × IsOfKeys other) found_key

abbrev pub PrevOf : List ℕ → Stored → Option (List ℕ) → Type 0
PrevOf key stored found_key = GivesLast walk_start stored (λ other. (walk_cmp walk_start other key ≡ Less) × IsOfKeys other) found_key

-- a key that is there or not
abbrev pub key_where : Bool → List ℕ → Option (List ℕ)
key_where true key = Some key
key_where false key = None
