-- Worked rows of the calls on collections, for the contract of a call that does nothing.
use Rattle.std.specs.Prelude.{◌≡◌, ℕ, ◌-◌, ◌^◌, true, false, pos, [], ◌∷◌, Ok, Err}
use Rattle.uq_value.specs.Data.{Bytes, int}
use Rattle.uq_value.specs.declared.value.Value.{Value}
use Rattle.uq_model.specs.declared.done.Refusal.TheVariants.{NotObject, IdsUsedUp}
use Rattle.uq_model.specs.declared.limits.Limits.{Limits}
use Rattle.uq_model.specs.Full.{Sums, is_full}
use Rattle.uq_model.specs.Collections.{is_name, id_name, record_of, batch}

-- `u`, and `a`
abbrev pub u : Bytes
u = 117 ∷ []

abbrev a : Bytes
a = 97 ∷ []

abbrev pub holding : ℕ → ℕ → Limits
holding entries bytes = record { entries = entries; bytes = bytes }

abbrev pub sums_of : ℕ → ℕ → Sums
sums_of entries bytes = record { entries = entries; bytes = bytes }

-- the empty object
abbrev pub nothing : Value
nothing = Value.Object []

-- a name has 1 to 64 bytes of letters, digits and `_`
pub record NameRows : Type 0 where
  pub letter : is_name u ≡ true
  pub underscore : is_name (95 ∷ 57 ∷ 90 ∷ []) ≡ true
  pub empty : is_name [] ≡ false
  pub hyphen : is_name (117 ∷ 45 ∷ []) ≡ false

-- `__id` comes last, whatever the object had there
pub record RecordRows : Type 0 where
  pub plain : record_of 0 [] ≡ Value.Object ((id_name, int (pos 0)) ∷ [])
  pub moved : record_of 7 ((id_name, int (pos 3)) ∷ (a, int (pos 1)) ∷ []) ≡ Value.Object
      ((a, int (pos 1)) ∷ (id_name, int (pos 7)) ∷ [])

-- what is made of a list, and its first refusal
pub record BatchRows : Type 0 where
  pub none : batch 5 [] ≡ Ok []
  pub two : batch 5 (nothing ∷ nothing ∷ []) ≡ Ok ((5, record_of 5 []) ∷ (6, record_of 6 []) ∷ [])
  pub one_bad : batch 5 (nothing ∷ Value.Null ∷ []) ≡ Err NotObject
  pub last_id : batch (2 ^ 63 - 2) (nothing ∷ []) ≡ Ok ((2 ^ 63 - 2, record_of (2 ^ 63 - 2) []) ∷ [])
  pub used_up : batch (2 ^ 63 - 2) (nothing ∷ nothing ∷ []) ≡ Err IdsUsedUp

-- a limit may be reached, and not passed by what grows
pub record FullRows : Type 0 where
  pub reached : is_full (holding 2 9) (sums_of 1 4) (sums_of 2 9) ≡ false
  pub one_entry_more : is_full (holding 2 9) (sums_of 2 4) (sums_of 3 9) ≡ true
  pub one_byte_more : is_full (holding 2 9) (sums_of 1 4) (sums_of 1 10) ≡ true
  pub nothing_grows : is_full (holding 0 0) (sums_of 2 9) (sums_of 2 9) ≡ false
  pub entries_fall : is_full (holding 0 9) (sums_of 5 4) (sums_of 4 9) ≡ false
