-- Lists of objects as records, by functions that refuse nothing.
use Rattle.std.specs.Prelude.{ℕ, Bool, true, false, List, [], map, if◌then◌else◌, Ok, Err}
use Rattle.std.specs.List.{list_all}
use Rattle.uq_value.specs.Data.{Pairs}
use Rattle.uq_value.specs.declared.value.Value.{Value}
use Rattle.uq_model.specs.declared.done.Refusal.TheVariants.{RecordTooLarge}
use Rattle.uq_model.specs.Collections.{Checked, record_of, is_small, numbered}

abbrev pub is_object : Value → Bool
is_object (Value.Object members) = true
is_object _ = false

-- the members of an object
abbrev pub members_or_none : Value → Pairs
members_or_none (Value.Object members) = members
members_or_none _ = []

-- whether none of these records is too large; it doesn't depend on their ids
abbrev pub are_small : List Value → Bool
are_small vs = list_all (λ v. is_small (record_of 0 (members_or_none v))) vs

-- the records of these objects, with ids from that one on
abbrev pub records_from : ℕ → List Value → List (ℕ × Value)
records_from first vs = numbered first (map members_or_none vs)

abbrev pub small_from : ℕ → List Value → Checked (List (ℕ × Value))
small_from first vs = if are_small vs then Ok (records_from first vs) else Err RecordTooLarge

abbrev pub sizes_checked : List Value → Checked (Unit {0})
sizes_checked vs = if are_small vs then Ok tt else Err RecordTooLarge
