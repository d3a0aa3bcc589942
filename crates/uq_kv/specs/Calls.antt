-- What each call answers over a session, and what it leaves of the session.
use Rattle.std.specs.Prelude.{◌≡◌, ◌⊎◌, ℕ, Bool, true, false, not, if◌then◌else◌, List, [], ◌∷◌, ◌++◌, Option, Some, None, Result, Ok, Err, IfErr}
use Rattle.std.specs.FinMap.{contains_key, get, insert, remove}
use Rattle.uq_page.specs.declared.error.ChainFault.{ChainFault}
use Rattle.uq_page.specs.declared.error.ChainFault.TheVariants as chain
use Rattle.uq_hash.specs.Looks.{value_or_none}
use Rattle.uq_model.specs.Session.{Call, with_present}
use Rattle.uq_model.specs.declared.cause.Cause.{Cause}
use Rattle.uq_model.specs.declared.cause.Cause.TheVariants as cause
use Rattle.uq_model.specs.declared.limits.Limits.{Limits}
use Rattle.uq_kv.specs.declared.error.KvFault.{KvFault}
use Rattle.uq_kv.specs.declared.error.KvFault.TheVariants.{EmptyKey, KeyTooLong, ValueTooLong, Full, NotFound, NoEntry, Disk, Corrupt, Closed, Memory}
use Rattle.uq_kv.specs.declared.space.Space.{Space}
use Rattle.uq_kv.specs.Full.{is_too_much}
use Rattle.uq_kv.specs.Lengths.{entry_checked, key_checked, value_checked}
use Rattle.uq_kv.specs.Stored.{Stored, stored_key}

-- ---- each call, as a function of the session

-- a call whose lengths are checked first
abbrev pub behind : {T : Type 0} → Result (Unit {0}) KvFault → Call Stored (Result T KvFault) → Call Stored (Result T KvFault)
behind (Err fault) call s = (Err fault, s)
behind (Ok done) call s = call s

-- `Full`; else the entry is there, and a transaction is begun
abbrev pub puts : Limits → Space → List ℕ → List ℕ → Call Stored (Result (Unit {0}) KvFault)
puts limits space key value s =
    if is_too_much limits space key value s.present then (Err Full, s)
    else (Ok tt, with_present (insert s.present (stored_key space key) value) s)

-- `EmptyKey`, `KeyTooLong`, `ValueTooLong`, `Full`
abbrev pub stores : Limits → Space → List ℕ → List ℕ → Call Stored (Result (Unit {0}) KvFault)
stores limits space key value = behind (entry_checked key value) (puts limits space key value)

-- `EmptyKey`, `KeyTooLong`, `ValueTooLong` by the resulting length, `Full`; else the bytes are behind the data, of which an absent entry has none
abbrev pub appends : Limits → Space → List ℕ → List ℕ → Call Stored (Result (Unit {0}) KvFault)
appends limits space key more = behind (key_checked key) (λ s.
    behind (value_checked (value_or_none (get s.present (stored_key space key)) ++ more)) (puts limits space key (value_or_none (get s.present (stored_key space key)) ++ more)) s)

-- what is left where an entry is taken out that is there or not, by the refusal for the latter
abbrev pub takes : KvFault → List ℕ → Call Stored (Result (Unit {0}) KvFault)
takes fault key s = if contains_key s.present key then (Ok tt, with_present (remove s.present key) s) else (Err fault, s)

-- `EmptyKey`, `KeyTooLong`, `NotFound`; else the entry is gone, and a transaction is begun
abbrev pub deletes : Space → List ℕ → Call Stored (Result (Unit {0}) KvFault)
deletes space key = behind (key_checked key) (takes NotFound (stored_key space key))

abbrev pub found : Option (List ℕ) → Result (List ℕ) KvFault
found None = Err NotFound
found (Some data_found) = Ok data_found

-- `EmptyKey`, `KeyTooLong`, `NotFound`; else the data
abbrev pub fetches : Space → List ℕ → Call Stored (Result (List ℕ) KvFault)
fetches space key = behind (key_checked key) (λ s. (found (get s.present (stored_key space key)), s))

-- a call that has no refusal
abbrev pub succeeds : {T : Type 0} → Call Stored T → Call Stored (Result T KvFault)
succeeds call s = (Ok (call s).0, (call s).1)

-- ---- answers

-- the faults of what lies below, which close the store, and that of a closed one
abbrev pub is_stop : KvFault → Bool
is_stop EmptyKey = false
is_stop KeyTooLong = false
is_stop ValueTooLong = false
is_stop Full = false
is_stop NotFound = false
is_stop NoEntry = false
is_stop Disk = true
is_stop Corrupt = true
is_stop (Closed first) = true
is_stop Memory = true

-- Ok, or a refusal by the call's own rules
abbrev pub is_answered : {T : Type 0} → Result T KvFault → Bool
is_answered (Ok value) = true
is_answered (Err fault) = not (is_stop fault)

-- an answer, with its value as a definition has it
abbrev pub seen_by : {T U : Type 0} → (T → U) → Result T KvFault → Result U KvFault
seen_by view (Ok value) = Ok (view value)
seen_by view (Err fault) = Err fault

-- the faults of what lies below
abbrev pub stops : List KvFault
stops = Disk ∷ Corrupt ∷ Memory ∷ []

-- the fault is among these, or that of a closed store
abbrev pub IsAmong : List KvFault → KvFault → Type 0
IsAmong [] fault = (first : Cause) × (fault ≡ Closed first)
IsAmong (other ∷ others) fault = (fault ≡ other) ⊎ IsAmong others fault

-- a call that answers no other faults
abbrev pub FailsBy : {T : Type 0} → List KvFault → Result T KvFault → Type 0
FailsBy faults result = IfErr result (IsAmong faults)

-- by what a store is closed after a call: by what it was before, or else by the call's answer
abbrev pub closed_by : {T : Type 0} → Result T KvFault → Option Cause → Option Cause
closed_by result (Some first) = Some first
closed_by (Err Disk) None = Some cause.Disk
closed_by (Err Corrupt) None = Some cause.Corrupt
closed_by (Err Memory) None = Some cause.Memory
closed_by result None = None

-- ---- a fault of a call on the pages, as an answer and as a cause

abbrev pub stop_of : ChainFault → KvFault
stop_of chain.Failed = Disk
stop_of chain.Corrupt = Corrupt
stop_of chain.NoPage = Corrupt
stop_of chain.Memory = Memory

abbrev pub cause_of : ChainFault → Cause
cause_of chain.Failed = cause.Disk
cause_of chain.Corrupt = cause.Corrupt
cause_of chain.NoPage = cause.Corrupt
cause_of chain.Memory = cause.Memory
