-- Which lengths of keys and data are refused.
use Rattle.std.specs.Prelude.{◌≡◌, ◌↔◌, ◌==◌, ℕ, Bool, true, false, nat_lt, if◌then◌else◌, List, length, Result, Ok, Err}
use Rattle.uq_kv.specs.declared.error.KvFault.{KvFault}
use Rattle.uq_kv.specs.declared.error.KvFault.TheVariants.{EmptyKey, KeyTooLong, ValueTooLong, Full, NotFound, NoEntry, Disk, Corrupt, Closed, Memory}
use Rattle.uq_kv.specs.declared.limits.TheConstants.{MOST_KEY, MOST_VALUE}

-- a key has a byte, and no more than the most
abbrev pub key_checked : List ℕ → Result (Unit {0}) KvFault
key_checked key =
    if length key == 0 then Err EmptyKey
    else if nat_lt MOST_KEY (length key) then Err KeyTooLong
    else Ok tt

-- data have no more bytes than the most
abbrev pub value_checked : List ℕ → Result (Unit {0}) KvFault
value_checked value = if nat_lt MOST_VALUE (length value) then Err ValueTooLong else Ok tt

-- the first of two refusals
abbrev pub then_checked : Result (Unit {0}) KvFault → Result (Unit {0}) KvFault → Result (Unit {0}) KvFault
then_checked (Err fault) next = Err fault
then_checked (Ok done) next = next

-- `EmptyKey`, `KeyTooLong`, `ValueTooLong`
abbrev pub entry_checked : List ℕ → List ℕ → Result (Unit {0}) KvFault
entry_checked key value = then_checked (key_checked key) (value_checked value)

-- a refusal of a length
abbrev pub is_of_length : KvFault → Bool
is_of_length EmptyKey = true
is_of_length KeyTooLong = true
is_of_length ValueTooLong = true
is_of_length Full = false
is_of_length NotFound = false
is_of_length NoEntry = false
is_of_length Disk = false
is_of_length Corrupt = false
is_of_length (Closed first) = false
is_of_length Memory = false

-- lengths are refused exactly where they should be
abbrev pub RefusesLengths : {T : Type 0} → Result (Unit {0}) KvFault → Result T KvFault → Type 0
RefusesLengths checked result = (fault : KvFault) → is_of_length fault ≡ true → (result ≡ Err fault) ↔ (checked ≡ Err fault)

-- a refusal of the length of a key
abbrev pub is_of_key : KvFault → Bool
is_of_key EmptyKey = true
is_of_key KeyTooLong = true
is_of_key ValueTooLong = false
is_of_key Full = false
is_of_key NotFound = false
is_of_key NoEntry = false
is_of_key Disk = false
is_of_key Corrupt = false
is_of_key (Closed first) = false
is_of_key Memory = false

-- keys are refused by their lengths exactly where they should be
abbrev pub RefusesKeys : {T : Type 0} → Result (Unit {0}) KvFault → Result T KvFault → Type 0
RefusesKeys checked result = (fault : KvFault) → is_of_key fault ≡ true → (result ≡ Err fault) ↔ (checked ≡ Err fault)
