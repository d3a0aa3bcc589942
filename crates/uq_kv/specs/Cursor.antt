-- What a cursor is, and where it goes.
use Rattle.std.specs.Prelude.{◌≡◌, ℕ, Bool, true, false, if◌then◌else◌, List, drop, Option, Some, None, Result, Ok, Err, IsSome, IsTrue}
use Rattle.std.specs.Option.{option_map}
use Rattle.std.proofs.Common.{Vec, Global}
use Rattle.std.specs.FinMap.{contains_key, get}
use Rattle.uq_outside.specs.declared.disk.Disk.{Ghosts}
use Rattle.uq_model.specs.Session.{Call, Session}
use Rattle.uq_kv.specs.declared.cursor.Cursor.{Cursor}
use Rattle.uq_kv.specs.declared.error.KvFault.{KvFault}
use Rattle.uq_kv.specs.declared.error.KvFault.TheVariants.{NoEntry, NotFound}
use Rattle.uq_kv.specs.declared.kv.Kv.{Kv}
use Rattle.uq_kv.specs.Calls.{behind, is_answered, is_stop, seen_by, takes}
use Rattle.uq_kv.specs.Kv.{Tells}
use Rattle.uq_kv.specs.Lengths.{key_checked}
use Rattle.uq_kv.specs.Stored.{Stored, stored_key}
use Rattle.uq_kv.specs.Users.{NextOf, PrevOf}
use Rattle.uq_kv.specs.declared.space.Space.TheVariants.{Keys}

-- from where the cursor stands; there is none from nowhere
abbrev pub NextFrom : Option (List ℕ) → Stored → Option (List ℕ) → Type 0
NextFrom None stored found_key = found_key ≡ None
NextFrom (Some key) stored found_key = NextOf key stored found_key

abbrev pub PrevFrom : Option (List ℕ) → Stored → Option (List ℕ) → Type 0
PrevFrom None stored found_key = found_key ≡ None
PrevFrom (Some key) stored found_key = PrevOf key stored found_key

-- ---- cursors

-- the stored key at which a cursor stands, None where it is unset
abbrev pub stored_of : Cursor → Option (List ℕ)
stored_of it = option_map (λ key. key.items) it.stored

-- and the user's key
abbrev pub key_of : Cursor → Option (List ℕ)
key_of it = option_map (drop 1) (stored_of it)

-- where it stands in walk order, which is by stored keys: at its key as that is stored
abbrev pub place_of : Cursor → Option (List ℕ)
place_of it = option_map (stored_key Keys) (key_of it)

-- where it is after a refusal: a stop leaves it, and any other unsets it
abbrev pub IsLeft : Bool → Option (List ℕ) → Option (List ℕ) → Type 0
IsLeft true was now = now ≡ was
IsLeft false was now = now ≡ None

-- After a move that is Ok the cursor is at some key. One of the first six refusals unsets it, and any other leaves it where it was.
abbrev pub IsMoved : Option (List ℕ) → Option (List ℕ) → Result (Unit {0}) KvFault → Type 0
IsMoved was now (Ok done) = IsSome now
IsMoved was now (Err fault) = IsLeft (is_stop fault) was now

-- by what was looked for: it is at the stored key that was found, or the fault is handed on
abbrev pub MovesTo : Result (Vec ℕ Global) KvFault → Result (Unit {0}) KvFault → Option (List ℕ) → Type 0
MovesTo (Ok key) result now = (result ≡ Ok tt) × (now ≡ Some key.items)
MovesTo (Err fault) result now = result ≡ Err fault

-- a move is Ok where there was such a key
abbrev pub moved_to : Option (List ℕ) → Result (Unit {0}) KvFault
moved_to None = Err NoEntry
moved_to (Some key) = Ok tt

-- the stored key that was found
abbrev pub entry_of : Option (List ℕ) → Result (List ℕ) KvFault
entry_of None = Err NoEntry
entry_of (Some key) = Ok key

-- ---- calls

-- `EmptyKey`, `KeyTooLong`, `NotFound`; else the stored key
abbrev pub seeks : List ℕ → Call Stored (Result (List ℕ) KvFault)
seeks key = behind (key_checked key) (λ s. ((if contains_key s.present (stored_key Keys key) then Ok (stored_key Keys key) else Err NotFound), s))

-- the same, where the cursor is then at the key
abbrev pub sought : List ℕ → Call Stored (Result (Unit {0}) KvFault)
sought key = behind (key_checked key) (λ s. ((if contains_key s.present (stored_key Keys key) then Ok tt else Err NotFound), s))

-- whether the cursor's key is there
abbrev pub is_at : Option (List ℕ) → Stored → Bool
is_at None stored = false
is_at (Some key) stored = contains_key stored key

abbrev pub is_valid : Option (List ℕ) → Call Stored (Result Bool KvFault)
is_valid at s = (Ok (is_at at s.present), s)

-- `NoEntry` where the cursor is unset or its key is not there; else the key
abbrev pub key_at : Option (List ℕ) → Call Stored (Result (List ℕ) KvFault)
key_at None s = (Err NoEntry, s)
key_at (Some key) s = ((if contains_key s.present key then Ok (drop 1 key) else Err NoEntry), s)

abbrev pub found_at : Option (List ℕ) → Result (List ℕ) KvFault
found_at None = Err NoEntry
found_at (Some data_found) = Ok data_found

-- or else the data
abbrev pub data_at : Option (List ℕ) → Call Stored (Result (List ℕ) KvFault)
data_at None s = (Err NoEntry, s)
data_at (Some key) s = (found_at (get s.present key), s)

-- or else the entry is gone, and a transaction is begun
abbrev pub deletes_at : Option (List ℕ) → Call Stored (Result (Unit {0}) KvFault)
deletes_at None s = (Err NoEntry, s)
deletes_at (Some key) s = takes NoEntry key s

module _ {D : Type 0} (g : Ghosts D) where
  -- Where the session is told, an answer is that of the key that is found, and the session stays.
  abbrev pub Finds : {T : Type 0} → (T → List ℕ) → (Stored → Option (List ℕ) → Type 0) → Kv D g → Kv D g → Result T KvFault → Type 0
  Finds view Found old new result = (s : Session Stored) → Tells g old s → IsTrue (is_answered result)
      → Tells g new s × ((found_key : Option (List ℕ)) × Found s.present found_key × (seen_by view result ≡ entry_of found_key))

  -- Where the session is told, the cursor is where an answer says, and the session stays.
  abbrev pub Goes : (Stored → Option (List ℕ) → Type 0) → Kv D g → Kv D g → Option (List ℕ) → Result (Unit {0}) KvFault → Type 0
  Goes Found old new now result = (s : Session Stored) → Tells g old s → IsTrue (is_answered result) → Tells g new s × Found s.present now × (result ≡ moved_to now)
