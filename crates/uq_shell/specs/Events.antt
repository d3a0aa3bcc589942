-- What a run does to the world outside.
use Rattle.std.specs.Prelude.{◌≡◌, ◌⊎◌, ℕ, List, [], ◌∷◌, take}
use Rattle.std.specs.List.{flat_map}
use Rattle.uq_kv.specs.Stored.{Stored}

-- a piece of output, or a commit of what is there
pub data Event : Type 0 where
  Out : List ℕ → Event
  Commit : Stored → Event

abbrev pub bytes_of : Event → List ℕ
bytes_of (Out bytes) = bytes
bytes_of (Commit stored) = []

-- the bytes of the first n events
abbrev pub output : ℕ → List Event → List ℕ
output n events = flat_map bytes_of (take n events)

-- what the last commit among these events left, or else this
abbrev pub last_commit : Stored → List Event → Stored
last_commit entry [] = entry
last_commit entry (Out bytes ∷ events) = last_commit entry events
last_commit entry (Commit later ∷ events) = last_commit later events

-- this, or what a commit among these events left
abbrev pub IsSavedIn : Stored → List Event → Stored → Type 0
IsSavedIn entry [] stored = stored ≡ entry
IsSavedIn entry (Out bytes ∷ events) stored = IsSavedIn entry events stored
IsSavedIn entry (Commit later ∷ events) stored = (stored ≡ entry) ⊎ IsSavedIn later events stored
