-- What events put out and save.
use Rattle.std.specs.Prelude.{ℕ, List, [], ◌∷◌, ◌++◌, Option, Some}
use Rattle.uq_value.specs.Data.{Bytes}
use Rattle.jx9_meaning.specs.World.{State, Event, Out, Commit, Host}

abbrev pub bytes_in : Event → Bytes
bytes_in (Out bytes) = bytes
bytes_in (Commit store) = []
bytes_in (Host name vs) = []

-- the bytes that they put out
abbrev pub bytes_of : List Event → Bytes
bytes_of [] = []
bytes_of (e ∷ es) = bytes_in e ++ bytes_of es

-- the last of these bytes, or what was the last before
abbrev pub last_in : Option ℕ → Bytes → Option ℕ
last_in before [] = before
last_in before (b ∷ bs) = last_in (Some b) bs

-- after these events alone
abbrev pub having : List Event → State → State
having es t = record t { events = es }
