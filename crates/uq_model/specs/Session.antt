-- A session on something that is kept, as the keys alone or a whole store, and what the calls on transactions do to it.
use Rattle.std.specs.Prelude.{Bool, true, false, if◌then◌else◌}

pub record Session (S : Type 0) : Type 0 where
  -- what the last commit left
  pub saved : S
  -- what is there now
  pub present : S
  -- whether a transaction is begun; with none begun the two are equal
  pub begun : Bool

-- the answer of a call, and the session after it
abbrev pub Call : Type 0 → Type 0 → Type 0
Call S T = Session S → T × Session S

-- nothing is begun, over this
abbrev pub opened : {S : Type 0} → S → Session S
opened store = record { saved = store; present = store; begun = false }

-- an accepted write begins a transaction, also where it changes nothing
abbrev pub with_present : {S : Type 0} → S → Session S → Session S
with_present store s = record { saved = s.saved; present = store; begun = true }

-- begin marks it
abbrev pub begun : {S : Type 0} → Session S → Session S
begun s = record { saved = s.saved; present = s.present; begun = true }

-- commit saves what is there, where one is begun
abbrev pub committed : {S : Type 0} → Session S → Session S
committed s = if s.begun then opened s.present else s

-- rollback goes back to what was saved, where one is begun
abbrev pub rolled_back : {S : Type 0} → Session S → Session S
rolled_back s = if s.begun then opened s.saved else s

-- ---- the three as calls

abbrev pub begins : {S : Type 0} → Call S (Unit {0})
begins s = (tt, begun s)

-- it answers whether one was begun
abbrev pub commits : {S : Type 0} → Call S Bool
commits s = (s.begun, committed s)

abbrev pub rolls_back : {S : Type 0} → Call S (Unit {0})
rolls_back s = (tt, rolled_back s)

-- a call that only looks at what is there
abbrev pub reads : {S T : Type 0} → (S → T) → Call S T
reads look s = (look s.present, s)
