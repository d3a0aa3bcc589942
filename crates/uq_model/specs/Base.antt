-- What a base shows, and what each call on it does.
use Rattle.std.specs.Prelude.{◌≡◌, ◌⊎◌, ◌↔◌, ℕ, ◌≤◌, ◌<◌, ◌^◌, ◌-◌, true, List, Option, Some, None, Result, Ok, Err}
use Rattle.uq_facts.specs.Causes.{Rose}
use Rattle.uq_model.specs.declared.cause.Cause.{Cause}
use Rattle.uq_model.specs.declared.cause.Cause.TheVariants as cause
use Rattle.uq_model.specs.declared.cause.BaseStop.{BaseStop}
use Rattle.uq_model.specs.declared.cause.BaseStop.TheVariants.{Disk, Corrupt, Closed, Memory}
use Rattle.uq_model.specs.declared.collection.CollectionInfo.{CollectionInfo}
use Rattle.uq_model.specs.declared.limits.Limits.{Limits}
use Rattle.uq_model.specs.Store.{Store}
use Rattle.uq_model.specs.Session.{Session, Call, reads}
use Rattle.uq_model.specs.IsStore.{IsSession}

-- What contracts see of a base.
pub record Shown : Type 1 where
  pub limits : Limits
  -- It tells this session. A base over files tells one where they hold it, which no function decides.
  pub tells : Session Store → Type 0
  -- a stop now may leave this store
  pub may_leave : Store → Type 0
  -- a stop at that moment or a later one might have left this store
  pub left_since : ℕ → Store → Type 0
  pub moment : ℕ
  -- by what it was closed
  pub closed : Option Cause
  pub faults : ℕ
  pub standing : List (List ℕ)

-- ---- what a call may change

-- what no call changes, and what only grows
pub record Stays (old new : Shown) : Type 0 where
  pub limits : new.limits ≡ old.limits
  pub standing : new.standing ≡ old.standing
  pub faults : old.faults ≤ new.faults
  pub moment : old.moment ≤ new.moment

-- a stop since some moment leaves a store of Q, or what one since then might have left before
pub record Leaves (Q : Store → Type 0) (old new : Shown) : Type 0 where
  pub before : (t : ℕ) (store : Store) → t ≤ old.moment → new.left_since t store
      → old.left_since t store ⊎ Q store

-- a stop leaves what it might have left before, and nothing else
pub record LeavesSame (old new : Shown) : Type 0 where
  pub now : (store : Store) → old.may_leave store ↔ new.may_leave store
  pub since : (t : ℕ) (store : Store) → old.left_since t store ↔ new.left_since t store

abbrev pub IsSaved : Session Store → Store → Type 0
IsSaved s store = store ≡ s.saved

abbrev pub IsSavedOrPresent : Session Store → Store → Type 0
IsSavedOrPresent s store = (store ≡ s.saved) ⊎ ((s.begun ≡ true) × (store ≡ s.present))

-- by what a base is closed after a call: by what it was before, or else by the call's answer
abbrev pub closed_by : {T : Type 0} → Result T BaseStop → Option Cause → Option Cause
closed_by result (Some first) = Some first
closed_by (Err Disk) None = Some cause.Disk
closed_by (Err Corrupt) None = Some cause.Corrupt
closed_by (Err Memory) None = Some cause.Memory
closed_by result None = None

-- One call: `call` gives its answer and the session after it, and Q says which stores a stop within it may leave.
pub record Does {T : Type 0} (call : Call Store T) (Q : Session Store → Store → Type 0) (old new : Shown)
    (result : Result T BaseStop) : Type 0 where
  pub stays : Stays old new
  -- for each session that was told, an answer is that of the call, and what it leaves of the session is told then
  pub answer : (v : T) (s : Session Store) → result ≡ Ok v → old.tells s → (v ≡ (call s).0) × new.tells (call s).1
  -- each stop has its cause; `Memory` is free
  pub disk : result ≡ Err Disk → Rose old.faults new.faults
  pub corrupt : result ≡ Err Corrupt → (s : Session Store) → old.tells s → ⊥
  pub closed : (first : Cause) → result ≡ Err (Closed first) → old.closed ≡ Some first
  pub stays_closed : (first : Cause) → old.closed ≡ Some first → result ≡ Err (Closed first)
  pub closes : new.closed ≡ closed_by result old.closed
  -- what is closed stays as it is
  pub unchanged : (first : Cause) → result ≡ Err (Closed first) → (s : Session Store) → old.tells s ↔ new.tells s
  pub unmoved : (first : Cause) → result ≡ Err (Closed first) → LeavesSame old new
  -- what a stop leaves
  pub stops : (s : Session Store) → old.tells s → old.closed ≡ None → Leaves (Q s) old new

-- a write within the limits of the base
abbrev pub Writes : {T : Type 0} → (Limits → Call Store T) → Shown → Shown → Result T BaseStop → Type 0
Writes call old new result = Does (call old.limits) IsSaved old new result

-- a call that looks at the store that is there
abbrev pub Looks : {T : Type 0} → (Store → T) → Shown → Shown → Result T BaseStop → Type 0
Looks look old new result = Does (reads look) IsSaved old new result

-- ---- what holds of a base between calls

-- since this moment there is no other
abbrev pub IsLatest : Shown → Type 0
IsLatest it = (store : Store) → it.left_since it.moment store → it.may_leave store

-- this moment is one of those since an earlier one
abbrev pub CountsNow : Shown → Type 0
CountsNow it = (t : ℕ) (store : Store) → t ≤ it.moment → it.may_leave store → it.left_since t store

-- where it is not closed, a stop leaves what was saved
abbrev pub LeavesSaved : Shown → Type 0
LeavesSaved it = (s : Session Store) (store : Store) → it.tells s → it.closed ≡ None → it.may_leave store
    → store ≡ s.saved

-- a session that it tells is one on stores
abbrev pub TellsSession : Shown → Type 0
TellsSession it = (s : Session Store) → it.tells s → IsSession s

-- ---- bounds that hold of every answer, told or not

pub record IsInfo (info : CollectionInfo) : Type 0 where
  pub count : info.count ≤ 2 ^ 63 - 1
  pub next_id : info.next_id ≤ 2 ^ 63 - 1

-- an id that is there, at or after this one
pub record IsIdFrom (from id : ℕ) : Type 0 where
  pub least : from ≤ id
  pub most : id < 2 ^ 63 - 1
