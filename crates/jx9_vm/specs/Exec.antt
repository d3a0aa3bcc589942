-- What `exec` answers and leaves, by the run of the code.
use Rattle.std.specs.Prelude.{◌≡◌, ◌⊎◌, ℕ, ◌+◌, ◌-◌, ◌^◌, ◌≤◌, min, List, [], ◌++◌, length, take, Option, Some, None, Result, Ok, Err, OnOk}
use Rattle.std.specs.List.{Contains}
use Rattle.uq_facts.specs.Causes.{Rose}
use Rattle.uq_value.specs.Data.{Bytes}
use Rattle.uq_outside.specs.Streams.{Grows}
use Rattle.uq_model.specs.declared.cause.Cause.{Cause}
use Rattle.uq_model.specs.declared.cause.BaseStop.{BaseStop}
use Rattle.uq_model.specs.declared.cause.BaseStop.TheVariants.{Disk, Corrupt, Closed}
use Rattle.uq_model.specs.Base.{Shown, Stays, Leaves, IsSaved, closed_by}
use Rattle.uq_model.specs.Session.{Session, rolled_back}
use Rattle.uq_model.specs.Store.{Store}
use Rattle.jx9_meaning.specs.Laws.{last_saved}
use Rattle.jx9_meaning.specs.Script.{Ended}
use Rattle.jx9_meaning.specs.World.{World, Event, Commit, world_of}
use Rattle.jx9_compile.specs.Run.{CodeRun}
use Rattle.jx9_compile.specs.declared.code.Code.{Code}
use Rattle.jx9_vm.specs.declared.ending.Ending.{Ending}
use Rattle.jx9_vm.specs.declared.ending.Ending.TheVariants.{Done, Fault, Spent}
use Rattle.jx9_vm.specs.declared.stop.Ran.{Ran}
use Rattle.jx9_vm.specs.declared.stop.Stop.{Stop}
use Rattle.jx9_vm.specs.declared.stop.StopCause.{StopCause}
use Rattle.jx9_vm.specs.declared.stop.StopCause.TheVariants.{Base, Sink, Memory}
use Rattle.jx9_vm.specs.Events.{bytes_of, last_in}
use Rattle.jx9_vm.specs.Step.{IsFront, IsOneOut, meant}

-- the world of a script over a base that tells this session, with this budget
abbrev pub world_over : Shown → Session Store → ℕ → World
world_over base s budget = world_of s base.limits budget [] []

-- ---- the meter

-- what a script took of its budget: all of it where it is spent, else what is not left
abbrev pub used_by : Ending → ℕ → ℕ → ℕ
used_by Spent budget left = budget
used_by Done budget left = budget - left
used_by (Fault kind line) budget left = budget - left

-- so many units more, until it stands
abbrev pub IsRaised : ℕ → ℕ → ℕ → Type 0
IsRaised by old new = new ≡ min (old + by) (2 ^ 128 - 1)

-- at most the budget
abbrev pub IsMetered : ℕ → ℕ → ℕ → Type 0
IsMetered budget old new = (by : ℕ) × (by ≤ budget) × IsRaised by old new

-- ---- what a stop leaves

-- a commit of this store is among the events
abbrev pub IsCommitted : List Event → Store → Type 0
IsCommitted events store = Contains events (Commit store)

-- which stores a stop leaves after these events and the one that is under way, where one is
pub record LeavesStores (s : Session Store) (events under_way : List Event) (base after : Shown) : Type 0 where
  -- since an earlier moment: what it might have left before the call, and those of the call
  pub before : Leaves (λ store. IsSaved s store ⊎ IsCommitted (events ++ under_way) store) base after
  -- since the start of the call: what was saved then, and what the events commit
  pub since : (store : Store) → after.left_since base.moment store → IsSaved s store ⊎ IsCommitted (events ++ under_way) store
  -- now: what the last of the events has saved, or the one under way
  pub now : (store : Store) → after.may_leave store → (store ≡ last_saved s.saved events) ⊎ IsCommitted under_way store

-- ---- a script that ended

-- over a base that tells this session: the run of the code from there
pub record IsRun (code : Code) (budget : ℕ) (s : Session Store) (events : List Event) (base now : Shown) (meter meter' : ℕ) (ran : Ran) : Type 0 where
  pub ended : Ended
  pub runs : CodeRun code (world_over base s budget) ended
  pub events_are : ended.events ≡ events
  pub ending : ended.ending ≡ meant ran.ending
  -- which has gone back to what was saved, where the ending is not `Done`
  pub session : now.tells ended.world.session
  pub units : IsRaised (used_by ran.ending budget ended.world.units) meter meter'

pub record Runs (code : Code) (budget : ℕ) (base now : Shown) (written written' : Option Bytes) (meter meter' : ℕ) (ran : Ran) : Type 0 where
  pub events : List Event
  pub count : ran.events ≡ length events
  pub last : ran.last ≡ last_in None (bytes_of events)
  pub bytes : Grows (bytes_of events) written written'
  pub stays : Stays base now
  pub closed : now.closed ≡ base.closed
  pub metered : IsMetered budget meter meter'
  pub spent : ran.ending ≡ Spent → IsRaised budget meter meter'
  pub told : (s : Session Store) → base.tells s → IsRun code budget s events base now meter meter' ran
  pub stops : (s : Session Store) → base.tells s → base.closed ≡ None → LeavesStores s events [] base now

-- ---- a script that was stopped

-- each cause has its reason, against the base and the sink at the start of the call
pub record HasReason (base now : Shown) (faults faults' : ℕ) (cause : StopCause) : Type 0 where
  pub disk : cause ≡ Base Disk → Rose base.faults now.faults
  pub corrupt : cause ≡ Base Corrupt → (s : Session Store) → base.tells s → ⊥
  pub closed : (first : Cause) → cause ≡ Base (Closed first) → base.closed ≡ Some first
  pub sink : cause ≡ Sink → Rose faults faults'

-- by what the base is closed then
abbrev pub closed_after : StopCause → Option Cause → Option Cause
closed_after (Base stop) before = closed_by {T = Unit {0}} (Err stop) before
closed_after Sink before = before
closed_after Memory before = before

-- over a base that tells this session: these events, and the one under way, are the first of the code's run
pub record IsCut (code : Code) (budget : ℕ) (s : Session Store) (base : Shown) (events under_way : List Event) : Type 0 where
  pub ended : Ended
  pub runs : CodeRun code (world_over base s budget) ended
  pub front : IsFront (events ++ under_way) ended.events

pub record Stopped (code : Code) (budget : ℕ) (base now : Shown) (written written' : Option Bytes) (faults faults' : ℕ) (meter meter' : ℕ) (stop : Stop) : Type 0 where
  pub events : List Event
  pub count : stop.events ≡ length events
  pub last : stop.last ≡ last_in None (bytes_of events)
  -- at most one event was under way, and some of its bytes may have been put out
  pub under_way : List Event
  pub one : length under_way ≤ 1
  pub bytes : (n : ℕ) × Grows (bytes_of events ++ take n (bytes_of under_way)) written written'
  -- which was a text, where the sink failed
  pub at_sink : stop.cause ≡ Sink → IsOneOut under_way
  -- and else none of its bytes were
  pub at_other : (stop.cause ≡ Sink → ⊥) → Grows (bytes_of events) written written'
  pub stays : Stays base now
  pub closed : now.closed ≡ closed_after stop.cause base.closed
  pub metered : IsMetered budget meter meter'
  pub reason : HasReason base now faults faults' stop.cause
  pub told : (s : Session Store) → base.tells s → IsCut code budget s base events under_way
  pub stops : (s : Session Store) → base.tells s → base.closed ≡ None → LeavesStores s events under_way base now

-- the sink's count of faults rose where the sink failed, and else stays
pub record SinkCause (faults faults' : ℕ) (result : Result Ran Stop) : Type 0 where
  pub later : faults ≤ faults'
  pub quiet : (ran : Ran) → result ≡ Ok ran → faults' ≡ faults
  pub quiet_stop : (stop : Stop) → result ≡ Err stop → (stop.cause ≡ Sink → ⊥) → faults' ≡ faults

-- ---- the end of a script

-- the session after an ending: unless that is `Done`, it has gone back to what was saved
abbrev pub session_after : Ending → Session Store → Session Store
session_after Done s = s
session_after (Fault kind line) s = rolled_back s
session_after Spent s = rolled_back s

-- the base after an ending
pub record Settles (ending : Ending) (base now : Shown) (result : Result (Unit {0}) BaseStop) : Type 0 where
  pub stays : Stays base now
  pub told : (s : Session Store) → base.tells s → OnOk result (now.tells (session_after ending s))
  pub closes : now.closed ≡ closed_by result base.closed
  pub stops : (s : Session Store) → base.tells s → base.closed ≡ None → Leaves (IsSaved s) base now
  pub disk : result ≡ Err Disk → Rose base.faults now.faults
  pub corrupt : result ≡ Err Corrupt → (s : Session Store) → base.tells s → ⊥
  pub was_closed : (first : Cause) → result ≡ Err (Closed first) → base.closed ≡ Some first
