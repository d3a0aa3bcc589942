-- Where a run stands between two commands, and how it may be cut short there.
use Rattle.std.specs.Prelude.{◌≡◌, ◌≤◌, ◌+◌, ◌++◌, ℕ, Bool, true, false, List, Option, length, take, slice_get, Some, Result, Ok, Err, IsTrue}
use Rattle.std.specs.List.{flat_map}
use Rattle.uq_facts.specs.Causes.{Rose}
use Rattle.uq_outside.specs.declared.disk.Disk as disk
use Rattle.uq_outside.specs.declared.sink.Sink as sink
use Rattle.uq_outside.specs.Since.{LeavesOnly}
use Rattle.uq_outside.specs.Stops.{Only}
use Rattle.uq_outside.specs.Streams.{Grows}
use Rattle.uq_model.specs.Session.{Session}
use Rattle.uq_kv.specs.declared.kv.Kv.{Kv}
use Rattle.uq_kv.specs.Kv.{Tells, disk_of, is_begun_of}
use Rattle.uq_kv.specs.Stored.{Stored}
use Rattle.uq_shell.specs.Answers.{LeavesAlike}
use Rattle.uq_shell.specs.Events.{Event, Out, bytes_of, last_commit, output}
use Rattle.uq_shell.specs.Followed.{FollowedFiles, RecoversIn}
use Rattle.uq_shell.specs.Headline.{SinkRose}
use Rattle.uq_shell.specs.Line.{last_byte}
use Rattle.uq_shell.specs.Statuses.{is_of_store, is_early, row}
use Rattle.uq_shell.specs.Stream.{State, written_last}
use Rattle.uq_shell.specs.declared.progress.Progress.{Progress}
use Rattle.uq_shell.specs.declared.progress.Stop.{Stop}
use Rattle.uq_shell.specs.declared.progress.Stop.TheVariants.{At, Sink}
use Rattle.uq_shell.specs.declared.status.Status.{Status}
use Rattle.uq_shell.specs.declared.status.Status.TheVariants.{Disk, Stream}

-- how a run ends that is cut short so
abbrev pub status_at : Stop → Status
status_at (At status) = status
status_at Sink = Stream

-- a command is cut short by the store or the sink
abbrev pub is_of_command : Stop → Bool
is_of_command (At status) = is_of_store status
is_of_command Sink = true

-- and a run also by its input
abbrev pub is_of_run : Stop → Bool
is_of_run (At status) = is_early status
is_of_run Sink = true

-- the sink failed within event n
pub record IsPartOf {O : Type 0} (o : sink.Ghosts O) (events : List Event) (n : ℕ) (first now : O) : Type 0 where
  pub event : List ℕ
  pub under_way : slice_get events n ≡ Some (Out event)
  pub count : ℕ
  pub written : Grows (output n events ++ take count event) (o.written first) (o.written now)
  pub rose : SinkRose o first now

module _ {D O : Type 0} (g : disk.Ghosts D) (o : sink.Ghosts O) where
  -- ---- over every disk and sink

  -- No call has failed so far.
  pub record Stands (at : Progress) (disk_first : D) (kv : Kv D g) (out_first out : O) : Type 0 where
    pub later : g.faults disk_first ≤ g.faults (disk_of g kv).now
    pub quiet : o.faults out ≡ o.faults out_first
    pub replies : List ℕ
    pub written : Grows replies (o.written out_first) (o.written out)
    pub ends : last_byte replies ≡ at.last
    -- with no event done, nothing is begun
    pub idle : at.done ≡ 0 → is_begun_of g kv ≡ false
    pub kept : at.done ≡ 0 → LeavesAlike g disk_first (disk_of g kv).now

  -- The run ends so, with these events done. The line of the status is still to be written.
  pub record Stops (stop : Stop) (at : Progress) (disk_first disk_now : D) (out_first out : O) : Type 0 where
    pub later : g.faults disk_first ≤ g.faults disk_now
    pub sink_later : o.faults out_first ≤ o.faults out
    pub replies : List ℕ
    pub written : Grows replies (o.written out_first) (o.written out)
    pub quiet : (status : Status) → stop ≡ At status → o.faults out ≡ o.faults out_first
    pub ends : (status : Status) → stop ≡ At status → last_byte replies ≡ at.last
    pub rose : stop ≡ Sink → SinkRose o out_first out
    pub disk : stop ≡ At Disk → Rose (g.faults disk_first) (g.faults disk_now)
    pub kept : at.done ≡ 0 → LeavesAlike g disk_first disk_now

  abbrev pub StandsBy : {T : Type 0} → Result T Stop → Progress → D → Kv D g → O → O → Type 0
  StandsBy (Ok done) at disk_first kv out_first out = Stands at disk_first kv out_first out
  StandsBy (Err stop) at disk_first kv out_first out = Stops stop at disk_first (disk_of g kv).now out_first out

  -- ---- over a store that tells its session

  abbrev pub IsTold : Kv D g → Type 0
  IsTold kv = (s : Session Stored) × Tells g kv s

  -- The events of the state are done: they are written, and what a stop leaves is what they saved.
  pub record Reached (entry : Stored) (state : State) (at : Progress) (place : Option (List ℕ)) (disk_first : D) (kv : Kv D g)
      (out_first out : O) : Type 0 where
    pub done : length state.events ≡ at.done
    pub last : written_last state ≡ at.last
    pub refused : state.is_refused ≡ at.is_refused
    pub units : state.units ≡ at.meter
    pub tells : Tells g kv state.desk.session
    pub cursor : place ≡ state.desk.cursor
    pub saved : last_commit entry state.events ≡ state.desk.session.saved
    pub written : Grows (flat_map bytes_of state.events) (o.written out_first) (o.written out)
    pub quiet : o.faults out ≡ o.faults out_first
    pub stop : LeavesOnly g disk_first (disk_of g kv).now (RecoversIn entry state.events)

  -- The run is cut short within these events, whatever stands behind them. The line of the status is still to be written.
  pub record CutShort (entry : Stored) (events : List Event) (stop : Stop) (at : Progress) (disk_first : D) (kv : Kv D g) (out_first out : O) : Type 0 where
    pub inside : at.done ≤ length events
    pub any_moment : LeavesOnly g disk_first (disk_of g kv).now (RecoversIn entry (take (at.done + 1) events))
    pub at_exit : Only (FollowedFiles entry events at.done) (g.may_leave (disk_of g kv).now)
    pub written : (status : Status) → stop ≡ At status → Grows (output at.done events) (o.written out_first) (o.written out)
    pub last : (status : Status) → stop ≡ At status → last_byte (output at.done events) ≡ at.last
    pub quiet : (status : Status) → stop ≡ At status → o.faults out ≡ o.faults out_first
    pub part : stop ≡ Sink → IsPartOf o events at.done out_first out
    -- the session is told still, unless the store failed
    pub tells : IsTrue (row (status_at stop)).is_answered → (s : Session Stored) × Tells g kv s × (s.saved ≡ last_commit entry (take at.done events))

  abbrev pub ReachedBy : {T : Type 0} → Result T Stop → Stored → State → Progress → Option (List ℕ) → D → Kv D g → O → O → Type 0
  ReachedBy (Ok done) entry state at place disk_first kv out_first out = Reached entry state at place disk_first kv out_first out
  ReachedBy (Err stop) entry state at place disk_first kv out_first out = CutShort entry state.events stop at disk_first kv out_first out
