-- The theorem of a run, one sentence a field.
use Rattle.std.specs.Prelude.{◌≡◌, ◌⊎◌, ◌≤◌, ℕ, List, ◌++◌, length, take, IsTrue, [], ◌∷◌}
use Rattle.std.specs.Option.{ForSome}
use Rattle.uq_facts.specs.Causes.{Rose}
use Rattle.uq_outside.specs.declared.disk.Disk as disk
use Rattle.uq_outside.specs.declared.sink.Sink as sink
use Rattle.uq_outside.specs.declared.source.Source as source
use Rattle.uq_outside.specs.Since.{IsSettled, LeavesOnly}
use Rattle.uq_outside.specs.Stops.{Only}
use Rattle.uq_outside.specs.Streams.{Grows}
use Rattle.uq_kv.specs.Holds.{Holds, HoldsNone}
use Rattle.uq_kv.specs.Stored.{Stored}
use Rattle.uq_shell.specs.Events.{last_commit}
use Rattle.uq_shell.specs.Followed.{FollowedBefore, FollowedBytes, FollowedFiles, ending_line}
use Rattle.uq_shell.specs.Run.{Outcome}
use Rattle.uq_shell.specs.Statuses.{row}
use Rattle.uq_shell.specs.declared.ended.Ended.{Ended}
use Rattle.uq_shell.specs.declared.status.Status.{Status}
use Rattle.uq_shell.specs.declared.status.Status.TheVariants.{Disk, Stream, NotDatabase, Memory}

-- The statuses that come only for a cause. `Memory` is free.
pub record HasCauses (disk_rose stream_rose holds_none : Type 0) (status : Status) : Type 0 where
  pub disk : status ≡ Disk → disk_rose
  pub stream : status ≡ Stream → stream_rose
  pub not_database : status ≡ NotDatabase → holds_none

module _ {D : Type 0} (g : disk.Ghosts D) where
  -- Whenever it is stopped, the files recover to what the last acknowledged commit left, or the commit under way.
  pub record Recovers (entry : Stored) (run : Outcome) (n : ℕ) (old new : D) : Type 0 where
    pub any_moment : LeavesOnly g old new (FollowedBefore entry run.events n)
    pub at_exit : Only (FollowedFiles entry run.events n) (g.may_leave new)

  -- Where a command was answered, the disk holds at the end what the last commit left, and nothing is pending.
  abbrev pub HoldsLast : Stored → Outcome → Ended → D → Type 0
  HoldsLast entry run ended new =
      IsTrue (row ended.status).is_answered → Holds g new (last_commit entry (take ended.done run.events))

  -- Where nothing is pending and the journal is one closed gate, a stop within leaves both files as they are.
  abbrev pub KeepsFilesAtGate : D → D → Type 0
  KeepsFilesAtGate old new =
      ForSome (g.content old) (λ start. start.journal ≡ 0 ∷ [] → IsSettled g old start
      → LeavesOnly g old new (λ files. files ≡ start))

module _ {O : Type 0} (o : sink.Ghosts O) where
  -- the sink failed
  abbrev pub SinkRose : O → O → Type 0
  SinkRose old new = Rose (o.faults old) (o.faults new)

  -- Behind what the commands wrote stands the line of the status, or, where the sink failed, a prefix of it.
  pub record EndsInLine (source_rose : Type 0) (old new : O) (status : Status) : Type 0 where
    pub replies : List ℕ
    pub count : ℕ
    pub grows : Grows (replies ++ take count (ending_line replies status)) (o.written old) (o.written new)
    pub whole : (SinkRose old new → ⊥) → take count (ending_line replies status) ≡ ending_line replies status
    pub no_reply : (IsTrue (row status).follows_replies → ⊥) → replies ≡ []
    -- the line of `Stream` is the source's
    pub source : status ≡ Stream → source_rose ⊎ (count ≡ 0)

  -- A run writes and ends as its meaning does, or is cut short.
  pub record Meets (run : Outcome) (source_rose : Type 0) (ended : Ended) (old new : O) : Type 0 where
    pub bytes : List ℕ
    pub grows : Grows bytes (o.written old) (o.written new)
    pub followed : FollowedBytes run.events ended.done ended.status source_rose (SinkRose old new) bytes
    -- the meter has what the scripts of the run take together
    pub exact : IsTrue (row ended.status).is_whole → (ended.status ≡ run.status) × (ended.done ≡ length run.events) × (ended.meter ≡ run.units)
    pub is_database : ended.status ≡ NotDatabase → ⊥

module _ {D O : Type 0} (g : disk.Ghosts D) (o : sink.Ghosts O) where
  -- no call of the disk and none of the sink failed
  pub record IsQuiet (old new : D) (out_old out_new : O) : Type 0 where
    pub disk : Rose (g.faults old) (g.faults new) → ⊥
    pub sink : SinkRose o out_old out_new → ⊥

  -- no count of faults falls
  pub record KeepsCounting (old new : D) (out_old out_new : O) : Type 0 where
    pub disk : g.faults old ≤ g.faults new
    pub sink : o.faults out_old ≤ o.faults out_new

  module _ {I : Type 0} (i : source.Ghosts I) where
    -- the source or the sink failed
    abbrev pub StreamRose : I → I → O → O → Type 0
    StreamRose in_old in_new out_old out_new = Rose (i.faults in_old) (i.faults in_new) ⊎ SinkRose o out_old out_new

    -- each status comes only for its cause
    abbrev pub RunsForCauses : D → D → I → I → O → O → Status → Type 0
    RunsForCauses old new in_old in_new out_old out_new status =
        HasCauses (Rose (g.faults old) (g.faults new)) (StreamRose in_old in_new out_old out_new) (HoldsNone g old) status

-- The run ends as its meaning ends, or for want of memory.
abbrev pub IsComplete : Outcome → Status → Type 0
IsComplete run status = (status ≡ run.status) ⊎ (status ≡ Memory)
