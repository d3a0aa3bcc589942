-- What one command does to where a run stands.
use Rattle.std.specs.Prelude.{◌≡◌, ◌≤◌, ◌+◌, ◌||◌, ◌^◌, ℕ, List, Option, Bool, false, if◌then◌else◌, take, Some, None, Result, Ok, Err, OnOk, IfErr, IsTrue}
use Rattle.uq_outside.specs.declared.disk.Disk as disk
use Rattle.uq_outside.specs.declared.sink.Sink as sink
use Rattle.uq_outside.specs.Streams.{Grows}
use Rattle.uq_journal.specs.Calls.{IsStill}
use Rattle.uq_kv.specs.declared.kv.Kv.{Kv}
use Rattle.uq_kv.specs.Kv.{closed_of, disk_of, is_begun_of, limits_of}
use Rattle.uq_kv.specs.Stored.{Stored}
use Rattle.uq_shell.specs.Commands.{Request}
use Rattle.uq_shell.specs.Headline.{SinkRose}
use Rattle.uq_shell.specs.Line.{line_after}
use Rattle.uq_shell.specs.Reached.{IsTold, Reached, ReachedBy, Stands, StandsBy, is_of_command}
use Rattle.uq_shell.specs.Replies.{is_refused, text_of}
use Rattle.uq_shell.specs.Stream.{State}
use Rattle.uq_shell.specs.Verdicts.{IsRight, Judge}
use Rattle.uq_shell.specs.declared.answering.Answer.{Answer}
use Rattle.uq_shell.specs.declared.progress.Progress.{Progress}
use Rattle.uq_shell.specs.declared.progress.Stop.{Stop}
use Rattle.uq_shell.specs.declared.progress.Stop.TheVariants.{At, Sink}
use Rattle.uq_shell.specs.declared.status.Status.{Status}
use Rattle.uq_shell.specs.declared.status.Status.TheVariants.{NotDatabase}

-- no event is done yet
abbrev pub at_start : Progress
at_start = record { done = 0; last = None; is_refused = false; meter = 0 }

-- ---- a reply

-- the events that stand before it
abbrev pub commits_before : Bool → ℕ
commits_before commits = if commits then 1 else 0

-- where a run stands behind an answer
abbrev pub answered : Progress → Answer → Progress
answered was answer = record {
  done = was.done + commits_before answer.commits + 1;
  last = Some 0x0a;
  is_refused = was.is_refused || is_refused answer.reply;
  meter = was.meter;
}

-- and before its reply
abbrev pub unanswered : Progress → Answer → Progress
unanswered was answer = record {
  done = was.done + commits_before answer.commits;
  last = was.last;
  is_refused = was.is_refused;
  meter = was.meter;
}

module _ {O : Type 0} (o : sink.Ghosts O) where
  -- the reply is put out
  pub record Replied (answer : Answer) (was now : Progress) (out_old out_new : O) : Type 0 where
    pub progress : now ≡ answered was answer
    pub written : Grows (line_after was.last (text_of answer.reply)) (o.written out_old) (o.written out_new)
    pub quiet : o.faults out_new ≡ o.faults out_old

  -- the sink failed within it
  pub record Unreplied (answer : Answer) (was now : Progress) (out_old out_new : O) : Type 0 where
    pub progress : now ≡ unanswered was answer
    pub count : ℕ
    pub written : Grows (take count (line_after was.last (text_of answer.reply))) (o.written out_old) (o.written out_new)
    pub later : o.faults out_old ≤ o.faults out_new
    pub rose : SinkRose o out_old out_new

  abbrev pub RepliesBy : Result (Unit {0}) Stop → Answer → Progress → Progress → O → O → Type 0
  RepliesBy (Ok done) answer was now out_old out_new = Replied answer was now out_old out_new
  RepliesBy (Err (At status)) answer was now out_old out_new = ⊥
  RepliesBy (Err Sink) answer was now out_old out_new = Unreplied answer was now out_old out_new

-- ---- a command, or a script

-- so many events and units at most come with one
abbrev pub most_at_once : ℕ
most_at_once = 2 ^ 42

module _ {D O : Type 0} (g : disk.Ghosts D) (o : sink.Ghosts O) where
  -- Behind each state comes this one, or the run is cut short on the way to it. It is told of each judge of texts that is right.
  pub record MovesOn (next : Judge → State → State) (was now : Progress) (place_old place_new : Option (List ℕ)) (old new : Kv D g)
      (out_old out_new : O) (result : Result (Unit {0}) Stop) : Type 0 where
    pub same_reference : (disk_of g new).ghost_name ≡ (disk_of g old).ghost_name
    pub limits : limits_of g new ≡ limits_of g old
    pub unclosed : OnOk result (closed_of g new ≡ None)
    pub few : OnOk result (now.done ≤ was.done + most_at_once)
    pub few_units : OnOk result (now.meter ≤ was.meter + most_at_once)
    pub within : IfErr result (λ stop. IsTrue (is_of_command stop))
    pub stands : (disk_first : D) (out_first : O) → Stands g o was disk_first old out_first out_old → StandsBy g o result now disk_first new out_first out_new
    -- a session that is told is told on, and is no cause for `not a database`
    pub tells : IsTold g o old → OnOk result (IsTold g o new)
    pub not_database : result ≡ Err (At NotDatabase) → IsTold g o old → ⊥
    pub reached : (judge : Judge) → IsRight judge → (entry : Stored) (state : State) (disk_first : D) (out_first : O)
        → Reached g o entry state was place_old disk_first old out_first out_old
        → ReachedBy g o result entry (next judge state) now place_new disk_first new out_first out_new

  -- what asks to write nothing leaves the disk as it is
  pub record ReadsBy (asked : Request) (old new : Kv D g) : Type 0 where
    pub still : asked.writes ≡ false → IsStill g (disk_of g old).now (disk_of g new).now
    pub idle : asked.writes ≡ false → is_begun_of g old ≡ false → is_begun_of g new ≡ false

  -- a command has two events at most, and takes no unit
  abbrev pub HasFew : Result (Unit {0}) Stop → Progress → Progress → Type 0
  HasFew result was now = OnOk result ((now.done ≤ was.done + 2) × (now.meter ≡ was.meter))

  -- where the store failed, nothing was put out
  abbrev pub PutsNone : Result (Unit {0}) Stop → Progress → Progress → O → O → Type 0
  PutsNone result was now out_old out_new = (status : Status) → result ≡ Err (At status) → (out_new ≡ out_old) × (now ≡ was)
