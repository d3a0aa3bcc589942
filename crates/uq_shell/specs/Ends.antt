-- What a run leaves, over a store that was opened.
use Rattle.std.specs.Prelude.{◌≡◌, ◌⊎◌, ◌≤◌, ℕ, false, List, Option, length, take, slice_get, Some, None}
use Rattle.uq_facts.specs.Causes.{Rose}
use Rattle.uq_outside.specs.declared.disk.Disk as disk
use Rattle.uq_outside.specs.declared.sink.Sink as sink
use Rattle.uq_outside.specs.declared.source.Source as source
use Rattle.uq_outside.specs.Files.{Files}
use Rattle.uq_outside.specs.Streams.{Grows}
use Rattle.uq_journal.specs.Calls.{IsStill}
use Rattle.uq_kv.specs.declared.kv.Kv.{Kv}
use Rattle.uq_kv.specs.declared.opening.Ready.{Ready}
use Rattle.uq_kv.specs.Kv.{disk_of, is_begun_of}
use Rattle.uq_kv.specs.Holds.{RecoversTo}
use Rattle.uq_kv.specs.Opening.{Finds}
use Rattle.uq_kv.specs.Stored.{Stored}
use Rattle.uq_shell.specs.Answers.{LeavesAlike}
use Rattle.uq_shell.specs.Carries.{IsCutOff, IsReadWhole, IsTooLong, OfTaken, ReadsIn, reads_input}
use Rattle.uq_shell.specs.Commands.{request}
use Rattle.uq_shell.specs.Events.{Event, Out}
use Rattle.uq_shell.specs.Followed.{some_line}
use Rattle.uq_shell.specs.Headline.{EndsInLine, HasCauses, HoldsLast, IsComplete, IsQuiet, KeepsCounting, Meets, Recovers, SinkRose}
use Rattle.uq_shell.specs.Reached.{Reached, Stands}
use Rattle.uq_shell.specs.Run.{Outcome}
use Rattle.uq_shell.specs.Statuses.{row, status_of}
use Rattle.uq_shell.specs.Stream.{Mode, OfLines, OfScript, OfWords, State, at_end, run_by, start}
use Rattle.uq_shell.specs.Verdicts.{IsRight, Judge}
use Rattle.uq_shell.specs.declared.ended.Ended.{Ended}
use Rattle.uq_shell.specs.declared.progress.Progress.{Progress}
use Rattle.uq_shell.specs.declared.status.Status.{Status}
use Rattle.uq_shell.specs.declared.status.Status.TheVariants.{Done, Refused, Usage, Disk, Stream, NotDatabase, TooMuchInput}
use Rattle.uq_shell.specs.declared.terms.Terms.{Terms}

-- All of the bytes were written, or the sink failed behind a prefix of them.
abbrev pub Writes : {O : Type 0} → sink.Ghosts O → List ℕ → O → O → Type 0
Writes o bytes old new =
    Grows bytes (o.written old) (o.written new)
    ⊎ (SinkRose o old new × (count : ℕ) × Grows (take count bytes) (o.written old) (o.written new))

-- the opening has found whatever these files recover to
abbrev pub FindsWhatIsThere : {D : Type 0} → disk.Ghosts D → Ready → D → Files → Type 0
FindsWhatIsThere g ready it start = (stored : Stored) → RecoversTo stored start → Finds g ready it stored

-- the sink failed within event n
pub record IsUnderWay {O : Type 0} (o : sink.Ghosts O) (events : List Event) (n : ℕ) (old new : O) : Type 0 where
  pub event : List ℕ
  pub there : slice_get events n ≡ Some (Out event)
  pub rose : SinkRose o old new

-- What is left of the input, which is read by lines, as one script, or not at all.
pub record LeavesInput {I : Type 0} (i : source.Ghosts I) (by_lines as_script : Type 0) (most : ℕ) (in_old in_new : I) (status : Status) : Type 0 where
  -- the words of a command take none of it
  pub unread : (by_lines → ⊥) → (as_script → ⊥) → in_new ≡ in_old
  pub later : i.faults in_old ≤ i.faults in_new
  pub whole : by_lines → (status ≡ Done) ⊎ (status ≡ Refused) → IsReadWhole i in_old in_new
  -- of a script that is too long the rest is not read
  pub script : as_script → (status ≡ Done) ⊎ (status ≡ Refused) → IsReadWhole i in_old in_new ⊎ IsTooLong i in_old in_new
  pub too_much : status ≡ TooMuchInput → IsCutOff i most in_old in_new

module _ {D O : Type 0} (g : disk.Ghosts D) (o : sink.Ghosts O) where
  -- A run over a store that tells its session: it is done, or cut short.
  pub record Ends (entry : Stored) (run : Outcome) (source_rose : Type 0) (old new : D) (out_old out_new : O) (ended : Ended) : Type 0 where
    pub meets : Meets o run source_rose ended out_old out_new
    pub recovers : Recovers g entry run ended.done old new
    pub holds : HoldsLast g entry run ended new
    pub complete : (source_rose → ⊥) → IsQuiet g o old new out_old out_new → IsComplete run ended.status

  -- A run over every disk and sink. It ends as `not a database` only where `none` holds.
  pub record EndsAnywhere (none source_rose : Type 0) (old new : D) (out_old out_new : O) (ended : Ended) : Type 0 where
    pub causes : HasCauses (Rose (g.faults old) (g.faults new)) (source_rose ⊎ SinkRose o out_old out_new) none ended.status
    pub not_usage : ended.status ≡ Usage → ⊥
    pub counts : KeepsCounting g o old new out_old out_new
    pub line : EndsInLine o source_rose out_old out_new ended.status
    pub kept : ended.done ≡ 0 → LeavesAlike g old new

  -- the end of the input, behind the events that are done
  pub record Settles (at : Progress) (old new : Kv D g) (out_old out_new : O) (ended : Ended) : Type 0 where
    pub same_reference : (disk_of g new).ghost_name ≡ (disk_of g old).ghost_name
    pub status : (ended.status ≡ status_of at.is_refused) ⊎ (ended.status ≡ Disk)
    pub anywhere : (disk_first : D) (out_first : O) → Stands g o at disk_first old out_first out_old
        → EndsAnywhere ⊥ ⊥ disk_first (disk_of g new).now out_first out_new ended
    pub ends : (entry : Stored) (state : State) (place : Option (List ℕ)) (disk_first : D) (out_first : O)
        → Reached g o entry state at place disk_first old out_first out_old
        → g.faults disk_first ≤ g.faults (disk_of g old).now → Ends entry (at_end state) ⊥ disk_first (disk_of g new).now out_first out_new ended
    pub idle : is_begun_of g old ≡ false → disk_of g new ≡ disk_of g old

module _ {D I O : Type 0} (g : disk.Ghosts D) (i : source.Ghosts I) (o : sink.Ghosts O) where
  -- At `Stream` the sink failed within the event under way; or the source failed, and the events that are done are those of the
  -- bytes taken, as a run has them that reads no more.
  abbrev pub EndsBehind : (ℕ → List ℕ → Outcome) → ℕ → List ℕ → I → I → O → O → Ended → Type 0
  EndsBehind run most bytes in_old in_new out_old out_new ended =
      ended.status ≡ Stream → IsUnderWay o (run most bytes).events ended.done out_old out_new
      ⊎ (Rose (i.faults in_old) (i.faults in_new) × OfTaken i bytes in_new (λ taken. ended.done ≡ length (run (length taken) taken).events))

  -- A run over an open store on which nothing is begun. `holds` says when its session is told.
  pub record RunsOver (holds : Stored → Type 0) (terms : Terms) (mode : Mode) (most : ℕ) (old new : D) (in_old in_new : I)
      (out_old out_new : O) (ended : Ended) : Type 0 where
    pub ends : (judge : Judge) → IsRight judge → (entry : Stored) (bytes : List ℕ) → holds entry → ReadsIn i mode in_old bytes
        → Ends g o entry (run_by judge terms (start entry) mode most bytes) (Rose (i.faults in_old) (i.faults in_new)) old new out_old out_new ended
    pub behind : (judge : Judge) → IsRight judge → (entry : Stored) (bytes : List ℕ) → holds entry → ReadsIn i mode in_old bytes
        → EndsBehind (run_by judge terms (start entry) mode) most bytes in_old in_new out_old out_new ended
    pub anywhere : EndsAnywhere g o ((entry : Stored) → holds entry → ⊥) (Rose (i.faults in_old) (i.faults in_new)) old new out_old out_new ended
    pub input : LeavesInput i (mode ≡ OfLines) (mode ≡ OfScript) most in_old in_new ended.status
    -- the words of a command that asks to write nothing leave the disk as it is
    pub reads : (command : List (List ℕ)) → mode ≡ OfWords command → (request command).writes ≡ false → IsStill g old new
    -- and no reply stands before `not a database`
    pub first : reads_input mode ≡ false → ended.status ≡ NotDatabase → Writes o (some_line None (row NotDatabase).text) out_old out_new
