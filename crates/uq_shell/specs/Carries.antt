-- What a run leaves at the end of its words or its input, or where it is cut short.
use Rattle.std.specs.Prelude.{◌≡◌, ◌⊎◌, ◌≤◌, ◌<◌, ◌^◌, ◌+◌, ◌++◌, ℕ, Bool, true, false, List, Option, [], ◌∷◌, length, Some, None, Result, Ok, Err, OnOk, IfErr, IsTrue}
use Rattle.std.specs.Option.{ForSome}
use Rattle.uq_facts.specs.Causes.{Rose}
use Rattle.uq_outside.specs.declared.disk.Disk as disk
use Rattle.uq_outside.specs.declared.sink.Sink as sink
use Rattle.uq_outside.specs.declared.source.Source as source
use Rattle.uq_model.specs.Session.{opened}
use Rattle.uq_kv.specs.declared.kv.Kv.{Kv}
use Rattle.uq_kv.specs.Kv.{Tells, closed_of, disk_of}
use Rattle.uq_kv.specs.Stored.{Stored}
use Rattle.uq_words.specs.Blocks.{longest_script}
use Rattle.uq_words.specs.Taking.{Took}
use Rattle.uq_shell.specs.Commands.{request}
use Rattle.uq_shell.specs.Obeys.{PutsNone, ReadsBy, at_start}
use Rattle.uq_shell.specs.Reached.{CutShort, IsTold, Reached, StandsBy, is_of_run}
use Rattle.uq_shell.specs.Run.{Outcome}
use Rattle.uq_shell.specs.Stream.{Mode, OfLines, OfScript, OfWords, State, at_end, run_by, start}
use Rattle.uq_shell.specs.Verdicts.{IsRight, Judge}
use Rattle.uq_shell.specs.declared.progress.Progress.{Progress}
use Rattle.uq_shell.specs.declared.progress.Stop.{Stop}
use Rattle.uq_shell.specs.declared.progress.Stop.TheVariants.{At}
use Rattle.uq_shell.specs.declared.status.Status.TheVariants.{Stream, NotDatabase, TooMuchInput}
use Rattle.uq_shell.specs.declared.terms.Terms.{Terms}

-- ---- the input

-- whether the input is read
abbrev pub reads_input : Mode → Bool
reads_input OfLines = true
reads_input OfScript = true
reads_input (OfWords words) = false

module _ {I : Type 0} (i : source.Ghosts I) where
  -- the source tells its bytes, where they are read
  abbrev pub ReadsIn : Mode → I → List ℕ → Type 0
  ReadsIn mode input bytes = IsTrue (reads_input mode) → i.left input ≡ Some bytes

  -- it was read to its end
  pub record IsReadWhole (in_old in_new : I) : Type 0 where
    pub ended : i.ended in_new ≡ true
    pub left : ForSome (i.left in_old) (λ bytes. i.left in_new ≡ Some [])

  -- or more bytes of it were taken than a script may have
  abbrev pub IsTooLong : I → I → Type 0
  IsTooLong in_old in_new = Took (longest_script + 1) (i.taken in_old) (i.taken in_new)

  -- or so many bytes of it were taken, and no end was told
  pub record IsCutOff (most : ℕ) (in_old in_new : I) : Type 0 where
    pub taken : Took most (i.taken in_old) (i.taken in_new)
    pub not_ended : i.ended in_new ≡ true → ⊥

  -- P of the bytes that were taken
  abbrev pub OfTaken : List ℕ → I → (List ℕ → Type 0) → Type 0
  OfTaken bytes in_new P = (taken : List ℕ) × (rest : List ℕ) × (bytes ≡ taken ++ rest) × (i.left in_new ≡ Some rest) × P taken

  pub record DrawsBy (most : ℕ) (in_old in_new : I) (result : Result (Unit {0}) Stop) : Type 0 where
    pub later : i.faults in_old ≤ i.faults in_new
    pub whole : OnOk result (IsReadWhole in_old in_new)
    pub source : result ≡ Err (At Stream) → Rose (i.faults in_old) (i.faults in_new)
    pub too_much : result ≡ Err (At TooMuchInput) → IsCutOff most in_old in_new

  -- the same of an input that is one script
  pub record DrawsScript (most : ℕ) (in_old in_new : I) (result : Result (Unit {0}) Stop) : Type 0 where
    pub later : i.faults in_old ≤ i.faults in_new
    pub whole : OnOk result (IsReadWhole in_old in_new ⊎ IsTooLong in_old in_new)
    pub source : result ≡ Err (At Stream) → Rose (i.faults in_old) (i.faults in_new)
    pub too_much : result ≡ Err (At TooMuchInput) → IsCutOff most in_old in_new

-- ---- the run

module _ {D O : Type 0} (g : disk.Ghosts D) (o : sink.Ghosts O) where
  -- What this run means was done up to the end of the input, or in part.
  abbrev pub CarriedBy : Result (Unit {0}) Stop → Stored → Outcome → Progress → D → Kv D g → O → O → Type 0
  CarriedBy (Ok done) entry run at disk_first kv out_first out =
      (state : State) × (place : Option (List ℕ)) × Reached g o entry state at place disk_first kv out_first out × (at_end state ≡ run)
  CarriedBy (Err stop) entry run at disk_first kv out_first out =
      CutShort g o entry run.events stop at disk_first kv out_first out
      × (stop ≡ At TooMuchInput → (run.status ≡ TooMuchInput) × (at.done ≡ length run.events) × (at.meter ≡ run.units))

  -- The run of what is stored at entry and of an input that is read where `reads` says so; nothing was done before.
  pub record Carries (reads : List ℕ → Type 0) (run : Judge → Stored → List ℕ → Outcome) (now : Progress) (old new : Kv D g) (out_old out_new : O)
      (result : Result (Unit {0}) Stop) : Type 0 where
    pub same_reference : (disk_of g new).ghost_name ≡ (disk_of g old).ghost_name
    pub unclosed : OnOk result (closed_of g new ≡ None)
    pub few : OnOk result (now.done < 2 ^ 120)
    pub within : IfErr result (λ stop. IsTrue (is_of_run stop))
    pub stands : StandsBy g o result now (disk_of g old).now new out_old out_new
    pub not_database : result ≡ Err (At NotDatabase) → IsTold g o old → ⊥
    pub told : (judge : Judge) → IsRight judge → (entry : Stored) (bytes : List ℕ) → Tells g old (opened entry) → reads bytes
        → CarriedBy result entry (run judge entry bytes) now (disk_of g old).now new out_old out_new

module _ {D I O : Type 0} (g : disk.Ghosts D) (i : source.Ghosts I) (o : sink.Ghosts O) where
  -- Where the source failed, the events that are done are those of the bytes taken, as a run has them that reads no more.
  abbrev pub StopsBehind : (List ℕ → Type 0) → (Judge → Stored → ℕ → List ℕ → Outcome) → Progress → Kv D g → I → Result (Unit {0}) Stop → Type 0
  StopsBehind reads run now old in_new result =
      result ≡ Err (At Stream) → (judge : Judge) → IsRight judge → (entry : Stored) (bytes : List ℕ) → Tells g old (opened entry) → reads bytes
      → OfTaken i bytes in_new (λ taken. now.done ≡ length (run judge entry (length taken) taken).events)

  -- what words ask for, or the input
  pub record CarriesOut (terms : Terms) (mode : Mode) (most : ℕ) (now : Progress) (old new : Kv D g) (in_old in_new : I)
      (out_old out_new : O) (result : Result (Unit {0}) Stop) : Type 0 where
    pub carries : Carries g o (ReadsIn i mode in_old) (λ judge entry bytes. run_by judge terms (start entry) mode most bytes)
        now old new out_old out_new result
    pub behind : StopsBehind (ReadsIn i mode in_old) (λ judge entry count bytes. run_by judge terms (start entry) mode count bytes)
        now old in_new result
    -- the words of a command take nothing of the input
    pub unread : reads_input mode ≡ false → in_new ≡ in_old
    pub later : i.faults in_old ≤ i.faults in_new
    pub whole : mode ≡ OfLines → OnOk result (IsReadWhole i in_old in_new)
    pub script : mode ≡ OfScript → OnOk result (IsReadWhole i in_old in_new ⊎ IsTooLong i in_old in_new)
    pub source : result ≡ Err (At Stream) → Rose (i.faults in_old) (i.faults in_new)
    pub too_much : result ≡ Err (At TooMuchInput) → IsCutOff i most in_old in_new
    pub reads : (command : List (List ℕ)) → mode ≡ OfWords command → ReadsBy g o (request command) old new
    pub silent : reads_input mode ≡ false → PutsNone g o result at_start now out_old out_new
