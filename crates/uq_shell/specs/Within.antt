-- The theorem of a run over its words and its input, one sentence a field.
use Rattle.std.specs.Prelude.{◌≡◌, ◌⊎◌, ℕ, false, List, Some, None, String, IsTrue}
use Rattle.std.specs.Global.{Global}
use Rattle.std.specs.Option.{ForSome}
use Rattle.uq_facts.specs.Causes.{Rose}
use Rattle.uq_outside.specs.declared.disk.Disk as disk
use Rattle.uq_outside.specs.declared.sink.Sink as sink
use Rattle.uq_outside.specs.declared.source.Source as source
use Rattle.uq_journal.specs.Calls.{KeepsRecovered}
use Rattle.uq_kv.specs.Holds.{HasShape, Holds}
use Rattle.uq_kv.specs.Stored.{Stored}
use Rattle.uq_words.specs.Options.{Asked, order_of_words}
use Rattle.uq_words.specs.Texts.{texts}
use Rattle.uq_shell.specs.Carries.{reads_input}
use Rattle.uq_shell.specs.Commands.{request}
use Rattle.uq_shell.specs.Ends.{EndsBehind, LeavesInput, Writes}
use Rattle.uq_shell.specs.Followed.{some_line}
use Rattle.uq_shell.specs.Headline.{EndsInLine, HoldsLast, IsComplete, IsQuiet, KeepsCounting, KeepsFilesAtGate, Meets, Recovers, RunsForCauses}
use Rattle.uq_shell.specs.Run.{Outcome}
use Rattle.uq_shell.specs.Statuses.{row}
use Rattle.uq_shell.specs.Stream.{Mode, OfLines, OfScript, OfWords, mode_of, run_within}
use Rattle.uq_shell.specs.Verdicts.{IsRight, Judge}
use Rattle.uq_shell.specs.declared.ended.Ended.{Ended}
use Rattle.uq_shell.specs.declared.status.Status.TheVariants.{Usage, Memory, NotDatabase}

-- P of what words make of the input, where they are in form
abbrev pub OfMode : List (List ℕ) → (Mode → Type 0) → Type 0
OfMode words P = (asked : Asked) × (order_of_words words ≡ Some asked) × P (mode_of asked.words)

-- the words ask for the commands of the input, or for it as one script
abbrev pub ReadsLines : List (List ℕ) → Type 0
ReadsLines words = OfMode words (λ mode. mode ≡ OfLines)

abbrev pub ReadsScript : List (List ℕ) → Type 0
ReadsScript words = OfMode words (λ mode. mode ≡ OfScript)

abbrev pub ReadsInput : List (List ℕ) → Type 0
ReadsInput words = OfMode words (λ mode. IsTrue (reads_input mode))

-- the words are a command that asks to write nothing
abbrev pub ReadsOnly : List (List ℕ) → Type 0
ReadsOnly words = OfMode words (λ mode. (command : List (List ℕ)) × (mode ≡ OfWords command) × ((request command).writes ≡ false))

module _ {D I O : Type 0} (g : disk.Ghosts D) (i : source.Ghosts I) (o : sink.Ghosts O) where
  -- Over every disk, source and sink.
  pub record RunsAnywhere (words : List (String Global)) (most : ℕ) (old new : D) (in_old in_new : I) (out_old out_new : O) (ended : Ended) : Type 0 where
    -- each status comes only for its cause
    pub causes : RunsForCauses g o i old new in_old in_new out_old out_new ended.status
    -- `Usage` comes where the words are in no form; there only want of memory may come in its place, and no disk is touched
    pub usage : ended.status ≡ Usage → order_of_words (texts words) ≡ None
    pub form : order_of_words (texts words) ≡ None → (ended.status ≡ Usage) ⊎ (ended.status ≡ Memory)
    pub untouched : order_of_words (texts words) ≡ None → new ≡ old
    pub input : LeavesInput i (ReadsLines (texts words)) (ReadsScript (texts words)) most in_old in_new ended.status
    pub counts : KeepsCounting g o old new out_old out_new
    pub line : EndsInLine o (Rose (i.faults in_old) (i.faults in_new)) out_old out_new ended.status
    -- the words of a command get no reply before `not a database`
    pub first : (ReadsInput (texts words) → ⊥) → ended.status ≡ NotDatabase → Writes o (some_line None (row NotDatabase).text) out_old out_new
    -- no command is answered over files of another shape, and they still recover to what they recovered to
    pub shape : IsTrue (row ended.status).is_answered → ForSome (g.content old) HasShape
    pub foreign : (ForSome (g.content old) HasShape → ⊥) → KeepsRecovered g old new
    -- so do files of which no command was answered, or to which the words ask to write nothing
    pub still : ended.done ≡ 0 → KeepsRecovered g old new
    pub reads : ReadsOnly (texts words) → KeepsRecovered g old new
    pub bytes : ReadsOnly (texts words) → KeepsFilesAtGate g old new

  -- P of what the disk holds, of the input, and of what a run over these words means for the bytes that it reads at most and for
  -- an input. The source has to tell its bytes only where it is read. What scripts mean is told of each right judge of their texts.
  abbrev pub OverStoreAndInput : List (String Global) → D → I → (Stored → List ℕ → (ℕ → List ℕ → Outcome) → Type 0) → Type 0
  OverStoreAndInput words it input P =
      (judge : Judge) → IsRight judge → (bytes : List ℕ) (entry : Stored) → (ReadsInput (texts words) → i.left input ≡ Some bytes) → Holds g it entry
      → P entry bytes (λ most input. run_within judge (texts words) most input entry)

  -- Over a disk that holds a store, and a source that tells its bytes where it is read.
  pub record RunsOverStore (words : List (String Global)) (most : ℕ) (old new : D) (in_old in_new : I) (out_old out_new : O) (ended : Ended) : Type 0 where
    -- the bytes and the status are those of the meaning, or the run is cut short
    pub headline : OverStoreAndInput words old in_old (λ _ bytes run. Meets o (run most bytes) (Rose (i.faults in_old) (i.faults in_new)) ended out_old out_new)
    -- whenever it is stopped, the files recover to what was saved
    pub stopped : OverStoreAndInput words old in_old (λ entry bytes run. Recovers g entry (run most bytes) ended.done old new)
    pub stored : OverStoreAndInput words old in_old (λ entry bytes run. HoldsLast g entry (run most bytes) ended new)
    -- where a stream failed, the events that are done are those of the bytes taken, or the sink failed in the next
    pub behind : OverStoreAndInput words old in_old (λ _ bytes run. EndsBehind g i o run most bytes in_old in_new out_old out_new ended)
    -- where no call failed, it ends as its meaning ends, or for want of memory
    pub complete : OverStoreAndInput words old in_old (λ _ bytes run.
        (Rose (i.faults in_old) (i.faults in_new) → ⊥) → IsQuiet g o old new out_old out_new → IsComplete (run most bytes) ended.status)
