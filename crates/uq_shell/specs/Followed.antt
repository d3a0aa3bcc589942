-- What the first n events of a run and an ending leave: what was written, and what a stop leaves of the files.
use Rattle.std.specs.Prelude.{◌≡◌, ◌⊎◌, ℕ, ◌+◌, List, [], ◌∷◌, ◌++◌, take, slice_get, Option, Some}
use Rattle.uq_outside.specs.Files.{Files}
use Rattle.uq_kv.specs.Holds.{RecoversTo}
use Rattle.uq_kv.specs.Stored.{Stored}
use Rattle.uq_shell.specs.Events.{Event, Out, Commit, IsSavedIn, last_commit, output}
use Rattle.uq_shell.specs.Line.{last_byte, line_after}
use Rattle.uq_shell.specs.Statuses.{row}
use Rattle.uq_shell.specs.declared.status.Status.{Status}
use Rattle.uq_shell.specs.declared.status.Status.TheVariants.{Stream}

-- a text as a line behind this byte, where there is a text
abbrev pub some_line : Option ℕ → List ℕ → List ℕ
some_line last [] = []
some_line last (byte ∷ bytes) = line_after last (byte ∷ bytes)

-- the line of a status behind what was written
abbrev pub ending_line : List ℕ → Status → List ℕ
ending_line written status = some_line (last_byte written) (row status).text

-- the sink failed in the event under way
pub record IsCutWithin (events : List Event) (n : ℕ) (status : Status) (bytes : List ℕ) : Type 0 where
  pub stream : status ≡ Stream
  pub event : List ℕ
  pub under_way : slice_get events n ≡ Some (Out event)
  pub count : ℕ
  pub prefix : bytes ≡ output n events ++ take count event

-- The sink failed in the ending line. That of `Stream` is the source's, and stands only where that failed.
pub record IsCutBehind (events : List Event) (n : ℕ) (status : Status) (source_rose : Type 0) (bytes : List ℕ) : Type 0 where
  pub count : ℕ
  pub prefix : bytes ≡ output n events ++ take count (ending_line (output n events) status)
  pub source : status ≡ Stream → source_rose

-- What was written is what the first n events and the status write, or, where the sink failed, a prefix of it.
pub record FollowedBytes (events : List Event) (n : ℕ) (status : Status) (source_rose sink_rose : Type 0) (bytes : List ℕ) : Type 0 where
  pub whole : (sink_rose → ⊥) → bytes ≡ output n events ++ ending_line (output n events) status
  pub cut : sink_rose → IsCutWithin events n status bytes ⊎ IsCutBehind events n status source_rose bytes

-- what the last commit among the first n events left, or event n where that is a commit
pub data IsAcknowledged (entry : Stored) (events : List Event) (n : ℕ) (stored : Stored) : Type 0 where
  Last : stored ≡ last_commit entry (take n events) → IsAcknowledged entry events n stored
  UnderWay : slice_get events n ≡ Some (Commit stored) → IsAcknowledged entry events n stored

-- The files recover to a database of that.
pub record FollowedFiles (entry : Stored) (events : List Event) (n : ℕ) (files : Files) : Type 0 where
  pub stored : Stored
  pub acknowledged : IsAcknowledged entry events n stored
  pub recovers : RecoversTo stored files

-- The files recover to a database of what was there at entry, or of what a commit among these events left.
pub record RecoversIn (entry : Stored) (events : List Event) (files : Files) : Type 0 where
  pub stored : Stored
  pub saved : IsSavedIn entry events stored
  pub recovers : RecoversTo stored files

-- the same of the first n events and event n
abbrev pub FollowedBefore : Stored → List Event → ℕ → Files → Type 0
FollowedBefore entry events n = RecoversIn entry (take (n + 1) events)
