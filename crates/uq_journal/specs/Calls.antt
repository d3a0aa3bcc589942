-- What the calls of a journal promise of the disk.
use Rattle.std.specs.Prelude.{◌≡◌, ◌⊎◌, ℕ, ◌<◌, Bool, true, false, List, [], ◌∷◌, length, take, slice_index, Option, Some, None, Result, IfErr}
use Rattle.std.specs.Option.{ForSome, option_and_then}
use Rattle.uq_outside.specs.declared.disk.Disk.{Ghosts}
use Rattle.uq_outside.specs.declared.fault.DiskCall.{DiskCall}
use Rattle.uq_outside.specs.declared.fault.DiskCall.TheVariants.{Attach, Length, Read, Write, Cut, Sync}
use Rattle.uq_outside.specs.declared.fault.DiskFault.{DiskFault}
use Rattle.uq_outside.specs.declared.fault.FileNo.TheVariants.{Main}
use Rattle.uq_outside.specs.Files.{Files, Keeps}
use Rattle.uq_outside.specs.Since.{IsSettled, LeavesOnly, Steps}
use Rattle.uq_journal.specs.declared.format.TheConstants.{CLOSED, OPEN}
use Rattle.uq_journal.specs.Batches.{Original}
use Rattle.uq_journal.specs.Pages.{pages_of, with_batch}
use Rattle.uq_journal.specs.Recovered.{recovered}

-- nothing changes
abbrev pub Stays : Files → Files → Type 0
Stays old new = new ≡ old

-- a run of calls that changes nothing, neither what is told nor what a stop may leave
pub record IsStill {D : Type 0} (g : Ghosts D) (old new : D) : Type 0 where
  pub same : g.content new ≡ g.content old
  pub steps : Steps g Stays old new

-- No batch is open: the first gate is closed, the files recover to this main file, and nothing is pending.
pub record IsAtRest {D : Type 0} (g : Ghosts D) (disk : D) (files : Files) : Type 0 where
  pub closed : take 1 files.journal ≡ CLOSED ∷ []
  pub recovers : recovered files ≡ Some files.main
  pub settled : IsSettled g disk files

-- the disk is at rest, where it tells its content
abbrev pub Rests : {D : Type 0} → Ghosts D → D → Type 0
Rests g disk = ForSome (g.content disk) (IsAtRest g disk)

-- the main file is what the files recovered to
abbrev pub HoldsRecovered : {D : Type 0} → Ghosts D → D → D → Type 0
HoldsRecovered g old new = ForSome (g.content old) (λ start. ForSome (g.content new) (λ files. recovered start ≡ Some files.main))

-- the files recover to nothing
abbrev pub RecoversToNothing : {D : Type 0} → Ghosts D → D → Type 0
RecoversToNothing g disk = ForSome (g.content disk) (λ files. recovered files ≡ None)

-- recovers to what the others recover to, be it nothing
abbrev pub RecoversAs : Files → Files → Type 0
RecoversAs start files = recovered files ≡ recovered start

-- where nothing is pending, a stop within the run leaves files that recover to what they recovered to before
abbrev pub KeepsRecovered : {D : Type 0} → Ghosts D → D → D → Type 0
KeepsRecovered g old new = ForSome (g.content old) (λ start. IsSettled g old start → LeavesOnly g old new (RecoversAs start))

-- no batch counts: the first gate is not open, or nothing stands behind it
abbrev pub IsClosed : List ℕ → Type 0
IsClosed journal = 1 < length journal → slice_index journal 0 ≡ OPEN → ⊥

-- Where no batch counts, nothing is written to the main file: each that a stop leaves is one that it might have left
-- before. A write leaves others too, also one of the bytes that are there.
abbrev pub KeepsMainWhereClosed : {D : Type 0} → Ghosts D → D → D → Type 0
KeepsMainWhereClosed g old new = ForSome (g.content old) (λ start. IsClosed start.journal → Steps g (Keeps Main) old new)

-- Where the journal is one closed gate, neither file is changed.
abbrev pub KeepsFilesAtGate : {D : Type 0} → Ghosts D → D → D → Type 0
KeepsFilesAtGate g old new = ForSome (g.content old) (λ start. start.journal ≡ CLOSED ∷ [] → Steps g Stays old new)

-- the calls of the disk that a commit makes
abbrev pub is_commit_call : DiskCall → Bool
is_commit_call Attach = false
is_commit_call Length = false
is_commit_call Read = true
is_commit_call Write = true
is_commit_call Cut = false
is_commit_call Sync = true

-- the calls of the disk that an opening makes
abbrev pub is_open_call : DiskCall → Bool
is_open_call Attach = false
is_open_call Length = true
is_open_call Read = true
is_open_call Write = true
is_open_call Cut = true
is_open_call Sync = true

-- a fault names one of these calls
abbrev pub Names : {T : Type 0} → (DiskCall → Bool) → Result T DiskFault → Type 0
Names calls result = IfErr result (λ fault. calls fault.call ≡ true)

-- the main file has so many whole pages
abbrev pub HasPages : ℕ → Files → Type 0
HasPages count files = (pages : List (List ℕ)) × (pages_of files.main ≡ Some pages) × (length pages ≡ count)

-- the pages that the files recover to
abbrev pub recovered_pages : Files → Option (List (List ℕ))
recovered_pages files = option_and_then pages_of (recovered files)

-- the main file has the pages that it had, with these in their places
abbrev pub PagesWritten : List Original → Files → Files → Type 0
PagesWritten batch old new = (pages : List (List ℕ)) → pages_of old.main ≡ Some pages → pages_of new.main ≡ Some (with_batch batch pages)

-- so has that of a disk that tells its content
abbrev pub WritesPages : {D : Type 0} → Ghosts D → List Original → D → D → Type 0
WritesPages g batch old new = ForSome (g.content old) (λ before. ForSome (g.content new) (PagesWritten batch before))

-- recovers to these pages, or to these with the batch in place
abbrev pub RecoversToEither : List Original → List (List ℕ) → Files → Type 0
RecoversToEither batch pages files = (recovered_pages files ≡ Some pages) ⊎ (recovered_pages files ≡ Some (with_batch batch pages))

-- a stop within the run leaves files that recover to the old pages or to the new ones
abbrev pub LeavesOldPagesOrNew : {D : Type 0} → Ghosts D → List Original → D → D → Type 0
LeavesOldPagesOrNew g batch old new =
    ForSome (g.content old) (λ files. (pages : List (List ℕ)) → pages_of files.main ≡ Some pages
    → LeavesOnly g old new (RecoversToEither batch pages))
