-- What the steps of opening leave.
use Rattle.std.specs.Prelude.{◌≡◌, ℕ, ◌*◌, ◌<◌, ◌≤◌, Bool, true, false, List, [], ◌∷◌, length, take, Option, Some, None, Result, IfOk}
use Rattle.std.specs.Option.{ForSome, option_map}
use Rattle.uq_outside.specs.declared.disk.Disk.{Ghosts}
use Rattle.uq_outside.specs.Files.{Files}
use Rattle.uq_outside.specs.Since.{IsSettled, LeavesOnly}
use Rattle.uq_page.specs.declared.layout.TheConstants.{PAGE_SIZE}
use Rattle.uq_journal.specs.declared.format.TheConstants.{OPEN}
use Rattle.uq_journal.specs.Batches.{Original, Batch}
use Rattle.uq_journal.specs.Calls.{IsAtRest, IsStill}
use Rattle.uq_journal.specs.Opening.{batches_at, is_whole}
use Rattle.uq_journal.specs.Recovered.{recovered}
use Rattle.uq_journal.specs.declared.opening.State.{State}
use Rattle.uq_journal.specs.declared.opening.State.TheVariants.{Shut, Open, Broken}

-- the first gate is closed, or nothing stands behind it
abbrev pub IsShut : List ℕ → Type 0
IsShut journal = (gate : ℕ) × (rest : List ℕ) × (journal ≡ gate ∷ rest) × (gate ≡ OPEN → rest ≡ [])

-- whole batches stand behind an open gate, and the main file has all the pages that were there
pub record IsOpen (old_pages : ℕ) (files : Files) : Type 0 where
  pub more : 1 < length files.journal
  pub gate : take 1 files.journal ≡ OPEN ∷ []
  pub first : (originals : List Original) × (later : Option (List Batch)) × (batches_at 0 files.journal ≡ option_map (λ l. record { old_pages = old_pages; originals = originals } ∷ l) later)
  pub whole : is_whole old_pages (batches_at 0 files.journal) ≡ true
  pub long : PAGE_SIZE * old_pages ≤ length files.main

-- the main file is what these files recovered to, no batch counts, and nothing is pending
pub record IsRecovered {D : Type 0} (g : Ghosts D) (start : Files) (disk : D) : Type 0 where
  pub now : Files
  pub told : g.content disk ≡ Some now
  pub main : recovered start ≡ Some now.main
  pub shut : IsShut now.journal
  pub settled : IsSettled g disk now

-- at false they recovered to nothing
abbrev pub Restores : {D : Type 0} → Ghosts D → Files → D → Bool → Type 0
Restores g start disk true = IsRecovered g start disk
Restores g start disk false = recovered start ≡ None

-- the main file stays, and the journal keeps its gate and grows no longer
pub record Shortens (old new : Files) : Type 0 where
  pub main : new.main ≡ old.main
  pub gate : 1 ≤ length old.journal → take 1 new.journal ≡ take 1 old.journal
  pub no_longer : length new.journal ≤ length old.journal

-- what a stop left of the batches
abbrev pub Shows : Files → State → Type 0
Shows files Shut = IsShut files.journal
Shows files (Open old_pages) = IsOpen old_pages files
Shows files Broken = recovered files ≡ None

-- the main file is what these files recovered to, and the journal is at rest
pub record IsOpened {D : Type 0} (g : Ghosts D) (start : Files) (disk : D) : Type 0 where
  pub now : Files
  pub told : g.content disk ≡ Some now
  pub main : recovered start ≡ Some now.main
  pub rest : IsAtRest g disk now

-- at false they recovered to nothing
abbrev pub Opens : {D : Type 0} → Ghosts D → Files → D → Bool → Type 0
Opens g start disk true = IsOpened g start disk
Opens g start disk false = recovered start ≡ None

-- the main file stays, and the journal is at rest
abbrev pub Empties : {D : Type 0} → Ghosts D → D → D → Type 0
Empties g old new =
    ForSome (g.content old) (λ before. (now : Files) × (g.content new ≡ Some now) × (now.main ≡ before.main) × IsAtRest g new now)

-- a stop within the run leaves files that recover to this main file
abbrev pub LeavesMain : {D : Type 0} → Ghosts D → D → D → Type 0
LeavesMain g old new = ForSome (g.content old) (λ before. LeavesOnly g old new (λ left. recovered left ≡ Some before.main))

-- at false nothing was changed
abbrev pub RefusesStill : {D E : Type 0} → Ghosts D → D → D → Result Bool E → Type 0
RefusesStill g old new result = IfOk result (λ whole. whole ≡ false → IsStill g old new)
