-- What a pager tells.
use Rattle.std.specs.Prelude.{◌≡◌, ◌⊎◌, ℕ, Bool, true, false, List, Option, Some, None}
use Rattle.std.specs.Option.{option_and_then}
use Rattle.uq_outside.specs.Files.{Files}
use Rattle.uq_outside.specs.Stops.{Only}
use Rattle.uq_outside.specs.declared.disk.Disk.{Ghosts}
use Rattle.uq_journal.specs.Batches.{Original}
use Rattle.uq_journal.specs.Calls.{recovered_pages}
use Rattle.uq_journal.specs.Pages.{pages_of, with_batch}

-- the committed pages, those of the transaction, and whether one is begun
pub record Paged : Type 0 where
  pub committed : List (List ℕ)
  pub present : List (List ℕ)
  pub begun : Bool

-- a transaction is begun
abbrev pub begun : Paged → Paged
begun it = record it { begun = true }

-- the present pages are committed, and none is begun
abbrev pub committed : Paged → Paged
committed it = record { committed = it.present; present = it.present; begun = false }

-- the committed pages are there again, and none is begun
abbrev pub rolled_back : Paged → Paged
rolled_back it = record { committed = it.committed; present = it.committed; begun = false }

-- the pages of the main file, where the disk tells it and it is a whole number of them
abbrev pub pages_on : {D : Type 0} → Ghosts D → D → Option (List (List ℕ))
pages_on g disk = option_and_then (λ files. pages_of files.main) (g.content disk)

-- it is told while this holds
abbrev pub told_while : {X : Type 0} → Bool → Option X → Option X
told_while true told = told
told_while false told = None

-- this batch over the pages of the disk
abbrev pub paged_by : List Original → Bool → List (List ℕ) → Paged
paged_by batch begun pages = record { committed = pages; present = with_batch batch pages; begun = begun }

-- the files recover to these pages
abbrev pub RecoversToPages : List (List ℕ) → Files → Type 0
RecoversToPages pages files = recovered_pages files ≡ Some pages

-- to the one list of pages or to the other
abbrev pub RecoversToOne : List (List ℕ) → List (List ℕ) → Files → Type 0
RecoversToOne old new files = RecoversToPages old files ⊎ RecoversToPages new files

-- a stop now leaves these pages: they are the committed ones
abbrev pub Commits : {D : Type 0} → Ghosts D → D → List (List ℕ) → Type 0
Commits g disk pages = Only (RecoversToPages pages) (g.may_leave disk)
