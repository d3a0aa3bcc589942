-- What an opening finds on a disk.
use Rattle.std.specs.Prelude.{◌≡◌, ℕ, ◌<◌, ◌^◌, false, List, length, Some}
use Rattle.std.specs.Option.{ForSome, option_map}
use Rattle.uq_outside.specs.declared.disk.Disk.{Ghosts}
use Rattle.uq_outside.specs.Files.{Files}
use Rattle.uq_journal.specs.Calls.{IsAtRest, recovered_pages}
use Rattle.uq_journal.specs.Pages.{pages_of}
use Rattle.uq_pager.specs.Paged.{Paged}

-- the main file has so many pages, and the disk is at rest
pub record IsReady {D : Type 0} (g : Ghosts D) (disk : D) (count : ℕ) (files : Files) : Type 0 where
  pub rest : IsAtRest g disk files
  pub pages : option_map length (pages_of files.main) ≡ Some count

-- where the disk tells its content
abbrev pub RestsAt : {D : Type 0} → Ghosts D → D → ℕ → Type 0
RestsAt g disk count = ForSome (g.content disk) (IsReady g disk count)

-- the files recover to so many pages
abbrev pub RecoversToCount : ℕ → Files → Type 0
RecoversToCount count files = option_map length (recovered_pages files) ≡ Some count

-- the files recover to no whole number of pages below 2^32
abbrev pub IsNoDatabase : Files → Type 0
IsNoDatabase files = (count : ℕ) → count < 2 ^ 32 → RecoversToCount count files → ⊥

-- these pages are committed, and no transaction is begun
abbrev pub just_opened : List (List ℕ) → Paged
just_opened pages = record { committed = pages; present = pages; begun = false }
