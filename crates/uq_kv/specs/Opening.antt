-- What an opening finds on a disk.
use Rattle.std.specs.Prelude.{◌≡◌, ℕ, List, Some}
use Rattle.uq_outside.specs.declared.disk.Disk.{Ghosts}
use Rattle.uq_pager.specs.Paged.{pages_on}
use Rattle.uq_pager.specs.Ready.{RestsReady}
use Rattle.uq_kv.specs.declared.opening.Ready.{Ready}
use Rattle.uq_kv.specs.Database.{IsDatabase}
use Rattle.uq_kv.specs.Stored.{Stored}

-- the disk is as the opening left it
abbrev pub IsLeftBy : {D : Type 0} → Ghosts D → Ready → D → Type 0
IsLeftBy g ready disk = RestsReady g disk ready.pager

-- what was found on the disk is a database of this
pub record Finds {D : Type 0} (g : Ghosts D) (ready : Ready) (disk : D) (stored : Stored) : Type 0 where
  pub pages : List (List ℕ)
  pub told : pages_on g disk ≡ Some pages
  pub database : IsDatabase ready.header stored pages
