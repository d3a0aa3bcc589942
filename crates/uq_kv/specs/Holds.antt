-- When files, and a disk, hold what is stored.
use Rattle.std.specs.Prelude.{◌≡◌, ◌⊎◌, ℕ, List, Some}
use Rattle.std.specs.Option.{ForSome}
use Rattle.uq_outside.specs.declared.disk.Disk.{Ghosts}
use Rattle.uq_outside.specs.Files.{Files}
use Rattle.uq_outside.specs.Since.{IsSettled}
use Rattle.uq_outside.specs.Stops.{Only}
use Rattle.uq_page.specs.declared.header.Header.{Header}
use Rattle.uq_journal.specs.Calls.{recovered_pages}
use Rattle.uq_kv.specs.Database.{HaveShape, IsDatabase}
use Rattle.uq_kv.specs.Stored.{Stored}

-- the files recover to a database of this
pub record RecoversTo (stored : Stored) (files : Files) : Type 0 where
  pub pages : List (List ℕ)
  pub recovers : recovered_pages files ≡ Some pages
  pub header : Header
  pub database : IsDatabase header stored pages

-- of the one or of the other
abbrev pub RecoversToEither : Stored → Stored → Files → Type 0
RecoversToEither old new files = RecoversTo old files ⊎ RecoversTo new files

-- The disk tells its content, nothing is pending, and the files recover to a database of this.
pub record Holds {D : Type 0} (g : Ghosts D) (disk : D) (stored : Stored) : Type 0 where
  pub files : Files
  pub told : g.content disk ≡ Some files
  pub settled : IsSettled g disk files
  pub recovers : RecoversTo stored files

-- The disk tells no content, or its files recover to no database, whatever is pending.
abbrev pub HoldsNone : {D : Type 0} → Ghosts D → D → Type 0
HoldsNone g disk = ForSome (g.content disk) (λ files. (stored : Stored) → RecoversTo stored files → ⊥)

-- a stop now leaves a database of this alone
abbrev pub LeavesNow : {D : Type 0} → Ghosts D → D → Stored → Type 0
LeavesNow g disk stored = Only (RecoversTo stored) (g.may_leave disk)

-- the files recover to an empty main file, or to whole pages whose first is a header that names their number
pub record HasShape (files : Files) : Type 0 where
  pub pages : List (List ℕ)
  pub recovers : recovered_pages files ≡ Some pages
  pub shape : HaveShape pages
