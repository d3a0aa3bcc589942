-- What the calls of a pager keep of the disk behind it.
use Rattle.std.specs.Prelude.{◌≡◌}
use Rattle.std.specs.Borrow.{MutBor}
use Rattle.uq_outside.specs.declared.disk.Disk.{Ghosts}
use Rattle.uq_outside.specs.Since.{LeavesOnly, After}
use Rattle.uq_journal.specs.Calls.{RecoversAs}

-- It is the same disk still, and a stop in between leaves files that recover to what a stop before could leave.
pub record KeepsDisk {D : Type 0} (g : Ghosts D) (old new : MutBor D) : Type 0 where
  pub same_reference : new.ghost_name ≡ old.ghost_name
  pub stop : LeavesOnly g old.now new.now (After g old.now RecoversAs)
