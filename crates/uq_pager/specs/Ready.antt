-- A disk that was just recovered, as the opening left it.
use Rattle.uq_outside.specs.declared.disk.Disk.{Ghosts}
use Rattle.uq_pager.specs.declared.opening.Ready.{Ready}
use Rattle.uq_pager.specs.Opening.{RestsAt}

-- it is at rest, with the pages that the opening found
abbrev pub RestsReady : {D : Type 0} → Ghosts D → D → Ready → Type 0
RestsReady g disk ready = RestsAt g disk ready.saved
