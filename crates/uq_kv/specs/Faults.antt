-- What a fault of the pager is to an opening.
use Rattle.uq_pager.specs.declared.error.PagerFault.{PagerFault}
use Rattle.uq_pager.specs.declared.error.PagerFault.TheVariants as pager
use Rattle.uq_kv.specs.declared.error.OpenFault.{OpenFault}
use Rattle.uq_kv.specs.declared.error.OpenFault.TheVariants.{Disk, NotDatabase, Memory}

abbrev pub open_fault : PagerFault → OpenFault
open_fault pager.Disk = Disk
open_fault pager.NotDatabase = NotDatabase
open_fault pager.Memory = Memory
