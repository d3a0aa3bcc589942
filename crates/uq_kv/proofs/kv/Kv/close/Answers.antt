use Rattle.std.proofs.Common.{sym, subst}
use Rattle.uq_outside.specs.Since.{LeavesOnly}
use Rattle.uq_kv.specs.Holds.{RecoversToEither}
use Rattle.uq_kv.specs.Kv.{disk_of}
use Rattle.uq_kv.proofs.kv.Kv.close.Goals as goal

pub returns-clause-stop : goal.returns-clause-stop
returns-clause-stop g c = λ s tells.
    subst (λ d. LeavesOnly g.D.Disk (disk_of g.D.Disk c.args.self).now d (RecoversToEither s.saved s.present)) (sym c.into_disk.ensures.disk) (c.commit-answer.ensures.stop s tells)
