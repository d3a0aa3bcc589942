use Rattle.std.proofs.Common.{sym, subst}
use Rattle.std.specs.Option.{ForSome}
use Rattle.uq_outside.specs.Since.{IsSettled}
use Rattle.uq_kv.specs.Holds.{LeavesNow}
use Rattle.uq_kv.proofs.Stops.{saved_now}
use Rattle.uq_kv.proofs.kv.Kv.into_disk.Goals as goal

pub returns-clause-saved : goal.returns-clause-saved
returns-clause-saved g c = λ s tells. subst (λ d. LeavesNow g.D.Disk d s.saved) (sym c.into_disk.ensures.disk) (saved_now g.D.Disk c.args.self s tells)

pub returns-clause-rest : goal.returns-clause-rest
returns-clause-rest g c = λ unclosed.
    subst (λ d. ForSome (g.D.Disk.content d) (IsSettled g.D.Disk d)) (sym c.into_disk.ensures.disk) (λ files told. (c.args.self.pager.rest (c.args.self.sound unclosed) files told).settled)
