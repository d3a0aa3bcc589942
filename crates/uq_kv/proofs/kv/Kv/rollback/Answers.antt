use Rattle.std.proofs.Common.{refl, ap, sym, subst, ◌∙◌}
use Rattle.std.specs.Borrow.{MutBor}
use Rattle.std.specs.Option.{option_map}
use Rattle.uq_outside.specs.Since.{LeavesOnly}
use Rattle.uq_pager.specs.Paged.{rolled_back}
use Rattle.uq_kv.specs.Holds.{RecoversTo}
use Rattle.uq_kv.specs.Kv.{Tells, disk_of}
use Rattle.uq_kv.proofs.Sessions.{rolled_back_is}
use Rattle.uq_kv.proofs.Stops.{saved_here}
use Rattle.uq_kv.proofs.kv.Kv.rollback.Goals as goal

pub returns-clause-does : goal.returns-clause-does
returns-clause-does g c = λ s tells answered. (
  refl,
  subst (Tells g.D.Disk _) (sym (rolled_back_is s tells.idle)) (record {
    unclosed = tells.unclosed;
    pages = rolled_back tells.pages;
    told = c.rollback.ensures.told ∙ ap (option_map rolled_back) tells.told;
    saved = tells.saved;
    present = tells.saved;
    begun = sym c.rollback.ensures.begun;
    idle = λ _. refl;
  }),
)

pub returns-clause-stop : goal.returns-clause-stop
returns-clause-stop g c = λ s tells.
    subst (λ (d : MutBor _). LeavesOnly g.D.Disk (disk_of g.D.Disk c.args.self.now).now d.now (RecoversTo s.saved)) (sym c.rollback.ensures.disk)
    (saved_here g.D.Disk c.args.self.now s tells (record { only_now = g.met.D.Disk.only_now; counts_now = g.met.D.Disk.counts_now }))
