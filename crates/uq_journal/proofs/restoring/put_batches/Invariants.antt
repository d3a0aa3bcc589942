use Rattle.std.proofs.Common.{◌≡◌, ◌-◌}
use Rattle.std.specs.Option.{ForSome}
use Rattle.uq_outside.specs.Stops.{ToldAlike}
use Rattle.uq_journal.specs.PutBack.{IsPutBack}
use Rattle.uq_journal.proofs.restoring.put_batches.Given as goal

abbrev pub invariant-loop-at : goal.invariant-loop-at
invariant-loop-at g l = record {
  told : ForSome (g.D.Disk.content l.fn.disk) (λ files. IsPutBack g.D.Disk l.fn.disk files l.disk l.at);
  alike : ToldAlike (g.D.Disk.content l.fn.disk) (g.D.Disk.content l.disk);
  quiet : g.D.Disk.faults l.disk ≡ g.D.Disk.faults l.fn.disk;
}

abbrev pub decreases-loop-at : goal.decreases-loop-at
decreases-loop-at g l = l.len - l.at
