use Rattle.std.proofs.Common.{◌≡◌, ◌-◌}
use Rattle.std.specs.Option.{ForSome}
use Rattle.uq_journal.specs.Opening.{is_whole, batches_at}
use Rattle.uq_journal.specs.Calls.{IsStill}
use Rattle.uq_journal.proofs.reading.is_whole.Given as goal

abbrev pub invariant-loop-at : goal.invariant-loop-at
invariant-loop-at g l = record {
  still : IsStill g.D.Disk l.fn.disk l.disk;
  so_far : ForSome (g.D.Disk.content l.fn.disk) (λ files. is_whole l.old_pages (batches_at 0 files.journal) ≡ is_whole l.old_pages (batches_at l.at files.journal));
  quiet : g.D.Disk.faults l.disk ≡ g.D.Disk.faults l.fn.disk;
}

abbrev pub decreases-loop-at : goal.decreases-loop-at
decreases-loop-at g l = l.len - l.at
