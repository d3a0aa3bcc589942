use Rattle.std.proofs.Common.{◌≡◌, ◌+◌, ◌-◌, ◌*◌, drop}
use Rattle.std.specs.Option.{ForSome}
use Rattle.uq_journal.specs.declared.format.TheConstants.{ORIGINAL_SIZE}
use Rattle.uq_journal.specs.Batches.{originals_in}
use Rattle.uq_journal.specs.Opening.{are_below}
use Rattle.uq_journal.specs.Calls.{IsStill}
use Rattle.uq_journal.proofs.reading.are_below.Given as goal

abbrev pub invariant-loop-i : goal.invariant-loop-i
invariant-loop-i g l = record {
  still : IsStill g.D.Disk l.fn.disk l.disk;
  so_far : ForSome (g.D.Disk.content l.fn.disk) (λ files. are_below l.old_pages (originals_in l.count (drop l.from files.journal)) ≡ are_below l.old_pages (originals_in (l.count - l.i) (drop (l.from + ORIGINAL_SIZE * l.i) files.journal)));
  quiet : g.D.Disk.faults l.disk ≡ g.D.Disk.faults l.fn.disk;
}
