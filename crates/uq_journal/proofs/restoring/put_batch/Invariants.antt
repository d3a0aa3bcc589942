use Rattle.std.proofs.Common.{◌≡◌, drop}
use Rattle.std.specs.Option.{ForSome, option_map}
use Rattle.uq_outside.specs.Since.{Steps}
use Rattle.uq_outside.specs.Stops.{ToldAlike}
use Rattle.uq_journal.specs.Batches.{originals_in}
use Rattle.uq_journal.specs.Steps.{InPages}
use Rattle.uq_journal.specs.PutBack.{put_from}
use Rattle.uq_journal.proofs.restoring.put_batch.Given as goal

abbrev pub invariant-loop-i : goal.invariant-loop-i
invariant-loop-i g l = record {
  told : g.D.Disk.content l.disk ≡ option_map (put_from l.i l.from) (g.D.Disk.content l.fn.disk);
  alike : ToldAlike (g.D.Disk.content l.fn.disk) (g.D.Disk.content l.disk);
  steps : ForSome (g.D.Disk.content l.fn.disk) (λ files. Steps g.D.Disk (InPages (originals_in l.count (drop l.from files.journal))) l.fn.disk l.disk);
  quiet : g.D.Disk.faults l.disk ≡ g.D.Disk.faults l.fn.disk;
}
