use Rattle.std.proofs.Common.{◌≡◌, take, length}
use Rattle.uq_outside.specs.Since.{Steps}
use Rattle.uq_journal.specs.Steps.{Behind, IsStaged, kept}
use Rattle.uq_journal.proofs.staging.write_body.Given as goal

abbrev pub invariant-loop-page : goal.invariant-loop-page
invariant-loop-page g l = record {
  steps : Steps g.D.Disk (Behind 1) l.fn.disk l.disk;
  staged : IsStaged g.D.Disk l.old_pages (length (kept l.old_pages l.dirty)) (take l.page-index l.dirty) l.fn.disk l.disk l.at;
  quiet : g.D.Disk.faults l.disk ≡ g.D.Disk.faults l.fn.disk;
}
