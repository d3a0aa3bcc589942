use Rattle.std.proofs.Common.{◌≡◌, take, drop, length}
use Rattle.std.specs.Option.{ForSome, option_map}
use Rattle.uq_outside.specs.declared.fault.FileNo.TheVariants.{Main}
use Rattle.uq_outside.specs.Files.{in_file}
use Rattle.uq_outside.specs.Since.{Steps}
use Rattle.uq_journal.specs.Recovered.{with_pages, changes}
use Rattle.uq_journal.specs.Steps.{InPages, Fits}
use Rattle.uq_journal.proofs.writing.write_pages.Given as goal

abbrev pub invariant-loop-it : goal.invariant-loop-it
invariant-loop-it g l = record {
  steps : Steps g.D.Disk (InPages (changes l.dirty)) l.fn.disk l.disk;
  told : g.D.Disk.content l.disk ≡ option_map (in_file Main (with_pages (changes (take l.it-index l.dirty)))) (g.D.Disk.content l.fn.disk);
  fits : ForSome (g.D.Disk.content l.disk) (λ files. Fits (length files.main) (changes (drop l.it-index l.dirty)));
  quiet : g.D.Disk.faults l.disk ≡ g.D.Disk.faults l.fn.disk;
}
