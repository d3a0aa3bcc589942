use Rattle.std.proofs.Common.{◌*◌, ◌≤◌, ℕ, List, option_map, length, arith, sym, ◌∙◌, ap, subst}
use Rattle.std.specs.Prelude.{⊤}
use Rattle.uq_outside.specs.declared.fault.FileNo.TheVariants.{Main}
use Rattle.uq_outside.specs.Files.{Files, InFile, Cut}
use Rattle.uq_outside.specs.SinceLaws.{call_steps, sync_steps, steps_on, steps_weaker, told_back}
use Rattle.uq_page.specs.declared.layout.TheConstants.{PAGE_SIZE}
use Rattle.uq_journal.specs.Batches.{Original}
use Rattle.uq_journal.specs.Steps.{InPages}
use Rattle.uq_journal.specs.PutBack.{put_all, originals_of_journal, PutsBack}
use Rattle.uq_journal.proofs.Cutting.{puts_same, puts_on, puts_pages, puts_cut}
use Rattle.uq_journal.proofs.Phases.{same_told}
use Rattle.uq_journal.proofs.Recovery.{long_with}
use Rattle.uq_journal.proofs.Results.{on_ok_two}
use Rattle.uq_journal.proofs.restoring.restore_main.Goals as goal

pub returns-in_err-put_batches-clause-steps : goal.returns-in_err-put_batches-clause-steps
returns-in_err-put_batches-clause-steps g c files told =
    let len : ℕ = PAGE_SIZE * c.args.old_pages in
    let pages : List Original = originals_of_journal files in
    steps_weaker g.D.Disk (InPages pages) (PutsBack len pages) (puts_pages len pages) c.args.disk.now c.put_batches.new.disk (c.put_batches.ensures.steps files told)

pub cut-requires : goal.cut-requires
cut-requires g c = record {
  within = λ now is.
      let was = told_back (λ _ _. ⊤) (g.D.Disk.content c.args.disk.now) (g.D.Disk.content c.put_batches.new.disk) now c.in_ok-put_batches.ensures.alike is in
      let files = was.0 in
      let same = same_told (put_all files) now (g.D.Disk.content c.put_batches.new.disk) (c.in_ok-put_batches.ensures.put ∙ ap (option_map put_all) was.1) is in
      let long : PAGE_SIZE * c.args.old_pages ≤ length (put_all files).main = omega (arith, c.requires.long files was.1, long_with (originals_of_journal files) files.main) in
      subst (λ (f : Files). PAGE_SIZE * c.args.old_pages ≤ length f.main) same long;
}

pub returns-in_err-cut-clause-steps : goal.returns-in_err-cut-clause-steps
returns-in_err-cut-clause-steps g c files told =
    let len : ℕ = PAGE_SIZE * c.args.old_pages in
    let pages : List Original = originals_of_journal files in
    let step = PutsBack len pages in
    let put_run = steps_weaker g.D.Disk (InPages pages) step (puts_pages len pages) c.args.disk.now c.put_batches.new.disk (c.put_batches.ensures.steps files told) in
    let cut_run = call_steps g.D.Disk (InFile Main (Cut len)) step (puts_same len pages) (puts_cut len pages) g.met.D.Disk.only_now c.put_batches.new.disk c.cut.new.self c.cut.ensures.told c.cut.ensures.stop c.cut.ensures.time in
    steps_on g.D.Disk step (puts_on len pages) g.met.D.Disk.counts_now c.args.disk.now c.put_batches.new.disk c.cut.new.self put_run cut_run

pub returns-clause-settled : goal.returns-clause-settled
returns-clause-settled g c = on_ok_two c.sync.result (λ durable same files told. durable files (sym same ∙ told)) c.sync.ensures.durable c.sync.ensures.ok

pub returns-clause-steps : goal.returns-clause-steps
returns-clause-steps g c files told =
    let len : ℕ = PAGE_SIZE * c.args.old_pages in
    let pages : List Original = originals_of_journal files in
    let step = PutsBack len pages in
    let put_run = steps_weaker g.D.Disk (InPages pages) step (puts_pages len pages) c.args.disk.now c.put_batches.new.disk (c.put_batches.ensures.steps files told) in
    let cut_run = call_steps g.D.Disk (InFile Main (Cut len)) step (puts_same len pages) (puts_cut len pages) g.met.D.Disk.only_now c.put_batches.new.disk c.cut.new.self c.cut.ensures.told c.cut.ensures.stop c.cut.ensures.time in
    let sync_run = sync_steps g.D.Disk step (puts_same len pages) g.met.D.Disk.only_now c.cut.new.self c.sync.new.self c.sync.ensures.told c.sync.ensures.stop c.sync.ensures.time in
    let on = steps_on g.D.Disk step (puts_on len pages) g.met.D.Disk.counts_now in
    on c.args.disk.now c.cut.new.self c.sync.new.self (on c.args.disk.now c.put_batches.new.disk c.cut.new.self put_run cut_run) sync_run
