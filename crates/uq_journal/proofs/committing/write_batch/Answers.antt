use Rattle.std.proofs.Common.{◌≡◌, ◌*◌, ◌<◌, ◌^◌, ℕ, List, length, arith, inl, inr, sym, ◌∙◌, ap, subst, length-take}
use Rattle.uq_outside.specs.Files.{Files}
use Rattle.uq_outside.specs.SinceLaws.{goes_on, told_back}
use Rattle.uq_page.specs.declared.layout.TheConstants.{PAGE_SIZE}
use Rattle.uq_journal.specs.declared.format.TheConstants.{OPEN}
use Rattle.uq_journal.specs.Steps.{RecoversToCommit, Fits, kept}
use Rattle.uq_journal.specs.Recovered.{with_pages, changes}
use Rattle.uq_journal.proofs.Staged.{few_kept}
use Rattle.uq_journal.proofs.Pages.{fits_ascending}
use Rattle.std.specs.Prelude.{⊤}
use Rattle.uq_journal.proofs.Results.{on_ok_two}
use Rattle.uq_journal.proofs.Phases.{same_told, restorable_itself, stage_stop, stage_done, gate_stop, gate_done, pages_stop, pages_done, new_restorable, originals, at_rest}
use Rattle.uq_journal.proofs.committing.write_batch.Goals as goal

pub stage_batch-requires-clause-rest : goal.stage_batch-requires-clause-rest
stage_batch-requires-clause-rest g c files told = let rest = c.requires.rest files told in omega (arith, ap length rest.closed, length-take 1 files.journal)

pub returns-in_err-stage_batch-clause-stop : goal.returns-in_err-stage_batch-clause-stop
returns-in_err-stage_batch-clause-stop g c files told =
    let P : Files → Type 0 = RecoversToCommit files.main c.args.dirty.now in
    let rest = c.requires.rest files told in
    let size : length files.main ≡ PAGE_SIZE * c.args.old_pages = c.requires.pages files told in
    let low : c.args.old_pages < 2 ^ 32 = omega arith in
    let few : length (kept c.args.old_pages c.args.dirty.now) < 2 ^ 32 = omega (arith, low, few_kept 0 c.args.old_pages c.args.old_pages c.args.dirty.now c.requires.ascending) in
    let stop1 = stage_stop g.D.Disk g.met.D.Disk.counts_now c.args.old_pages c.args.dirty.now files size low few c.args.disk.now c.stage_batch.new.disk told rest.settled rest.closed c.stage_batch.ensures.steps in
    stop1

pub returns-in_err-set_gate-clause-stop : goal.returns-in_err-set_gate-clause-stop
returns-in_err-set_gate-clause-stop g c files told =
    let P : Files → Type 0 = RecoversToCommit files.main c.args.dirty.now in
    let rest = c.requires.rest files told in
    let size : length files.main ≡ PAGE_SIZE * c.args.old_pages = c.requires.pages files told in
    let low : c.args.old_pages < 2 ^ 32 = omega arith in
    let few : length (kept c.args.old_pages c.args.dirty.now) < 2 ^ 32 = omega (arith, low, few_kept 0 c.args.old_pages c.args.old_pages c.args.dirty.now c.requires.ascending) in
    let stop1 = stage_stop g.D.Disk g.met.D.Disk.counts_now c.args.old_pages c.args.dirty.now files size low few c.args.disk.now c.stage_batch.new.disk told rest.settled rest.closed c.stage_batch.ensures.steps in
    let old = originals g.D.Disk g.met.D.Disk.counts_now c.args.old_pages c.args.dirty.now files size low few in
    let after1 = stage_done g.D.Disk g.met.D.Disk.counts_now c.args.old_pages c.args.dirty.now files size low few c.args.disk.now c.stage_batch.new.disk told rest.settled rest.closed c.stage_batch.ensures.steps c.in_ok-stage_batch.ensures.staged in
    let stop2 = goes_on g.D.Disk P c.args.disk.now c.stage_batch.new.disk c.set_gate.new.disk stop1 (gate_stop g.D.Disk g.met.D.Disk.counts_now c.args.old_pages c.args.dirty.now files size low few 0 files.main c.stage_batch.new.disk c.set_gate.new.disk after1 (restorable_itself files.main old) (λ left same. inl same) c.set_gate.ensures.steps) in
    stop2

pub write_pages-requires : goal.write_pages-requires
write_pages-requires g c = record {
  fits = λ now is.
      let one = told_back (λ _ _. ⊤) (g.D.Disk.content c.stage_batch.new.disk) (g.D.Disk.content c.set_gate.new.disk) now c.set_gate.ensures.steps.told is in
      let two = told_back (λ _ _. ⊤) (g.D.Disk.content c.args.disk.now) (g.D.Disk.content c.stage_batch.new.disk) one.0 c.stage_batch.ensures.steps.told one.1 in
      let files = two.0 in
      let told = two.1 in
      let rest = c.requires.rest files told in
      let whole : length files.main ≡ PAGE_SIZE * c.args.old_pages = c.requires.pages files told in
      let low : c.args.old_pages < 2 ^ 32 = omega arith in
      let few : length (kept c.args.old_pages c.args.dirty.now) < 2 ^ 32 = omega (arith, low, few_kept 0 c.args.old_pages c.args.old_pages c.args.dirty.now c.requires.ascending) in
      let after1 = stage_done g.D.Disk g.met.D.Disk.counts_now c.args.old_pages c.args.dirty.now files whole low few c.args.disk.now c.stage_batch.new.disk told rest.settled rest.closed c.stage_batch.ensures.steps c.in_ok-stage_batch.ensures.staged in
      let after2 = gate_done g.D.Disk g.met.D.Disk.counts_now c.args.old_pages c.args.dirty.now files whole low few 0 OPEN files.main c.stage_batch.new.disk c.set_gate.new.disk after1 c.set_gate.ensures.steps c.in_ok-set_gate.ensures.set c.in_ok-set_gate.ensures.settled in
      let same = same_told after2.now now (g.D.Disk.content c.set_gate.new.disk) after2.told is in
      let size : length now.main ≡ PAGE_SIZE * c.args.old_pages = ap length (ap (λ (f : Files). f.main) (sym same) ∙ after2.main_is) ∙ whole in
      subst (λ (n : ℕ). Fits n (changes c.args.dirty.now)) (sym size) (fits_ascending 0 c.args.old_pages c.args.dirty.now c.requires.ascending);
}

pub returns-in_err-write_pages-clause-stop : goal.returns-in_err-write_pages-clause-stop
returns-in_err-write_pages-clause-stop g c files told =
    let P : Files → Type 0 = RecoversToCommit files.main c.args.dirty.now in
    let rest = c.requires.rest files told in
    let size : length files.main ≡ PAGE_SIZE * c.args.old_pages = c.requires.pages files told in
    let low : c.args.old_pages < 2 ^ 32 = omega arith in
    let few : length (kept c.args.old_pages c.args.dirty.now) < 2 ^ 32 = omega (arith, low, few_kept 0 c.args.old_pages c.args.old_pages c.args.dirty.now c.requires.ascending) in
    let stop1 = stage_stop g.D.Disk g.met.D.Disk.counts_now c.args.old_pages c.args.dirty.now files size low few c.args.disk.now c.stage_batch.new.disk told rest.settled rest.closed c.stage_batch.ensures.steps in
    let old = originals g.D.Disk g.met.D.Disk.counts_now c.args.old_pages c.args.dirty.now files size low few in
    let after1 = stage_done g.D.Disk g.met.D.Disk.counts_now c.args.old_pages c.args.dirty.now files size low few c.args.disk.now c.stage_batch.new.disk told rest.settled rest.closed c.stage_batch.ensures.steps c.in_ok-stage_batch.ensures.staged in
    let stop2 = goes_on g.D.Disk P c.args.disk.now c.stage_batch.new.disk c.set_gate.new.disk stop1 (gate_stop g.D.Disk g.met.D.Disk.counts_now c.args.old_pages c.args.dirty.now files size low few 0 files.main c.stage_batch.new.disk c.set_gate.new.disk after1 (restorable_itself files.main old) (λ left same. inl same) c.set_gate.ensures.steps) in
    let after2 = gate_done g.D.Disk g.met.D.Disk.counts_now c.args.old_pages c.args.dirty.now files size low few 0 OPEN files.main c.stage_batch.new.disk c.set_gate.new.disk after1 c.set_gate.ensures.steps c.in_ok-set_gate.ensures.set c.in_ok-set_gate.ensures.settled in
    let stop3 = goes_on g.D.Disk P c.args.disk.now c.set_gate.new.disk c.write_pages.new.disk stop2 (pages_stop g.D.Disk g.met.D.Disk.counts_now c.args.old_pages c.args.dirty.now files size low few c.set_gate.new.disk c.write_pages.new.disk after2 c.write_pages.ensures.steps) in
    stop3

pub returns-clause-stop : goal.returns-clause-stop
returns-clause-stop g c files told =
    let P : Files → Type 0 = RecoversToCommit files.main c.args.dirty.now in
    let rest = c.requires.rest files told in
    let size : length files.main ≡ PAGE_SIZE * c.args.old_pages = c.requires.pages files told in
    let low : c.args.old_pages < 2 ^ 32 = omega arith in
    let few : length (kept c.args.old_pages c.args.dirty.now) < 2 ^ 32 = omega (arith, low, few_kept 0 c.args.old_pages c.args.old_pages c.args.dirty.now c.requires.ascending) in
    let stop1 = stage_stop g.D.Disk g.met.D.Disk.counts_now c.args.old_pages c.args.dirty.now files size low few c.args.disk.now c.stage_batch.new.disk told rest.settled rest.closed c.stage_batch.ensures.steps in
    let old = originals g.D.Disk g.met.D.Disk.counts_now c.args.old_pages c.args.dirty.now files size low few in
    let after1 = stage_done g.D.Disk g.met.D.Disk.counts_now c.args.old_pages c.args.dirty.now files size low few c.args.disk.now c.stage_batch.new.disk told rest.settled rest.closed c.stage_batch.ensures.steps c.in_ok-stage_batch.ensures.staged in
    let stop2 = goes_on g.D.Disk P c.args.disk.now c.stage_batch.new.disk c.set_gate.new.disk stop1 (gate_stop g.D.Disk g.met.D.Disk.counts_now c.args.old_pages c.args.dirty.now files size low few 0 files.main c.stage_batch.new.disk c.set_gate.new.disk after1 (restorable_itself files.main old) (λ left same. inl same) c.set_gate.ensures.steps) in
    let after2 = gate_done g.D.Disk g.met.D.Disk.counts_now c.args.old_pages c.args.dirty.now files size low few 0 OPEN files.main c.stage_batch.new.disk c.set_gate.new.disk after1 c.set_gate.ensures.steps c.in_ok-set_gate.ensures.set c.in_ok-set_gate.ensures.settled in
    let stop3 = goes_on g.D.Disk P c.args.disk.now c.set_gate.new.disk c.write_pages.new.disk stop2 (pages_stop g.D.Disk g.met.D.Disk.counts_now c.args.old_pages c.args.dirty.now files size low few c.set_gate.new.disk c.write_pages.new.disk after2 c.write_pages.ensures.steps) in
    let after3 = pages_done g.D.Disk g.met.D.Disk.counts_now c.args.old_pages c.args.dirty.now files size low few c.set_gate.new.disk c.write_pages.new.disk after2 c.write_pages.ensures.steps c.in_ok-write_pages.ensures.written c.in_ok-write_pages.ensures.settled in
    let main : List ℕ = with_pages (changes c.args.dirty.now) files.main in
    let ok = new_restorable g.D.Disk g.met.D.Disk.counts_now c.args.old_pages c.args.dirty.now files size low few g.met.D.Disk.told_may_stay c.set_gate.new.disk c.write_pages.new.disk after2 after3 c.write_pages.ensures.steps in
    let stop4 = goes_on g.D.Disk P c.args.disk.now c.write_pages.new.disk c.set_gate-2.new.disk stop3 (gate_stop g.D.Disk g.met.D.Disk.counts_now c.args.old_pages c.args.dirty.now files size low few OPEN main c.write_pages.new.disk c.set_gate-2.new.disk after3 ok (λ left same. inr same) c.set_gate-2.ensures.steps) in
    stop4

pub returns-clause-rest_again : goal.returns-clause-rest_again
returns-clause-rest_again g c =
    on_ok_two c.set_gate-2.result (λ set only now is.
    let three = told_back (λ _ _. ⊤) (g.D.Disk.content c.write_pages.new.disk) (g.D.Disk.content c.set_gate-2.new.disk) now c.set_gate-2.ensures.steps.told is in
    let two = told_back (λ _ _. ⊤) (g.D.Disk.content c.set_gate.new.disk) (g.D.Disk.content c.write_pages.new.disk) three.0 c.write_pages.ensures.steps.told three.1 in
    let one = told_back (λ _ _. ⊤) (g.D.Disk.content c.stage_batch.new.disk) (g.D.Disk.content c.set_gate.new.disk) two.0 c.set_gate.ensures.steps.told two.1 in
    let start = told_back (λ _ _. ⊤) (g.D.Disk.content c.args.disk.now) (g.D.Disk.content c.stage_batch.new.disk) one.0 c.stage_batch.ensures.steps.told one.1 in
    let files = start.0 in
    let told = start.1 in
    let P : Files → Type 0 = RecoversToCommit files.main c.args.dirty.now in
    let rest = c.requires.rest files told in
    let size : length files.main ≡ PAGE_SIZE * c.args.old_pages = c.requires.pages files told in
    let low : c.args.old_pages < 2 ^ 32 = omega arith in
    let few : length (kept c.args.old_pages c.args.dirty.now) < 2 ^ 32 = omega (arith, low, few_kept 0 c.args.old_pages c.args.old_pages c.args.dirty.now c.requires.ascending) in
    let old = originals g.D.Disk g.met.D.Disk.counts_now c.args.old_pages c.args.dirty.now files size low few in
    let after1 = stage_done g.D.Disk g.met.D.Disk.counts_now c.args.old_pages c.args.dirty.now files size low few c.args.disk.now c.stage_batch.new.disk told rest.settled rest.closed c.stage_batch.ensures.steps c.in_ok-stage_batch.ensures.staged in
    let after2 = gate_done g.D.Disk g.met.D.Disk.counts_now c.args.old_pages c.args.dirty.now files size low few 0 OPEN files.main c.stage_batch.new.disk c.set_gate.new.disk after1 c.set_gate.ensures.steps c.in_ok-set_gate.ensures.set c.in_ok-set_gate.ensures.settled in
    let after3 = pages_done g.D.Disk g.met.D.Disk.counts_now c.args.old_pages c.args.dirty.now files size low few c.set_gate.new.disk c.write_pages.new.disk after2 c.write_pages.ensures.steps c.in_ok-write_pages.ensures.written c.in_ok-write_pages.ensures.settled in
    let main : List ℕ = with_pages (changes c.args.dirty.now) files.main in
    let after4 = gate_done g.D.Disk g.met.D.Disk.counts_now c.args.old_pages c.args.dirty.now files size low few OPEN 0 main c.write_pages.new.disk c.set_gate-2.new.disk after3 c.set_gate-2.ensures.steps set only in
    at_rest g.D.Disk c.args.old_pages old main c.set_gate-2.new.disk now after4 is) c.set_gate-2.ensures.set c.set_gate-2.ensures.settled

pub stage_batch-requires-clause-few : goal.stage_batch-requires-clause-few
stage_batch-requires-clause-few g c = omega (arith, few_kept 0 c.args.old_pages c.args.old_pages c.args.dirty.now c.requires.ascending)
