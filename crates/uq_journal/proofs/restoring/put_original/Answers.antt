use Rattle.std.proofs.Common.{◌≡◌, ◌+◌, ◌*◌, ◌<◌, ◌≤◌, ℕ, List, take, drop, length, inl, refl, arith, sym, ◌∙◌, ap, subst, option_map, length-take, length-drop}
use Rattle.std.proofs.lemmas.Result.{on_ok_weaker}
use Rattle.uq_outside.specs.declared.fault.FileNo.TheVariants.{Main}
use Rattle.uq_outside.specs.Files.{Files, InFile, Torn, in_file}
use Rattle.uq_facts.specs.Written.{written}
use Rattle.uq_outside.specs.SinceLaws.{call_steps, still_steps, steps_on, told_alike}
use Rattle.uq_page.specs.declared.layout.TheConstants.{PAGE_SIZE}
use Rattle.uq_journal.specs.declared.format.TheConstants.{ORIGINAL_SIZE}
use Rattle.uq_journal.specs.Batches.{Original, originals_in}
use Rattle.uq_journal.specs.Steps.{InPages, Covers}
use Rattle.uq_journal.specs.PutBack.{put_from}
use Rattle.uq_journal.proofs.Pages.{pages_same, pages_on, pages_torn}
use Rattle.uq_journal.proofs.BatchesAt.{drop_on}
use Rattle.uq_journal.proofs.Still.{still_run}
use Rattle.uq_journal.proofs.restoring.put_original.Goals as goal

pub returns-clause-put : goal.returns-clause-put
returns-clause-put g c =
    let old = g.D.Disk.content c.args.disk.now in
    let at : ℕ = c.args.at in
    let put = λ (files : Files). in_file Main (written (PAGE_SIZE * c.in_ok-no.no) c.read.new.into) files in
    let still : g.D.Disk.content c.read.new.self ≡ old = c.in_ok-read.ensures.same ∙ c.in_ok-no.ensures.still.same in
    let same : option_map put old ≡ option_map (put_from 1 at) old = told_alike old put (put_from 1 at) (λ files is.
    let no_is = c.in_ok-no.ensures.told files is in
    let page_is : c.read.new.into ≡ take PAGE_SIZE (drop 4 (drop at files.journal)) = c.in_ok-read.ensures.told files (c.in_ok-no.ensures.still.same ∙ is) ∙ ap (λ (l : List ℕ). take PAGE_SIZE l) (sym (drop_on 4 at (at + 4) files.journal refl)) in
    λ i. in_file Main (written (PAGE_SIZE * no_is i) (page_is i)) files) in
    on_ok_weaker c.write_at.result (λ ok. ok ∙ ap (option_map put) still ∙ same) c.write_at.ensures.ok

pub returns-clause-steps : goal.returns-clause-steps
returns-clause-steps g c files told =
    let at : ℕ = c.args.at in
    let pages : List Original = originals_in 1 (drop at files.journal) in
    let step = InPages pages in
    let no_is = c.in_ok-no.ensures.told files told in
    let page_is = c.in_ok-read.ensures.told files (c.in_ok-no.ensures.still.same ∙ told) in
    let there : at + ORIGINAL_SIZE ≤ length files.journal = c.requires.within files told in
    let size : length c.read.new.into ≡ PAGE_SIZE = omega (arith, ap length page_is, length-take PAGE_SIZE (drop (at + 4) files.journal), length-drop (at + 4) files.journal, there) in
    let covers : (i : ℕ) → (PAGE_SIZE * c.in_ok-no.no ≤ i) × (i < PAGE_SIZE * c.in_ok-no.no + PAGE_SIZE) → Covers pages i = λ i within. inl (subst (λ n. (PAGE_SIZE * n ≤ i) × (i < PAGE_SIZE * n + PAGE_SIZE)) no_is within) in
    let number_run = still_run g.D.Disk step (pages_same pages) c.args.disk.now c.read_number.new.disk c.in_ok-no.ensures.still in
    let read_run = still_steps g.D.Disk step (pages_same pages) g.met.D.Disk.only_now c.read_number.new.disk c.read.new.self c.in_ok-read.ensures.same c.in_ok-read.ensures.stop c.in_ok-read.ensures.time in
    let write_run = call_steps g.D.Disk (InFile Main (Torn (PAGE_SIZE * c.in_ok-no.no) (length c.read.new.into))) step (pages_same pages) (pages_torn pages (PAGE_SIZE * c.in_ok-no.no) (length c.read.new.into) size covers) g.met.D.Disk.only_now c.read.new.self c.write_at.new.self c.write_at.ensures.told c.write_at.ensures.stop c.write_at.ensures.time in
    let on = steps_on g.D.Disk step (pages_on pages) g.met.D.Disk.counts_now in
    on c.args.disk.now c.read.new.self c.write_at.new.self (on c.args.disk.now c.read_number.new.disk c.read.new.self number_run read_run) write_run
