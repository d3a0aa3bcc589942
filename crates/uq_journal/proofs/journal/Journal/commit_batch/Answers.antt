use Rattle.std.proofs.Common.{◌≡◌, ◌*◌, ℕ, List, Some, ⊎_elim, inl, inr, ◌∙◌, ap}
use Rattle.std.specs.Option.{option_and_then}
use Rattle.std.proofs.lemmas.Result.{on_ok_weaker}
use Rattle.uq_outside.specs.SinceLaws.{weaker}
use Rattle.uq_page.specs.declared.layout.TheConstants.{PAGE_SIZE}
use Rattle.uq_journal.specs.Batches.{Original}
use Rattle.uq_journal.specs.Calls.{RecoversToEither}
use Rattle.uq_journal.specs.Pages.{pages_of}
use Rattle.uq_journal.specs.PagesLaws.{pages_with, these_pages}
use Rattle.uq_journal.specs.Recovered.{changes, recovered, with_pages}
use Rattle.uq_journal.specs.Steps.{RecoversToCommit}
use Rattle.uq_journal.proofs.Pages.{sized}
use Rattle.uq_journal.proofs.journal.Journal.commit_batch.Goals as goal

pub write_batch-requires-clause-pages : goal.write_batch-requires-clause-pages
write_batch-requires-clause-pages g c files told =
    let has = c.requires.pages files told in
    (these_pages files.main has.0 has.1).size ∙ ap (λ (n : ℕ). PAGE_SIZE * n) has.2

pub returns-clause-written : goal.returns-clause-written
returns-clause-written g c =
    on_ok_weaker c.write_batch.result (λ written before told now is pages are.
    ap pages_of (written before told now is) ∙ pages_with (changes c.args.dirty.now) before.main pages (sized c.args.dirty.now) are) c.write_batch.ensures.written

pub returns-clause-stop : goal.returns-clause-stop
returns-clause-stop g c files told pages are =
    let batch : List Original = changes c.args.dirty.now in
    let new = pages_with batch files.main pages (sized c.args.dirty.now) are in
    weaker g.D.Disk (RecoversToCommit files.main c.args.dirty.now) (RecoversToEither batch pages) c.args.disk.now c.write_batch.new.disk (λ left one.
    ⊎_elim (λ (old : recovered left ≡ Some files.main). inl (ap (option_and_then pages_of) old ∙ are))
    (λ (now : recovered left ≡ Some (with_pages batch files.main)). inr (ap (option_and_then pages_of) now ∙ new)) one) (c.write_batch.ensures.stop files told)
