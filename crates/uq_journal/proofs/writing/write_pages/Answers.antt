use Rattle.std.proofs.Common.{◌≡◌, ◌+◌, ◌*◌, ◌<◌, ℕ, List, length, take, drop, arith, subst, sym, ◌∙◌, ap, option_map}
use Rattle.std.specs.Option.{ForSome}
use Rattle.std.proofs.lemmas.List.{take_all}
use Rattle.std.proofs.lemmas.Result.{on_ok_weaker}
use Rattle.uq_outside.specs.declared.fault.FileNo.TheVariants.{Main}
use Rattle.uq_outside.specs.Files.{InFile, Torn, in_file}
use Rattle.uq_facts.specs.Written.{written}
use Rattle.uq_outside.specs.SinceLaws.{call_steps, steps_on}
use Rattle.uq_page.specs.Page.{bytes_of}
use Rattle.uq_page.specs.declared.layout.TheConstants.{PAGE_SIZE}
use Rattle.uq_journal.specs.Recovered.{with_pages, changes}
use Rattle.uq_journal.specs.Steps.{InPages, Fits}
use Rattle.uq_journal.specs.declared.dirty.Dirty.{Dirty}
use Rattle.uq_journal.proofs.Results.{on_ok_two}
use Rattle.uq_journal.proofs.Pages.{pages_same, pages_on, pages_torn, covers_at, front_more, rest_more, told_more, fits_more}
use Rattle.uq_journal.proofs.writing.write_pages.Goals as goal

pub returns-in_err-write_at-clause-steps : goal.returns-in_err-write_at-clause-steps
returns-in_err-write_at-clause-steps g c =
    let pages = changes c.args.dirty.now in
    let d : Dirty = c.it-item.result in
    let at : ℕ = PAGE_SIZE * d.no in
    let size : length c.bytes.result.now ≡ PAGE_SIZE = ap length c.bytes.ensures.bytes ∙ c.bytes.ensures.length in
    let one = call_steps g.D.Disk (InFile Main (Torn at (length c.bytes.result.now))) (InPages pages) (pages_same pages) (pages_torn pages at (length c.bytes.result.now) size (covers_at c.args.dirty.now c.loop-it.it-index d c.it-item.is (omega arith))) g.met.D.Disk.only_now c.loop-it.disk c.write_at.new.self
    c.write_at.ensures.told c.write_at.ensures.stop c.write_at.ensures.time in
    steps_on g.D.Disk (InPages pages) (pages_on pages) g.met.D.Disk.counts_now c.args.disk.now c.loop-it.disk c.write_at.new.self c.loop-it.invariant.steps one

pub loop-it-preserved : goal.loop-it-preserved
loop-it-preserved g c =
    let pages = changes c.args.dirty.now in
    let d : Dirty = c.it-item.result in
    let at : ℕ = PAGE_SIZE * d.no in
    let lt : c.loop-it.it-index < length c.args.dirty.now = omega arith in
    let size : length c.bytes.result.now ≡ PAGE_SIZE = ap length c.bytes.ensures.bytes ∙ c.bytes.ensures.length in
    let one = call_steps g.D.Disk (InFile Main (Torn at (length c.bytes.result.now))) (InPages pages) (pages_same pages) (pages_torn pages at (length c.bytes.result.now) size (covers_at c.args.dirty.now c.loop-it.it-index d c.it-item.is lt)) g.met.D.Disk.only_now c.loop-it.disk c.write_at.new.self
    c.write_at.ensures.told c.write_at.ensures.stop c.write_at.ensures.time in
    let ok : g.D.Disk.content c.write_at.new.self ≡ option_map (in_file Main (written at (bytes_of d.page))) (g.D.Disk.content c.loop-it.disk) =
    c.in_ok-write_at.ensures.ok ∙ ap (λ (bytes : List ℕ). option_map (in_file Main (written at bytes)) (g.D.Disk.content c.loop-it.disk)) c.bytes.ensures.bytes in
    record {
      steps = steps_on g.D.Disk (InPages pages) (pages_on pages) g.met.D.Disk.counts_now c.args.disk.now c.loop-it.disk c.write_at.new.self c.loop-it.invariant.steps one;
      told =
          told_more (take c.loop-it.it-index c.args.dirty.now) d (g.D.Disk.content c.args.disk.now) (g.D.Disk.content c.loop-it.disk) (g.D.Disk.content c.write_at.new.self) c.loop-it.invariant.told ok
          ∙ ap (λ (xs : List Dirty). option_map (in_file Main (with_pages (changes xs))) (g.D.Disk.content c.args.disk.now)) (sym (front_more c.args.dirty.now c.loop-it.it-index d c.it-item.is lt));
      fits =
          fits_more d (drop (c.loop-it.it-index + 1) c.args.dirty.now) (g.D.Disk.content c.loop-it.disk) (g.D.Disk.content c.write_at.new.self) c.bytes.ensures.length
          (subst (λ (xs : List Dirty). ForSome (g.D.Disk.content c.loop-it.disk) (λ files. Fits (length files.main) (changes xs))) (rest_more c.args.dirty.now c.loop-it.it-index d c.it-item.is lt) c.loop-it.invariant.fits) ok;
      quiet = c.in_ok-write_at.ensures.cause.quiet ∙ c.loop-it.invariant.quiet;
    }

pub returns-clause-written : goal.returns-clause-written
returns-clause-written g c =
    let all : take c.loop-it.it-index c.args.dirty.now ≡ c.args.dirty.now = take_all c.loop-it.it-index c.args.dirty.now (omega arith) in
    let told = c.loop-it.invariant.told ∙ ap (λ (xs : List Dirty). option_map (in_file Main (with_pages (changes xs))) (g.D.Disk.content c.args.disk.now)) all in
    on_ok_weaker c.sync.result (λ same. same ∙ told) c.sync.ensures.ok

pub returns-clause-settled : goal.returns-clause-settled
returns-clause-settled g c = on_ok_two c.sync.result (λ durable same files told. durable files (sym same ∙ told)) c.sync.ensures.durable c.sync.ensures.ok
