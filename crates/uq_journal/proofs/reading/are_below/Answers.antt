use Rattle.std.proofs.Common.{◌+◌, ◌-◌, ◌*◌, ℕ, take, drop, arith, sym, ◌∙◌, ap}
use Rattle.uq_page.specs.declared.layout.TheConstants.{PAGE_SIZE}
use Rattle.uq_journal.specs.declared.format.TheConstants.{ORIGINAL_SIZE}
use Rattle.uq_journal.specs.Batches.{number, originals_in}
use Rattle.uq_journal.specs.Opening.{are_below}
use Rattle.uq_journal.proofs.BatchesAt.{first_original, below_on, below_ends}
use Rattle.uq_journal.proofs.Still.{still_on}
use Rattle.uq_journal.proofs.reading.are_below.Goals as goal

pub returns-then-branch-old_pages-clause-told : goal.returns-then-branch-old_pages-clause-told
returns-then-branch-old_pages-clause-told g c files told =
    let at : ℕ = c.args.from + ORIGINAL_SIZE * c.loop-i.i in
    let m : ℕ = c.args.count - (c.loop-i.i + 1) in
    let n_is = c.in_ok-read_number.ensures.told files (c.loop-i.invariant.still.same ∙ told) in
    sym (c.loop-i.invariant.so_far files told ∙ ap (are_below c.args.old_pages) (first_original (c.args.count - c.loop-i.i) m at (at + ORIGINAL_SIZE) files.journal (omega arith) (omega arith))
    ∙ below_ends c.args.old_pages (number (drop at files.journal)) (take PAGE_SIZE (drop (at + 4) files.journal)) (originals_in m (drop (at + ORIGINAL_SIZE) files.journal)) (omega (arith, n_is, c.if-branch-old_pages.true)))

pub loop-i-preserved : goal.loop-i-preserved
loop-i-preserved g c = record {
  still = still_on g.D.Disk g.met.D.Disk.counts_now c.args.disk.now c.loop-i.disk c.read_number.new.disk c.loop-i.invariant.still c.in_ok-read_number.ensures.still;
  so_far = λ files told.
      let at : ℕ = c.args.from + ORIGINAL_SIZE * c.loop-i.i in
      let next : ℕ = c.args.from + ORIGINAL_SIZE * (c.loop-i.i + 1) in
      let m : ℕ = c.args.count - (c.loop-i.i + 1) in
      let n_is = c.in_ok-read_number.ensures.told files (c.loop-i.invariant.still.same ∙ told) in
      c.loop-i.invariant.so_far files told ∙ ap (are_below c.args.old_pages) (first_original (c.args.count - c.loop-i.i) m at next files.journal (omega arith) (omega arith))
      ∙ below_on c.args.old_pages (number (drop at files.journal)) (take PAGE_SIZE (drop (at + 4) files.journal)) (originals_in m (drop next files.journal)) (omega (arith, n_is, c.if-branch-old_pages.false));
  quiet = c.in_ok-read_number.ensures.cause.quiet ∙ c.loop-i.invariant.quiet;
}
