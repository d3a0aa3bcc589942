use Rattle.std.proofs.Common.{◌≡◌, ◌+◌, ◌*◌, ◌≤◌, ℕ, List, Some, drop, length, arith, ◌∙◌, ap, subst, option_map}
use Rattle.std.specs.Prelude.{⊤}
use Rattle.uq_outside.specs.Files.{Files}
use Rattle.uq_outside.specs.SinceLaws.{steps_on, steps_weaker, told_back, told_on}
use Rattle.uq_page.specs.declared.layout.TheConstants.{PAGE_SIZE}
use Rattle.uq_journal.specs.declared.format.TheConstants.{ORIGINAL_SIZE}
use Rattle.uq_journal.specs.Batches.{Original, number, originals_in}
use Rattle.uq_journal.specs.Steps.{InPages}
use Rattle.uq_journal.specs.PutBack.{put_from}
use Rattle.uq_journal.proofs.Pages.{pages_on}
use Rattle.uq_journal.proofs.Phases.{same_told}
use Rattle.uq_journal.proofs.Putting.{pages_wider, turn_covers, turn_begins, told_put_more}
use Rattle.uq_journal.proofs.Recovery.{long_with}
use Rattle.uq_journal.proofs.restoring.put_batch.Goals as goal

pub put_original-requires-clause-begins : goal.put_original-requires-clause-begins
put_original-requires-clause-begins g c now is =
    let was = told_back (λ _ _. ⊤) (g.D.Disk.content c.args.disk.now) (g.D.Disk.content c.loop-i.disk) now c.loop-i.invariant.alike is in
    let files = was.0 in
    let from : ℕ = c.args.from in
    let i : ℕ = c.loop-i.i in
    let so_far : Files = put_from i from files in
    let same : so_far ≡ now = same_told so_far now (g.D.Disk.content c.loop-i.disk) (c.loop-i.invariant.told ∙ ap (option_map (put_from i from)) was.1) is in
    let fits : PAGE_SIZE * number (drop (from + ORIGINAL_SIZE * i) files.journal) ≤ length so_far.main = omega (arith, turn_begins i c.args.count from files.journal (omega arith) (length files.main) (c.requires.begin files was.1), long_with (originals_in i (drop from files.journal)) files.main) in
    subst (λ (f : Files). PAGE_SIZE * number (drop (from + ORIGINAL_SIZE * i) f.journal) ≤ length f.main) same fits

pub returns-in_err-put_original-clause-steps : goal.returns-in_err-put_original-clause-steps
returns-in_err-put_original-clause-steps g c files told =
    let from : ℕ = c.args.from in
    let i : ℕ = c.loop-i.i in
    let pages : List Original = originals_in c.args.count (drop from files.journal) in
    let first : List Original = originals_in 1 (drop (from + ORIGINAL_SIZE * i) files.journal) in
    let mid : g.D.Disk.content c.loop-i.disk ≡ Some (put_from i from files) = c.loop-i.invariant.told ∙ ap (option_map (put_from i from)) told in
    let one = steps_weaker g.D.Disk (InPages first) (InPages pages) (pages_wider first pages (turn_covers i c.args.count from files.journal (omega arith))) c.loop-i.disk c.put_original.new.disk (c.put_original.ensures.steps (put_from i from files) mid) in
    steps_on g.D.Disk (InPages pages) (pages_on pages) g.met.D.Disk.counts_now c.args.disk.now c.loop-i.disk c.put_original.new.disk (c.loop-i.invariant.steps files told) one

pub loop-i-preserved : goal.loop-i-preserved
loop-i-preserved g c =
    let from : ℕ = c.args.from in
    let i : ℕ = c.loop-i.i in
    record {
      told = told_put_more i from (g.D.Disk.content c.args.disk.now) (g.D.Disk.content c.loop-i.disk) (g.D.Disk.content c.put_original.new.disk) c.loop-i.invariant.told c.in_ok-put_original.ensures.put;
      alike = told_on (λ _ _. ⊤) (λ a b d one two. tt) (g.D.Disk.content c.args.disk.now) (g.D.Disk.content c.loop-i.disk) (g.D.Disk.content c.put_original.new.disk) c.loop-i.invariant.alike c.in_ok-put_original.ensures.alike;
      steps = λ files told.
          let pages : List Original = originals_in c.args.count (drop from files.journal) in
          let first : List Original = originals_in 1 (drop (from + ORIGINAL_SIZE * i) files.journal) in
          let mid : g.D.Disk.content c.loop-i.disk ≡ Some (put_from i from files) = c.loop-i.invariant.told ∙ ap (option_map (put_from i from)) told in
          let one = steps_weaker g.D.Disk (InPages first) (InPages pages) (pages_wider first pages (turn_covers i c.args.count from files.journal (omega arith))) c.loop-i.disk c.put_original.new.disk (c.in_ok-put_original.ensures.steps (put_from i from files) mid) in
          steps_on g.D.Disk (InPages pages) (pages_on pages) g.met.D.Disk.counts_now c.args.disk.now c.loop-i.disk c.put_original.new.disk (c.loop-i.invariant.steps files told) one;
      quiet = c.in_ok-put_original.ensures.cause.quiet ∙ c.loop-i.invariant.quiet;
    }
