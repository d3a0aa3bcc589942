use Rattle.std.proofs.Common.{◌≡◌, ◌+◌, ◌≤◌, ℕ, [], ◌∷◌, ◌++◌, length, take, arith, subst, sym, ◌∙◌, ap}
use Rattle.uq_outside.specs.declared.fault.FileNo.TheVariants.{Journal}
use Rattle.std.specs.Int.{w32, to_be_bytes}
use Rattle.uq_outside.specs.Files.{InFile, Torn}
use Rattle.std.specs.Prelude.{⊤}
use Rattle.uq_outside.specs.SinceLaws.{call_steps, steps_on, told_back}
use Rattle.uq_journal.specs.Steps.{Behind, IsStaged, kept}
use Rattle.uq_journal.specs.declared.dirty.Dirty.{Dirty}
use Rattle.uq_journal.proofs.Behind.{behind_same, behind_on, behind_torn}
use Rattle.uq_journal.proofs.Pages.{front_more}
use Rattle.uq_journal.proofs.Staged.{staged_start, staged_step, front_kept}
use Rattle.uq_journal.proofs.staging.write_body.Goals as goal

pub returns-in_err-write_at-clause-steps : goal.returns-in_err-write_at-clause-steps
returns-in_err-write_at-clause-steps g c = call_steps g.D.Disk (InFile Journal (Torn 1 (length c.head.result))) (Behind 1) (behind_same 1) (behind_torn 1 1 (length c.head.result) (omega arith)) g.met.D.Disk.only_now c.args.disk.now c.write_at.new.self c.write_at.ensures.told c.write_at.ensures.stop c.write_at.ensures.time

pub loop-page-init : goal.loop-page-init
loop-page-init g c = record {
  steps = call_steps g.D.Disk (InFile Journal (Torn 1 (length c.head.result))) (Behind 1) (behind_same 1) (behind_torn 1 1 (length c.head.result) (omega arith)) g.met.D.Disk.only_now c.args.disk.now c.write_at.new.self c.write_at.ensures.told c.write_at.ensures.stop c.write_at.ensures.time;
  staged = staged_start g.D.Disk c.args.old_pages _ c.args.disk.now c.write_at.new.self c.head.result (c.head.ensures ∙ ap (λ (n : ℕ). to_be_bytes w32 c.args.old_pages ++ to_be_bytes w32 n) c.count_kept-count.ensures) c.requires.rest c.in_ok-write_at.ensures.ok;
  quiet = c.in_ok-write_at.ensures.cause.quiet;
}

pub add_original-requires-clause-low : goal.add_original-requires-clause-low
add_original-requires-clause-low g c = omega (arith, c.loop-page.invariant.staged.size, front_kept c.args.old_pages c.loop-page.page-index c.args.dirty.now, c.requires.few)

pub add_original-requires-clause-within : goal.add_original-requires-clause-within
add_original-requires-clause-within g c now told =
    let was = told_back (λ _ _. ⊤) (g.D.Disk.content c.args.disk.now) (g.D.Disk.content c.loop-page.disk) now c.loop-page.invariant.steps.told told in
    let there = c.loop-page.invariant.staged.told was.0 was.1 in
    let same : there.0 ≡ now = cc (there.1, told) in
    subst (λ f. c.loop-page.at ≤ length f.journal) same there.3

pub returns-in_err-at-clause-steps : goal.returns-in_err-at-clause-steps
returns-in_err-at-clause-steps g c = steps_on g.D.Disk (Behind 1) (behind_on 1) g.met.D.Disk.counts_now c.args.disk.now c.loop-page.disk c.add_original.new.disk c.loop-page.invariant.steps c.add_original.ensures.steps

pub loop-page-preserved : goal.loop-page-preserved
loop-page-preserved g c =
    let page : Dirty = c.page-item.result in
    let count : ℕ = length (kept c.args.old_pages c.args.dirty.now) in
    let so_far = take c.loop-page.page-index c.args.dirty.now in
    let more : take (c.loop-page.page-index + 1) c.args.dirty.now ≡ so_far ++ page ∷ [] = front_more c.args.dirty.now c.loop-page.page-index page c.page-item.is (omega arith) in
    record {
      steps = steps_on g.D.Disk (Behind 1) (behind_on 1) g.met.D.Disk.counts_now c.args.disk.now c.loop-page.disk c.add_original.new.disk c.loop-page.invariant.steps c.add_original.ensures.steps;
      staged =
          subst (λ xs. IsStaged g.D.Disk c.args.old_pages count xs c.args.disk.now c.add_original.new.disk c.in_ok-at.at) (sym more)
          (staged_step g.D.Disk c.args.old_pages count c.args.disk.now so_far page c.loop-page.disk c.add_original.new.disk c.loop-page.at c.in_ok-at.at c.requires.whole c.loop-page.invariant.staged c.in_ok-at.ensures.added c.in_ok-at.ensures.next);
      quiet = c.in_ok-at.ensures.cause.quiet ∙ c.loop-page.invariant.quiet;
    }
