use Rattle.std.proofs.Common.{◌≡◌, ◌+◌, Some, drop, length, refl, arith, sym, ◌∙◌, ap, subst}
use Rattle.std.specs.Prelude.{⊤}
use Rattle.uq_outside.specs.Files.{Files}
use Rattle.uq_outside.specs.Stops.{ToldAlike}
use Rattle.uq_outside.specs.SinceLaws.{told_back, told_on, told_same}
use Rattle.uq_journal.specs.Batches.{Batch, originals_in}
use Rattle.uq_journal.specs.Opening.{Leads, Tells}
use Rattle.uq_journal.specs.Steps.{InPages}
use Rattle.uq_journal.specs.PutBack.{put_all, originals_of_journal, BeginWithin}
use Rattle.uq_journal.specs.declared.reading.Found.TheVariants.{Open}
use Rattle.uq_journal.proofs.Pages.{pages_same}
use Rattle.uq_journal.proofs.Phases.{same_told}
use Rattle.uq_journal.proofs.Putting.{put_start, put_still, put_steps, put_step, put_end, none_left, told_as, told_open, batch_begins, begin_wider, past_none}
use Rattle.uq_journal.proofs.Still.{still_here}
use Rattle.uq_journal.proofs.restoring.put_batches.Goals as goal

pub loop-at-init : goal.loop-at-init
loop-at-init g c = record {
  told = λ files told. put_start g.D.Disk c.args.disk.now files g.met.D.Disk.only_now told (c.requires.puttable files told) (still_here g.D.Disk (InPages (originals_of_journal files)) (pages_same (originals_of_journal files)) g.met.D.Disk.only_now c.args.disk.now);
  alike = told_same (λ _ _. ⊤) (λ x. tt) (g.D.Disk.content c.args.disk.now);
  quiet = refl;
}

pub read_gate-requires-clause-size : goal.read_gate-requires-clause-size
read_gate-requires-clause-size g c now is =
    let was = told_back (λ _ _. ⊤) (g.D.Disk.content c.args.disk.now) (g.D.Disk.content c.loop-at.disk) now c.loop-at.invariant.alike is in
    let so_far = c.loop-at.invariant.told was.0 was.1 in
    let same = same_told so_far.now now (g.D.Disk.content c.loop-at.disk) so_far.told is in
    c.requires.size was.0 was.1 ∙ ap length (sym so_far.journal ∙ ap (λ (f : Files). f.journal) same)

pub returns-in_err-head-clause-steps : goal.returns-in_err-head-clause-steps
returns-in_err-head-clause-steps g c files told =
    (put_still g.D.Disk c.args.disk.now files g.met.D.Disk.counts_now c.loop-at.disk c.read_gate.new.disk c.loop-at.at (c.loop-at.invariant.told files told) c.read_gate.ensures.still).steps

pub returns-in_default : goal.returns-in_default
returns-in_default g c =
    let alike : ToldAlike (g.D.Disk.content c.args.disk.now) (g.D.Disk.content c.read_gate.new.disk) = subst (ToldAlike (g.D.Disk.content c.args.disk.now)) (sym c.in_ok-head.ensures.still.same) c.loop-at.invariant.alike in
    let so_far = λ (files : Files) (told : g.D.Disk.content c.args.disk.now ≡ Some files). put_still g.D.Disk c.args.disk.now files g.met.D.Disk.counts_now c.loop-at.disk c.read_gate.new.disk c.loop-at.at (c.loop-at.invariant.told files told) c.in_ok-head.ensures.still in
    record {
      put = told_as put_all (g.D.Disk.content c.args.disk.now) (g.D.Disk.content c.read_gate.new.disk) alike (λ files told.
          let was = c.loop-at.invariant.told files told in
          let tells : Tells c.loop-at.at files.journal c.in_ok-head.field-0 = subst (λ j. Tells c.loop-at.at j c.in_ok-head.field-0) was.journal (c.in_ok-head.ensures.told was.now was.told) in
          put_end g.D.Disk c.args.disk.now files c.read_gate.new.disk c.loop-at.at (so_far files told) (none_left c.loop-at.at files.journal c.in_ok-head.field-0 c.in_default.not-Open tells));
      alike = alike;
      steps = λ files told. (so_far files told).steps;
      kind = tt;
      cause = record {
        later = omega (arith, c.in_ok-head.ensures.cause.quiet, c.loop-at.invariant.quiet);
        failed = tt;
        quiet = c.in_ok-head.ensures.cause.quiet ∙ c.loop-at.invariant.quiet;
      };
    }

pub put_batch-requires-clause-within : goal.put_batch-requires-clause-within
put_batch-requires-clause-within g c now is =
    let mid = sym c.in_ok-head.ensures.still.same ∙ is in
    let was = told_back (λ _ _. ⊤) (g.D.Disk.content c.args.disk.now) (g.D.Disk.content c.loop-at.disk) now c.loop-at.invariant.alike mid in
    let so_far = c.loop-at.invariant.told was.0 was.1 in
    let same = same_told so_far.now now (g.D.Disk.content c.loop-at.disk) so_far.told mid in
    let leads : Leads c.loop-at.at c.args.len (Open c.in-Open.head) = subst (Leads c.loop-at.at c.args.len) c.in-Open.is c.in_ok-head.ensures.leads in
    omega (arith, c.requires.size was.0 was.1, ap length (sym so_far.journal ∙ ap (λ (f : Files). f.journal) same), leads.0, leads.1)

pub put_batch-requires-clause-begin : goal.put_batch-requires-clause-begin
put_batch-requires-clause-begin g c now is =
    let mid = sym c.in_ok-head.ensures.still.same ∙ is in
    let was = told_back (λ _ _. ⊤) (g.D.Disk.content c.args.disk.now) (g.D.Disk.content c.loop-at.disk) now c.loop-at.invariant.alike mid in
    let files = was.0 in
    let head = c.in-Open.head in
    let so_far = c.loop-at.invariant.told files was.1 in
    let same = same_told so_far.now now (g.D.Disk.content c.loop-at.disk) so_far.told mid in
    let tells = told_open g.D.Disk c.args.disk.now files c.loop-at.disk c.loop-at.at c.in_ok-head.field-0 head so_far c.in_ok-head.ensures.told c.in-Open.is in
    let batch : Batch = record { old_pages = head.old_pages; originals = originals_in head.count (drop (c.loop-at.at + 9) files.journal) } in
    let begin = begin_wider (length files.main) (length so_far.now.main) batch.originals so_far.no_shorter (batch_begins (length files.main) c.loop-at.at head.next files.journal batch tells.1 so_far.puttable) in
    subst (λ f. BeginWithin (length f.main) (originals_in head.count (drop (c.loop-at.at + 9) f.journal))) same (subst (λ j. BeginWithin (length so_far.now.main) (originals_in head.count (drop (c.loop-at.at + 9) j))) (sym so_far.journal) begin)

pub returns-in_err-put_batch-clause-steps : goal.returns-in_err-put_batch-clause-steps
returns-in_err-put_batch-clause-steps g c files told =
    let head = c.in-Open.head in
    let was = c.loop-at.invariant.told files told in
    let tells = told_open g.D.Disk c.args.disk.now files c.loop-at.disk c.loop-at.at c.in_ok-head.field-0 head was c.in_ok-head.ensures.told c.in-Open.is in
    let so_far = put_still g.D.Disk c.args.disk.now files g.met.D.Disk.counts_now c.loop-at.disk c.read_gate.new.disk c.loop-at.at was c.in_ok-head.ensures.still in
    put_steps g.D.Disk c.args.disk.now files g.met.D.Disk.counts_now c.read_gate.new.disk c.put_batch.new.disk c.loop-at.at head.old_pages head.count head.next so_far tells.1 c.put_batch.ensures.steps

pub loop-at-preserved : goal.loop-at-preserved
loop-at-preserved g c = record {
  told = λ files told.
      let head = c.in-Open.head in
      let was = c.loop-at.invariant.told files told in
      let tells = told_open g.D.Disk c.args.disk.now files c.loop-at.disk c.loop-at.at c.in_ok-head.field-0 head was c.in_ok-head.ensures.told c.in-Open.is in
      let so_far = put_still g.D.Disk c.args.disk.now files g.met.D.Disk.counts_now c.loop-at.disk c.read_gate.new.disk c.loop-at.at was c.in_ok-head.ensures.still in
      put_step g.D.Disk c.args.disk.now files g.met.D.Disk.counts_now c.read_gate.new.disk c.put_batch.new.disk c.loop-at.at head.old_pages head.count head.next so_far tells.1 c.in_ok-put_batch.ensures.steps c.in_ok-put_batch.ensures.put;
  alike =
      let mid : ToldAlike (g.D.Disk.content c.args.disk.now) (g.D.Disk.content c.read_gate.new.disk) = subst (ToldAlike (g.D.Disk.content c.args.disk.now)) (sym c.in_ok-head.ensures.still.same) c.loop-at.invariant.alike in
      told_on (λ _ _. ⊤) (λ a b d one two. tt) (g.D.Disk.content c.args.disk.now) (g.D.Disk.content c.read_gate.new.disk) (g.D.Disk.content c.put_batch.new.disk) mid c.in_ok-put_batch.ensures.alike;
  quiet = c.in_ok-put_batch.ensures.cause.quiet ∙ c.in_ok-head.ensures.cause.quiet ∙ c.loop-at.invariant.quiet;
}

pub returns-clause-put : goal.returns-clause-put
returns-clause-put g c =
    told_as put_all (g.D.Disk.content c.args.disk.now) (g.D.Disk.content c.loop-at.disk) c.loop-at.invariant.alike (λ files told.
    put_end g.D.Disk c.args.disk.now files c.loop-at.disk c.loop-at.at (c.loop-at.invariant.told files told) (past_none c.loop-at.at files.journal (omega (arith, c.requires.size files told, c.loop-at-test.false))))

pub returns-clause-steps : goal.returns-clause-steps
returns-clause-steps g c files told = (c.loop-at.invariant.told files told).steps
