use Rattle.std.proofs.Common.{◌∙◌, ◌+◌, drop, sym, subst, arith}
use Rattle.uq_journal.specs.Batches.{originals_in}
use Rattle.uq_journal.specs.Opening.{Tells, batches_at}
use Rattle.uq_journal.specs.declared.reading.Found.TheVariants.{Open}
use Rattle.uq_journal.proofs.Emptying.{one_shut}
use Rattle.uq_journal.proofs.opening.examine.Goals as goal

pub returns-then-len-eq1-clause-shows : goal.returns-then-len-eq1-clause-shows
returns-then-len-eq1-clause-shows g c files told = one_shut files.journal (sym (c.requires.size files told) ∙ c.if-len-eq1.true)

pub returns-else-branch-head-clause-shows : goal.returns-else-branch-head-clause-shows
returns-else-branch-head-clause-shows g c files told =
    let head = c.in-Open.head in
    let tells : Tells 0 files.journal (Open head) = subst (Tells 0 files.journal) c.in-Open.is (c.in_ok-read_gate.ensures.told files told) in
    let there = c.in_ok-read_gate.ensures.still.same ∙ told in
    let later = c.in_ok-is_whole-in-Open.ensures.still.same ∙ there in
    record {
      more = omega (arith, c.requires.size files told, c.requires.some, c.if-len-eq1.false);
      gate = tells.0;
      first = (originals_in head.count (drop (0 + 9) files.journal), batches_at head.next files.journal, tells.1);
      whole = sym (c.in_ok-is_whole-in-Open.ensures.told files there) ∙ c.if-not-branch.false;
      long = omega (arith, c.in_ok-length-in-Open.ensures.told files later, c.if-branch-head.false);
    }
