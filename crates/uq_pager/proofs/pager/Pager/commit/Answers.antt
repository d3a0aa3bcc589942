use Rattle.std.proofs.Common.{◌≡◌, rules, List, [], length, sym, ap, subst, ◌∙◌}
use Rattle.std.specs.Map.{keys_of}
use Rattle.uq_journal.specs.Batches.{Original}
use Rattle.uq_journal.specs.Recovered.{Ascends, changes}
use Rattle.uq_pager.specs.Batch.{after}
use Rattle.uq_pager.specs.Changes.{batch_of}
use Rattle.uq_pager.specs.Places.{entry_of}
use Rattle.uq_pager.proofs.Committing.{done, durable_none, has_saved, numbers_ascend, stop_commit, stop_none}
use Rattle.uq_pager.proofs.pager.Pager.commit.Goals as goal

pub returns-then-not-self-clause-stop : goal.returns-then-not-self-clause-stop
returns-then-not-self-clause-stop g c = stop_none g.D.Disk c.args.self.now (record { only_now = g.met.D.Disk.only_now; counts_now = g.met.D.Disk.counts_now })

pub returns-then-not-self-clause-durable : goal.returns-then-not-self-clause-durable
returns-then-not-self-clause-durable g c = durable_none g.D.Disk c.args.self.now (search rules)

pub commit_batch-requires-clause-rest : goal.commit_batch-requires-clause-rest
commit_batch-requires-clause-rest g c = c.args.self.now.rest c.requires.sound

pub commit_batch-requires-clause-pages : goal.commit_batch-requires-clause-pages
commit_batch-requires-clause-pages g c = has_saved g.D.Disk c.args.self.now c.requires.sound

pub commit_batch-requires-clause-ascending : goal.commit_batch-requires-clause-ascending
commit_batch-requires-clause-ascending g c =
    numbers_ascend c.deref.result.now (batch_of c.args.self.now.changes) c.args.self.now.saved (ap changes c.deref.ensures.value ∙ c.take-batch.ensures.batch) c.args.self.now.ascending

pub returns-in-Err-clause-stop : goal.returns-in-Err-clause-stop
returns-in-Err-clause-stop g c =
    stop_commit g.D.Disk c.args.self.now (changes c.deref.result.now) c.commit_batch.new.disk (ap changes c.deref.ensures.value ∙ c.take-batch.ensures.batch) c.in-Err.ensures.stop

pub invariant_of-self-2 : goal.invariant_of-self-2
invariant_of-self-2 g c =
    let it = c.args.self.now in
    let none : batch_of c.take-batch.new.self ≡ [] = c.take-batch.ensures.empty in
    let all = done g.D.Disk it (changes c.deref.result.now) c.commit_batch.new.disk (ap changes c.deref.ensures.value ∙ c.take-batch.ensures.batch) c.requires.sound c.in-Ok.ensures.rest_again c.in-Ok.ensures.written c.in-Ok.ensures.alike in
    record {
      none = c.in-Ok.ensures.kept ∙ it.none;
      ascending = subst (λ (b : List Original). Ascends 0 it.count (keys_of b)) (sym none) tt;
      counted = ap (λ (b : List Original). after it.count (keys_of b)) (sym none);
      idle = λ _. ap length none;
      apart = λ k page found. let missing = ap (entry_of k) none in absurd (cc);
      below = all.below;
      rest = λ _. c.in-Ok.ensures.rest_again;
      pages = λ _. all.pages;
      right = λ _. all.right;
    }

pub returns-clause-stop : goal.returns-clause-stop
returns-clause-stop g c =
    stop_commit g.D.Disk c.args.self.now (changes c.deref.result.now) c.commit_batch.new.disk (ap changes c.deref.ensures.value ∙ c.take-batch.ensures.batch) c.in-Ok.ensures.stop

pub returns-clause-durable : goal.returns-clause-durable
returns-clause-durable g c =
    (done g.D.Disk c.args.self.now (changes c.deref.result.now) c.commit_batch.new.disk (ap changes c.deref.ensures.value ∙ c.take-batch.ensures.batch) c.requires.sound c.in-Ok.ensures.rest_again c.in-Ok.ensures.written c.in-Ok.ensures.alike).durable
