use Rattle.std.proofs.Common.{◌≡◌, List, [], sym, ap, subst}
use Rattle.std.specs.Map.{keys_of}
use Rattle.uq_journal.specs.Batches.{Original}
use Rattle.uq_journal.specs.Recovered.{Ascends}
use Rattle.uq_pager.specs.Batch.{after}
use Rattle.uq_pager.specs.Changes.{batch_of}
use Rattle.uq_pager.specs.Places.{entry_of}
use Rattle.uq_pager.proofs.Committing.{nothing_changed}
use Rattle.uq_pager.proofs.Openings.{opened_tells}
use Rattle.uq_pager.proofs.Writing.{clean_empty}
use Rattle.uq_pager.specs.Paged.{pages_on}
use Rattle.uq_pager.proofs.pager.Pager.over.Goals as goal

pub invariant_of-result : goal.invariant_of-result
invariant_of-result g c =
    let ready = c.args.ready in
    let none : batch_of ready.changes ≡ [] = nothing_changed (batch_of ready.changes) ready.nothing_changed in
    record {
      none = ready.none;
      ascending = subst (λ (b : List Original). Ascends 0 ready.saved (keys_of b)) (sym none) tt;
      counted = ap (λ (b : List Original). after ready.saved (keys_of b)) (sym none);
      idle = λ _. ready.nothing_changed;
      apart = λ k page found. let missing = ap (entry_of k) none in absurd (cc);
      below = λ k page found. let missing = clean_empty k ready.clean.entries ready.nothing_clean in absurd (cc);
      rest = λ _ files told. (c.requires files told).rest;
      pages = λ _ files told. (c.requires files told).pages;
      right = λ _ pages on k page found. let missing = clean_empty k ready.clean.entries ready.nothing_clean in absurd (cc);
    }

pub returns-clause-told : goal.returns-clause-told
returns-clause-told g c = opened_tells (batch_of c.args.ready.changes) (pages_on g.D.Disk c.args.disk.now) (nothing_changed (batch_of c.args.ready.changes) c.args.ready.nothing_changed)
