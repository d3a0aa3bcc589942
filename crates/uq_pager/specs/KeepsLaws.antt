-- Laws of what calls keep of the disk.
use Rattle.std.specs.Prelude.{ℕ, List, ⊤}
use Rattle.std.specs.Option.{option_and_then}
use Rattle.std.specs.Borrow.{MutBor}
use Rattle.std.proofs.Common.{refl, ap, ◌∙◌}
use Rattle.uq_outside.specs.declared.disk.Disk.{Ghosts}
use Rattle.uq_outside.specs.Since.{After, Laws, Steps}
use Rattle.uq_outside.specs.SinceLaws.{started, goes_on, weaker, at_end, steps_on, told_same}
use Rattle.uq_journal.specs.Calls.{IsStill, KeepsFilesAtGate, RecoversAs, Stays}
use Rattle.uq_journal.specs.Pages.{pages_of}
use Rattle.uq_pager.specs.Keeps.{KeepsDisk}
use Rattle.uq_pager.specs.Paged.{Commits}

module _ {D : Type 0} (g : Ghosts D) (laws : Laws g) where
  pub keeps_itself : (disk : MutBor D) → KeepsDisk g disk disk
  keeps_itself disk = record { same_reference = refl; stop = started g (After g disk.now RecoversAs) laws.only_now disk.now (λ files left. (files, left, refl)) }

  pub keeps_on : (a b c : MutBor D) → KeepsDisk g a b → KeepsDisk g b c → KeepsDisk g a c
  keeps_on a b c first second = record {
    same_reference = second.same_reference ∙ first.same_reference;
    stop = goes_on g (After g a.now RecoversAs) a.now b.now c.now first.stop (weaker g (After g b.now RecoversAs) (After g a.now RecoversAs) b.now c.now (λ files after.
        let was = at_end g (After g a.now RecoversAs) laws.counts_now a.now b.now first.stop after.0 after.1 in
        (was.0, was.1, after.2 ∙ was.2)) second.stop);
  }

  -- the committed pages stay, whatever the calls wrote elsewhere
  pub commits_still : (a b : MutBor D) (pages : List (List ℕ)) → KeepsDisk g a b → Commits g a.now pages → Commits g b.now pages
  commits_still a b pages keeps commits files left =
      let was = at_end g (After g a.now RecoversAs) laws.counts_now a.now b.now keeps.stop files left in
      ap (option_and_then pages_of) was.2 ∙ commits was.0 was.1

  -- calls that change nothing
  pub still_itself : (disk : D) → IsStill g disk disk
  still_itself disk = record {
    same = refl;
    steps = record { told = told_same (λ _ _. ⊤) (λ x. tt) (g.content disk); stop = started g (After g disk Stays) laws.only_now disk (λ files left. (files, left, refl)) };
  }

  pub still_on : (a b c : D) → IsStill g a b → IsStill g b c → IsStill g a c
  still_on a b c first second = record {
    same = second.same ∙ first.same;
    steps = steps_on g Stays (λ x y z one two. two ∙ one) laws.counts_now a b c first.steps second.steps;
  }

  -- a run that changes nothing behind an opening
  pub gate_on : (a b c : D) → KeepsFilesAtGate g a b → Steps g Stays b c → KeepsFilesAtGate g a c
  gate_on a b c first second start told closed = steps_on g Stays (λ x y z one two. two ∙ one) laws.counts_now a b c (first start told closed) second
