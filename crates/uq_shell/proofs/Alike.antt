-- Runs of calls within which a stop leaves what files recovered to.
use Rattle.std.proofs.Common.{◌≡◌, refl, sym, ap, subst, ◌∙◌}
use Rattle.std.specs.Prelude.{⊤}
use Rattle.std.specs.Borrow.{MutBor}
use Rattle.uq_outside.specs.declared.disk.Disk.{Ghosts}
use Rattle.uq_outside.specs.Since.{After, Laws}
use Rattle.uq_outside.specs.SinceLaws.{started, steps_on, told_same, weaker}
use Rattle.uq_journal.specs.Calls.{IsStill, RecoversAs, Stays}
use Rattle.uq_journal.specs.Recovered.{recovered}
use Rattle.uq_shell.specs.Answers.{LeavesAlike}

module _ {D : Type 0} (g : Ghosts D) where
  -- calls that change nothing
  pub alike_still : (old new : D) → IsStill g old new → LeavesAlike g old new
  alike_still old new still = weaker g (After g old Stays) (After g old RecoversAs) old new (λ files after. (after.0, after.1, ap recovered after.2)) still.steps.stop

  module _ (laws : Laws g) where
    -- no call at all
    pub alike_here : (disk : D) → LeavesAlike g disk disk
    alike_here disk = started g (After g disk RecoversAs) laws.only_now disk (λ files left. (files, left, refl))

    pub still_here : (disk : D) → IsStill g disk disk
    still_here disk = record {
      same = refl;
      steps = record { told = told_same (λ _ _. ⊤) (λ x. tt) (g.content disk); stop = started g (After g disk Stays) laws.only_now disk (λ files left. (files, left, refl)) };
    }

    -- the same disk before and after
    pub alike_same : (old new : MutBor D) → new ≡ old → LeavesAlike g old.now new.now
    alike_same old new same = subst (λ (disk : MutBor D). LeavesAlike g old.now disk.now) (sym same) (alike_here old.now)

    pub still_same : (old new : MutBor D) → new ≡ old → IsStill g old.now new.now
    still_same old new same = subst (λ (disk : MutBor D). IsStill g old.now disk.now) (sym same) (still_here old.now)

    -- one run that changes nothing after the other
    pub still_on : (old mid new : D) → IsStill g old mid → IsStill g mid new → IsStill g old new
    still_on old mid new first second = record {
      same = second.same ∙ first.same;
      steps = steps_on g Stays (λ a b c one two. two ∙ one) laws.counts_now old mid new first.steps second.steps;
    }
