-- Runs of calls that change nothing.
use Rattle.std.proofs.Common.{◌≡◌, ℕ, ◌≤◌, refl, sym, ◌∙◌, subst}
use Rattle.uq_outside.specs.declared.disk.Disk.{Ghosts}
use Rattle.uq_outside.specs.Files.{Files}
use Rattle.uq_outside.specs.Stops.{Only, Elapses}
use Rattle.uq_outside.specs.Since.{LeavesOnly, After, Steps, IsSettled}
use Rattle.uq_outside.specs.SinceLaws.{started, goes_on, weaker, at_end, still_steps, steps_on, steps_weaker, told_same}
use Rattle.std.specs.Prelude.{⊤, Bool, Result, Ok, Err}
use Rattle.uq_journal.specs.Recovery.{RefusesStill}
use Rattle.uq_journal.specs.Calls.{Stays, IsStill}

module _ {D : Type 0} (g : Ghosts D) (only_now : (d : D) (files : Files) → g.left_since d (g.moment d) files → g.may_leave d files) where
  pub still_call : (old new : D) → g.content new ≡ g.content old → Only (g.may_leave old) (g.may_leave new) → Elapses (g.moment old) (g.moment new) (g.left_since old) (g.left_since new) (g.may_leave new) → IsStill g old new
  still_call old new same only time = record { same = same; steps = still_steps g Stays (λ files. refl) only_now old new same only time }

module _ {D : Type 0} (g : Ghosts D) (counts_now : (d : D) (t : ℕ) (files : Files) → t ≤ g.moment d → g.may_leave d files → g.left_since d t files) where
  pub still_on : (old mid new : D) → IsStill g old mid → IsStill g mid new → IsStill g old new
  still_on old mid new first second = record { same = second.same ∙ first.same; steps = steps_on g Stays (λ a b c one two. two ∙ one) counts_now old mid new first.steps second.steps }

-- it is a run of any step that may do nothing
pub still_run : {D : Type 0} (g : Ghosts D) (step : Files → Files → Type 0) (same : (files : Files) → step files files) (old new : D) → IsStill g old new → Steps g step old new
still_run g step same old new still = steps_weaker g Stays step (λ a b is. subst (step a) (sym is) (same a)) old new still.steps

-- before the first call
pub still_here : {D : Type 0} (g : Ghosts D) (step : Files → Files → Type 0) (same : (files : Files) → step files files) → ((d : D) (files : Files) → g.left_since d (g.moment d) files → g.may_leave d files) → (disk : D) → Steps g step disk disk
still_here g step same only_now disk = record {
  told = told_same (λ _ _. ⊤) (λ x. tt) (g.content disk);
  stop = started g (After g disk step) only_now disk (λ files left. (files, left, same files));
}

-- a run that changes nothing behind another
pub still_leaves : {D : Type 0} (g : Ghosts D) → ((d : D) (t : ℕ) (files : Files) → t ≤ g.moment d → g.may_leave d files → g.left_since d t files) → (P : Files → Type 0) (old mid new : D) → LeavesOnly g old mid P → IsStill g mid new → LeavesOnly g old new P
still_leaves g counts_now P old mid new run still =
    goes_on g P old mid new run (weaker g (After g mid Stays) P mid new (λ files was. at_end g P counts_now old mid run files (subst (g.may_leave mid) (sym was.2) was.1)) still.steps.stop)

-- nothing is pending behind it where nothing was
pub still_settled : {D : Type 0} (g : Ghosts D) → ((d : D) (t : ℕ) (files : Files) → t ≤ g.moment d → g.may_leave d files → g.left_since d t files) → (old new : D) (files : Files) → IsSettled g old files → IsStill g old new → IsSettled g new files
still_settled g counts_now old new files settled still left may =
    let was = at_end g (After g old Stays) counts_now old new still.steps.stop left may in
    was.2 ∙ settled was.0 was.1

-- and a stop within it leaves what was there
pub still_from : {D : Type 0} (g : Ghosts D) (P : Files → Type 0) (old new : D) (files : Files) → IsSettled g old files → P files → Steps g Stays old new → LeavesOnly g old new P
still_from g P old new files settled here steps =
    weaker g (After g old Stays) P old new (λ left was. subst P (sym (was.2 ∙ settled was.0 was.1)) here) steps.stop

-- what is refused behind it was left as it was
pub refused_on : {D E : Type 0} (g : Ghosts D) → ((d : D) (t : ℕ) (files : Files) → t ≤ g.moment d → g.may_leave d files → g.left_since d t files) → (old mid new : D) (result : Result Bool E) → IsStill g old mid → RefusesStill g mid new result → RefusesStill g old new result
refused_on g counts_now old mid new (Ok whole) first second = λ is. still_on g counts_now old mid new first (second is)
refused_on g counts_now old mid new (Err fault) first second = tt
