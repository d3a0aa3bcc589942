-- A journal of one closed gate stays as it is.
use Rattle.std.proofs.Common.{◌≡◌, ℕ, ◌≤◌, List, [], ◌∷◌, length, get_or, take, drop, sym, ◌∙◌, ap, arith}
use Rattle.std.specs.Option.{ForSome}
use Rattle.uq_outside.specs.declared.disk.Disk.{Ghosts}
use Rattle.uq_outside.specs.Files.{Files}
use Rattle.uq_outside.specs.Since.{After, Steps, IsSettled}
use Rattle.uq_outside.specs.SinceLaws.{at_end, steps_on, weaker}
use Rattle.uq_journal.specs.declared.format.TheConstants.{CLOSED}
use Rattle.uq_journal.specs.Calls.{Stays}
use Rattle.uq_journal.specs.Recovery.{IsOpen, Shortens}
use Rattle.uq_journal.proofs.Phases.{same_files}

module _ {D : Type 0} (g : Ghosts D) (counts_now : (d : D) (t : ℕ) (files : Files) → t ≤ g.moment d → g.may_leave d files → g.left_since d t files) where
  -- one run that changes nothing behind another
  pub stays_on : (old mid new : D) → Steps g Stays old mid → Steps g Stays mid new → Steps g Stays old new
  stays_on = steps_on g Stays (λ a b c first second. second ∙ first) counts_now

  -- what is told behind it is what was there, where nothing was pending
  pub stays_told : ((d : D) → ForSome (g.content d) (g.may_leave d)) → (old new : D) (start : Files) → IsSettled g old start → Steps g Stays old new → ForSome (g.content new) (λ now. now ≡ start)
  stays_told may_stay old new start settled steps now told =
      let was = at_end g (After g old Stays) counts_now old new steps.stop now (may_stay new now told) in
      was.2 ∙ settled was.0 was.1

one_byte : (old new : List ℕ) → old ≡ CLOSED ∷ [] → take 1 new ≡ take 1 old → length new ≤ length old → new ≡ old
one_byte old [] closed first short =
    let none : [] ≡ CLOSED ∷ [] = first ∙ ap (λ (l : List ℕ). take 1 l) closed in absurd (cc)
one_byte old (x ∷ []) closed first short = first ∙ ap (λ (l : List ℕ). take 1 l) closed ∙ sym closed
one_byte old (x ∷ y ∷ more) closed first short = absurd (omega (arith, short, ap length closed))

-- cut to its gate it is what it was
pub nothing_cut : (old new : Files) → old.journal ≡ CLOSED ∷ [] → Shortens old new → new ≡ old
nothing_cut old new closed step =
    same_files new old step.main (one_byte old.journal new.journal closed (step.gate (omega (arith, ap length closed))) step.no_longer)

-- so a run that only shortens the journal changes nothing, where nothing is pending
pub nothing_shortened : {D : Type 0} (g : Ghosts D) (old new : D) (start : Files) → IsSettled g old start → start.journal ≡ CLOSED ∷ [] → Steps g Shortens old new → Steps g Stays old new
nothing_shortened g old new start settled closed steps = record {
  told = steps.told;
  stop = weaker g (After g old Shortens) (After g old Stays) old new (λ files was.
      let before : was.0 ≡ start = settled was.0 was.1 in
      (was.0, was.1, nothing_cut was.0 files (ap (λ (f : Files). f.journal) before ∙ closed) was.2)) steps.stop;
}

-- no batch stands in it
pub no_batch : (old_pages : ℕ) (files : Files) → files.journal ≡ CLOSED ∷ [] → IsOpen old_pages files → ⊥
no_batch old_pages files closed batches = let more = batches.more in absurd (omega (arith, more, ap length closed))

-- the gate that is read is closed
pub reads_closed : (journal gate : List ℕ) → journal ≡ CLOSED ∷ [] → gate ≡ take 1 (drop 0 (take 1 journal)) → get_or gate 0 0 ≡ CLOSED
reads_closed journal gate closed is = ap (λ (l : List ℕ). get_or l 0 0) (is ∙ ap (λ (l : List ℕ). take 1 (drop 0 (take 1 l))) closed)
