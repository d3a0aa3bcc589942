-- Runs in which nothing is written to the main file.
use Rattle.std.proofs.Common.{◌≡◌, ℕ, ◌≤◌, List, [], ◌∷◌, get_or, take, refl, ◌∙◌, ap}
use Rattle.uq_outside.specs.declared.disk.Disk.{Ghosts}
use Rattle.uq_outside.specs.declared.fault.FileNo.TheVariants.{Main}
use Rattle.uq_outside.specs.Files.{Files, Keeps}
use Rattle.uq_outside.specs.Since.{Steps}
use Rattle.uq_outside.specs.SinceLaws.{steps_on, steps_weaker}
use Rattle.uq_journal.specs.declared.format.TheConstants.{OPEN}
use Rattle.uq_journal.specs.Calls.{IsClosed, IsStill}
use Rattle.uq_journal.specs.Recovery.{IsOpen, Shortens}
use Rattle.uq_journal.specs.Steps.{AtGate}
use Rattle.uq_journal.proofs.Still.{still_run}

pub main_same : (files : Files) → Keeps Main files files
main_same files = refl

module _ {D : Type 0} (g : Ghosts D) where
  pub main_cut : (old new : D) → Steps g Shortens old new → Steps g (Keeps Main) old new
  main_cut = steps_weaker g Shortens (Keeps Main) (λ a b step. step.main)

  pub main_gate : (old new : D) → Steps g AtGate old new → Steps g (Keeps Main) old new
  main_gate = steps_weaker g AtGate (Keeps Main) (λ a b step. step.main)

  module _ (counts_now : (d : D) (t : ℕ) (files : Files) → t ≤ g.moment d → g.may_leave d files → g.left_since d t files) where
    pub main_on : (old mid new : D) → Steps g (Keeps Main) old mid → Steps g (Keeps Main) mid new → Steps g (Keeps Main) old new
    main_on = steps_on g (Keeps Main) (λ a b c first second. second ∙ first) counts_now

    pub main_still : (old mid new : D) → Steps g (Keeps Main) old mid → IsStill g mid new → Steps g (Keeps Main) old new
    main_still old mid new first second = main_on old mid new first (still_run g (Keeps Main) main_same mid new second)

first_byte : (journal : List ℕ) → take 1 journal ≡ OPEN ∷ [] → get_or journal 0 0 ≡ OPEN
first_byte [] is = let none : [] ≡ OPEN ∷ [] = is in absurd (cc)
first_byte (gate ∷ rest) is = ap (λ (l : List ℕ). get_or l 0 0) is

-- no batch counts behind a closed gate
pub not_open : (old_pages : ℕ) (files : Files) → IsOpen old_pages files → IsClosed files.journal → ⊥
not_open old_pages files batches closed = closed batches.more (first_byte files.journal batches.gate)
