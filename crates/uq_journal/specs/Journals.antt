-- What a journal keeps, and when its calls fail.
use Rattle.std.specs.Prelude.{◌≡◌, ℕ, ◌≤◌, Result, OnOk, IfErr}
use Rattle.uq_facts.specs.Causes.{Rose}
use Rattle.uq_journal.specs.declared.error.JournalFault.{JournalFault}
use Rattle.uq_journal.specs.declared.error.JournalFault.TheVariants.{Disk, NotJournal}
use Rattle.uq_journal.specs.declared.journal.Journal.{Journal}

-- how many originals the open batches have
abbrev pub originals_kept : Journal → ℕ
originals_kept journal = journal.originals

-- the count rose where the disk failed, and stays where it did not
abbrev pub Counts : ℕ → ℕ → JournalFault → Type 0
Counts before now (Disk fault) = Rose before now
Counts before now NotJournal = now ≡ before

pub record HasJournalCause {T : Type 0} (before now : ℕ) (result : Result T JournalFault) : Type 0 where
  pub later : before ≤ now
  pub failed : IfErr result (Counts before now)
  pub quiet : OnOk result (now ≡ before)
