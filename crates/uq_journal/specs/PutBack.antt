-- How originals come back into the main file.
use Rattle.std.specs.Prelude.{◌≡◌, ℕ, ◌*◌, ◌<◌, ◌≤◌, List, [], ◌∷◌, length, take, drop, slice_index, Some}
use Rattle.std.specs.Option.{ForSome}
use Rattle.uq_outside.specs.declared.disk.Disk.{Ghosts}
use Rattle.uq_outside.specs.declared.fault.FileNo.TheVariants.{Main}
use Rattle.uq_outside.specs.Files.{Files, in_file}
use Rattle.uq_outside.specs.Since.{Steps}
use Rattle.uq_page.specs.declared.layout.TheConstants.{PAGE_SIZE}
use Rattle.uq_journal.specs.Batches.{Original, Batch, originals_in}
use Rattle.uq_journal.specs.Opening.{batches_at, originals_all}
use Rattle.uq_journal.specs.Recovered.{with_pages}
use Rattle.uq_journal.specs.Steps.{InPages, Covers}

-- the n originals from this place of the journal on
abbrev pub originals_at : ℕ → ℕ → Files → List Original
originals_at n at files = originals_in n (drop at files.journal)

-- they are put back
abbrev pub put_from : ℕ → ℕ → Files → Files
put_from n at files = in_file Main (with_pages (originals_at n at files)) files

-- all originals of the journal
abbrev pub originals_of_journal : Files → List Original
originals_of_journal files = originals_all (batches_at 0 files.journal)

-- all of them are put back
abbrev pub put_all : Files → Files
put_all files = in_file Main (with_pages (originals_of_journal files)) files

-- and the main file has this length
abbrev pub put_whole : ℕ → Files → Files
put_whole len files = in_file Main (λ main. take len (with_pages (originals_of_journal files) main)) files

-- each page begins within this length
abbrev pub BeginWithin : ℕ → List Original → Type 0
BeginWithin len [] = Unit {0}
BeginWithin len (page ∷ pages) = (PAGE_SIZE * page.0 ≤ len) × BeginWithin len pages

-- the batches from this place on lie whole, and their pages begin within this length
pub record ArePuttable (len at : ℕ) (journal : List ℕ) : Type 0 where
  pub whole : (batches : List Batch) × (batches_at at journal ≡ Some batches)
  pub begin : BeginWithin len (originals_all (batches_at at journal))

-- The journal stays. So does a main file of that many bytes or more within them, but for these pages.
pub record PutsBack (len : ℕ) (pages : List Original) (old new : Files) : Type 0 where
  pub journal : new.journal ≡ old.journal
  pub no_shorter : len ≤ length old.main → len ≤ length new.main
  pub same : len ≤ length old.main → (i : ℕ) → i < len → (Covers pages i → ⊥) → slice_index new.main i ≡ slice_index old.main i

-- since `start`, the originals of the batches up to this place are put back
pub record IsPutBack {D : Type 0} (g : Ghosts D) (start : D) (files : Files) (disk : D) (at : ℕ) : Type 0 where
  pub now : Files
  pub told : g.content disk ≡ Some now
  pub journal : now.journal ≡ files.journal
  pub no_shorter : length files.main ≤ length now.main
  pub rest : with_pages (originals_all (batches_at at files.journal)) now.main ≡ with_pages (originals_of_journal files) files.main
  pub puttable : ArePuttable (length files.main) at files.journal
  pub covered : (i : ℕ) → Covers (originals_all (batches_at at files.journal)) i → Covers (originals_of_journal files) i
  pub steps : Steps g (InPages (originals_of_journal files)) start disk

-- a run that writes these originals of what is told, and nothing else
abbrev pub PutsBackAt : {D : Type 0} → Ghosts D → ℕ → ℕ → D → D → Type 0
PutsBackAt g n at old new = ForSome (g.content old) (λ files. Steps g (InPages (originals_at n at files)) old new)

-- a run that writes all of them
abbrev pub PutsEachBack : {D : Type 0} → Ghosts D → D → D → Type 0
PutsEachBack g old new = ForSome (g.content old) (λ files. Steps g (InPages (originals_of_journal files)) old new)

-- and cuts the main file to its old page count
abbrev pub PutsAllBack : {D : Type 0} → Ghosts D → ℕ → D → D → Type 0
PutsAllBack g old_pages old new = ForSome (g.content old) (λ files. Steps g (PutsBack (PAGE_SIZE * old_pages) (originals_of_journal files)) old new)
