-- What the parts of a commit do to the files.
use Rattle.std.specs.Prelude.{◌≡◌, ◌⊎◌, ℕ, ◌+◌, ◌*◌, ◌<◌, ◌≤◌, max, nat_lt, List, [], ◌∷◌, ◌++◌, length, take, drop, map, filter, slice_index, Some, Result, OnOk}
use Rattle.std.specs.Option.{ForSome, option_map}
use Rattle.std.specs.Int.{w32, to_be_bytes}
use Rattle.std.specs.List.{flat_map}
use Rattle.uq_outside.specs.Files.{Files, Keeps, in_file}
use Rattle.uq_outside.specs.Since.{LeavesOnly}
use Rattle.uq_outside.specs.Stops.{Only}
use Rattle.uq_outside.specs.declared.fault.FileNo.TheVariants.{Journal}
use Rattle.uq_facts.specs.Written.{written}
use Rattle.uq_outside.specs.declared.disk.Disk.{Ghosts}
use Rattle.uq_page.specs.declared.layout.TheConstants.{PAGE_SIZE}
use Rattle.uq_journal.specs.declared.format.TheConstants.{CLOSED, HEAD_SIZE, ORIGINAL_SIZE}
use Rattle.uq_journal.specs.Batches.{Original, original_bytes}
use Rattle.uq_journal.specs.Recovered.{with_pages, recovered, changes}
use Rattle.uq_journal.specs.declared.dirty.Dirty.{Dirty}

-- at Ok what is told is changed so
abbrev pub Becomes : {D T E : Type 0} → Ghosts D → (Files → Files) → D → D → Result T E → Type 0
Becomes g change old new result = OnOk result (g.content new ≡ option_map change (g.content old))

-- the main file stays, and so do the first bytes of the journal
pub record Behind (n : ℕ) (old new : Files) : Type 0 where
  pub main : new.main ≡ old.main
  pub front : n ≤ length old.journal → take n new.journal ≡ take n old.journal
  pub no_shorter : length old.journal ≤ length new.journal

-- each page begins within the file, or at its end by then
abbrev pub Fits : ℕ → List Original → Type 0
Fits len [] = Unit {0}
Fits len (page ∷ pages) = (PAGE_SIZE * page.0 ≤ len) × Fits (max len (PAGE_SIZE * page.0 + PAGE_SIZE)) pages

-- a byte of one of these pages
abbrev pub Covers : List Original → ℕ → Type 0
Covers [] i = ⊥
Covers (page ∷ pages) i = ((PAGE_SIZE * page.0 ≤ i) × (i < PAGE_SIZE * page.0 + PAGE_SIZE)) ⊎ Covers pages i

-- the main file stays, and so does the journal but for its first gate
pub record AtGate (old new : Files) : Type 0 where
  pub main : new.main ≡ old.main
  pub behind : 1 ≤ length old.journal → (gate : ℕ) × (new.journal ≡ gate ∷ drop 1 old.journal)
  pub short : length old.journal ≤ 1 → length new.journal ≤ 1

-- the journal stays, and so does the main file but for these pages and what lies past its end
pub record InPages (pages : List Original) (old new : Files) : Type 0 where
  pub journal : new.journal ≡ old.journal
  pub no_shorter : length old.main ≤ length new.main
  pub same : (i : ℕ) → i < length old.main → (Covers pages i → ⊥) → slice_index new.main i ≡ slice_index old.main i

-- page k of a main file
abbrev pub page_at : List ℕ → ℕ → List ℕ
page_at main k = take PAGE_SIZE (drop (PAGE_SIZE * k) main)

-- those of the pages that were there
abbrev pub kept : ℕ → List Dirty → List Dirty
kept old_pages dirty = filter (λ it. nat_lt it.no old_pages) dirty

-- their originals
abbrev pub originals_of : ℕ → List ℕ → List Dirty → List Original
originals_of old_pages main dirty = map (λ it. (it.no, page_at main it.no)) (kept old_pages dirty)

-- the files with the original of this page at this place of the journal
abbrev pub with_original : ℕ → ℕ → Files → Files
with_original k at files = in_file Journal (written at (original_bytes (k, page_at files.main k))) files

-- the files with the originals of these pages in the journal
abbrev pub with_originals : ℕ → ℕ → List Dirty → Files → Files
with_originals old_pages at dirty files = record files { journal = written at (flat_map original_bytes (originals_of old_pages files.main dirty)) files.journal }

-- the journal's bytes behind its gate, as far as these pages
abbrev pub staged : ℕ → ℕ → List ℕ → List Dirty → List ℕ
staged old_pages count main dirty = to_be_bytes w32 old_pages ++ to_be_bytes w32 count ++ flat_map original_bytes (originals_of old_pages main dirty)

-- since `start`, the originals of these pages stand in the journal, up to `at`
pub record IsStaged {D : Type 0} (g : Ghosts D) (old_pages count : ℕ) (dirty : List Dirty) (start disk : D) (at : ℕ) : Type 0 where
  pub size : at ≡ HEAD_SIZE + ORIGINAL_SIZE * length (kept old_pages dirty)
  pub told : (files : Files) → g.content start ≡ Some files
      → (now : Files) × (g.content disk ≡ Some now) × (now.main ≡ files.main) × (at ≤ length now.journal) × (take at now.journal ≡ take 1 files.journal ++ staged old_pages count files.main dirty)

-- since `start`, the batch and a closed gate stand in the journal, and no write of the journal is pending
pub record IsStagedWhole {D : Type 0} (g : Ghosts D) (old_pages count : ℕ) (dirty : List Dirty) (start disk : D) : Type 0 where
  pub told : (files : Files) → g.content start ≡ Some files
      → (now : Files) × (g.content disk ≡ Some now) × (now.main ≡ files.main)
      × ((rest : List ℕ) × (now.journal ≡ take 1 files.journal ++ staged old_pages count files.main dirty ++ CLOSED ∷ rest))
      × Only (Keeps Journal now) (g.may_leave disk)

-- so far, with the number of originals that the pages have
abbrev pub StandsTo : {D : Type 0} → Ghosts D → ℕ → List Dirty → D → D → ℕ → Type 0
StandsTo g old_pages dirty = IsStaged g old_pages (length (kept old_pages dirty)) dirty

-- and whole
abbrev pub StandsWhole : {D : Type 0} → Ghosts D → ℕ → List Dirty → D → D → Type 0
StandsWhole g old_pages dirty = IsStagedWhole g old_pages (length (kept old_pages dirty)) dirty

-- recovers to the old main file, or to the one with these pages
abbrev pub RecoversToCommit : List ℕ → List Dirty → Files → Type 0
RecoversToCommit old dirty files = (recovered files ≡ Some old) ⊎ (recovered files ≡ Some (with_pages (changes dirty) old))

-- a stop within the run leaves such files
abbrev pub LeavesOldOrNew : {D : Type 0} → Ghosts D → List Dirty → D → D → Type 0
LeavesOldOrNew g dirty old new = ForSome (g.content old) (λ files. LeavesOnly g old new (RecoversToCommit files.main dirty))

-- the pages stand in the main file
abbrev pub WritesBatch : {D : Type 0} → Ghosts D → List Dirty → D → D → Type 0
WritesBatch g dirty old new =
    ForSome (g.content old) (λ before. ForSome (g.content new) (λ now. now.main ≡ with_pages (changes dirty) before.main))
