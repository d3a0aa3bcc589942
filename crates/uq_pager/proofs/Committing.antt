-- What a commit leaves of a pager.
use Rattle.std.proofs.Common.{◌≡◌, ℕ, Bool, true, false, List, [], ◌∷◌, length, Option, Some, None, refl, sym, ap, subst, ◌∙◌, inl, arith}
use Rattle.std.specs.Prelude.{slice_get, ⊤}
use Rattle.std.specs.Option.{ForSome, option_map, option_and_then}
use Rattle.std.specs.Map.{keys_of}
use Rattle.std.proofs.lemmas.List.{nil_from_length}
use Rattle.uq_outside.specs.declared.disk.Disk.{Ghosts}
use Rattle.uq_outside.specs.Files.{Files}
use Rattle.uq_outside.specs.Since.{LeavesOnly, Laws}
use Rattle.uq_outside.specs.SinceLaws.{started, told_back}
use Rattle.uq_outside.specs.Stops.{ToldAlike}
use Rattle.uq_journal.specs.Batches.{Original}
use Rattle.uq_journal.specs.Calls.{HasPages, LeavesOldPagesOrNew, PagesWritten, Rests, WritesPages, recovered_pages}
use Rattle.uq_journal.specs.Pages.{pages_of, with_batch}
use Rattle.uq_journal.specs.PagesLaws.{has_pages}
use Rattle.uq_journal.specs.Recovered.{Ascends, changes, numbers}
use Rattle.uq_journal.specs.declared.dirty.Dirty.{Dirty}
use Rattle.uq_pager.specs.declared.pager.Pager.{Pager}
use Rattle.uq_pager.specs.BatchLaws.{after_least, get_other, length_batch}
use Rattle.uq_pager.specs.Changes.{batch_of}
use Rattle.uq_pager.specs.Clean.{AreBelow, AreOf}
use Rattle.uq_pager.specs.Paged.{Commits, Paged, RecoversToOne, committed, paged_by, pages_on, told_while}
use Rattle.uq_pager.specs.Pager.{paged}
use Rattle.uq_pager.specs.PagerLaws.{pages_parts, stands, told_parts}
use Rattle.uq_pager.proofs.Reading.{main_size, unchanged}

numbers_changes : (dirty : List Dirty) → keys_of (changes dirty) ≡ numbers dirty
numbers_changes [] = refl
numbers_changes (d ∷ dirty) = ap (λ (ks : List ℕ). d.no ∷ ks) (numbers_changes dirty)

pub numbers_ascend : (dirty : List Dirty) (batch : List Original) (n : ℕ) → changes dirty ≡ batch → Ascends 0 n (keys_of batch) → Ascends 0 n (numbers dirty)
numbers_ascend dirty batch n is ascends = subst (Ascends 0 n) (ap keys_of (sym is) ∙ numbers_changes dirty) ascends

-- a batch of no page
pub nothing_changed : (batch : List Original) → length batch ≡ 0 → batch ≡ []
nothing_changed batch none = nil_from_length batch none

module _ {D : Type 0} (g : Ghosts D) (it : Pager D g) where
  pub has_saved : it.is_sound ≡ true → ForSome (g.content it.disk.now) (HasPages it.saved)
  has_saved sound files told = has_pages it.saved files (main_size files.main it.saved (it.pages sound files told))

  -- what is told, in its parts
  pub paged_parts : (now : Paged) → paged g it ≡ Some now → (it.is_sound ≡ true) × (pages : List (List ℕ)) × (pages_on g it.disk.now ≡ Some pages) × (paged_by (batch_of it.changes) it.is_begun pages ≡ now)
  paged_parts now is = told_parts it.is_sound (paged_by (batch_of it.changes) it.is_begun) (pages_on g it.disk.now) now is

  recovers_now : (pages : List (List ℕ)) → it.is_sound ≡ true → pages_on g it.disk.now ≡ Some pages → Commits g it.disk.now pages
  recovers_now pages sound on left may =
      let here = stands g it pages sound on in
      ap recovered_pages (here.rest.settled left may) ∙ ap (option_and_then pages_of) here.rest.recovers ∙ here.main

  -- with none begun
  pub stop_none : (laws : Laws g) → ForSome (paged g it) (λ now. LeavesOnly g it.disk.now it.disk.now (RecoversToOne now.committed now.present))
  stop_none laws now is =
      let parts = paged_parts now is in
      let same : parts.1 ≡ now.committed = ap (λ (p : Paged). p.committed) parts.3 in
      started g (RecoversToOne now.committed now.present) laws.only_now it.disk.now
      (λ files may. inl (recovers_now parts.1 parts.0 parts.2 files may ∙ ap (λ (ps : List (List ℕ)). Some ps) same))

  pub durable_none : it.is_begun ≡ false → ForSome (paged g it) (λ now. Commits g it.disk.now now.present)
  durable_none idle now is files may =
      let parts = paged_parts now is in
      let none = nothing_changed (batch_of it.changes) (it.idle idle) in
      let same : parts.1 ≡ now.present = ap (λ (b : List Original). with_batch b parts.1) (sym none) ∙ ap (λ (p : Paged). p.present) parts.3 in
      recovers_now parts.1 parts.0 parts.2 files may ∙ ap (λ (ps : List (List ℕ)). Some ps) same

  -- a stop within a commit
  pub stop_commit : (batch : List Original) (new : D) → batch ≡ batch_of it.changes → LeavesOldPagesOrNew g batch it.disk.now new
      → ForSome (paged g it) (λ now. LeavesOnly g it.disk.now new (RecoversToOne now.committed now.present))
  stop_commit batch new is leaves now told =
      let parts = paged_parts now told in
      let here = stands g it parts.1 parts.0 parts.2 in
      let one : parts.1 ≡ now.committed = ap (λ (p : Paged). p.committed) parts.3 in
      let two : with_batch batch parts.1 ≡ now.present = ap (λ (b : List Original). with_batch b parts.1) is ∙ ap (λ (p : Paged). p.present) parts.3 in
      subst (λ (ps : List (List ℕ)). LeavesOnly g it.disk.now new (RecoversToOne ps now.present)) one
      (subst (λ (ps : List (List ℕ)). LeavesOnly g it.disk.now new (RecoversToOne parts.1 ps)) two (leaves here.files here.told parts.1 here.main))

-- the pages of the main file after a commit
some_pages : (n : ℕ) (o : Option (List (List ℕ))) → option_map length o ≡ Some n → (pages : List (List ℕ)) × (o ≡ Some pages) × (length pages ≡ n)
some_pages n None is = absurd (cc)
some_pages n (Some pages) is = (pages, refl, cc)

pages_after : (n : ℕ) (batch : List Original) (old new : Option Files) → ToldAlike old new → ForSome old (λ files. option_map length (pages_of files.main) ≡ Some n) → ForSome old (λ before. ForSome new (PagesWritten batch before))
    → option_and_then (λ files. pages_of files.main) new ≡ option_map (with_batch batch) (option_and_then (λ files. pages_of files.main) old)
pages_after n batch None None alike size written = refl
pages_after n batch None (Some files) alike size written = absurd alike
pages_after n batch (Some files) None alike size written = absurd alike
pages_after n batch (Some files) (Some now) alike size written =
    let was = some_pages n (pages_of files.main) (size files refl) in
    written files refl now refl was.0 was.1 ∙ sym (ap (option_map (with_batch batch)) was.1)

-- what is told after a commit
base : (batch : List Original) (begun : Bool) (old : Option (List (List ℕ))) → option_map (paged_by [] false) (option_map (with_batch batch) old) ≡ option_map committed (option_map (paged_by batch begun) old)
base batch begun None = refl
base batch begun (Some pages) = refl

pub told_after : (sound : Bool) (empty batch : List Original) (begun : Bool) (old new : Option (List (List ℕ))) → sound ≡ true → empty ≡ [] → new ≡ option_map (with_batch batch) old
    → option_map (paged_by empty false) new ≡ option_map committed (told_while sound (option_map (paged_by batch begun) old))
told_after sound empty batch begun old new is none after =
    ap (λ (b : List Original). option_map (paged_by b false) new) none ∙ ap (option_map (paged_by [] false)) after ∙ base batch begun old
    ∙ ap (λ b. option_map committed (told_while b (option_map (paged_by batch begun) old))) (sym is)

-- with none begun nothing changes
idle_base : (old : Option (List (List ℕ))) → option_map (paged_by [] false) old ≡ option_map committed (option_map (paged_by [] false) old)
idle_base None = refl
idle_base (Some pages) = refl

idle_while : (sound : Bool) (old : Option (List (List ℕ))) → told_while sound (option_map (paged_by [] false) old) ≡ option_map committed (told_while sound (option_map (paged_by [] false) old))
idle_while true old = idle_base old
idle_while false old = refl

pub told_idle : (sound : Bool) (batch : List Original) (begun : Bool) (old : Option (List (List ℕ))) → batch ≡ [] → begun ≡ false
    → told_while sound (option_map (paged_by batch begun) old) ≡ option_map committed (told_while sound (option_map (paged_by batch begun) old))
told_idle sound batch begun old none idle =
    let same : told_while sound (option_map (paged_by batch begun) old) ≡ told_while sound (option_map (paged_by [] false) old) =
    ap (λ (b : List Original). told_while sound (option_map (paged_by b begun) old)) none ∙ ap (λ b. told_while sound (option_map (paged_by [] b) old)) idle in
    same ∙ idle_while sound old ∙ ap (option_map committed) (sym same)

-- what holds after a commit
pub record Done {D : Type 0} (g : Ghosts D) (it : Pager D g) (new : D) : Type 0 where
  pub after : pages_on g new ≡ option_map (with_batch (batch_of it.changes)) (pages_on g it.disk.now)
  pub pages : ForSome (g.content new) (λ files. option_map length (pages_of files.main) ≡ Some it.count)
  pub right : ForSome (pages_on g new) (λ pages. AreOf pages it.clean.entries)
  pub durable : ForSome (paged g it) (λ now. Commits g new now.present)
  pub below : AreBelow it.count it.clean.entries

map_parts : (batch : List Original) (o : Option (List (List ℕ))) (now : List (List ℕ)) → option_map (with_batch batch) o ≡ Some now → (pages : List (List ℕ)) × (o ≡ Some pages) × (with_batch batch pages ≡ now)
map_parts batch None now is = absurd (cc)
map_parts batch (Some pages) now is = (pages, refl, cc)

length_after : (o : Option (List (List ℕ))) (pages : List (List ℕ)) (n : ℕ) → o ≡ Some pages → length pages ≡ n → option_map length o ≡ Some n
length_after o pages n is size = ap (option_map length) is ∙ ap (λ (m : ℕ). Some m) size

pub done : {D : Type 0} (g : Ghosts D) (it : Pager D g) (batch : List Original) (new : D) → batch ≡ batch_of it.changes → it.is_sound ≡ true → Rests g new → WritesPages g batch it.disk.now new
    → ToldAlike (g.content it.disk.now) (g.content new) → Done g it new
done g it batch new is sound rest written alike =
    let after : pages_on g new ≡ option_map (with_batch (batch_of it.changes)) (pages_on g it.disk.now) =
    pages_after it.saved batch (g.content it.disk.now) (g.content new) alike (it.pages sound) written ∙ ap (λ (b : List Original). option_map (with_batch b) (pages_on g it.disk.now)) is in
    record {
      after = after;
      pages = λ files told.
          let was = told_back (λ _ _. ⊤) (g.content it.disk.now) (g.content new) files alike told in
          let pages = some_pages it.saved (pages_of was.0.main) (it.pages sound was.0 was.1) in
          let now = written was.0 was.1 files told pages.0 pages.1 in
          length_after (pages_of files.main) (with_batch batch pages.0) it.count now
          (ap (λ (b : List Original). length (with_batch b pages.0)) is ∙ length_batch (batch_of it.changes) pages.0 0 it.saved (sym pages.2) it.ascending ∙ sym it.counted);
      right = λ pages on k page found.
          let was = map_parts (batch_of it.changes) (pages_on g it.disk.now) pages (sym after ∙ on) in
          let here = stands g it was.0 sound was.1 in
          ap (λ (ps : List (List ℕ)). slice_get ps k) (sym was.2)
          ∙ get_other (batch_of it.changes) was.0 0 it.saved k here.size it.ascending (unchanged g it k page found) (it.below k page found)
          ∙ it.right sound was.0 was.1 k page found;
      durable = λ now told files may.
          let parts = paged_parts g it now told in
          let on : pages_on g new ≡ Some (with_batch (batch_of it.changes) parts.1) = after ∙ ap (option_map (with_batch (batch_of it.changes))) parts.2 in
          let file = pages_parts (g.content new) (with_batch (batch_of it.changes) parts.1) on in
          let rests = rest file.0 file.1 in
          ap recovered_pages (rests.settled files may) ∙ ap (option_and_then pages_of) rests.recovers ∙ file.2
          ∙ ap (λ (p : Paged). Some p.present) parts.3;
      below = λ k page found. let low = it.below k page found in let reach = after_least it.saved (keys_of (batch_of it.changes)) in omega (arith, it.counted);
    }
