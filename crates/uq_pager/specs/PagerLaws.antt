-- Laws of what contracts see of a pager.
use Rattle.std.specs.Prelude.{◌≡◌, ℕ, Bool, true, false, List, length, All, Option, Some, None}
use Rattle.std.specs.Option.{ForSome, option_map, option_and_then}
use Rattle.std.proofs.Common.{refl, sym, ap, subst, ◌∙◌}
use Rattle.std.proofs.lemmas.List.Elements.{All-from_recursion}
use Rattle.uq_outside.specs.declared.disk.Disk.{Ghosts}
use Rattle.uq_outside.specs.Files.{Files}
use Rattle.uq_outside.specs.Since.{Laws}
use Rattle.uq_page.specs.declared.layout.TheConstants.{PAGE_SIZE}
use Rattle.uq_journal.specs.Calls.{IsAtRest, recovered_pages}
use Rattle.uq_journal.specs.Pages.{IsWhole, pages_of, with_batch}
use Rattle.uq_journal.specs.PagesLaws.{batch_whole, these_pages}
use Rattle.uq_pager.specs.declared.pager.Pager.{Pager}
use Rattle.uq_pager.specs.BatchLaws.{length_batch}
use Rattle.uq_pager.specs.Changes.{batch_of}
use Rattle.uq_pager.specs.ChangesLaws.{changes_sized}
use Rattle.uq_pager.specs.KeepsLaws.{keeps_itself, keeps_on, still_itself, still_on}
use Rattle.uq_pager.specs.Paged.{pages_on, told_while}
use Rattle.uq_pager.specs.Pager.{IsCommitted, KeepsPager, OnlyReads, present}

-- what is told while this holds
pub told_parts : {X Y : Type 0} (sound : Bool) (f : X → Y) (told : Option X) (y : Y) → told_while sound (option_map f told) ≡ Some y → (sound ≡ true) × (x : X) × (told ≡ Some x) × (f x ≡ y)
told_parts true f (Some x) y is = (refl, x, refl, cc)
told_parts true f None y is = absurd (cc)
told_parts false f told y is = absurd (cc)

pub told_sound : {X : Type 0} (sound : Bool) (told : Option X) (x : X) → told_while sound told ≡ Some x → (sound ≡ true) × (told ≡ Some x)
told_sound true told x is = (refl, is)
told_sound false told x is = absurd (cc)

-- the files behind pages
pub pages_parts : (content : Option Files) (pages : List (List ℕ)) → option_and_then (λ files. pages_of files.main) content ≡ Some pages → (files : Files) × (content ≡ Some files) × (pages_of files.main ≡ Some pages)
pages_parts None pages is = absurd (cc)
pages_parts (Some files) pages is = (files, refl, is)

length_parts : (o : Option (List (List ℕ))) (pages : List (List ℕ)) (n : ℕ) → option_map length o ≡ Some n → o ≡ Some pages → n ≡ length pages
length_parts o pages n size is = let same : Some n ≡ Some (length pages) = sym size ∙ ap (option_map length) is in cc

-- the present pages of a pager, and the committed ones behind them
pub record Stands {D : Type 0} (g : Ghosts D) (it : Pager D g) (pages : List (List ℕ)) : Type 0 where
  pub files : Files
  pub told : g.content it.disk.now ≡ Some files
  pub main : pages_of files.main ≡ Some pages
  pub size : it.saved ≡ length pages
  pub rest : IsAtRest g it.disk.now files

module _ {D : Type 0} (g : Ghosts D) where
  pub stands : (it : Pager D g) (pages : List (List ℕ)) → it.is_sound ≡ true → pages_on g it.disk.now ≡ Some pages → Stands g it pages
  stands it pages sound is =
      let parts = pages_parts (g.content it.disk.now) pages is in
      record {
        files = parts.0;
        told = parts.1;
        main = parts.2;
        size = length_parts (pages_of parts.0.main) pages it.saved (it.pages sound parts.0 parts.1) parts.2;
        rest = it.rest sound parts.0 parts.1;
      }

  pub present_parts : (it : Pager D g) (now : List (List ℕ)) → present g it ≡ Some now → (pages : List (List ℕ)) × (with_batch (batch_of it.changes) pages ≡ now) × (it.is_sound ≡ true) × (pages_on g it.disk.now ≡ Some pages)
  present_parts it now is =
      let parts = told_parts it.is_sound (with_batch (batch_of it.changes)) (pages_on g it.disk.now) now is in
      (parts.1, parts.3, parts.0, parts.2)

  pub size_is : (it : Pager D g) → ForSome (present g it) (λ pages. it.count ≡ length pages)
  size_is it now is =
      let parts = present_parts it now is in
      let here = stands it parts.0 parts.2 parts.3 in
      it.counted ∙ sym (length_batch (batch_of it.changes) parts.0 0 it.saved here.size it.ascending) ∙ ap length parts.1

  pub whole : (it : Pager D g) → ForSome (present g it) (All (λ page. length page ≡ PAGE_SIZE))
  whole it now is =
      let parts = present_parts it now is in
      let here = stands it parts.0 parts.2 parts.3 in
      subst (All IsWhole) parts.1
      (All-from_recursion IsWhole (with_batch (batch_of it.changes) parts.0) (batch_whole (batch_of it.changes) parts.0 (changes_sized it.changes) (these_pages here.files.main parts.0 here.main).whole))

  -- a stop now leaves the committed pages
  pub is_committed : (it : Pager D g) → IsCommitted g it
  is_committed it pages is left may =
      let sound = told_sound it.is_sound (pages_on g it.disk.now) pages is in
      let here = stands it pages sound.0 sound.1 in
      let same : left ≡ here.files = here.rest.settled left may in
      ap recovered_pages same ∙ ap (option_and_then pages_of) here.rest.recovers ∙ here.main

  module _ (laws : Laws g) where
    pub keeps_pager : (it : Pager D g) → KeepsPager g it it
    keeps_pager it = record { disk = keeps_itself g laws it.disk; sound = λ s. s; committed = λ _. refl; begun = λ b. b; cache = refl }

    pub keeps_pager_on : (a b c : Pager D g) → KeepsPager g a b → KeepsPager g b c → KeepsPager g a c
    keeps_pager_on a b c first second = record {
      disk = keeps_on g laws a.disk b.disk c.disk first.disk second.disk;
      sound = λ s. first.sound (second.sound s);
      committed = λ s. second.committed s ∙ first.committed (second.sound s);
      begun = λ b. second.begun (first.begun b);
      cache = second.cache ∙ first.cache;
    }

    pub reads_pager : (it : Pager D g) → OnlyReads g it it
    reads_pager it = record { keeps = keeps_pager it; still = still_itself g laws it.disk.now; paged = λ _. refl; begun = refl; changes = refl }

    pub reads_pager_on : (a b c : Pager D g) → OnlyReads g a b → OnlyReads g b c → OnlyReads g a c
    reads_pager_on a b c first second = record {
      keeps = keeps_pager_on a b c first.keeps second.keeps;
      still = still_on g laws a.disk.now b.disk.now c.disk.now first.still second.still;
      paged = λ s. second.paged s ∙ first.paged (second.keeps.sound s);
      begun = second.begun ∙ first.begun;
      changes = second.changes ∙ first.changes;
    }
