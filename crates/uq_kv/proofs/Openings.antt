-- What an opening finds.
use Rattle.std.proofs.Common.{◌≡◌, ℕ, ◌≤◌, List, [], ◌∷◌, length, Option, Some, None, inl, inr, refl, sym, ap, subst, ◌∙◌, arith}
use Rattle.std.specs.Prelude.{slice_get}
use Rattle.std.specs.Option.{option_and_then, option_map}
use Rattle.uq_outside.specs.declared.disk.Disk.{Ghosts}
use Rattle.uq_outside.specs.declared.fault.FileNo.TheVariants.{Main}
use Rattle.uq_outside.specs.Files.{Files, Keeps}
use Rattle.uq_outside.specs.Since.{Laws}
use Rattle.uq_outside.specs.SinceLaws.{steps_on, steps_weaker}
use Rattle.uq_page.specs.Header.{IsHeader}
use Rattle.uq_page.specs.declared.header.Header.{Header}
use Rattle.uq_journal.specs.Calls.{IsStill, KeepsMainWhereClosed, Stays, recovered_pages}
use Rattle.uq_journal.specs.Pages.{pages_of}
use Rattle.uq_pager.specs.Opening.{RecoversToCount}
use Rattle.uq_pager.specs.Paged.{pages_on}
use Rattle.uq_kv.specs.Database.{HoldEntries, IsDatabase}
use Rattle.uq_kv.specs.Holds.{HasShape, RecoversTo}
use Rattle.uq_kv.specs.Stored.{Stored}
use Rattle.uq_kv.proofs.Databases.{kept, no_keys, with_header}

-- so many pages
counted : (o : Option (List (List ℕ))) (n : ℕ) → option_map length o ≡ Some n → (pages : List (List ℕ)) × (o ≡ Some pages) × (length pages ≡ n)
counted None n is = absurd (cc)
counted (Some pages) n is = (pages, refl, cc)

no_pages : (pages : List (List ℕ)) → length pages ≡ 0 → pages ≡ []
no_pages [] is = refl
no_pages (page ∷ pages) is = absurd (omega arith)

-- ---- where there is no page
module _ (files : Files) (n : ℕ) (count : RecoversToCount n files) (none : n ≡ 0) where
  pub shape_empty : HasShape files
  shape_empty =
      let there = counted (recovered_pages files) n count in
      record { pages = there.0; recovers = there.1; shape = inl (no_pages there.0 (omega (arith, there.2))) }

  pub database_empty : (header : Header) (stored : Stored) (recovers : RecoversTo stored files) → IsDatabase header stored recovers.pages
  database_empty header stored recovers =
      let there = counted (recovered_pages files) n count in
      let same : Some recovers.pages ≡ Some there.0 = sym recovers.recovers ∙ there.1 in
      let long : length recovers.pages ≡ 0 = (let pages : recovers.pages ≡ there.0 = cc in omega (arith, ap length pages, there.2)) in
      inl (record { no_pages = no_pages recovers.pages long; no_keys = no_keys recovers.header stored recovers.pages long (kept recovers.header stored recovers.pages recovers.database) })

-- ---- where there is one
module _ (files : Files) (n : ℕ) (count : RecoversToCount n files) (some : 1 ≤ n) (page : List ℕ) (first : (pages : List (List ℕ)) → recovered_pages files ≡ Some pages → slice_get pages 0 ≡ Some page) where
  -- page 0 is a header that names the number of the pages
  pub shape_named : (header : Header) → IsHeader page header → header.pages ≡ n → HasShape files
  shape_named header fields names =
      let there = counted (recovered_pages files) n count in
      record {
        pages = there.0;
        recovers = there.1;
        shape = inr (record { header = header; head = record { page = page; first = first there.0 there.1; fields = fields }; names = names ∙ sym there.2 });
      }

  -- what a database has on page 0
  pub header_there : (stored : Stored) (recovers : RecoversTo stored files) → HoldEntries recovers.header stored recovers.pages × IsHeader page recovers.header × (recovers.header.pages ≡ n)
  header_there stored recovers =
      let there = counted (recovered_pages files) n count in
      let same : Some recovers.pages ≡ Some there.0 = sym recovers.recovers ∙ there.1 in
      let pages : recovers.pages ≡ there.0 = cc in
      let long : length recovers.pages ≡ n = ap length pages ∙ there.2 in
      let held = with_header recovers.header stored recovers.pages (omega (arith, long)) recovers.database in
      let heads : Some held.head.page ≡ Some page = sym held.head.first ∙ first recovers.pages recovers.recovers in
      let head : held.head.page ≡ page = cc in
      (held, subst (λ (p : List ℕ). IsHeader p recovers.header) head held.head.fields, held.map.counts.count ∙ long)

  -- so it is a database with the header that was read
  pub database_read : (header : Header) → ((other : Header) → IsHeader page other → Some header ≡ Some other) → (stored : Stored) (recovers : RecoversTo stored files) → IsDatabase header stored recovers.pages
  database_read header exact stored recovers =
      let there = header_there stored recovers in
      let read = exact recovers.header there.1 in
      let same : recovers.header ≡ header = cc in
      inr (subst (λ (h : Header). HoldEntries h stored recovers.pages) same there.0)

-- ---- calls that change nothing behind an opening
module _ {D : Type 0} (g : Ghosts D) (laws : Laws g) where
  pub main_behind : (old mid new : D) → KeepsMainWhereClosed g old mid → IsStill g mid new → KeepsMainWhereClosed g old new
  main_behind old mid new keeps still start on closed =
      steps_on g (Keeps Main) (λ a b c one two. two ∙ one) laws.counts_now old mid new (keeps start on closed)
      (steps_weaker g Stays (Keeps Main) (λ a b is. ap (λ (f : Files). f.main) is) mid new still.steps)

-- the same files have the same pages
pub pages_still : {D : Type 0} (g : Ghosts D) (old new : D) → g.content new ≡ g.content old → pages_on g new ≡ pages_on g old
pages_still g old new same = ap (option_and_then (λ (files : Files). pages_of files.main)) same
