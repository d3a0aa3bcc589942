-- What an opening leaves.
use Rattle.std.proofs.Common.{◌≡◌, ℕ, ◌+◌, ◌*◌, ◌<◌, ◌≤◌, ◌^◌, false, List, [], length, take, drop, Option, Some, None, refl, sym, ap, subst, ◌∙◌, arith}
use Rattle.std.specs.Prelude.{⊤, slice_get}
use Rattle.std.specs.Option.{ForSome, option_map, option_and_then}
use Rattle.uq_outside.specs.declared.disk.Disk.{Ghosts}
use Rattle.uq_outside.specs.Files.{Files}
use Rattle.uq_outside.specs.SinceLaws.{told_some}
use Rattle.uq_outside.specs.Stops.{Only, ToldAlike}
use Rattle.uq_page.specs.declared.layout.TheConstants.{PAGE_SIZE}
use Rattle.uq_journal.specs.Calls.{HoldsRecovered, RecoversToNothing, Rests, recovered_pages}
use Rattle.uq_journal.specs.Pages.{pages_of}
use Rattle.uq_journal.specs.PagesLaws.{has_pages}
use Rattle.uq_journal.specs.Batches.{Original}
use Rattle.uq_pager.specs.Opening.{IsNoDatabase, RecoversToCount, RestsAt, just_opened}
use Rattle.uq_pager.specs.Paged.{paged_by, pages_on}
use Rattle.uq_pager.proofs.Fetching.{rest_still}
use Rattle.uq_pager.specs.PagerLaws.{pages_parts}
use Rattle.uq_pager.proofs.Reading.{main_size, page_read}

-- a main file of so many pages has them
counted : (main : List ℕ) (journal : List ℕ) (n : ℕ) → length main ≡ PAGE_SIZE * n → option_map length (pages_of main) ≡ Some n
counted main journal n size =
    let has = has_pages n (record { main = main; journal = journal }) size in
    ap (option_map length) has.1 ∙ ap (λ (m : ℕ). Some m) has.2

module _ {D : Type 0} (g : Ghosts D) (start opened disk : D) (same : g.content disk ≡ g.content opened) where
  -- the disk rests, with so many pages
  pub rests_at : (n len : ℕ) → Only (g.may_leave opened) (g.may_leave disk) → Rests g opened → ForSome (g.content opened) (λ files. len ≡ length files.main) → len ≡ PAGE_SIZE * n → RestsAt g disk n
  rests_at n len only rest told is files on =
      let size = told files (sym same ∙ on) in
      record { rest = rest_still g opened disk same only rest files on; pages = counted files.main files.journal n (sym size ∙ is) }

  pub main_still : HoldsRecovered g start opened → HoldsRecovered g start disk
  main_still main files on now told = main files on now (sym same ∙ told)

  -- and the files that were there recovered to as many
  pub recovers_to : (n len : ℕ) → ToldAlike (g.content start) (g.content opened) → HoldsRecovered g start opened → ForSome (g.content opened) (λ files. len ≡ length files.main) → len ≡ PAGE_SIZE * n → ForSome (g.content start) (RecoversToCount n)
  recovers_to n len alike main told is files on =
      let now = told_some (λ _ _. ⊤) files (g.content opened) (subst (λ o. ToldAlike o (g.content opened)) on alike) in
      let recovers = main files on now.0 now.1 in
      ap (λ o. option_map length (option_and_then pages_of o)) recovers ∙ counted now.0.main now.0.journal n (sym (told now.0 now.1) ∙ is)

  -- or to no such number
  pub recovers_to_none : (len : ℕ) → ToldAlike (g.content start) (g.content opened) → HoldsRecovered g start opened → ForSome (g.content opened) (λ files. len ≡ length files.main)
      → ((count : ℕ) → count < 2 ^ 32 → len ≡ PAGE_SIZE * count → ⊥) → ForSome (g.content start) IsNoDatabase
  recovers_to_none len alike main told no_count files on count small recovered_to =
      let now = told_some (λ _ _. ⊤) files (g.content opened) (subst (λ o. ToldAlike o (g.content opened)) on alike) in
      let recovers = main files on now.0 now.1 in
      no_count count small (told now.0 now.1 ∙ main_size now.0.main count (sym (ap (λ o. option_map length (option_and_then pages_of o)) recovers) ∙ recovered_to))

-- what recovers to nothing is no database
pub nothing_there : {D : Type 0} (g : Ghosts D) (start : D) → RecoversToNothing g start → ForSome (g.content start) IsNoDatabase
nothing_there g start nothing files on count small is =
    let none : option_map length (recovered_pages files) ≡ None = ap (λ o. option_map length (option_and_then pages_of o)) (nothing files on) in
    cc

-- what a new pager tells
opened_base : (o : Option (List (List ℕ))) → option_map (paged_by [] false) o ≡ option_map just_opened o
opened_base None = refl
opened_base (Some pages) = refl

pub opened_tells : (batch : List Original) (o : Option (List (List ℕ))) → batch ≡ [] → option_map (paged_by batch false) o ≡ option_map just_opened o
opened_tells batch o none = ap (λ (b : List Original). option_map (paged_by b false) o) none ∙ opened_base o

-- the pages of a disk that was just recovered
pub recovered_here : {D : Type 0} (g : Ghosts D) (start disk : D) → ToldAlike (g.content start) (g.content disk) → HoldsRecovered g start disk → ForSome (g.content start) (λ files. pages_on g disk ≡ recovered_pages files)
recovered_here g start disk alike main files on =
    let now = told_some (λ _ _. ⊤) files (g.content disk) (subst (λ o. ToldAlike o (g.content disk)) on alike) in
    ap (option_and_then (λ (f : Files). pages_of f.main)) now.1 ∙ sym (ap (option_and_then pages_of) (main files on now.0 now.1))

-- a page of a disk that rests with so many pages
module _ {D : Type 0} (g : Ghosts D) (disk : D) (n k : ℕ) (rests : RestsAt g disk n) (lt : k < n) where
  pub lies_ready : (size : ℕ) → size ≡ PAGE_SIZE → ForSome (g.content disk) (λ files. PAGE_SIZE * k + size ≤ length files.main)
  lies_ready size is files told = let len = main_size files.main n (rests files told).pages in omega (arith, len, is)

  pub read_ready : (bytes : List ℕ) (size : ℕ) → size ≡ PAGE_SIZE → ForSome (g.content disk) (λ files. bytes ≡ take size (drop (PAGE_SIZE * k) files.main)) → ForSome (pages_on g disk) (λ pages. slice_get pages k ≡ Some bytes)
  read_ready bytes size is read pages on =
      let parts = pages_parts (g.content disk) pages on in
      let counted : Some n ≡ Some (length pages) = sym (rests parts.0 parts.1).pages ∙ ap (option_map length) parts.2 in
      let many : n ≡ length pages = cc in
      page_read parts.0.main pages k size bytes is parts.2 (omega (arith, many)) (read parts.0 parts.1)

-- a call that changes nothing leaves it at rest
pub ready_still : {D : Type 0} (g : Ghosts D) (old new : D) (n : ℕ) → g.content new ≡ g.content old → Only (g.may_leave old) (g.may_leave new) → RestsAt g old n → RestsAt g new n
ready_still g old new n same only rests files told = record {
  rest = rest_still g old new same only (λ f on. (rests f on).rest) files told;
  pages = (rests files (sym same ∙ told)).pages;
}
