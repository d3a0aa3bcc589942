-- What a pager reads.
use Rattle.std.proofs.Common.{◌≡◌, ◌≢◌, ℕ, zero, suc, ◌+◌, ◌*◌, ◌<◌, ◌≤◌, Bool, true, false, List, [], ◌∷◌, ◌++◌, length, take, drop, Option, Some, None, refl, sym, ap, subst, ◌∙◌, ⊎_elim, arith}
use Rattle.std.specs.Prelude.{◌||◌, slice_get, is_some}
use Rattle.std.specs.Option.{ForSome, option_map}
use Rattle.std.proofs.lemmas.Bool.{cases_eq}
use Rattle.std.proofs.lemmas.List.{take_at}
use Rattle.std.proofs.Math.Seq.{drop-append-add}
use Rattle.uq_outside.specs.declared.disk.Disk.{Ghosts}
use Rattle.uq_page.specs.Page.{bytes_of}
use Rattle.uq_page.specs.declared.page.Page.{Page}
use Rattle.uq_page.specs.declared.layout.TheConstants.{PAGE_SIZE}
use Rattle.uq_journal.specs.Pages.{joined, pages_of}
use Rattle.uq_journal.specs.PagesLaws.{AreWhole, these_pages}
use Rattle.uq_pager.specs.declared.pager.Pager.{Pager}
use Rattle.uq_pager.specs.BatchLaws.{get_here, get_other, was_there}
use Rattle.uq_pager.specs.Changes.{batch_of}
use Rattle.uq_pager.specs.Clean.{AreApart, AreBelow, AreOf, clean_of}
use Rattle.uq_pager.specs.Paged.{pages_on}
use Rattle.uq_pager.specs.Pager.{is_held, present}
use Rattle.uq_pager.specs.PagerLaws.{present_parts, stands}
use Rattle.uq_pager.specs.Places.{entry_of}
use Rattle.uq_pager.proofs.Cleaning.{clean_head, clean_tail, clean_take, clean_take_none, none_or_some}

-- a page among the bytes of the pages
get_joined : (pages : List (List ℕ)) (k at : ℕ) → at ≡ PAGE_SIZE * k → AreWhole pages → k < length pages → slice_get pages k ≡ Some (take PAGE_SIZE (drop at (joined pages)))
get_joined [] k at is whole lt = absurd (omega arith)
get_joined (page ∷ pages) zero at is whole lt =
    let none : at ≡ 0 = omega (arith, is) in
    ap (λ (p : List ℕ). Some p) (sym (take_at page (joined pages) PAGE_SIZE whole.0)) ∙ ap (λ (n : ℕ). Some (take PAGE_SIZE (drop n (page ++ joined pages)))) (sym none)
get_joined (page ∷ pages) (suc k) at is whole lt =
    let place : at ≡ length page + PAGE_SIZE * k = omega (arith, is, whole.0) in
    get_joined pages k (PAGE_SIZE * k) refl whole.1 (omega arith)
    ∙ ap (λ (l : List ℕ). Some (take PAGE_SIZE l)) (sym (drop-append-add page (joined pages) (PAGE_SIZE * k)))
    ∙ ap (λ (n : ℕ). Some (take PAGE_SIZE (drop n (page ++ joined pages)))) (sym place)

-- the bytes of a page of a main file are that page
pub page_read : (main : List ℕ) (pages : List (List ℕ)) (k size : ℕ) (bytes : List ℕ) → size ≡ PAGE_SIZE → pages_of main ≡ Some pages → k < length pages → bytes ≡ take size (drop (PAGE_SIZE * k) main) → slice_get pages k ≡ Some bytes
page_read main pages k size bytes is these_are lt read =
    let these = these_pages main pages these_are in
    get_joined pages k (PAGE_SIZE * k) refl these.whole lt
    ∙ ap (λ (m : List ℕ). Some (take PAGE_SIZE (drop (PAGE_SIZE * k) m))) (sym these.bytes)
    ∙ ap (λ (n : ℕ). Some (take n (drop (PAGE_SIZE * k) main))) (sym is)
    ∙ ap (λ (b : List ℕ). Some b) (sym read)

-- how long a main file is
size_by : (main : List ℕ) (n : ℕ) (o : Option (List (List ℕ))) → pages_of main ≡ o → option_map length o ≡ Some n → length main ≡ PAGE_SIZE * n
size_by main n None is size = absurd (cc)
size_by main n (Some pages) is size =
    let same : length pages ≡ n = cc in
    (these_pages main pages is).size ∙ ap (λ (m : ℕ). PAGE_SIZE * m) same

pub main_size : (main : List ℕ) (n : ℕ) → option_map length (pages_of main) ≡ Some n → length main ≡ PAGE_SIZE * n
main_size main n = size_by main n (pages_of main) refl

pub or_true : (b : Bool) → (b || true) ≡ true
or_true true = refl
or_true false = refl

module _ {D : Type 0} (g : Ghosts D) (it : Pager D g) (k : ℕ) where
  -- a changed page
  pub changed_page : (bytes : List ℕ) → Some bytes ≡ entry_of k (batch_of it.changes) → ForSome (present g it) (λ pages. slice_get pages k ≡ Some bytes)
  changed_page bytes found now is =
      let parts = present_parts g it now is in
      let here = stands g it parts.0 parts.2 parts.3 in
      ap (λ ps. slice_get ps k) (sym parts.1) ∙ get_here (batch_of it.changes) parts.0 0 it.saved k bytes here.size it.ascending (sym found)

  -- another page is that of the main file
  pub other_page : (bytes : List ℕ) → entry_of k (batch_of it.changes) ≡ None → k < it.saved → ForSome (pages_on g it.disk.now) (λ pages. slice_get pages k ≡ Some bytes) → ForSome (present g it) (λ pages. slice_get pages k ≡ Some bytes)
  other_page bytes none lt read now is =
      let parts = present_parts g it now is in
      let here = stands g it parts.0 parts.2 parts.3 in
      ap (λ ps. slice_get ps k) (sym parts.1) ∙ get_other (batch_of it.changes) parts.0 0 it.saved k here.size it.ascending none lt ∙ read parts.0 parts.3

  pub unchanged : (page : Page) → clean_of k it.clean.entries ≡ Some page → entry_of k (batch_of it.changes) ≡ None
  unchanged page found = ⊎_elim
      (λ (none : entry_of k (batch_of it.changes) ≡ None). none)
      (λ (changed : (bytes : List ℕ) × (entry_of k (batch_of it.changes) ≡ Some bytes)). let none = it.apart k changed.0 changed.1 in absurd (cc))
      (none_or_some (entry_of k (batch_of it.changes)))

  -- a clean page
  pub clean_page : (page : Page) → Some page ≡ clean_of k it.clean.entries → ForSome (present g it) (λ pages. slice_get pages k ≡ Some (bytes_of page))
  clean_page page found now is =
      let parts = present_parts g it now is in
      other_page (bytes_of page) (unchanged page (sym found)) (it.below k page (sym found)) (λ pages on. it.right parts.2 pages on k page (sym found)) now is

  -- what is not held was committed
  pub away_entry : is_held g it k ≡ false → entry_of k (batch_of it.changes) ≡ None
  away_entry away = ⊎_elim
      (λ (none : entry_of k (batch_of it.changes) ≡ None). none)
      (λ (changed : (bytes : List ℕ) × (entry_of k (batch_of it.changes) ≡ Some bytes)).
      let held : is_held g it k ≡ true = ap (λ o. is_some o || is_some (clean_of k it.clean.entries)) changed.1 in absurd (cc))
      (none_or_some (entry_of k (batch_of it.changes)))

  pub away_clean : is_held g it k ≡ false → clean_of k it.clean.entries ≡ None
  away_clean away = ⊎_elim
      (λ (none : clean_of k it.clean.entries ≡ None). none)
      (λ (found : (page : Page) × (clean_of k it.clean.entries ≡ Some page)).
      let held : is_held g it k ≡ true = ap (λ o. is_some (entry_of k (batch_of it.changes)) || is_some o) found.1 ∙ or_true (is_some (entry_of k (batch_of it.changes))) in absurd (cc))
      (none_or_some (clean_of k it.clean.entries))

  pub was_saved : k < it.count → entry_of k (batch_of it.changes) ≡ None → k < it.saved
  was_saved lt none = was_there (batch_of it.changes) 0 it.saved k it.ascending none (subst (λ (n : ℕ). k < n) it.counted lt)

  -- its bytes lie in the main file
  pub lies_within : (size : ℕ) → size ≡ PAGE_SIZE → it.is_sound ≡ true → k < it.saved → ForSome (g.content it.disk.now) (λ files. PAGE_SIZE * k + size ≤ length files.main)
  lies_within size is sound lt files told = let len = main_size files.main it.saved (it.pages sound files told) in omega (arith, len, is)

  -- what a read of them gives
  pub read_bytes : (bytes : List ℕ) (size : ℕ) → size ≡ PAGE_SIZE → it.is_sound ≡ true → k < it.saved → ForSome (g.content it.disk.now) (λ files. bytes ≡ take size (drop (PAGE_SIZE * k) files.main))
      → ForSome (pages_on g it.disk.now) (λ pages. slice_get pages k ≡ Some bytes)
  read_bytes bytes size is sound lt read pages on =
      let here = stands g it pages sound on in
      page_read here.files.main pages k size bytes is here.main (omega (arith, here.size)) (read here.files here.told)

-- what holds of the clean pages
pub record CleanHolds {D : Type 0} (g : Ghosts D) (it : Pager D g) (clean : List (ℕ × Page)) : Type 0 where
  pub apart : AreApart (batch_of it.changes) clean
  pub below : AreBelow it.saved clean
  pub right : it.is_sound ≡ true → ForSome (pages_on g it.disk.now) (λ pages. AreOf pages clean)

module _ {D : Type 0} (g : Ghosts D) (it : Pager D g) where
  -- the same pages in another order
  pub holds_same : (clean : List (ℕ × Page)) → ((q : ℕ) → clean_of q clean ≡ clean_of q it.clean.entries) → CleanHolds g it clean
  holds_same clean same = record {
    apart = λ k page found. same k ∙ it.apart k page found;
    below = λ k page found. it.below k page (sym (same k) ∙ found);
    right = λ sound pages on k page found. it.right sound pages on k page (sym (same k) ∙ found);
  }

  -- and one page more, in place of others
  pub holds_new : (k n : ℕ) (page : Page) (clean : List (ℕ × Page)) → clean ≡ (k, page) ∷ take n it.clean.entries → entry_of k (batch_of it.changes) ≡ None → k < it.saved
      → (it.is_sound ≡ true → ForSome (pages_on g it.disk.now) (λ pages. slice_get pages k ≡ Some (bytes_of page))) → CleanHolds g it clean
  holds_new k n page clean is none lt read = subst (CleanHolds g it) (sym is) (record {
    apart = λ q bytes found.
        let away : q ≢ k = λ same. let missing : entry_of q (batch_of it.changes) ≡ None = ap (λ (m : ℕ). entry_of m (batch_of it.changes)) same ∙ none in absurd (cc) in
        clean_tail q (k, page) (take n it.clean.entries) away ∙ clean_take_none n q it.clean.entries (it.apart q bytes found);
    below = λ q other found. ⊎_elim
        (λ (same : q ≡ k). omega (arith, lt))
        (λ (away : q ≢ k). it.below q other (clean_take n q it.clean.entries other (sym (clean_tail q (k, page) (take n it.clean.entries) away) ∙ found)))
        (cases_eq q k);
    right = λ sound pages on q other found. ⊎_elim
        (λ (same : q ≡ k).
        let here = clean_head q (k, page) (take n it.clean.entries) same in
        let is : page ≡ other = cc in
        ap (slice_get pages) same ∙ read sound pages on ∙ ap (λ (p : Page). Some (bytes_of p)) is)
        (λ (away : q ≢ k). it.right sound pages on q other (clean_take n q it.clean.entries other (sym (clean_tail q (k, page) (take n it.clean.entries) away) ∙ found)))
        (cases_eq q k);
  })
