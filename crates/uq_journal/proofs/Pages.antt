-- Writes of the pages of a batch.
use Rattle.std.proofs.Common.{◌≡◌, inl, inr, ⊎_elim, ℕ, zero, suc, ◌+◌, ◌*◌, ◌<◌, ◌≤◌, List, [], ◌∷◌, ◌++◌, length, get_or, take, drop, refl, sym, ◌∙◌, ap, subst, arith, Option, Some, None}
use Rattle.std.specs.Prelude.{max}
use Rattle.std.specs.Option.{ForSome, option_map}
use Rattle.std.proofs.lemmas.List.{places, map-append, take_more, drop_more}
use Rattle.std.proofs.lemmas.Bool.{cases_lt}
use Rattle.uq_outside.specs.declared.fault.FileNo.TheVariants.{Main}
use Rattle.uq_outside.specs.Files.{Files, InFile, Torn, in_file}
use Rattle.uq_facts.specs.Written.{written}
use Rattle.uq_page.specs.Page.{bytes_of}
use Rattle.uq_page.specs.declared.layout.TheConstants.{PAGE_SIZE}
use Rattle.uq_journal.specs.Batches.{Original}
use Rattle.uq_journal.specs.PagesLaws.{AreSized}
use Rattle.uq_journal.specs.Recovered.{with_pages, changes, numbers, Ascends}
use Rattle.uq_journal.specs.Steps.{InPages, Covers, Fits}
use Rattle.uq_journal.specs.declared.dirty.Dirty.{Dirty}

pub pages_same : (pages : List Original) (files : Files) → InPages pages files files
pages_same pages files = record { journal = refl; no_shorter = omega arith; same = λ i lt out. refl }

pub pages_on : (pages : List Original) (a b c : Files) → InPages pages a b → InPages pages b c → InPages pages a c
pages_on pages a b c first second = record {
  journal = second.journal ∙ first.journal;
  no_shorter = omega (arith, first.no_shorter, second.no_shorter);
  same = λ i lt out. second.same i (omega (arith, first.no_shorter, lt)) out ∙ first.same i lt out;
}

-- an outcome of a write of one of the pages
pub pages_torn : (pages : List Original) (at n : ℕ) → n ≡ PAGE_SIZE → ((i : ℕ) → (at ≤ i) × (i < at + PAGE_SIZE) → Covers pages i) → (old new : Files) → InFile Main (Torn at n) old new → InPages pages old new
pages_torn pages at n size covers old new step = record {
  journal = ap (λ (f : Files). f.journal) step.other;
  no_shorter = step.here.no_shorter;
  same = λ i lt out. step.here.same i lt (⊎_elim (λ (front : i < at). inl front) (λ (past : at ≤ i). ⊎_elim (λ (within : i < at + PAGE_SIZE). absurd (out (covers i (past, within)))) (λ (behind : at + PAGE_SIZE ≤ i). inr (omega (arith, size, behind))) (cases_lt i (at + PAGE_SIZE))) (cases_lt i at));
}

-- a page of the batch covers its bytes
covers_this : (dirty : List Dirty) (k : ℕ) (none : Dirty) → k < length dirty → (i : ℕ) → (PAGE_SIZE * (get_or dirty k none).no ≤ i) × (i < PAGE_SIZE * (get_or dirty k none).no + PAGE_SIZE) → Covers (changes dirty) i
covers_this [] k none lt i within = absurd (omega arith)
covers_this (d ∷ dirty) zero none lt i within = inl within
covers_this (d ∷ dirty) (suc k) none lt i within = inr (covers_this dirty k none (omega arith) i within)

-- page k of a batch
module _ (dirty : List Dirty) (k : ℕ) (page : Dirty) (is : page ≡ get_or dirty k page) (lt : k < length dirty) where
  pub covers_at : (i : ℕ) → (PAGE_SIZE * page.no ≤ i) × (i < PAGE_SIZE * page.no + PAGE_SIZE) → Covers (changes dirty) i
  covers_at i within = covers_this dirty k page lt i (subst (λ (d : Dirty). (PAGE_SIZE * d.no ≤ i) × (i < PAGE_SIZE * d.no + PAGE_SIZE)) is within)

  pub front_more : take (k + 1) dirty ≡ take k dirty ++ page ∷ []
  front_more = take_more dirty k page lt ∙ ap (λ (d : Dirty). take k dirty ++ d ∷ []) (sym is)

  pub rest_more : drop k dirty ≡ page ∷ drop (k + 1) dirty
  rest_more = drop_more dirty k page lt ∙ ap (λ (d : Dirty). d ∷ drop (k + 1) dirty) (sym is)

pub with_more : (xs : List Original) (y : Original) (main : List ℕ) → with_pages (xs ++ y ∷ []) main ≡ written (PAGE_SIZE * y.0) y.1 (with_pages xs main)
with_more [] y main = refl
with_more (x ∷ xs) y main = with_more xs y (written (PAGE_SIZE * x.0) x.1 main)

-- one page more of what is told
pub told_more : (xs : List Dirty) (d : Dirty) (start mid new : Option Files) → mid ≡ option_map (in_file Main (with_pages (changes xs))) start → new ≡ option_map (in_file Main (written (PAGE_SIZE * d.no) (bytes_of d.page))) mid → new ≡ option_map (in_file Main (with_pages (changes (xs ++ d ∷ [])))) start
told_more xs d None mid new so_far ok = ok ∙ ap (option_map (in_file Main (written (PAGE_SIZE * d.no) (bytes_of d.page)))) so_far
told_more xs d (Some files) mid new so_far ok =
    let change : Dirty → Original = λ it. (it.no, bytes_of it.page) in
    ok ∙ ap (option_map (in_file Main (written (PAGE_SIZE * d.no) (bytes_of d.page)))) so_far
    ∙ ap (λ (m : List ℕ). Some (in_file Main (λ _. m) files)) (sym (ap (λ ps. with_pages ps files.main) (map-append change xs (d ∷ [])) ∙ with_more (changes xs) (change d) files.main))

length_one : (at : ℕ) (bytes old : List ℕ) → at ≤ length old → length (written at bytes old) ≡ max (length old) (at + length bytes)
length_one at bytes old le = grind (arith, places)

pub fits_more : (d : Dirty) (later : List Dirty) (mid new : Option Files) → length (bytes_of d.page) ≡ PAGE_SIZE → ForSome mid (λ files. Fits (length files.main) (changes (d ∷ later))) → new ≡ option_map (in_file Main (written (PAGE_SIZE * d.no) (bytes_of d.page))) mid → ForSome new (λ files. Fits (length files.main) (changes later))
fits_more d later None new size fits ok files told = let same : None ≡ Some files = sym ok ∙ told in absurd (cc)
fits_more d later (Some was) new size fits ok files told =
    let here = fits was refl in
    let same : in_file Main (written (PAGE_SIZE * d.no) (bytes_of d.page)) was ≡ files = cc (ok, told) in
    subst (λ f. Fits (length f.main) (changes later)) same
    (subst (λ (n : ℕ). Fits n (changes later)) (sym (length_one (PAGE_SIZE * d.no) (bytes_of d.page) was.main here.0 ∙ ap (λ (n : ℕ). max (length was.main) (PAGE_SIZE * d.no + n)) size)) here.1)

pub fits_ascending : (least pages : ℕ) (dirty : List Dirty) → Ascends least pages (numbers dirty) → Fits (PAGE_SIZE * pages) (changes dirty)
fits_ascending least pages [] up = tt
fits_ascending least pages (d ∷ dirty) up =
    let size : max (PAGE_SIZE * pages) (PAGE_SIZE * d.no + PAGE_SIZE) ≡ PAGE_SIZE * max pages (d.no + 1) = omega arith in
    (omega (arith, up.1), subst (λ (n : ℕ). Fits n (changes dirty)) (sym size) (fits_ascending (d.no + 1) (max pages (d.no + 1)) dirty up.2))

-- the pages of a batch are whole
pub sized : (dirty : List Dirty) → AreSized (changes dirty)
sized [] = tt
sized (d ∷ dirty) = (d.page.size, sized dirty)
