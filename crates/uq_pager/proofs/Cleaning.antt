-- What is held of clean pages after a change of them.
use Rattle.std.proofs.Common.{◌≡◌, ◌≢◌, ℕ, zero, suc, ◌-◌, ◌⊎◌, true, false, cond, List, [], ◌∷◌, take, nat_eq, Option, Some, None, refl, sym, ap, ◌∙◌, ⊎_elim, inl, inr, arith}
use Rattle.std.specs.Option.{option_map_or}
use Rattle.std.specs.Map.{lookup_entry, remove_entry}
use Rattle.std.proofs.lemmas.Bool.{cases_eq}
use Rattle.std.proofs.lemmas.Bool.Decides.{nat_tests}
use Rattle.lru.specs.LruCache.{LruCache, promoted, put_entries}
use Rattle.uq_page.specs.declared.page.Page.{Page}
use Rattle.uq_pager.specs.Clean.{clean_of}

abbrev Clean : Type 0
Clean = List (ℕ × Page)

pub same_number : (j k : ℕ) → j ≡ k → nat_eq j k ≡ true
same_number j k same = grind (arith, nat_tests)

pub other_number : (j k : ℕ) → j ≢ k → nat_eq j k ≡ false
other_number j k apart = grind (arith, nat_tests)

pub clean_head : (k : ℕ) (e : ℕ × Page) (later : Clean) → k ≡ e.0 → clean_of k (e ∷ later) ≡ Some e.1
clean_head k e later same = ap (λ b. cond b (Some e.1) (clean_of k later)) (same_number k e.0 same)

pub clean_tail : (k : ℕ) (e : ℕ × Page) (later : Clean) → k ≢ e.0 → clean_of k (e ∷ later) ≡ clean_of k later
clean_tail k e later apart = ap (λ b. cond b (Some e.1) (clean_of k later)) (other_number k e.0 apart)

-- fewer pages hold no other
pub clean_take : (n k : ℕ) (clean : Clean) (page : Page) → clean_of k (take n clean) ≡ Some page → clean_of k clean ≡ Some page
clean_take zero k clean page found = absurd (cc)
clean_take (suc n) k [] page found = absurd (cc)
clean_take (suc n) k (e ∷ clean) page found = ⊎_elim
    (λ (same : k ≡ e.0). clean_head k e clean same ∙ sym (clean_head k e (take n clean) same) ∙ found)
    (λ (apart : k ≢ e.0). clean_tail k e clean apart ∙ clean_take n k clean page (sym (clean_tail k e (take n clean) apart) ∙ found))
    (cases_eq k e.0)

pub none_or_some : {X : Type 0} (o : Option X) → (o ≡ None) ⊎ ((x : X) × (o ≡ Some x))
none_or_some None = inl refl
none_or_some (Some x) = inr (x, refl)

pub clean_take_none : (n k : ℕ) (clean : Clean) → clean_of k clean ≡ None → clean_of k (take n clean) ≡ None
clean_take_none n k clean none = ⊎_elim
    (λ (is : clean_of k (take n clean) ≡ None). is)
    (λ (found : (page : Page) × (clean_of k (take n clean) ≡ Some page)). let was = clean_take n k clean found.0 found.1 in absurd (cc))
    (none_or_some (clean_of k (take n clean)))

-- ---- a page is used

entry_none : (k : ℕ) (clean : Clean) → clean_of k clean ≡ None → lookup_entry (nat_eq k) clean ≡ None
entry_none k [] none = refl
entry_none k (e ∷ clean) none = ⊎_elim
    (λ (same : k ≡ e.0). absurd (let found = clean_head k e clean same in cc))
    (λ (apart : k ≢ e.0). ap (λ b. cond b (Some e) (lookup_entry (nat_eq k) clean)) (other_number k e.0 apart) ∙ entry_none k clean (sym (clean_tail k e clean apart) ∙ none))
    (cases_eq k e.0)

moved_first : (q k : ℕ) (clean : Clean) (e : ℕ × Page) → lookup_entry (nat_eq k) clean ≡ Some e → (k ≡ e.0) × (clean_of q (e ∷ remove_entry (nat_eq k) clean) ≡ clean_of q clean)
moved_first q k [] e found = absurd (cc)
moved_first q k (f ∷ clean) e found = ⊎_elim
    (λ (same : k ≡ f.0).
    let is : f ≡ e = let here = ap (λ b. cond b (Some f) (lookup_entry (nat_eq k) clean)) (same_number k f.0 same) in cc in (
      same ∙ ap (λ (p : ℕ × Page). p.0) is,
      ap (λ b. clean_of q (e ∷ cond b clean (f ∷ remove_entry (nat_eq k) clean))) (same_number k f.0 same) ∙ ap (λ (p : ℕ × Page). clean_of q (p ∷ clean)) (sym is),
    ))
    (λ (apart : k ≢ f.0).
    let on = moved_first q k clean e (sym (ap (λ b. cond b (Some f) (lookup_entry (nat_eq k) clean)) (other_number k f.0 apart)) ∙ found) in (
      on.0,
      ap (λ b. clean_of q (e ∷ cond b clean (f ∷ remove_entry (nat_eq k) clean))) (other_number k f.0 apart)
          ∙ ⊎_elim
          (λ (first : q ≡ e.0).
          let away : q ≢ f.0 = λ is. apart (on.0 ∙ sym first ∙ is) in
          clean_head q e (f ∷ remove_entry (nat_eq k) clean) first ∙ sym (clean_head q e (remove_entry (nat_eq k) clean) first) ∙ on.1 ∙ sym (clean_tail q f clean away))
          (λ (second : q ≢ e.0). clean_tail q e (f ∷ remove_entry (nat_eq k) clean) second
          ∙ ⊎_elim
          (λ (here : q ≡ f.0). clean_head q f (remove_entry (nat_eq k) clean) here ∙ sym (clean_head q f clean here))
          (λ (away : q ≢ f.0). clean_tail q f (remove_entry (nat_eq k) clean) away ∙ sym (clean_tail q e (remove_entry (nat_eq k) clean) second) ∙ on.1 ∙ sym (clean_tail q f clean away))
          (cases_eq q f.0))
          (cases_eq q e.0),
    ))
    (cases_eq k f.0)

-- the same pages are held
pub clean_promoted : (q k : ℕ) (clean : Clean) → clean_of q (promoted (nat_eq k) clean) ≡ clean_of q clean
clean_promoted q k clean = ⊎_elim
    (λ (none : lookup_entry (nat_eq k) clean ≡ None). ap (λ o. clean_of q (option_map_or (λ e. e ∷ remove_entry (nat_eq k) clean) o clean)) none)
    (λ (found : (e : ℕ × Page) × (lookup_entry (nat_eq k) clean ≡ Some e)).
    ap (λ o. clean_of q (option_map_or (λ e. e ∷ remove_entry (nat_eq k) clean) o clean)) found.1 ∙ (moved_first q k clean found.0 found.1).1)
    (none_or_some (lookup_entry (nat_eq k) clean))

-- ---- a page is taken up

pub put_new : (clean : LruCache ℕ Page) (k : ℕ) (page : Page) → clean_of k clean.entries ≡ None → put_entries nat_eq clean k page ≡ (k, page) ∷ take (clean.cap - 1) clean.entries
put_new clean k page none = ap (λ o. option_map_or (λ e. (e.0, page) ∷ remove_entry (nat_eq k) clean.entries) o ((k, page) ∷ take (clean.cap - 1) clean.entries)) (entry_none k clean.entries none)

-- ---- a page is given up

pub clean_removed : (q k : ℕ) (clean : Clean) → q ≢ k → clean_of q (remove_entry (nat_eq k) clean) ≡ clean_of q clean
clean_removed q k [] apart = refl
clean_removed q k (e ∷ clean) apart = ⊎_elim
    (λ (same : k ≡ e.0).
    let away : q ≢ e.0 = λ is. apart (is ∙ sym same) in
    ap (λ b. clean_of q (cond b clean (e ∷ remove_entry (nat_eq k) clean))) (same_number k e.0 same) ∙ sym (clean_tail q e clean away))
    (λ (other : k ≢ e.0). ap (λ b. clean_of q (cond b clean (e ∷ remove_entry (nat_eq k) clean))) (other_number k e.0 other)
    ∙ ⊎_elim
    (λ (here : q ≡ e.0). clean_head q e (remove_entry (nat_eq k) clean) here ∙ sym (clean_head q e clean here))
    (λ (away : q ≢ e.0). clean_tail q e (remove_entry (nat_eq k) clean) away ∙ clean_removed q k clean apart ∙ sym (clean_tail q e clean away))
    (cases_eq q e.0))
    (cases_eq k e.0)
