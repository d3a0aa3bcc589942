-- How many pages are held.
use Rattle.std.proofs.Common.{◌≡◌, ◌≢◌, ◌⊎◌, ℕ, ◌+◌, ◌<◌, ◌≤◌, max, Bool, true, false, List, [], ◌∷◌, ◌++◌, length, nat_eq, Some, None, refl, sym, ap, subst, ◌∙◌, ⊎_elim, inl, inr, arith}
use Rattle.std.specs.Prelude.{◌||◌}
use Rattle.std.specs.List.{AllByRecursion, IsDistinct, list_any}
use Rattle.std.specs.List.Sorted.{IsStrictlySortedBy}
use Rattle.std.specs.Ordering.{nat_cmp}
use Rattle.std.specs.Map.{keys_of}
use Rattle.std.proofs.lemmas.Bool.{cases_eq}
use Rattle.std.proofs.lemmas.Map.Keys.{IsDistinct-cons}
use Rattle.std.proofs.lemmas.Map.Steps.{length-le_from_distinct_below}
use Rattle.uq_outside.specs.declared.disk.Disk.{Ghosts}
use Rattle.uq_page.specs.declared.page.Page.{Page}
use Rattle.uq_journal.specs.Batches.{Original}
use Rattle.uq_journal.specs.Recovered.{Ascends}
use Rattle.uq_pager.specs.declared.pager.Pager.{Pager}
use Rattle.uq_pager.specs.Batch.{after}
use Rattle.uq_pager.specs.BatchLaws.{after_least}
use Rattle.uq_pager.specs.Changes.{batch_of}
use Rattle.uq_pager.specs.Clean.{clean_of}
use Rattle.uq_pager.specs.Pager.{held_numbers}
use Rattle.uq_pager.specs.Places.{bytes_at, entry_of}
use Rattle.uq_pager.specs.PlacesLaws.{Sorted, all_weaker, each_found, keys_map}
use Rattle.uq_pager.proofs.Cleaning.{clean_head, clean_tail, other_number}

-- ---- the numbers of a batch

apart_above : (k least n : ℕ) (numbers : List ℕ) → k < least → Ascends least n numbers → AllByRecursion (λ j. nat_eq k j ≡ false) numbers
apart_above k least n [] low ascends = tt
apart_above k least n (j ∷ numbers) low ascends =
    let apart : k ≢ j = omega (arith, ascends.0) in
    (other_number k j apart, apart_above k (j + 1) (max n (j + 1)) numbers (omega (arith, ascends.0)) ascends.2)

below_after : (q least n : ℕ) (numbers : List ℕ) → Ascends least n numbers → list_any (nat_eq q) numbers ≡ true → q < after n numbers
below_after q least n [] ascends found = absurd (cc)
below_after q least n (j ∷ numbers) ascends found = ⊎_elim
    (λ (same : q ≡ j). let reach = after_least (max n (j + 1)) numbers in omega arith)
    (λ (apart : q ≢ j). below_after q (j + 1) (max n (j + 1)) numbers ascends.2 (sym (ap (λ b. b || list_any (nat_eq q) numbers) (other_number q j apart)) ∙ found))
    (cases_eq q j)

-- ---- the numbers of the clean pages

clean_listed : (q : ℕ) (clean : List (ℕ × Page)) → list_any (nat_eq q) (keys_of clean) ≡ true → (page : Page) × (clean_of q clean ≡ Some page)
clean_listed q [] found = absurd (cc)
clean_listed q (e ∷ clean) found = ⊎_elim
    (λ (same : q ≡ e.0). (e.1, clean_head q e clean same))
    (λ (apart : q ≢ e.0).
    let on = clean_listed q clean (sym (ap (λ b. b || list_any (nat_eq q) (keys_of clean)) (other_number q e.0 apart)) ∙ found) in
    (on.0, clean_tail q e clean apart ∙ on.1))
    (cases_eq q e.0)

clean_unlisted : (q : ℕ) (clean : List (ℕ × Page)) → clean_of q clean ≡ None → AllByRecursion (λ j. nat_eq q j ≡ false) (keys_of clean)
clean_unlisted q [] none = tt
clean_unlisted q (e ∷ clean) none = ⊎_elim
    (λ (same : q ≡ e.0). absurd (let found = clean_head q e clean same in cc))
    (λ (apart : q ≢ e.0). (other_number q e.0 apart, clean_unlisted q clean (sym (clean_tail q e clean apart) ∙ none)))
    (cases_eq q e.0)

-- ---- both

all_append : {X : Type 0} (P : X → Type 0) (xs ys : List X) → AllByRecursion P xs → AllByRecursion P ys → AllByRecursion P (xs ++ ys)
all_append P [] ys one two = two
all_append P (x ∷ xs) ys one two = (one.0, all_append P xs ys one.1 two)

any_append : (p : ℕ → Bool) (xs ys : List ℕ) → list_any p (xs ++ ys) ≡ true → (list_any p xs ≡ true) ⊎ (list_any p ys ≡ true)
any_append p [] ys found = inr found
any_append p (x ∷ xs) ys found = first (p x) (list_any p xs) (list_any p (xs ++ ys)) (list_any p ys ≡ true) found (any_append p xs ys)
  where
    first : (a b c : Bool) (C : Type 0) → (a || c) ≡ true → (c ≡ true → (b ≡ true) ⊎ C) → ((a || b) ≡ true) ⊎ C
    first true b c C found on = inl refl
    first false b c C found on = on found

distinct_both : (batch : List Original) (others : List ℕ) (least n : ℕ) → Ascends least n (keys_of batch) → AllByRecursion (λ e. AllByRecursion (λ j. nat_eq e.0 j ≡ false) others) batch → IsDistinct nat_eq others → IsDistinct nat_eq (keys_of batch ++ others)
distinct_both [] others least n ascends apart distinct = distinct
distinct_both (e ∷ batch) others least n ascends apart distinct = IsDistinct-cons nat_eq e.0 (keys_of batch ++ others)
    (all_append (λ j. nat_eq e.0 j ≡ false) (keys_of batch) others (apart_above e.0 (e.0 + 1) (max n (e.0 + 1)) (keys_of batch) (omega arith) ascends.2) apart.0)
    (distinct_both batch others (e.0 + 1) (max n (e.0 + 1)) ascends.2 apart.1 distinct)

module _ {D : Type 0} (g : Ghosts D) (it : Pager D g) (distinct : IsDistinct nat_eq (keys_of it.clean.entries)) where
  sorted_batch : Sorted (batch_of it.changes)
  sorted_batch = subst (λ ks. IsStrictlySortedBy nat_cmp ks) (sym (keys_map (bytes_at it.changes.pages.items) it.changes.places.entries)) it.changes.ordered

  -- no number is held twice
  pub held_once : IsDistinct nat_eq (held_numbers g it)
  held_once = distinct_both (batch_of it.changes) (keys_of it.clean.entries) 0 it.saved it.ascending
      (all_weaker (λ e. entry_of e.0 (batch_of it.changes) ≡ Some e.1) (λ e. AllByRecursion (λ j. nat_eq e.0 j ≡ false) (keys_of it.clean.entries)) (batch_of it.changes)
      (λ e found. clean_unlisted e.0 it.clean.entries (it.apart e.0 e.1 found)) (each_found (batch_of it.changes) sorted_batch))
      distinct

  -- and each is the number of a page
  pub held_few : length (held_numbers g it) ≤ it.count
  held_few = length-le_from_distinct_below (held_numbers g it) it.count held_once (λ q found. ⊎_elim
      (λ (changed : list_any (nat_eq q) (keys_of (batch_of it.changes)) ≡ true). subst (λ (n : ℕ). q < n) (sym it.counted) (below_after q 0 it.saved (keys_of (batch_of it.changes)) it.ascending changed))
      (λ (clean : list_any (nat_eq q) (keys_of it.clean.entries) ≡ true).
      let found = clean_listed q it.clean.entries clean in
      let low = it.below q found.0 found.1 in
      let reach = after_least it.saved (keys_of (batch_of it.changes)) in
      omega (arith, it.counted))
      (any_append (nat_eq q) (keys_of (batch_of it.changes)) (keys_of it.clean.entries) found))
