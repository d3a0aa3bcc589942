-- What a write of a page leaves of a pager.
use Rattle.std.proofs.Common.{◌≡◌, ◌≢◌, ℕ, ◌+◌, ◌<◌, ◌≤◌, max, Bool, true, false, cond, List, [], ◌∷◌, ◌++◌, length, nat_eq, Option, Some, None, refl, sym, ap, subst, ◌∙◌, ⊎_elim, arith}
use Rattle.std.specs.Prelude.{◌||◌, slice_set, is_some}
use Rattle.std.specs.Option.{option_map}
use Rattle.std.specs.List.{AllByRecursion, IsDistinct}
use Rattle.std.specs.Map.{keys_of, remove_entry}
use Rattle.std.specs.Ordering.{nat_cmp}
use Rattle.std.specs.BTreeMap.{insert_entry}
use Rattle.std.proofs.lemmas.Bool.{cases_eq}
use Rattle.std.proofs.lemmas.Map.Keys.{IsDistinct-head, IsDistinct-tail}
use Rattle.uq_outside.specs.declared.disk.Disk.{Ghosts}
use Rattle.uq_page.specs.declared.page.Page.{Page}
use Rattle.uq_journal.specs.Batches.{Original}
use Rattle.uq_journal.specs.Pages.{with_batch}
use Rattle.uq_journal.specs.Recovered.{Ascends}
use Rattle.uq_pager.specs.declared.pager.Pager.{Pager}
use Rattle.uq_pager.specs.Batch.{after}
use Rattle.uq_pager.specs.BatchLaws.{after_least, after_with, ascends_with, entry_head, entry_tail, grow_change, insert_above, insert_below, insert_same, set_change, three}
use Rattle.uq_pager.specs.Changes.{batch_of}
use Rattle.uq_pager.specs.Clean.{AreApart, clean_of}
use Rattle.uq_pager.specs.Paged.{pages_on, told_while}
use Rattle.uq_pager.specs.Pager.{is_held}
use Rattle.uq_pager.specs.PagerLaws.{stands}
use Rattle.uq_pager.specs.Places.{entry_of}
use Rattle.uq_pager.proofs.Cleaning.{clean_tail, none_or_some, other_number, same_number}
use Rattle.uq_pager.proofs.Reading.{CleanHolds}

-- ---- a page is given up

none_apart : (k : ℕ) (clean : List (ℕ × Page)) → AllByRecursion (λ j. nat_eq k j ≡ false) (keys_of clean) → clean_of k clean ≡ None
none_apart k [] apart = refl
none_apart k (e ∷ clean) apart = ap (λ b. cond b (Some e.1) (clean_of k clean)) apart.0 ∙ none_apart k clean apart.1

pub clean_gone : (k : ℕ) (clean : List (ℕ × Page)) → IsDistinct nat_eq (keys_of clean) → clean_of k (remove_entry (nat_eq k) clean) ≡ None
clean_gone k [] distinct = refl
clean_gone k (e ∷ clean) distinct = ⊎_elim
    (λ (same : k ≡ e.0).
    ap (λ b. clean_of k (cond b clean (e ∷ remove_entry (nat_eq k) clean))) (same_number k e.0 same)
    ∙ ap (λ (n : ℕ). clean_of n clean) same ∙ none_apart e.0 clean (IsDistinct-head nat_eq e.0 (keys_of clean) distinct))
    (λ (apart : k ≢ e.0).
    ap (λ b. clean_of k (cond b clean (e ∷ remove_entry (nat_eq k) clean))) (other_number k e.0 apart)
    ∙ clean_tail k e (remove_entry (nat_eq k) clean) apart ∙ clean_gone k clean (IsDistinct-tail nat_eq e.0 (keys_of clean) distinct))
    (cases_eq k e.0)

pub clean_empty : (k : ℕ) (clean : List (ℕ × Page)) → length clean ≡ 0 → clean_of k clean ≡ None
clean_empty k [] none = refl
clean_empty k (e ∷ clean) none = absurd (omega (arith, none))

-- ---- a change is found

pub entry_with_here : {X : Type 0} (k : ℕ) (x : X) (entries : List (ℕ × X)) → entry_of k (insert_entry nat_cmp entries k x) ≡ Some x
entry_with_here k x [] = entry_head k (k, x) [] refl
entry_with_here {X} k x (e ∷ later) = three (entry_of k (insert_entry nat_cmp (e ∷ later) k x) ≡ Some x) k e.0
    (λ (lt : k < e.0). ap (λ (es : List (ℕ × X)). entry_of k es) (insert_below k x e later lt) ∙ entry_head k (k, x) (e ∷ later) refl)
    (λ (same : k ≡ e.0). ap (λ (es : List (ℕ × X)). entry_of k es) (insert_same k x e later same) ∙ entry_head k (e.0, x) later same)
    (λ (lt : e.0 < k).
    let apart : k ≢ e.0 = omega arith in
    ap (λ (es : List (ℕ × X)). entry_of k es) (insert_above k x e later lt) ∙ entry_tail k e (insert_entry nat_cmp later k x) apart ∙ entry_with_here k x later)

pub entry_with_other : {X : Type 0} (q k : ℕ) (x : X) (entries : List (ℕ × X)) → q ≢ k → entry_of q (insert_entry nat_cmp entries k x) ≡ entry_of q entries
entry_with_other q k x [] apart = entry_tail q (k, x) [] apart
entry_with_other {X} q k x (e ∷ later) apart = three (entry_of q (insert_entry nat_cmp (e ∷ later) k x) ≡ entry_of q (e ∷ later)) k e.0
    (λ (lt : k < e.0). ap (λ (es : List (ℕ × X)). entry_of q es) (insert_below k x e later lt) ∙ entry_tail q (k, x) (e ∷ later) apart)
    (λ (same : k ≡ e.0).
    let away : q ≢ e.0 = λ is. apart (is ∙ sym same) in
    ap (λ (es : List (ℕ × X)). entry_of q es) (insert_same k x e later same) ∙ entry_tail q (e.0, x) later away ∙ sym (entry_tail q e later away))
    (λ (lt : e.0 < k). ap (λ (es : List (ℕ × X)). entry_of q es) (insert_above k x e later lt)
    ∙ ⊎_elim
    (λ (here : q ≡ e.0). entry_head q e (insert_entry nat_cmp later k x) here ∙ sym (entry_head q e later here))
    (λ (away : q ≢ e.0). entry_tail q e (insert_entry nat_cmp later k x) away ∙ entry_with_other q k x later apart ∙ sym (entry_tail q e later away))
    (cases_eq q e.0))

-- what is told after a change of the batch
present_change : (sound : Bool) (old new : List Original) (f : List (List ℕ) → List (List ℕ)) (o : Option (List (List ℕ)))
    → ((pages : List (List ℕ)) → sound ≡ true → o ≡ Some pages → with_batch new pages ≡ f (with_batch old pages))
    → told_while sound (option_map (with_batch new) o) ≡ option_map f (told_while sound (option_map (with_batch old) o))
present_change true old new f (Some pages) each = ap (λ (ps : List (List ℕ)). Some ps) (each pages refl refl)
present_change true old new f None each = refl
present_change false old new f o each = refl

-- The batch of a pager with one change more, of the page k, and its clean pages without that one.
module _ {D : Type 0} (g : Ghosts D) (it : Pager D g) (k : ℕ) (page : List ℕ) (batch : List Original) (is : batch ≡ insert_entry nat_cmp (batch_of it.changes) k page) (within : k ≤ it.count) where
  pub still_ascends : Ascends 0 it.saved (keys_of batch)
  still_ascends = subst (λ (b : List Original). Ascends 0 it.saved (keys_of b)) (sym is)
      (ascends_with (batch_of it.changes) 0 it.saved k page it.ascending (omega arith) (subst (λ (n : ℕ). k ≤ n) it.counted within))

  pub counts_on : after it.saved (keys_of batch) ≡ max it.count (k + 1)
  counts_on = ap (λ (b : List Original). after it.saved (keys_of b)) is
      ∙ after_with (batch_of it.changes) 0 it.saved k page it.ascending (subst (λ (n : ℕ). k ≤ n) it.counted within) ∙ ap (λ (n : ℕ). max n (k + 1)) (sym it.counted)

  pub found_here : entry_of k batch ≡ Some page
  found_here = ap (entry_of k) is ∙ entry_with_here k page (batch_of it.changes)

  pub found_other : (q : ℕ) → q ≢ k → entry_of q batch ≡ entry_of q (batch_of it.changes)
  found_other q apart = ap (entry_of q) is ∙ entry_with_other q k page (batch_of it.changes) apart

  pub still_apart : (clean : List (ℕ × Page)) → clean_of k clean ≡ None → ((q : ℕ) → q ≢ k → clean_of q clean ≡ clean_of q it.clean.entries) → AreApart batch clean
  still_apart clean gone others q bytes found = ⊎_elim
      (λ (same : q ≡ k). ap (λ (n : ℕ). clean_of n clean) same ∙ gone)
      (λ (apart : q ≢ k). others q apart ∙ it.apart q bytes (sym (found_other q apart) ∙ found))
      (cases_eq q k)

  -- it is held, and so is what was
  pub held_here : (clean : List (ℕ × Page)) → (is_some (entry_of k batch) || is_some (clean_of k clean)) ≡ true
  held_here clean = ap (λ o. is_some o || is_some (clean_of k clean)) found_here

  pub held_still : (clean : List (ℕ × Page)) → ((q : ℕ) → q ≢ k → clean_of q clean ≡ clean_of q it.clean.entries) → (q : ℕ) → is_held g it q ≡ true → (is_some (entry_of q batch) || is_some (clean_of q clean)) ≡ true
  held_still clean others q held = ⊎_elim
      (λ (same : q ≡ k). ap (λ (n : ℕ). is_some (entry_of n batch) || is_some (clean_of n clean)) same ∙ held_here clean)
      (λ (apart : q ≢ k). ap (λ o. is_some o || is_some (clean_of q clean)) (found_other q apart) ∙ ap (λ o. is_some (entry_of q (batch_of it.changes)) || is_some o) (others q apart) ∙ held)
      (cases_eq q k)

  -- the page is changed, and no other
  pub present_set : k < it.count → told_while it.is_sound (option_map (with_batch batch) (pages_on g it.disk.now))
      ≡ option_map (λ pages. slice_set pages k page) (told_while it.is_sound (option_map (with_batch (batch_of it.changes)) (pages_on g it.disk.now)))
  present_set lt = present_change it.is_sound (batch_of it.changes) batch (λ pages. slice_set pages k page) (pages_on g it.disk.now)
      (λ pages sound on. ap (λ (b : List Original). with_batch b pages) is
      ∙ set_change (batch_of it.changes) pages 0 it.saved k page (stands g it pages sound on).size it.ascending (omega arith) (subst (λ (n : ℕ). k < n) it.counted lt))

  -- the page is appended
  pub present_grown : k ≡ it.count → told_while it.is_sound (option_map (with_batch batch) (pages_on g it.disk.now))
      ≡ option_map (λ pages. pages ++ page ∷ []) (told_while it.is_sound (option_map (with_batch (batch_of it.changes)) (pages_on g it.disk.now)))
  present_grown last = present_change it.is_sound (batch_of it.changes) batch (λ pages. pages ++ page ∷ []) (pages_on g it.disk.now)
      (λ pages sound on. ap (λ (b : List Original). with_batch b pages) is
      ∙ grow_change (batch_of it.changes) pages 0 it.saved k page (stands g it pages sound on).size it.ascending (last ∙ it.counted))

-- the others are as they were
pub holds_others : {D : Type 0} (g : Ghosts D) (it : Pager D g) (k : ℕ) (clean : List (ℕ × Page)) → clean_of k clean ≡ None → ((q : ℕ) → q ≢ k → clean_of q clean ≡ clean_of q it.clean.entries) → CleanHolds g it clean
holds_others g it k clean gone others =
    let was : (q : ℕ) (page : Page) → clean_of q clean ≡ Some page → clean_of q it.clean.entries ≡ Some page = λ q page found. ⊎_elim
    (λ (same : q ≡ k). let none : clean_of q clean ≡ None = ap (λ (n : ℕ). clean_of n clean) same ∙ gone in absurd (cc))
    (λ (apart : q ≢ k). sym (others q apart) ∙ found)
    (cases_eq q k) in
    record {
      apart = λ q bytes found. ⊎_elim
          (λ (same : q ≡ k). ap (λ (n : ℕ). clean_of n clean) same ∙ gone)
          (λ (apart : q ≢ k). others q apart ∙ it.apart q bytes found)
          (cases_eq q k);
      below = λ q page found. it.below q page (was q page found);
      right = λ sound pages on q page found. it.right sound pages on q page (was q page found);
    }

-- no clean page has a number from the committed count on
pub none_behind : {D : Type 0} (g : Ghosts D) (it : Pager D g) → clean_of it.count it.clean.entries ≡ None
none_behind g it = ⊎_elim
    (λ (none : clean_of it.count it.clean.entries ≡ None). none)
    (λ (found : (page : Page) × (clean_of it.count it.clean.entries ≡ Some page)).
    let low = it.below it.count found.0 found.1 in
    let reach = after_least it.saved (keys_of (batch_of it.changes)) in
    absurd (omega (arith, it.counted)))
    (none_or_some (clean_of it.count it.clean.entries))
