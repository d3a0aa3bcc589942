-- What a batch of pages in ascending order leaves of the pages that were there.
use Rattle.std.proofs.Common.{◌≡◌, ◌≢◌, ℕ, ◌+◌, ◌<◌, ◌≤◌, max, Bool, true, false, cond, List, [], ◌∷◌, ◌++◌, length, Some, None, refl, sym, ap, subst, ◌∙◌, ⊎_elim, arith, length-append, length-set}
use Rattle.std.specs.Prelude.{nat_lt, slice_get, slice_set}
use Rattle.std.specs.declared.cmp.Ordering.{Ordering}
use Rattle.std.specs.declared.cmp.Ordering.TheVariants.{Less, Equal, Greater}
use Rattle.std.specs.Ordering.{match_ordering, nat_cmp}
use Rattle.std.specs.Map.{keys_of}
use Rattle.std.specs.BTreeMap.{insert_entry, is_at}
use Rattle.std.proofs.lemmas.Bool.{cases_lt, cases_eq}
use Rattle.std.proofs.lemmas.Bool.Decides.{nat_tests}
use Rattle.std.proofs.lemmas.List.{set_at, set_comm, set-set, set-append_left}
use Rattle.uq_journal.specs.Batches.{Original}
use Rattle.uq_journal.specs.Pages.{with_page, with_batch}
use Rattle.uq_journal.specs.Recovered.{Ascends}
use Rattle.uq_pager.specs.Batch.{after}
use Rattle.uq_pager.specs.Places.{entry_of}
use Rattle.uq_pager.specs.Lists.{get_push, get_pushed, get_set_here, get_set_other}

abbrev Pages : Type 0
Pages = List (List ℕ)

-- ---- one page

page_within : (k : ℕ) (page : List ℕ) (pages : Pages) → k < length pages → with_page k page pages ≡ slice_set pages k page
page_within k page pages lt =
    let test : nat_lt k (length pages) ≡ true = grind (arith, nat_tests) in
    ap (λ (b : Bool). cond b (slice_set pages k page) (pages ++ page ∷ [])) test

page_behind : (k : ℕ) (page : List ℕ) (pages : Pages) → length pages ≤ k → with_page k page pages ≡ pages ++ page ∷ []
page_behind k page pages le =
    let test : nat_lt k (length pages) ≡ false = grind (arith, nat_tests) in
    ap (λ (b : Bool). cond b (slice_set pages k page) (pages ++ page ∷ [])) test

-- by whether the page was there
module _ (k : ℕ) (page : List ℕ) (pages : Pages) (fits : k ≤ length pages) where
  length_with : length (with_page k page pages) ≡ max (length pages) (k + 1)
  length_with = ⊎_elim
      (λ (lt : k < length pages). ap length (page_within k page pages lt) ∙ length-set pages k page ∙ (omega arith))
      (λ (le : length pages ≤ k). ap length (page_behind k page pages le) ∙ length-append pages (page ∷ []) ∙ (omega arith))
      (cases_lt k (length pages))

  get_with_here : slice_get (with_page k page pages) k ≡ Some page
  get_with_here = ⊎_elim
      (λ (lt : k < length pages). ap (λ (ps : Pages). slice_get ps k) (page_within k page pages lt) ∙ get_set_here pages k page lt)
      (λ (le : length pages ≤ k). ap (λ (ps : Pages). slice_get ps k) (page_behind k page pages le) ∙ get_pushed pages page k (omega arith))
      (cases_lt k (length pages))

  get_with_other : (j : ℕ) → j ≢ k → j < length pages → slice_get (with_page k page pages) j ≡ slice_get pages j
  get_with_other j apart there = ⊎_elim
      (λ (lt : k < length pages). ap (λ (ps : Pages). slice_get ps j) (page_within k page pages lt) ∙ get_set_other pages k j page apart)
      (λ (le : length pages ≤ k). ap (λ (ps : Pages). slice_get ps j) (page_behind k page pages le) ∙ get_push pages page j there)
      (cases_lt k (length pages))

-- ---- a whole batch

pub length_batch : (batch : List Original) (pages : Pages) (least n : ℕ) → n ≡ length pages → Ascends least n (keys_of batch) → length (with_batch batch pages) ≡ after n (keys_of batch)
length_batch [] pages least n size ascends = sym size
length_batch (e ∷ later) pages least n size ascends =
    let fits : e.0 ≤ length pages = omega (arith, ascends.1, size) in
    let next : max n (e.0 + 1) ≡ length (with_page e.0 e.1 pages) = omega (arith, length_with e.0 e.1 pages fits, size) in
    length_batch later (with_page e.0 e.1 pages) (e.0 + 1) (max n (e.0 + 1)) next ascends.2

-- a page below the batch stays
pub get_below : (batch : List Original) (pages : Pages) (least n j : ℕ) → n ≡ length pages → Ascends least n (keys_of batch) → j < least → j < n → slice_get (with_batch batch pages) j ≡ slice_get pages j
get_below [] pages least n j size ascends below there = refl
get_below (e ∷ later) pages least n j size ascends below there =
    let fits : e.0 ≤ length pages = omega (arith, ascends.1, size) in
    let apart : j ≢ e.0 = omega (arith, ascends.0) in
    let next : max n (e.0 + 1) ≡ length (with_page e.0 e.1 pages) = omega (arith, length_with e.0 e.1 pages fits, size) in
    get_below later (with_page e.0 e.1 pages) (e.0 + 1) (max n (e.0 + 1)) j next ascends.2 (omega (arith, ascends.0)) (omega arith)
    ∙ get_with_other e.0 e.1 pages fits j apart (omega (arith, size))

-- ---- what a batch has for a number

pub equal_at : (j k : ℕ) → j ≡ k → is_at (nat_cmp j) k ≡ true
equal_at j k same = grind (arith, nat_tests)

pub other_at : (j k : ℕ) → j ≢ k → is_at (nat_cmp j) k ≡ false
other_at j k apart = grind (arith, nat_tests)

-- a number that the head does not have
pub entry_tail : {X : Type 0} (j : ℕ) (e : ℕ × X) (later : List (ℕ × X)) → j ≢ e.0 → entry_of j (e ∷ later) ≡ entry_of j later
entry_tail j e later apart = ap (λ b. cond b (Some e.1) (entry_of j later)) (other_at j e.0 apart)

pub entry_head : {X : Type 0} (j : ℕ) (e : ℕ × X) (later : List (ℕ × X)) → j ≡ e.0 → entry_of j (e ∷ later) ≡ Some e.1
entry_head j e later same = ap (λ b. cond b (Some e.1) (entry_of j later)) (equal_at j e.0 same)

pub get_other : (batch : List Original) (pages : Pages) (least n j : ℕ) → n ≡ length pages → Ascends least n (keys_of batch) → entry_of j batch ≡ None → j < n → slice_get (with_batch batch pages) j ≡ slice_get pages j
get_other [] pages least n j size ascends none there = refl
get_other (e ∷ later) pages least n j size ascends none there = ⊎_elim
    (λ (same : j ≡ e.0). absurd (let found = entry_head j e later same in cc))
    (λ (apart : j ≢ e.0).
    let fits : e.0 ≤ length pages = omega (arith, ascends.1, size) in
    let next : max n (e.0 + 1) ≡ length (with_page e.0 e.1 pages) = omega (arith, length_with e.0 e.1 pages fits, size) in
    get_other later (with_page e.0 e.1 pages) (e.0 + 1) (max n (e.0 + 1)) j next ascends.2 (sym (entry_tail j e later apart) ∙ none) (omega arith)
    ∙ get_with_other e.0 e.1 pages fits j apart (omega (arith, size)))
    (cases_eq j e.0)

pub get_here : (batch : List Original) (pages : Pages) (least n j : ℕ) (page : List ℕ) → n ≡ length pages → Ascends least n (keys_of batch) → entry_of j batch ≡ Some page → slice_get (with_batch batch pages) j ≡ Some page
get_here [] pages least n j page size ascends found = absurd (cc)
get_here (e ∷ later) pages least n j page size ascends found =
    let fits : e.0 ≤ length pages = omega (arith, ascends.1, size) in
    let next : max n (e.0 + 1) ≡ length (with_page e.0 e.1 pages) = omega (arith, length_with e.0 e.1 pages fits, size) in
    ⊎_elim
    (λ (same : j ≡ e.0).
    get_below later (with_page e.0 e.1 pages) (e.0 + 1) (max n (e.0 + 1)) j next ascends.2 (omega arith) (omega arith)
    ∙ ap (slice_get (with_page e.0 e.1 pages)) same ∙ get_with_here e.0 e.1 pages fits ∙ sym (entry_head j e later same) ∙ found)
    (λ (apart : j ≢ e.0). get_here later (with_page e.0 e.1 pages) (e.0 + 1) (max n (e.0 + 1)) j page next ascends.2 (sym (entry_tail j e later apart) ∙ found))
    (cases_eq j e.0)

-- a page that the batch does not have was there
pub was_there : (batch : List Original) (least n j : ℕ) → Ascends least n (keys_of batch) → entry_of j batch ≡ None → j < after n (keys_of batch) → j < n
was_there [] least n j ascends none lt = lt
was_there (e ∷ later) least n j ascends none lt = ⊎_elim
    (λ (same : j ≡ e.0). absurd (let found = entry_head j e later same in cc))
    (λ (apart : j ≢ e.0).
    let below : j < max n (e.0 + 1) = was_there later (e.0 + 1) (max n (e.0 + 1)) j ascends.2 (sym (entry_tail j e later apart) ∙ none) lt in
    omega (arith, ascends.1))
    (cases_eq j e.0)

-- no page is lost
pub after_least : (pages : ℕ) (numbers : List ℕ) → pages ≤ after pages numbers
after_least pages [] = omega arith
after_least pages (k ∷ later) = let more = after_least (max pages (k + 1)) later in omega arith

-- ---- one more change

compare_below : (j k : ℕ) → j < k → nat_cmp j k ≡ Less
compare_below j k lt = grind (arith, nat_tests)

compare_same : (j k : ℕ) → j ≡ k → nat_cmp j k ≡ Equal
compare_same j k same = grind (arith, nat_tests)

compare_above : (j k : ℕ) → k < j → nat_cmp j k ≡ Greater
compare_above j k lt = grind (arith, nat_tests)

module _ {X : Type 0} (k : ℕ) (x : X) (e : ℕ × X) (later : List (ℕ × X)) where
  pub insert_below : k < e.0 → insert_entry nat_cmp (e ∷ later) k x ≡ (k, x) ∷ e ∷ later
  insert_below lt = ap (λ (o : Ordering). match_ordering o ((k, x) ∷ e ∷ later) ((e.0, x) ∷ later) (e ∷ insert_entry nat_cmp later k x)) (compare_below k e.0 lt)

  pub insert_same : k ≡ e.0 → insert_entry nat_cmp (e ∷ later) k x ≡ (e.0, x) ∷ later
  insert_same same = ap (λ (o : Ordering). match_ordering o ((k, x) ∷ e ∷ later) ((e.0, x) ∷ later) (e ∷ insert_entry nat_cmp later k x)) (compare_same k e.0 same)

  pub insert_above : e.0 < k → insert_entry nat_cmp (e ∷ later) k x ≡ e ∷ insert_entry nat_cmp later k x
  insert_above lt = ap (λ (o : Ordering). match_ordering o ((k, x) ∷ e ∷ later) ((e.0, x) ∷ later) (e ∷ insert_entry nat_cmp later k x)) (compare_above k e.0 lt)

-- below, at or above
pub three : (C : Type 0) (j k : ℕ) → (j < k → C) → (j ≡ k → C) → (k < j → C) → C
three C j k below same above = ⊎_elim below (λ (le : k ≤ j). ⊎_elim same (λ (apart : j ≢ k). above (omega arith)) (cases_eq j k)) (cases_lt j k)

-- the numbers still ascend
pub ascends_with : (batch : List Original) (least n k : ℕ) (page : List ℕ) → Ascends least n (keys_of batch) → least ≤ k → k ≤ after n (keys_of batch) → Ascends least n (keys_of (insert_entry nat_cmp batch k page))
ascends_with [] least n k page ascends above within = (above, within, tt)
ascends_with (e ∷ later) least n k page ascends above within = three (Ascends least n (keys_of (insert_entry nat_cmp (e ∷ later) k page))) k e.0
    (λ (lt : k < e.0).
    let same : max n (e.0 + 1) ≡ max (max n (k + 1)) (e.0 + 1) = omega (arith, ascends.1) in
    subst (λ (b : List Original). Ascends least n (keys_of b)) (sym (insert_below k page e later lt))
    (above, omega (arith, ascends.1), (omega arith, omega (arith, ascends.1), subst (λ (m : ℕ). Ascends (e.0 + 1) m (keys_of later)) same ascends.2)))
    (λ (same : k ≡ e.0). subst (λ (b : List Original). Ascends least n (keys_of b)) (sym (insert_same k page e later same)) ascends)
    (λ (lt : e.0 < k). subst (λ (b : List Original). Ascends least n (keys_of b)) (sym (insert_above k page e later lt))
    (ascends.0, ascends.1, ascends_with later (e.0 + 1) (max n (e.0 + 1)) k page ascends.2 (omega arith) within))

-- how many pages there are then
pub after_with : (batch : List Original) (least n k : ℕ) (page : List ℕ) → Ascends least n (keys_of batch) → k ≤ after n (keys_of batch) → after n (keys_of (insert_entry nat_cmp batch k page)) ≡ max (after n (keys_of batch)) (k + 1)
after_with [] least n k page ascends within = refl
after_with (e ∷ later) least n k page ascends within = three (after n (keys_of (insert_entry nat_cmp (e ∷ later) k page)) ≡ max (after n (keys_of (e ∷ later))) (k + 1)) k e.0
    (λ (lt : k < e.0).
    let same : max (max n (k + 1)) (e.0 + 1) ≡ max n (e.0 + 1) = omega (arith, ascends.1) in
    let least' = after_least (max n (e.0 + 1)) (keys_of later) in
    ap (λ (b : List Original). after n (keys_of b)) (insert_below k page e later lt) ∙ ap (λ (m : ℕ). after m (keys_of later)) same ∙ (omega arith))
    (λ (same : k ≡ e.0).
    let least' = after_least (max n (e.0 + 1)) (keys_of later) in
    ap (λ (b : List Original). after n (keys_of b)) (insert_same k page e later same) ∙ (omega arith))
    (λ (lt : e.0 < k). ap (λ (b : List Original). after n (keys_of b)) (insert_above k page e later lt) ∙ after_with later (e.0 + 1) (max n (e.0 + 1)) k page ascends.2 within)

-- ---- a page that is there, written
set_with : (k j : ℕ) (page other : List ℕ) (pages : Pages) → k ≤ length pages → j ≢ k → j < length pages → slice_set (with_page k page pages) j other ≡ with_page k page (slice_set pages j other)
set_with k j page other pages fits apart there = ⊎_elim
    (λ (lt : k < length pages).
    ap (λ (ps : Pages). slice_set ps j other) (page_within k page pages lt) ∙ set_comm pages k j page other (λ same. apart (sym same))
    ∙ sym (page_within k page (slice_set pages j other) (omega (arith, length-set pages j other))))
    (λ (le : length pages ≤ k).
    ap (λ (ps : Pages). slice_set ps j other) (page_behind k page pages le) ∙ set-append_left pages (page ∷ []) j other there
    ∙ sym (page_behind k page (slice_set pages j other) (omega (arith, length-set pages j other))))
    (cases_lt k (length pages))

-- below the batch
set_below : (batch : List Original) (pages : Pages) (least n j : ℕ) (page : List ℕ) → n ≡ length pages → Ascends least n (keys_of batch) → j < least → j < n → with_batch batch (slice_set pages j page) ≡ slice_set (with_batch batch pages) j page
set_below [] pages least n j page size ascends below there = refl
set_below (e ∷ later) pages least n j page size ascends below there =
    let fits : e.0 ≤ length pages = omega (arith, ascends.1, size) in
    let apart : j ≢ e.0 = omega (arith, ascends.0) in
    let next : max n (e.0 + 1) ≡ length (with_page e.0 e.1 pages) = omega (arith, length_with e.0 e.1 pages fits, size) in
    ap (with_batch later) (sym (set_with e.0 j e.1 page pages fits apart (omega (arith, size))))
    ∙ set_below later (with_page e.0 e.1 pages) (e.0 + 1) (max n (e.0 + 1)) j page next ascends.2 (omega (arith, ascends.0)) (omega arith)

-- its own page, once more
set_again : (k : ℕ) (page other : List ℕ) (pages : Pages) → k ≤ length pages → slice_set (with_page k page pages) k other ≡ with_page k other pages
set_again k page other pages fits = ⊎_elim
    (λ (lt : k < length pages). ap (λ (ps : Pages). slice_set ps k other) (page_within k page pages lt) ∙ set-set pages k page other ∙ sym (page_within k other pages lt))
    (λ (le : length pages ≤ k).
    let size : length pages ≡ k = omega arith in
    ap (λ (ps : Pages). slice_set ps k other) (page_behind k page pages le) ∙ set_at pages page [] other k size ∙ sym (page_behind k other pages le))
    (cases_lt k (length pages))

-- A change of a page that is there changes that page alone.
pub set_change : (batch : List Original) (pages : Pages) (least n k : ℕ) (page : List ℕ) → n ≡ length pages → Ascends least n (keys_of batch) → least ≤ k → k < after n (keys_of batch)
    → with_batch (insert_entry nat_cmp batch k page) pages ≡ slice_set (with_batch batch pages) k page
set_change [] pages least n k page size ascends above there = page_within k page pages (omega (arith, size))
set_change (e ∷ later) pages least n k page size ascends above there =
    let fits : e.0 ≤ length pages = omega (arith, ascends.1, size) in
    let next : max n (e.0 + 1) ≡ length (with_page e.0 e.1 pages) = omega (arith, length_with e.0 e.1 pages fits, size) in
    three (with_batch (insert_entry nat_cmp (e ∷ later) k page) pages ≡ slice_set (with_batch (e ∷ later) pages) k page) k e.0
    (λ (lt : k < e.0).
    let low : Ascends e.0 n (keys_of (e ∷ later)) = (omega arith, ascends.1, ascends.2) in
    ap (λ (b : List Original). with_batch b pages) (insert_below k page e later lt) ∙ ap (with_batch (e ∷ later)) (page_within k page pages (omega (arith, size)))
    ∙ set_below (e ∷ later) pages e.0 n k page size low lt (omega (arith, ascends.1)))
    (λ (same : k ≡ e.0).
    ap (λ (b : List Original). with_batch b pages) (insert_same k page e later same) ∙ ap (with_batch later) (sym (set_again e.0 e.1 page pages fits))
    ∙ set_below later (with_page e.0 e.1 pages) (e.0 + 1) (max n (e.0 + 1)) e.0 page next ascends.2 (omega arith) (omega arith)
    ∙ ap (λ (j : ℕ). slice_set (with_batch (e ∷ later) pages) j page) (sym same))
    (λ (lt : e.0 < k). ap (λ (b : List Original). with_batch b pages) (insert_above k page e later lt)
    ∙ set_change later (with_page e.0 e.1 pages) (e.0 + 1) (max n (e.0 + 1)) k page next ascends.2 (omega arith) there)

-- A page behind the last one is appended.
pub grow_change : (batch : List Original) (pages : Pages) (least n k : ℕ) (page : List ℕ) → n ≡ length pages → Ascends least n (keys_of batch) → k ≡ after n (keys_of batch)
    → with_batch (insert_entry nat_cmp batch k page) pages ≡ with_batch batch pages ++ page ∷ []
grow_change [] pages least n k page size ascends is = page_behind k page pages (omega (arith, size, is))
grow_change (e ∷ later) pages least n k page size ascends is =
    let fits : e.0 ≤ length pages = omega (arith, ascends.1, size) in
    let next : max n (e.0 + 1) ≡ length (with_page e.0 e.1 pages) = omega (arith, length_with e.0 e.1 pages fits, size) in
    let reach = after_least (max n (e.0 + 1)) (keys_of later) in
    let lt : e.0 < k = omega (arith, reach, is) in
    ap (λ (b : List Original). with_batch b pages) (insert_above k page e later lt)
    ∙ grow_change later (with_page e.0 e.1 pages) (e.0 + 1) (max n (e.0 + 1)) k page next ascends.2 is
