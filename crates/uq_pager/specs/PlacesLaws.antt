-- How changed pages are found by their numbers, and how they come into order.
use Rattle.std.proofs.Common.{◌≡◌, ◌≢◌, ℕ, zero, suc, ◌<◌, ◌≤◌, cond, List, [], ◌∷◌, ◌++◌, map, length, get_or, Some, None, refl, sym, ap, subst, ◌∙◌, ⊎_elim, arith, length-append}
use Rattle.std.specs.Prelude.{slice_get, slice_set}
use Rattle.std.specs.Option.{option_map, option_map_or}
use Rattle.std.specs.List.{AllByRecursion}
use Rattle.std.specs.List.Sorted.{IsStrictlySortedBy}
use Rattle.std.specs.Cmp.{nat_cmp_total, eq_by_cmp_equiv}
use Rattle.std.specs.Ordering.{nat_cmp}
use Rattle.std.specs.declared.cmp.Ordering.TheVariants.{Less}
use Rattle.std.specs.Map.{keys_of}
use Rattle.std.specs.BTreeMap.{insert_entry, is_at}
use Rattle.std.proofs.lemmas.Bool.{cases_lt, cases_eq}
use Rattle.std.proofs.lemmas.Bool.Decides.{nat_tests}
use Rattle.std.proofs.lemmas.Map.Keys.{sorted_head, sorted_tail, IsDistinct-from_sorted}
use Rattle.std.proofs.lemmas.Map.Entries.{lookup_from_place}
use Rattle.uq_journal.specs.Batches.{Original}
use Rattle.uq_journal.specs.declared.dirty.Dirty.{Dirty}
use Rattle.uq_page.specs.Page.{bytes_of}
use Rattle.uq_pager.specs.Places.{Places, bytes_at, entry_of, in_order, number_at}
use Rattle.uq_pager.specs.Lists.{get_push, get_pushed, get_read, get_set_here, get_set_other}
use Rattle.uq_pager.specs.BatchLaws.{equal_at, other_at, entry_head, entry_tail, three, insert_below, insert_same, insert_above}

-- ---- entries in order

abbrev pub Sorted : {X : Type 0} → List (ℕ × X) → Type 0
Sorted entries = IsStrictlySortedBy nat_cmp (keys_of entries)

less_is : (j k : ℕ) → nat_cmp j k ≡ Less → j < k
less_is j k less = grind (arith, nat_tests)

-- the numbers behind a number are above it
abbrev pub AllAbove : {X : Type 0} → ℕ → List (ℕ × X) → Type 0
AllAbove k entries = AllByRecursion (λ e. k < e.0) entries

above_of : {X : Type 0} (k : ℕ) (entries : List (ℕ × X)) → AllByRecursion (λ j. nat_cmp k j ≡ Less) (keys_of entries) → AllAbove k entries
above_of k [] all = tt
above_of k (e ∷ later) all = (less_is k e.0 all.0, above_of k later all.1)

pub head_above : {X : Type 0} (e : ℕ × X) (later : List (ℕ × X)) → Sorted (e ∷ later) → AllAbove e.0 later
head_above e later sorted = above_of e.0 later (sorted_head nat_cmp e.0 (keys_of later) sorted)

pub tail_sorted : {X : Type 0} (e : ℕ × X) (later : List (ℕ × X)) → Sorted (e ∷ later) → Sorted later
tail_sorted e later sorted = sorted_tail nat_cmp e.0 (keys_of later) sorted

pub above_on : {X : Type 0} (j k : ℕ) (entries : List (ℕ × X)) → j ≤ k → AllAbove k entries → AllAbove j entries
above_on j k [] le all = tt
above_on j k (e ∷ later) le all = (omega (arith, all.0), above_on j k later le all.1)

pub none_below : {X : Type 0} (k : ℕ) (entries : List (ℕ × X)) → AllAbove k entries → entry_of k entries ≡ None
none_below k [] all = refl
none_below k (e ∷ later) all = let apart : k ≢ e.0 = omega (arith, all.0) in entry_tail k e later apart ∙ none_below k later all.1

-- what holds at each place holds of each
all_from_places : {X : Type 0} (P : ℕ × X → Type 0) (entries : List (ℕ × X)) → ((i : ℕ) (e : ℕ × X) → slice_get entries i ≡ Some e → P e) → AllByRecursion P entries
all_from_places P [] each = tt
all_from_places P (e ∷ later) each = (each 0 e refl, all_from_places P later (λ i. each (suc i)))

-- each entry is found by its number
pub each_found : {X : Type 0} (entries : List (ℕ × X)) → Sorted entries → AllByRecursion (λ e. entry_of e.0 entries ≡ Some e.1) entries
each_found entries sorted = all_from_places (λ e. entry_of e.0 entries ≡ Some e.1) entries
    (λ i e is. lookup_from_place (eq_by_cmp_equiv nat_cmp_total) entries i e.0 e.1 (IsDistinct-from_sorted nat_cmp (keys_of entries) sorted) is)

pub all_weaker : {X : Type 0} (P Q : X → Type 0) (xs : List X) → ((x : X) → P x → Q x) → AllByRecursion P xs → AllByRecursion Q xs
all_weaker P Q [] weak all = tt
all_weaker P Q (x ∷ xs) weak all = (weak x all.0, all_weaker P Q xs weak all.1)

-- ---- a map of the entries

abbrev mapped : (ℕ → List ℕ) → List (ℕ × ℕ) → List Original
mapped f entries = map (λ e. (e.0, f e.1)) entries

module _ (f : ℕ → List ℕ) where
  pub entry_map : (k : ℕ) (entries : List (ℕ × ℕ)) → entry_of k (mapped f entries) ≡ option_map f (entry_of k entries)
  entry_map k [] = refl
  entry_map k (e ∷ later) = ⊎_elim
      (λ (same : k ≡ e.0). entry_head k (e.0, f e.1) (mapped f later) same ∙ ap (option_map f) (sym (entry_head k e later same)))
      (λ (apart : k ≢ e.0). entry_tail k (e.0, f e.1) (mapped f later) apart ∙ entry_map k later ∙ ap (option_map f) (sym (entry_tail k e later apart)))
      (cases_eq k e.0)

  pub keys_map : (entries : List (ℕ × ℕ)) → keys_of (mapped f entries) ≡ keys_of entries
  keys_map [] = refl
  keys_map (e ∷ later) = ap (λ ks. e.0 ∷ ks) (keys_map later)

-- what is there, put in again
pub insert_again : {X : Type 0} (k : ℕ) (x : X) (entries : List (ℕ × X)) → Sorted entries → entry_of k entries ≡ Some x → insert_entry nat_cmp entries k x ≡ entries
insert_again k x [] sorted found = absurd (cc)
insert_again k x (e ∷ later) sorted found = three (insert_entry nat_cmp (e ∷ later) k x ≡ e ∷ later) k e.0
    (λ (lt : k < e.0). let none = none_below k (e ∷ later) (lt, above_on k e.0 later (omega arith) (head_above e later sorted)) in absurd (cc))
    (λ (same : k ≡ e.0).
    let here = entry_head k e later same in
    let is : e.1 ≡ x = cc in
    insert_same k x e later same ∙ ap (λ y. (e.0, y) ∷ later) (sym is))
    (λ (lt : e.0 < k).
    let apart : k ≢ e.0 = omega arith in
    insert_above k x e later lt ∙ ap (λ es. e ∷ es) (insert_again k x later (tail_sorted e later sorted) (sym (entry_tail k e later apart) ∙ found)))

-- two maps that agree but for one number
module _ (f g : ℕ → List ℕ) (k at : ℕ) where
  abbrev pub Agrees : ℕ × ℕ → Type 0
  Agrees e = e.0 ≢ k → g e.1 ≡ f e.1

  map_above : (entries : List (ℕ × ℕ)) → AllAbove k entries → AllByRecursion Agrees entries → mapped g entries ≡ mapped f entries
  map_above [] above agree = refl
  map_above (e ∷ later) above agree =
      let apart : e.0 ≢ k = omega (arith, above.0) in
      ap (λ (page : List ℕ). (e.0, page) ∷ mapped g later) (agree.0 apart) ∙ ap (λ (es : List Original). (e.0, f e.1) ∷ es) (map_above later above.1 agree.1)

  pub map_insert : (entries : List (ℕ × ℕ)) → Sorted entries → AllByRecursion Agrees entries → mapped g (insert_entry nat_cmp entries k at) ≡ insert_entry nat_cmp (mapped f entries) k (g at)
  map_insert [] sorted agree = refl
  map_insert (e ∷ later) sorted agree =
      three (mapped g (insert_entry nat_cmp (e ∷ later) k at) ≡ insert_entry nat_cmp (mapped f (e ∷ later)) k (g at)) k e.0
      (λ (lt : k < e.0).
      let above : AllAbove k (e ∷ later) = (lt, above_on k e.0 later (omega arith) (head_above e later sorted)) in
      ap (mapped g) (insert_below k at e later lt) ∙ ap (λ (es : List Original). (k, g at) ∷ es) (map_above (e ∷ later) above agree)
      ∙ sym (insert_below k (g at) (e.0, f e.1) (mapped f later) lt))
      (λ (same : k ≡ e.0).
      let above : AllAbove k later = above_on k e.0 later (omega arith) (head_above e later sorted) in
      ap (mapped g) (insert_same k at e later same) ∙ ap (λ (es : List Original). (e.0, g at) ∷ es) (map_above later above agree.1)
      ∙ sym (insert_same k (g at) (e.0, f e.1) (mapped f later) same))
      (λ (lt : e.0 < k).
      let apart : e.0 ≢ k = omega arith in
      ap (mapped g) (insert_above k at e later lt)
      ∙ ap (λ (page : List ℕ). (e.0, page) ∷ mapped g (insert_entry nat_cmp later k at)) (agree.0 apart)
      ∙ ap (λ (es : List Original). (e.0, f e.1) ∷ es) (map_insert later (tail_sorted e later sorted) agree.1)
      ∙ sym (insert_above k (g at) (e.0, f e.1) (mapped f later) lt))

-- ---- pages at their places

pub number_some : (pages : List Dirty) (at k : ℕ) → number_at pages at ≡ Some k → at < length pages
number_some [] at k is = absurd (cc)
number_some (d ∷ pages) zero k is = omega arith
number_some (d ∷ pages) (suc at) k is = let lt = number_some pages at k is in omega arith

pub bytes_read : (pages : List Dirty) (at : ℕ) (d : Dirty) → slice_get pages at ≡ Some d → bytes_at pages at ≡ bytes_of d.page
bytes_read pages at d is = ap (λ o. option_map_or (λ it. bytes_of it.page) o []) is

pub number_read : (pages : List Dirty) (at : ℕ) (d : Dirty) → slice_get pages at ≡ Some d → number_at pages at ≡ Some d.no
number_read pages at d is = ap (option_map (λ it. it.no)) is

-- each place of the entries is one of the pages
pub each_within : (from : ℕ) (pages : List Dirty) (places : List (ℕ × ℕ)) → Sorted places → Places from pages places → AllByRecursion (λ e. e.1 < length pages) places
each_within from pages places sorted placed = all_weaker (λ e. entry_of e.0 places ≡ Some e.1) (λ e. e.1 < length pages) places
    (λ e found. number_some pages e.1 e.0 ((placed e.0 e.1).0 found).1) (each_found places sorted)

-- what is found in the order
pub found_in_order : (pages : List Dirty) (places : List (ℕ × ℕ)) (k : ℕ) → entry_of k (in_order pages places) ≡ option_map (bytes_at pages) (entry_of k places)
found_in_order pages places k = entry_map (bytes_at pages) k places

-- a new page
placed_pushed : (pages : List Dirty) (d : Dirty) (old new : List (ℕ × ℕ)) → Places 0 pages old → entry_of d.no old ≡ None
    → ((q : ℕ) → entry_of q new ≡ cond (is_at (nat_cmp d.no) q) (Some (length pages)) (entry_of q old)) → Places 0 (pages ++ d ∷ []) new
placed_pushed pages d old new placed none entries k at = ⊎_elim
    (λ (same : d.no ≡ k).
    let is : entry_of k new ≡ Some (length pages) = entries k ∙ ap (λ b. cond b (Some (length pages)) (entry_of k old)) (equal_at d.no k same) in (
      (λ found. let here : at ≡ length pages = cc in (omega arith, number_read (pages ++ d ∷ []) at d (get_pushed pages d at here) ∙ ap (λ n. Some n) same)),
      (λ there. ⊎_elim
          (λ (lt : at < length pages).
          let was : number_at pages at ≡ Some k = ap (option_map (λ it. it.no)) (sym (get_push pages d at lt)) ∙ there.1 in
          let found = (placed k at).1 (omega arith, was) in
          let missing : entry_of k old ≡ None = subst (λ (n : ℕ). entry_of n old ≡ None) same none in
          absurd (cc))
          (λ (le : length pages ≤ at).
          let lt = number_some (pages ++ d ∷ []) at k there.1 in
          let here : at ≡ length pages = omega (arith, length-append pages (d ∷ [])) in
          is ∙ ap (λ n. Some n) (sym here))
          (cases_lt at (length pages))),
    ))
    (λ (apart : d.no ≢ k).
    let is : entry_of k new ≡ entry_of k old = entries k ∙ ap (λ b. cond b (Some (length pages)) (entry_of k old)) (other_at d.no k apart) in (
      (λ found.
          let was = (placed k at).0 (sym is ∙ found) in
          (was.0, ap (option_map (λ it. it.no)) (get_push pages d at (number_some pages at k was.1)) ∙ was.1)),
      (λ there. ⊎_elim
          (λ (lt : at < length pages). is ∙ (placed k at).1 (there.0, ap (option_map (λ it. it.no)) (sym (get_push pages d at lt)) ∙ there.1))
          (λ (le : length pages ≤ at).
          let lt = number_some (pages ++ d ∷ []) at k there.1 in
          let here : at ≡ length pages = omega (arith, length-append pages (d ∷ [])) in
          let number = number_read (pages ++ d ∷ []) at d (get_pushed pages d at here) in
          let same : d.no ≡ k = let both = there.1 in cc in
          absurd (apart same))
          (cases_lt at (length pages))),
    ))
    (cases_eq d.no k)

order_pushed : (pages : List Dirty) (d : Dirty) (places : List (ℕ × ℕ)) → Sorted places → Places 0 pages places
    → in_order (pages ++ d ∷ []) (insert_entry nat_cmp places d.no (length pages)) ≡ insert_entry nat_cmp (in_order pages places) d.no (bytes_of d.page)
order_pushed pages d places sorted placed =
    map_insert (bytes_at pages) (bytes_at (pages ++ d ∷ [])) d.no (length pages) places sorted
    (all_weaker (λ e. e.1 < length pages) (Agrees (bytes_at pages) (bytes_at (pages ++ d ∷ [])) d.no (length pages)) places
    (λ e lt apart. ap (λ o. option_map_or (λ it. bytes_of it.page) o []) (get_push pages d e.1 lt)) (each_within 0 pages places sorted placed))
    ∙ ap (λ (page : List ℕ). insert_entry nat_cmp (in_order pages places) d.no page) (bytes_read (pages ++ d ∷ []) (length pages) d (get_pushed pages d (length pages) refl))

pub placed_push : (pages : List Dirty) (d : Dirty) (old new : List (ℕ × ℕ)) (pushed : List Dirty) (n : ℕ) → pushed ≡ pages ++ d ∷ [] → n ≡ length pages → Places 0 pages old → entry_of d.no old ≡ None
    → ((q : ℕ) → entry_of q new ≡ cond (is_at (nat_cmp d.no) q) (Some n) (entry_of q old)) → Places 0 pushed new
placed_push pages d old new pushed n is size placed none entries = subst (λ (ps : List Dirty). Places 0 ps new) (sym is)
    (placed_pushed pages d old new placed none (λ q. entries q ∙ ap (λ (m : ℕ). cond (is_at (nat_cmp d.no) q) (Some m) (entry_of q old)) size))

pub order_push : (pages : List Dirty) (d : Dirty) (old new : List (ℕ × ℕ)) (pushed : List Dirty) (n : ℕ) → pushed ≡ pages ++ d ∷ [] → n ≡ length pages → Sorted old → Places 0 pages old
    → new ≡ insert_entry nat_cmp old d.no n → in_order pushed new ≡ insert_entry nat_cmp (in_order pages old) d.no (bytes_of d.page)
order_push pages d old new pushed n is size sorted placed entries =
    ap (in_order pushed) (entries ∙ ap (λ (m : ℕ). insert_entry nat_cmp old d.no m) size) ∙ ap (λ (ps : List Dirty). in_order ps (insert_entry nat_cmp old d.no (length pages))) is
    ∙ order_pushed pages d old sorted placed

-- a page that was changed before
pub placed_set : (pages : List Dirty) (d : Dirty) (at : ℕ) (places : List (ℕ × ℕ)) → Places 0 pages places → number_at pages at ≡ Some d.no → Places 0 (slice_set pages at d) places
placed_set pages d at places placed number k p =
    let same : number_at (slice_set pages at d) p ≡ number_at pages p = ⊎_elim
    (λ (here : p ≡ at).
    ap (number_at (slice_set pages at d)) here ∙ number_read (slice_set pages at d) at d (get_set_here pages at d (number_some pages at d.no number)) ∙ sym number
    ∙ ap (number_at pages) (sym here))
    (λ (apart : p ≢ at). ap (option_map (λ it. it.no)) (get_set_other pages at p d apart))
    (cases_eq p at) in
    ((λ found. let was = (placed k p).0 found in (was.0, same ∙ was.1)), (λ there. (placed k p).1 (there.0, sym same ∙ there.1)))

order_setted : (pages : List Dirty) (d : Dirty) (at : ℕ) (places : List (ℕ × ℕ)) → Sorted places → Places 0 pages places → entry_of d.no places ≡ Some at
    → in_order (slice_set pages at d) places ≡ insert_entry nat_cmp (in_order pages places) d.no (bytes_of d.page)
order_setted pages d at places sorted placed found =
    let there = ((placed d.no at).0 found).1 in
    let lt = number_some pages at d.no there in
    ap (in_order (slice_set pages at d)) (sym (insert_again d.no at places sorted found))
    ∙ map_insert (bytes_at pages) (bytes_at (slice_set pages at d)) d.no at places sorted
    (all_weaker (λ e. entry_of e.0 places ≡ Some e.1) (Agrees (bytes_at pages) (bytes_at (slice_set pages at d)) d.no at) places
    (λ e is apart. ap (λ o. option_map_or (λ it. bytes_of it.page) o []) (get_set_other pages at e.1 d (λ (here : e.1 ≡ at).
    let one = ((placed e.0 e.1).0 is).1 in
    let two : number_at pages e.1 ≡ Some d.no = ap (number_at pages) here ∙ there in
    let same : e.0 ≡ d.no = cc in apart same)))
    (each_found places sorted))
    ∙ ap (λ (page : List ℕ). insert_entry nat_cmp (in_order pages places) d.no page) (bytes_read (slice_set pages at d) at d (get_set_here pages at d lt))

-- no page yet
pub placed_none : (from : ℕ) (pages : List Dirty) (places : List (ℕ × ℕ)) → pages ≡ [] → places ≡ [] → Places from pages places
placed_none from pages places none empty k at = (
  (λ found. let missing : entry_of k places ≡ None = ap (entry_of k) empty in absurd (cc)),
  (λ there. let missing : number_at pages at ≡ None = ap (λ ps. number_at ps at) none in let some = there.1 in absurd (cc)),
)

-- where a number was found
pub place_within : (pages : List Dirty) (places : List (ℕ × ℕ)) (k at : ℕ) → Places 0 pages places → entry_of k places ≡ Some at → at < length pages
place_within pages places k at placed found = number_some pages at k ((placed k at).0 found).1

pub page_found : (pages : List Dirty) (places : List (ℕ × ℕ)) (k at : ℕ) (d : Dirty) → Places 0 pages places → entry_of k places ≡ Some at → d ≡ get_or pages at d → Some (bytes_of d.page) ≡ entry_of k (in_order pages places)
page_found pages places k at d placed found read =
    sym (found_in_order pages places k ∙ ap (option_map (bytes_at pages)) found
    ∙ ap (λ (page : List ℕ). Some page) (bytes_read pages at d (get_read pages at d (place_within pages places k at placed found) read)))

pub page_missing : (pages : List Dirty) (places : List (ℕ × ℕ)) (k : ℕ) → entry_of k places ≡ None → None ≡ entry_of k (in_order pages places)
page_missing pages places k none = sym (found_in_order pages places k ∙ ap (option_map (bytes_at pages)) none)

-- its page has that number
pub number_there : (pages : List Dirty) (places : List (ℕ × ℕ)) (k at : ℕ) (d : Dirty) → Places 0 pages places → entry_of k places ≡ Some at → d ≡ get_or pages at d → (d.no ≡ k) × (number_at pages at ≡ Some d.no)
number_there pages places k at d placed found read =
    let is = number_read pages at d (get_read pages at d (place_within pages places k at placed found) read) in
    let here = ((placed k at).0 found).1 in
    let same : d.no ≡ k = cc in
    (same, is)

pub order_set : (pages : List Dirty) (k : ℕ) (d : Dirty) (at : ℕ) (places : List (ℕ × ℕ)) → Sorted places → Places 0 pages places → entry_of k places ≡ Some at → d.no ≡ k
    → in_order (slice_set pages at d) places ≡ insert_entry nat_cmp (in_order pages places) k (bytes_of d.page)
order_set pages k d at places sorted placed found same =
    order_setted pages d at places sorted placed (ap (λ (n : ℕ). entry_of n places) same ∙ found) ∙ ap (λ (n : ℕ). insert_entry nat_cmp (in_order pages places) n (bytes_of d.page)) same
