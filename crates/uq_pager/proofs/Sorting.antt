-- How the changed pages come into the order of their numbers, one at a time.
use Rattle.std.proofs.Common.{◌≡◌, ◌≢◌, ℕ, ◌+◌, ◌<◌, ◌≤◌, cond, List, [], ◌∷◌, ◌++◌, length, take, get_or, Some, None, refl, sym, ap, subst, ◌∙◌, ⊎_elim, arith, append_assoc, append-nil, length-set}
use Rattle.std.specs.Prelude.{slice_get, slice_set}
use Rattle.std.specs.Option.{option_map, option_map_or}
use Rattle.std.specs.List.{swap}
use Rattle.std.specs.List.Sorted.{IsStrictlySortedBy}
use Rattle.std.specs.Ordering.{nat_cmp}
use Rattle.std.specs.Map.{set_value}
use Rattle.std.specs.BTreeMap.{insert_entry, is_at}
use Rattle.std.proofs.lemmas.Bool.{cases_eq, cases_lt}
use Rattle.std.proofs.lemmas.List.{map_push, take_all, take_more, take-set, take-set-le}
use Rattle.std.proofs.lemmas.List.Edits.{swap_is}
use Rattle.uq_journal.specs.Batches.{Original}
use Rattle.uq_journal.specs.Recovered.{changes}
use Rattle.uq_journal.specs.declared.dirty.Dirty.{Dirty}
use Rattle.uq_page.specs.Page.{bytes_of}
use Rattle.uq_pager.specs.Places.{Places, bytes_at, entry_of, in_order, number_at}
use Rattle.uq_pager.specs.BatchLaws.{entry_head, entry_tail, equal_at, other_at, three, insert_same, insert_above}
use Rattle.uq_pager.specs.PlacesLaws.{Agrees, Sorted, above_on, all_weaker, bytes_read, each_found, entry_map, head_above, insert_again, keys_map, map_insert, none_below, number_read, number_some, tail_sorted}
use Rattle.uq_pager.specs.Lists.{get_at, get_read, there, get_set_here, get_set_other}

-- a number that is there takes another place
set_is_insert : (k at : ℕ) (entries : List (ℕ × ℕ)) (was : ℕ) → Sorted entries → entry_of k entries ≡ Some was → set_value (is_at (nat_cmp k)) entries at ≡ insert_entry nat_cmp entries k at
set_is_insert k at [] was sorted found = absurd (cc)
set_is_insert k at (e ∷ later) was sorted found = three (set_value (is_at (nat_cmp k)) (e ∷ later) at ≡ insert_entry nat_cmp (e ∷ later) k at) k e.0
    (λ (lt : k < e.0). let none = none_below k (e ∷ later) (lt, above_on k e.0 later (omega arith) (head_above e later sorted)) in absurd (cc))
    (λ (same : k ≡ e.0). ap (λ b. cond b ((e.0, at) ∷ later) (e ∷ set_value (is_at (nat_cmp k)) later at)) (equal_at k e.0 same) ∙ sym (insert_same k at e later same))
    (λ (lt : e.0 < k).
    let apart : k ≢ e.0 = omega arith in
    ap (λ b. cond b ((e.0, at) ∷ later) (e ∷ set_value (is_at (nat_cmp k)) later at)) (other_at k e.0 apart)
    ∙ ap (λ es. e ∷ es) (set_is_insert k at later was (tail_sorted e later sorted) (sym (entry_tail k e later apart) ∙ found)) ∙ sym (insert_above k at e later lt))

set_found : (k q at : ℕ) (entries : List (ℕ × ℕ)) (was : ℕ) → entry_of k entries ≡ Some was → k ≡ q → entry_of q (set_value (is_at (nat_cmp k)) entries at) ≡ Some at
set_found k q at [] was found same = absurd (cc)
set_found k q at (e ∷ later) was found same = ⊎_elim
    (λ (here : k ≡ e.0). ap (λ b. entry_of q (cond b ((e.0, at) ∷ later) (e ∷ set_value (is_at (nat_cmp k)) later at))) (equal_at k e.0 here)
    ∙ entry_head q (e.0, at) later (sym same ∙ here))
    (λ (apart : k ≢ e.0). ap (λ b. entry_of q (cond b ((e.0, at) ∷ later) (e ∷ set_value (is_at (nat_cmp k)) later at))) (other_at k e.0 apart)
    ∙ entry_tail q e (set_value (is_at (nat_cmp k)) later at) (λ is. apart (same ∙ is)) ∙ set_found k q at later was (sym (entry_tail k e later apart) ∙ found) same)
    (cases_eq k e.0)

set_others : (k q at : ℕ) (entries : List (ℕ × ℕ)) → k ≢ q → entry_of q (set_value (is_at (nat_cmp k)) entries at) ≡ entry_of q entries
set_others k q at [] apart = refl
set_others k q at (e ∷ later) apart = ⊎_elim
    (λ (here : k ≡ e.0).
    let other : q ≢ e.0 = λ is. apart (here ∙ sym is) in
    ap (λ b. entry_of q (cond b ((e.0, at) ∷ later) (e ∷ set_value (is_at (nat_cmp k)) later at))) (equal_at k e.0 here)
    ∙ entry_tail q (e.0, at) later other ∙ sym (entry_tail q e later other))
    (λ (away : k ≢ e.0). ap (λ b. entry_of q (cond b ((e.0, at) ∷ later) (e ∷ set_value (is_at (nat_cmp k)) later at))) (other_at k e.0 away)
    ∙ ⊎_elim
    (λ (is : q ≡ e.0). entry_head q e (set_value (is_at (nat_cmp k)) later at) is ∙ sym (entry_head q e later is))
    (λ (other : q ≢ e.0). entry_tail q e (set_value (is_at (nat_cmp k)) later at) other ∙ set_others k q at later apart ∙ sym (entry_tail q e later other))
    (cases_eq q e.0))
    (cases_eq k e.0)

-- The entry that comes next, with the number k, is that of the place `from`.
module _ (at k from : ℕ) (rest : List (ℕ × ℕ)) (pages : List Dirty) (sorted : Sorted ((k, from) ∷ rest)) (placed : Places at pages ((k, from) ∷ rest)) where
  first : entry_of k ((k, from) ∷ rest) ≡ Some from
  first = entry_head k (k, from) rest refl

  pub next_place : (at ≤ from) × (number_at pages from ≡ Some k)
  next_place = (placed k from).0 first

  pub next_within : from < length pages
  next_within = number_some pages from k next_place.1

  gone : entry_of k rest ≡ None
  gone = none_below k rest (head_above (k, from) rest sorted)

  -- another number is found among the others
  behind : (q p : ℕ) → entry_of q rest ≡ Some p → (k ≢ q) × (entry_of q ((k, from) ∷ rest) ≡ Some p)
  behind q p found =
      let apart : k ≢ q = λ same. let none : entry_of q rest ≡ None = subst (λ (n : ℕ). entry_of n rest ≡ None) same gone in absurd (cc) in
      (apart, entry_tail q (k, from) rest (λ same. apart (sym same)) ∙ found)

  ahead : (q p : ℕ) → p ≢ from → entry_of q ((k, from) ∷ rest) ≡ Some p → entry_of q rest ≡ Some p
  ahead q p other found = ⊎_elim
      (λ (same : q ≡ k). let one = entry_head q (k, from) rest same in let is : p ≡ from = cc in absurd (other is))
      (λ (apart : q ≢ k). sym (entry_tail q (k, from) rest apart) ∙ found)
      (cases_eq q k)

  -- what the batch has first
  pub next_bytes : (d : Dirty) → slice_get pages from ≡ Some d → (d.no ≡ k) × (bytes_at pages from ≡ bytes_of d.page)
  next_bytes d is =
      let number = number_read pages from d is in
      let there = next_place.1 in
      let same : d.no ≡ k = cc in
      (same, bytes_read pages from d is)

  -- ---- it stands where it is to stand
  pub stays : from ≡ at → Places (at + 1) pages rest
  stays here q p = (
    (λ found.
        let was = behind q p found in
        let there = (placed q p).0 was.1 in
        let other : p ≢ at = λ same.
        let number : number_at pages from ≡ Some q = ap (number_at pages) (here ∙ sym same) ∙ there.1 in
        let next = next_place.1 in
        let is : k ≡ q = cc in absurd (was.0 is) in
        (omega (arith, there.0), there.1)),
    (λ there.
        let other : p ≢ from = omega (arith, here, there.0) in
        ahead q p other ((placed q p).1 (omega (arith, there.0), there.1))),
  )

  -- ---- it changes places with another
  module _ (m : ℕ) (x y : Dirty) (lt : at < from) (first_is : slice_get pages at ≡ Some x) (from_is : slice_get pages from ≡ Some y) (number : x.no ≡ m) where
    abbrev swapped : List Dirty
    swapped = slice_set (slice_set pages at y) from x

    abbrev moved : List (ℕ × ℕ)
    moved = set_value (is_at (nat_cmp m)) rest from

    there_now : (p : ℕ) → p ≢ at → p ≢ from → slice_get swapped p ≡ slice_get pages p
    there_now p one two = get_set_other (slice_set pages at y) from p x two ∙ get_set_other pages at p y one

    at_from : slice_get swapped from ≡ Some x
    at_from = get_set_here (slice_set pages at y) from x (omega (arith, length-set pages at y, next_within))

    at_at : slice_get swapped at ≡ Some y
    at_at = get_set_other (slice_set pages at y) from at x (omega arith) ∙ get_set_here pages at y (omega (arith, next_within))

    -- the number of the page that gives way
    found_first : entry_of m rest ≡ Some at
    found_first = ahead m at (omega arith) ((placed m at).1 (omega arith, number_read pages at x first_is ∙ ap (λ (n : ℕ). Some n) number))

    pub gives_way : Places (at + 1) swapped moved
    gives_way q p = (
      (λ found. ⊎_elim
          (λ (same : m ≡ q).
          let is = set_found m q from rest at found_first same in
          let here : p ≡ from = cc in
          (omega arith, ap (number_at swapped) here ∙ number_read swapped from x at_from ∙ ap (λ (n : ℕ). Some n) (number ∙ same)))
          (λ (apart : m ≢ q).
          let was = behind q p (sym (set_others m q from rest apart) ∙ found) in
          let there = (placed q p).0 was.1 in
          let one : p ≢ at = λ same.
          let here : number_at pages at ≡ Some q = ap (number_at pages) (sym same) ∙ there.1 in
          let mine = number_read pages at x first_is in
          let is : m ≡ q = cc in absurd (apart is) in
          let two : p ≢ from = λ same.
          let here : number_at pages from ≡ Some q = ap (number_at pages) (sym same) ∙ there.1 in
          let next = next_place.1 in
          let is : k ≡ q = cc in absurd (was.0 is) in
          (omega (arith, there.0), ap (option_map (λ it. it.no)) (there_now p one two) ∙ there.1))
          (cases_eq m q)),
      (λ there. ⊎_elim
          (λ (same : p ≡ from).
          let here : number_at swapped from ≡ Some q = ap (number_at swapped) (sym same) ∙ there.1 in
          let mine = number_read swapped from x at_from in
          let is : m ≡ q = cc in
          set_found m q from rest at found_first is ∙ ap (λ (n : ℕ). Some n) (sym same))
          (λ (two : p ≢ from).
          let one : p ≢ at = omega (arith, there.0) in
          let was = (placed q p).1 (omega (arith, there.0), ap (option_map (λ it. it.no)) (sym (there_now p one two)) ∙ there.1) in
          let found = ahead q p two was in
          let apart : m ≢ q = λ same.
          let mine : entry_of q rest ≡ Some at = subst (λ (n : ℕ). entry_of n rest ≡ Some at) same found_first in
          let is : p ≡ at = cc in absurd (one is) in
          set_others m q from rest apart ∙ found)
          (cases_eq p from)),
    )

    -- the others in order are the same
    pub same_order : in_order swapped moved ≡ in_order pages rest
    same_order =
        let tail = tail_sorted (k, from) rest sorted in
        let sorted_order : Sorted (in_order pages rest) = subst (IsStrictlySortedBy nat_cmp) (sym (keys_map (bytes_at pages) rest)) tail in
        let moved_bytes : bytes_at swapped from ≡ bytes_at pages at = bytes_read swapped from x at_from ∙ sym (bytes_read pages at x first_is) in
        let found : entry_of m (in_order pages rest) ≡ Some (bytes_at pages at) = entry_map (bytes_at pages) m rest ∙ ap (option_map (bytes_at pages)) found_first in
        ap (in_order swapped) (set_is_insert m from rest at tail found_first)
        ∙ map_insert (bytes_at pages) (bytes_at swapped) m from rest tail
        (all_weaker (λ e. entry_of e.0 rest ≡ Some e.1) (Agrees (bytes_at pages) (bytes_at swapped) m from) rest
        (λ e is apart. ap (λ o. option_map_or (λ it. bytes_of it.page) o [])
        (let was = behind e.0 e.1 is in
        let there = ((placed e.0 e.1).0 was.1).1 in
        there_now e.1
        (λ same.
        let here : number_at pages at ≡ Some e.0 = ap (number_at pages) (sym same) ∙ there in
        let mine = number_read pages at x first_is in
        let also : e.0 ≡ m = cc in absurd (apart also))
        (λ same.
        let here : number_at pages from ≡ Some e.0 = ap (number_at pages) (sym same) ∙ there in
        let next = next_place.1 in
        let also : k ≡ e.0 = cc in absurd (was.0 also))))
        (each_found rest tail))
        ∙ ap (λ (page : List ℕ). insert_entry nat_cmp (in_order pages rest) m page) moved_bytes
        ∙ insert_again m (bytes_at pages at) (in_order pages rest) sorted_order found

-- one page more stands in place
done_more : (pages : List Dirty) (at k : ℕ) (d : Dirty) (page : List ℕ) (tail : List Original) → slice_get pages at ≡ Some d → d.no ≡ k → page ≡ bytes_of d.page
    → changes (take (at + 1) pages) ++ tail ≡ changes (take at pages) ++ (k, page) ∷ tail
done_more pages at k d page tail is number bytes =
    let lt : at < length pages = number_some pages at d.no (number_read pages at d is) in
    let here : get_or pages at d ≡ d = let found = get_at pages at d lt in cc in
    ap (λ (ps : List Dirty). changes ps ++ tail) (take_more pages at d lt ∙ ap (λ (e : Dirty). take at pages ++ e ∷ []) here)
    ∙ ap (λ (b : List Original). b ++ tail) (map_push (λ (it : Dirty). (it.no, bytes_of it.page)) (take at pages) d)
    ∙ append_assoc (changes (take at pages)) ((d.no, bytes_of d.page) ∷ []) tail
    ∙ ap (λ (n : ℕ). changes (take at pages) ++ (n, bytes_of d.page) ∷ tail) number
    ∙ ap (λ (b : List ℕ). changes (take at pages) ++ (k, b) ∷ tail) (sym bytes)

pub done_stays : (at k from : ℕ) (rest : List (ℕ × ℕ)) (pages : List Dirty) (sorted : Sorted ((k, from) ∷ rest)) (placed : Places at pages ((k, from) ∷ rest)) → from ≡ at
    → changes (take (at + 1) pages) ++ in_order pages rest ≡ changes (take at pages) ++ in_order pages ((k, from) ∷ rest)
done_stays at k from rest pages sorted placed here =
    let found = there pages from (next_within at k from rest pages sorted placed) in
    let next = next_bytes at k from rest pages sorted placed found.0 found.1 in
    done_more pages at k found.0 (bytes_at pages from) (in_order pages rest) (ap (slice_get pages) (sym here) ∙ found.1) next.0 next.1

-- a swap, as the slice has it
swap_of : (pages : List Dirty) (at from : ℕ) (x y : Dirty) → at < length pages → from < length pages → slice_get pages at ≡ Some x → slice_get pages from ≡ Some y
    → slice_set (slice_set pages at y) from x ≡ swap pages at from
swap_of pages at from x y one two first second =
    let a : get_or pages at x ≡ x = let found = get_at pages at x one in cc in
    let b : get_or pages from x ≡ y = let found = get_at pages from x two in cc in
    ap (λ (d : Dirty). slice_set (slice_set pages at d) from x) (sym b) ∙ ap (λ (d : Dirty). slice_set (slice_set pages at (get_or pages from x)) from d) (sym a) ∙ swap_is pages at from x one two

-- the page that gives way has a place
pub has_place : (at k from : ℕ) (rest : List (ℕ × ℕ)) (pages : List Dirty) (sorted : Sorted ((k, from) ∷ rest)) (placed : Places at pages ((k, from) ∷ rest)) (x : Dirty)
    → (from ≡ at → ⊥) → x ≡ get_or pages at x → None ≡ entry_of x.no rest → ⊥
has_place at k from rest pages sorted placed x apart read none =
    let within = next_within at k from rest pages sorted placed in
    let place = next_place at k from rest pages sorted placed in
    let lt : at < from = omega (arith, place.0) in
    let first_is : slice_get pages at ≡ Some x = get_read pages at x (omega arith) read in
    let found = there pages from within in
    let is = found_first at k from rest pages sorted placed x.no x found.0 lt first_is found.1 refl in
    let same : None ≡ Some at = none ∙ is in
    cc

-- what a turn with a swap leaves
pub record Turn (at : ℕ) (k from : ℕ) (rest : List (ℕ × ℕ)) (pages swapped : List Dirty) (moved : List (ℕ × ℕ)) : Type 0 where
  pub placed : Places (at + 1) swapped moved
  pub batch : changes (take (at + 1) swapped) ++ in_order swapped moved ≡ changes (take at pages) ++ in_order pages ((k, from) ∷ rest)

pub turn : (at k from : ℕ) (rest : List (ℕ × ℕ)) (pages : List Dirty) (sorted : Sorted ((k, from) ∷ rest)) (placed : Places at pages ((k, from) ∷ rest)) (m : ℕ) (x : Dirty)
    → (from ≡ at → ⊥) → x ≡ get_or pages at x → x.no ≡ m → (after : List Dirty) → after ≡ swap pages at from → (others : List (ℕ × ℕ)) → others ≡ set_value (is_at (nat_cmp m)) rest from → Turn at k from rest pages after others
turn at k from rest pages sorted placed m x apart read number after is others set =
    let within = next_within at k from rest pages sorted placed in
    let place = next_place at k from rest pages sorted placed in
    let lt : at < from = omega (arith, place.0) in
    let y : Dirty = get_or pages from x in
    let first_is : slice_get pages at ≡ Some x = get_read pages at x (omega arith) read in
    let from_is : slice_get pages from ≡ Some y = get_at pages from x within in
    let next = next_bytes at k from rest pages sorted placed y from_is in
    let swapped : List Dirty = slice_set (slice_set pages at y) from x in
    let moved : List (ℕ × ℕ) = set_value (is_at (nat_cmp m)) rest from in
    let front : take at swapped ≡ take at pages = take-set-le at (slice_set pages at y) from x (omega arith) ∙ take-set pages at y in
    let result : Turn at k from rest pages swapped moved = record {
      placed = gives_way at k from rest pages sorted placed m x y lt first_is from_is number;
      batch = ap (λ (b : List Original). changes (take (at + 1) swapped) ++ b) (same_order at k from rest pages sorted placed m x y lt first_is from_is number)
          ∙ done_more swapped at k y (bytes_at pages from) (in_order pages rest) (at_at at k from rest pages sorted placed m x y lt first_is from_is number) next.0 next.1
          ∙ ap (λ (ps : List Dirty). changes ps ++ (k, bytes_at pages from) ∷ in_order pages rest) front;
    } in
    let here : Turn at k from rest pages after moved = subst (λ (ps : List Dirty). Turn at k from rest pages ps moved) (swap_of pages at from x y (omega arith) within first_is from_is ∙ sym is) result in
    subst (λ (es : List (ℕ × ℕ)). Turn at k from rest pages after es) (sym set) here

-- no page is left to be put in place
pub all_done : (at : ℕ) (places : List (ℕ × ℕ)) (pages : List Dirty) → places ≡ [] → Places at pages places → changes (take at pages) ++ in_order pages places ≡ changes pages
all_done at places pages none placed =
    ap (λ (es : List (ℕ × ℕ)). changes (take at pages) ++ in_order pages es) none ∙ append-nil (changes (take at pages))
    ∙ ⊎_elim
    (λ (lt : at < length pages).
    let found = there pages at lt in
    let is = (placed found.0.no at).1 (omega arith, number_read pages at found.0 found.1) in
    let missing : entry_of found.0.no places ≡ None = ap (entry_of found.0.no) none in
    absurd (cc))
    (λ (le : length pages ≤ at). ap changes (take_all at pages le))
    (cases_lt at (length pages))
