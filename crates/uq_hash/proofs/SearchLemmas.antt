-- The search for a place in a bucket, one page after another.
use Rattle.std.proofs.Common.{◌≡◌, ◌⊎◌, inl, inr, ℕ, ◌+◌, ◌<◌, ◌≤◌, false, List, [], ◌∷◌, ◌++◌, length, map, take, drop, Option, Some, refl, sym, ap, subst, ◌∙◌, arith, append_assoc, length-append}
use Rattle.std.specs.Prelude.{All, slice_get}
use Rattle.std.proofs.lemmas.List.{take_all, drop_all, drop_more, length-map}
use Rattle.std.proofs.lemmas.List.Elements.{All-head, All-nil, All-append}
use Rattle.std.proofs.lemmas.Bool.{cases_lt}
use Rattle.std.proofs.lemmas.Option.{same_Some}
use Rattle.uq_page.specs.Page.{bytes_of}
use Rattle.uq_page.specs.Row.{IsRow}
use Rattle.uq_page.specs.RowLaws.{row_short, row_length}
use Rattle.uq_hash.specs.declared.seeking.Bound.{Bound}
use Rattle.uq_hash.specs.declared.searching.Place.{Place}
use Rattle.std.specs.Option.{IsSomeAnd}
use Rattle.uq_page.specs.declared.bucket.BucketHead.{BucketHead}
use Rattle.uq_hash.specs.declared.seeking.Spot.{Spot}
use Rattle.uq_hash.specs.Bucket.{IsBucketPage, head_of}
use Rattle.uq_hash.specs.Found.{IsHere, IsPrev}
use Rattle.uq_hash.specs.Map.{Stored, IsStored, Chained, cell, first_of}
use Rattle.uq_hash.specs.Place.{IsBefore, IsSmall, IsSpot, Opened, StopsAt, at, entries_page, flat, nothing, passes}
use Rattle.uq_hash.proofs.CellLemmas.{bucket_tells}
use Rattle.uq_hash.proofs.FillLemmas.{few_cells, filled_some}
use Rattle.uq_hash.proofs.OpenLemmas.{all_left, all_right, flat-append, flat_push, opened, row_none, row_some}

-- `seen` pages of a bucket are passed, with entries before the bound alone; `prev` is the last of them, and the next is `here`.
pub record Searching (start : ℕ) (pages : List (List ℕ)) (row : List ℕ) (cells : List Stored) (bound : Bound) (prev here seen : ℕ) : Type 0 where
  pub it : Opened pages row cells
  pub passed : List ℕ
  pub left : List ℕ
  pub done : List (List Stored)
  pub groups : List (List Stored)
  pub row_is : row ≡ passed ++ left
  pub groups_are : it.groups ≡ done ++ groups
  pub as_many : length passed ≡ length done
  pub count : length passed ≡ seen
  pub before : All (IsBefore start bound) (flat done)
  pub linked : IsRow entries_page pages here left groups
  pub prev_is : IsPrev passed done prev
  pub some : 1 ≤ length left
  pub short : length row ≤ length pages

pub searching_none : (start : ℕ) (pages : List (List ℕ)) (first : ℕ) (row : List ℕ) (cells : List Stored) (bound : Bound) → first ≡ first_of row → Chained start pages row cells
    → Searching start pages row cells bound 0 first 0
searching_none start pages first row cells bound first_is is =
    let it = opened start pages row cells is in
    let same = ap length it.filled_are in
    let some = filled_some [] (map cell cells) in
    let long = length-map it.groups (map cell) in
    let all = row_length entries_page pages (first_of row) row it.groups it.linked in
    record {
      it = it;
      passed = [];
      left = row;
      done = [];
      groups = it.groups;
      row_is = refl;
      groups_are = refl;
      as_many = refl;
      count = refl;
      before = All-nil (IsBefore start bound);
      linked = subst (λ (n : ℕ). IsRow entries_page pages n row it.groups) (sym first_is) it.linked;
      prev_is = inl (refl, refl);
      some = omega arith;
      short = row_short entries_page (λ a b m n fits fits' page. bucket_tells (map cell a) (map cell b) m n fits fits' page) pages (first_of row) row it.groups it.linked;
    }

-- the page of a bucket where the search goes on, and what lies behind it
pub record OnPage (pages : List (List ℕ)) (left : List ℕ) (groups : List (List Stored)) (here : ℕ) : Type 0 where
  pub behind : List ℕ
  pub group : List Stored
  pub more : List (List Stored)
  pub next : ℕ
  pub page : List ℕ
  pub left_is : left ≡ here ∷ behind
  pub groups_are : groups ≡ group ∷ more
  pub there : slice_get pages here ≡ Some page
  pub some : 1 ≤ here
  pub is : IsBucketPage page (map cell group) next
  pub small : IsSmall group
  pub stored : All IsStored group
  pub rest : IsRow entries_page pages next behind more

pub on_groups : (pages : List (List ℕ)) (left : List ℕ) (groups : List (List Stored)) (here : ℕ) → 1 ≤ length left → IsRow entries_page pages here left groups → All IsSmall groups → All IsStored (flat groups) → OnPage pages left groups here
on_groups pages [] groups here some linked small stored = absurd (omega arith)
on_groups pages (n ∷ left) [] here some linked small stored = absurd linked
on_groups pages (n ∷ left) (g ∷ gs) here some linked small stored =
    let few = few_cells g in
    let fits = All-head IsSmall g gs small in
    let long = length-map g cell in
    record {
      behind = left;
      group = g;
      more = gs;
      next = linked.next;
      page = entries_page g linked.next;
      left_is = ap (λ m. m ∷ left) (sym linked.is);
      groups_are = refl;
      there = ap (slice_get pages) linked.is ∙ linked.page;
      some = let is = linked.is in let one = linked.some in omega arith;
      is = record { fits = linked.fits; few = fits; count = omega arith; is = refl };
      small = fits;
      stored = all_left IsStored g (flat gs) stored;
      rest = linked.rest;
    }

pub on_page : (start : ℕ) (pages : List (List ℕ)) (row : List ℕ) (cells : List Stored) (bound : Bound) (prev here seen : ℕ) (so : Searching start pages row cells bound prev here seen) → OnPage pages so.left so.groups here
on_page start pages row cells bound prev here seen so =
    let all : cells ≡ flat so.done ++ flat so.groups = sym so.it.all ∙ ap flat so.groups_are ∙ flat-append so.done so.groups in
    on_groups pages so.left so.groups here so.some so.linked (all_right IsSmall so.done so.groups (subst (All IsSmall) so.groups_are so.it.small))
    (all_right IsStored (flat so.done) (flat so.groups) (subst (All IsStored) all so.it.sizes))

-- what was read is the page of the bucket
pub read_is : (pages : List (List ℕ)) (left : List ℕ) (groups : List (List Stored)) (here : ℕ) (page : List ℕ) (on : OnPage pages left groups here) → slice_get pages here ≡ Some page → IsBucketPage page (map cell on.group) on.next
read_is pages left groups here page on read = subst (λ (bytes : List ℕ). IsBucketPage bytes (map cell on.group) on.next) (same_Some on.page page (sym on.there ∙ read)) on.is

-- the first entry behind a spot does not lie before the bound
stops_here : (start : ℕ) (bound : Bound) (group : List Stored) (more : List (List Stored)) (spot : Spot) → (spot.index < length group) ⊎ (more ≡ []) → IsSpot start group bound spot
    → StopsAt start bound (drop spot.index group ++ flat more)
stops_here start bound group more spot ends is it others split = by_cases (cases_lt spot.index (length group)) ends
  where
    by_cases : (spot.index < length group) ⊎ (length group ≤ spot.index) → (spot.index < length group) ⊎ (more ≡ []) → passes start bound it.key ≡ false
    by_cases (inl less) ends =
        let first : at group spot.index ≡ it = ap (λ (xs : List Stored). at xs 0) (sym (ap (λ (xs : List Stored). xs ++ flat more) (drop_more group spot.index nothing less)) ∙ split) in
        ap (λ (x : Stored). passes start bound x.key) (sym first) ∙ is.stops less
    by_cases (inr all) (inl less) = absurd (omega arith)
    by_cases (inr all) (inr none) =
        let nil : [] ≡ it ∷ others = sym (ap (λ (xs : List Stored). xs ++ flat more) (drop_all spot.index group all) ∙ ap flat none) ∙ split in
        let long = ap length nil in absurd (omega arith)

-- the place is on this page
pub found_here : (start : ℕ) (pages : List (List ℕ)) (row : List ℕ) (cells : List Stored) (bound : Bound) (place : Place) (seen : ℕ) (so : Searching start pages row cells bound place.prev place.no seen)
    (on : OnPage pages so.left so.groups place.no) → slice_get pages place.no ≡ Some (bytes_of place.it.page) → place.it.head ≡ head_of (map cell on.group) on.next → IsSpot start on.group bound place.spot
    → (place.spot.index < place.it.head.cells) ⊎ (place.it.head.next ≡ 0) → IsHere start pages row cells bound place
found_here start pages row cells bound place seen so on read head_is spot ends =
    let next_is : place.it.head.next ≡ on.next = ap (λ head. head.next) head_is in
    let count : place.it.head.cells ≡ length on.group = ap (λ head. head.cells) head_is ∙ length-map on.group cell in
    let is = read_is pages so.left so.groups place.no (bytes_of place.it.page) on read in
    record {
      found = record {
        stands = record {
          opened = so.it;
          passed = so.passed;
          behind = on.behind;
          done = so.done;
          group = on.group;
          more = on.more;
          row_is = so.row_is ∙ ap (λ xs. so.passed ++ xs) on.left_is;
          groups_are = so.groups_are ∙ ap (λ gs. so.done ++ gs) on.groups_are;
          as_many = so.as_many;
          before = so.before;
          spot_is = spot;
          stops = stops_here start bound on.group on.more place.spot (by_end ends count next_is) spot;
        };
        page = subst (IsBucketPage (bytes_of place.it.page) (map cell on.group)) (sym next_is) is;
        head = head_is ∙ ap (head_of (map cell on.group)) (sym next_is);
        there = read;
        some = on.some;
      };
      here = by_end ends count next_is;
      prev = so.prev_is;
    }
  where
    by_end : (place.spot.index < place.it.head.cells) ⊎ (place.it.head.next ≡ 0) → place.it.head.cells ≡ length on.group → place.it.head.next ≡ on.next → (place.spot.index < length on.group) ⊎ (on.more ≡ [])
    by_end (inl less) count next_is = inl (omega arith)
    by_end (inr none) count next_is = inr (row_none entries_page pages on.next on.behind on.more on.rest (sym next_is ∙ none))

-- the place is behind this page
pub searching_more : (start : ℕ) (pages : List (List ℕ)) (row : List ℕ) (cells : List Stored) (bound : Bound) (prev here next seen index : ℕ) (so : Searching start pages row cells bound prev here seen)
    (on : OnPage pages so.left so.groups here) → All (IsBefore start bound) (take index on.group) → length on.group ≤ index → next ≡ on.next → (next ≡ 0 → ⊥) → Searching start pages row cells bound here next (seen + 1)
searching_more start pages row cells bound prev here next seen index so on passed all next_is goes_on =
    let pushed = length-append so.passed (here ∷ []) in
    let done_pushed = length-append so.done (on.group ∷ []) in
    let as_many = so.as_many in
    let count = so.count in
    record {
      it = so.it;
      passed = so.passed ++ here ∷ [];
      left = on.behind;
      done = so.done ++ on.group ∷ [];
      groups = on.more;
      row_is = so.row_is ∙ ap (λ xs. so.passed ++ xs) on.left_is ∙ sym (append_assoc so.passed (here ∷ []) on.behind);
      groups_are = so.groups_are ∙ ap (λ gs. so.done ++ gs) on.groups_are ∙ sym (append_assoc so.done (on.group ∷ []) on.more);
      as_many = omega arith;
      count = omega arith;
      before = subst (All (IsBefore start bound)) (sym (flat_push so.done on.group))
          (All-append (IsBefore start bound) (flat so.done) on.group so.before (subst (All (IsBefore start bound)) (take_all index on.group all) passed));
      linked = subst (λ (n : ℕ). IsRow entries_page pages n on.behind on.more) (sym next_is) on.rest;
      prev_is = inr (record { front = so.passed; early = so.done; group = on.group; passed_are = refl; done_are = refl; as_many = so.as_many; some = on.some });
      some = row_some entries_page pages on.next on.behind on.more on.rest (λ none. goes_on (next_is ∙ none));
      short = so.short;
    }

-- there is a page left, so that not all are seen
pub searching_few : (start : ℕ) (pages : List (List ℕ)) (row : List ℕ) (cells : List Stored) (bound : Bound) (prev here seen : ℕ) → Searching start pages row cells bound prev here seen
    → (seen + 1 ≤ length row) × (seen + 1 ≤ length pages)
searching_few start pages row cells bound prev here seen so =
    let long = ap length so.row_is in
    let parts = length-append so.passed so.left in
    let count = so.count in
    let some = so.some in
    let short = so.short in
    (omega arith, omega arith)

-- the search in the page finds its spot
pub spot_of : (start : ℕ) (bound : Bound) (bytes : List ℕ) (found : Option Spot) (pages : List (List ℕ)) (left : List ℕ) (groups : List (List Stored)) (here : ℕ) (head : BucketHead) (on : OnPage pages left groups here)
    → IsBucketPage bytes (map cell on.group) on.next → head ≡ head_of (map cell on.group) on.next
    → ((group : List Stored) (next : ℕ) → bytes ≡ entries_page group next → head.cells ≡ length group → IsSmall group → All IsStored group → IsSomeAnd found (IsSpot start group bound))
    → IsSomeAnd found (IsSpot start on.group bound)
spot_of start bound bytes found pages left groups here head on page head_is exact =
    exact on.group on.next page.is (ap (λ head. head.cells) head_is ∙ length-map on.group cell) on.small on.stored
