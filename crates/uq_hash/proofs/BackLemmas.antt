-- A place in the page of the entry before it.
use Rattle.std.proofs.Common.{◌≡◌, ◌⊎◌, inl, inr, ℕ, ◌<◌, ◌≤◌, List, [], ◌∷◌, ◌++◌, length, map, drop, Some, sym, ap, subst, ◌∙◌, arith, append_assoc}
use Rattle.std.specs.Prelude.{All, slice_get}
use Rattle.std.proofs.lemmas.Bool.{cases_lt, false≢true}
use Rattle.std.proofs.lemmas.List.{take_all, drop_all}
use Rattle.uq_page.specs.Page.{bytes_of}
use Rattle.uq_page.specs.Row.{IsRow}
use Rattle.uq_hash.specs.declared.bucket_page.BucketPage.{BucketPage}
use Rattle.uq_hash.specs.declared.seeking.Bound.{Bound}
use Rattle.uq_hash.specs.declared.seeking.Bound.TheVariants.{End}
use Rattle.uq_hash.specs.declared.seeking.Spot.{Spot}
use Rattle.uq_hash.specs.declared.searching.Place.{Place}
use Rattle.uq_hash.specs.Bucket.{IsBucketPage, head_of}
use Rattle.uq_hash.specs.Found.{HasPrev, IsHere, IsNear, IsPrev}
use Rattle.uq_hash.specs.Map.{Stored, IsStored, cell, first_of}
use Rattle.uq_hash.specs.Place.{IsBefore, IsSmall, IsSpot, entries_page, flat}
use Rattle.uq_hash.specs.Standing.{rest_of}
use Rattle.uq_hash.proofs.OpenLemmas.{group_some, all_left, all_right, flat-append, flat_push, row_behind}
use Rattle.uq_hash.proofs.SearchLemmas.{OnPage, on_groups, read_is}

pub near_itself : (start : ℕ) (pages : List (List ℕ)) (row : List ℕ) (cells : List Stored) (bound : Bound) (place : Place) → IsHere start pages row cells bound place → (1 ≤ place.spot.index) ⊎ (place.prev ≡ 0)
    → IsNear start pages row cells bound place
near_itself start pages row cells bound place here is = record { found = here.found; near = by_prev is here.prev }
  where
    by_prev : (1 ≤ place.spot.index) ⊎ (place.prev ≡ 0) → IsPrev here.found.stands.passed here.found.stands.done place.prev → (1 ≤ place.spot.index) ⊎ (here.found.stands.done ≡ [])
    by_prev (inl some) prev = inl some
    by_prev (inr none) (inl first) = inr first.0
    by_prev (inr none) (inr has) = let some = has.some in absurd (omega arith)

pub has_prev : (start : ℕ) (pages : List (List ℕ)) (row : List ℕ) (cells : List Stored) (bound : Bound) (place : Place) (here : IsHere start pages row cells bound place) → (place.prev ≡ 0 → ⊥)
    → HasPrev here.found.stands.passed here.found.stands.done place.prev
has_prev start pages row cells bound place here some = by_prev here.prev
  where
    by_prev : IsPrev here.found.stands.passed here.found.stands.done place.prev → HasPrev here.found.stands.passed here.found.stands.done place.prev
    by_prev (inl first) = absurd (some first.1)
    by_prev (inr has) = has

row_at : (pages : List (List ℕ)) (head n : ℕ) (left : List ℕ) (groups : List (List Stored)) → IsRow entries_page pages head (n ∷ left) groups → IsRow entries_page pages n (n ∷ left) groups
row_at pages head n left [] is = absurd is
row_at pages head n left (g ∷ gs) is = subst (λ (m : ℕ). IsRow entries_page pages m (n ∷ left) (g ∷ gs)) is.is is

pub prev_page : (start : ℕ) (pages : List (List ℕ)) (row : List ℕ) (cells : List Stored) (bound : Bound) (place : Place) (here : IsHere start pages row cells bound place)
    (back : HasPrev here.found.stands.passed here.found.stands.done place.prev) → OnPage pages (place.prev ∷ place.no ∷ here.found.stands.behind) (back.group ∷ here.found.stands.group ∷ here.found.stands.more) place.prev
prev_page start pages row cells bound place here back =
    let stands = here.found.stands in
    let left = place.prev ∷ place.no ∷ stands.behind in
    let groups = back.group ∷ stands.group ∷ stands.more in
    let row_is : row ≡ back.front ++ left = stands.row_is ∙ ap (λ xs. xs ++ place.no ∷ stands.behind) back.passed_are ∙ append_assoc back.front (place.prev ∷ []) (place.no ∷ stands.behind) in
    let groups_are : stands.opened.groups ≡ back.early ++ groups = stands.groups_are ∙ ap (λ gs. gs ++ stands.group ∷ stands.more) back.done_are ∙ append_assoc back.early (back.group ∷ []) (stands.group ∷ stands.more) in
    let P : List ℕ → List (List Stored) → Type 0 = λ xs gs. IsRow entries_page pages (first_of row) xs gs in
    let whole : IsRow entries_page pages (first_of row) (back.front ++ left) (back.early ++ groups) = subst (λ gs. P (back.front ++ left) gs) groups_are (subst (λ xs. P xs stands.opened.groups) row_is stands.opened.linked) in
    let behind = row_behind entries_page pages (first_of row) back.front left back.early groups back.as_many whole in
    let all : cells ≡ flat back.early ++ flat groups = sym stands.opened.all ∙ ap flat groups_are ∙ flat-append back.early groups in
    on_groups pages left groups place.prev (omega arith) (row_at pages behind.0 place.prev (place.no ∷ stands.behind) groups behind.1)
    (all_right IsSmall back.early groups (subst (All IsSmall) groups_are stands.opened.small))
    (all_right IsStored (flat back.early) (flat groups) (subst (All IsStored) all stands.opened.sizes))

pub near_back : (start : ℕ) (pages : List (List ℕ)) (row : List ℕ) (cells : List Stored) (bound : Bound) (place : Place) (it : BucketPage) (spot : Spot) (here : IsHere start pages row cells bound place)
    (back : HasPrev here.found.stands.passed here.found.stands.done place.prev) → place.spot.index ≡ 0
    → (on : OnPage pages (place.prev ∷ place.no ∷ here.found.stands.behind) (back.group ∷ here.found.stands.group ∷ here.found.stands.more) place.prev)
    → slice_get pages place.prev ≡ Some (bytes_of it.page) → it.head ≡ head_of (map cell on.group) on.next → IsSpot start on.group End spot
    → IsNear start pages row cells bound (record { prev = 0; no = place.prev; it = it; spot = spot })
near_back start pages row cells bound place it spot here back first on read head_is is =
    let stands = here.found.stands in
    let groups_are : stands.opened.groups ≡ back.early ++ on.group ∷ on.more =
    stands.groups_are ∙ ap (λ gs. gs ++ stands.group ∷ stands.more) back.done_are ∙ append_assoc back.early (back.group ∷ []) (stands.group ∷ stands.more) ∙ ap (λ gs. back.early ++ gs) on.groups_are in
    let group_is : back.group ≡ on.group = ap (λ (gs : List (List Stored)). first_group gs) on.groups_are in
    let more_is : stands.group ∷ stands.more ≡ on.more = ap (drop 1) on.groups_are in
    let behind_is : place.no ∷ stands.behind ≡ on.behind = ap (drop 1) on.left_is in
    let next_is : it.head.next ≡ on.next = ap (λ head. head.next) head_is in
    let whole : length on.group ≤ spot.index = all_passed (cases_lt spot.index (length on.group)) is in
    let done_all : All (IsBefore start bound) (flat back.early ++ back.group) = subst (All (IsBefore start bound)) (ap flat back.done_are ∙ flat_push back.early back.group) stands.before in
    let group_all : All (IsBefore start bound) on.group = subst (All (IsBefore start bound)) group_is (all_right (IsBefore start bound) (flat back.early) back.group done_all) in
    let rest_is : drop spot.index on.group ++ flat on.more ≡ rest_of stands =
    ap (λ (xs : List Stored). xs ++ flat on.more) (drop_all spot.index on.group whole) ∙ ap flat (sym more_is) ∙ ap (λ n. drop n stands.group ++ flat stands.more) (sym first) in
    record {
      found = record {
        stands = record {
          opened = stands.opened;
          passed = back.front;
          behind = on.behind;
          done = back.early;
          group = on.group;
          more = on.more;
          row_is = stands.row_is ∙ ap (λ xs. xs ++ place.no ∷ stands.behind) back.passed_are ∙ append_assoc back.front (place.prev ∷ []) (place.no ∷ stands.behind) ∙ ap (λ xs. back.front ++ xs) on.left_is;
          groups_are = groups_are;
          as_many = back.as_many;
          before = all_left (IsBefore start bound) (flat back.early) back.group done_all;
          spot_is = record {
            within = is.within;
            begins = is.begins;
            last = is.last;
            before = subst (All (IsBefore start bound)) (sym (take_all spot.index on.group whole)) group_all;
            stops = λ less. absurd (omega arith);
          };
          stops = λ x others split. stands.stops x others (sym rest_is ∙ split);
        };
        page = subst (IsBucketPage (bytes_of it.page) (map cell on.group)) (sym next_is) (read_is pages _ _ place.prev (bytes_of it.page) on read);
        head = head_is ∙ ap (head_of (map cell on.group)) (sym next_is);
        there = read;
        some = on.some;
      };
      near = near_group (group_some back.early on.group on.more cells (stands.opened.filled_are ∙ ap (map (map cell)) groups_are)) whole;
    }
  where
    first_group : List (List Stored) → List Stored
    first_group [] = []
    first_group (g ∷ gs) = g

    all_passed : (spot.index < length on.group) ⊎ (length on.group ≤ spot.index) → IsSpot start on.group End spot → length on.group ≤ spot.index
    all_passed (inl less) is = absurd (false≢true (sym (is.stops less)))
    all_passed (inr all) is = all

    near_group : (1 ≤ length on.group) ⊎ (back.early ≡ []) → length on.group ≤ spot.index → (1 ≤ spot.index) ⊎ (back.early ≡ [])
    near_group (inl some) whole = inl (omega arith)
    near_group (inr none) whole = inr none
