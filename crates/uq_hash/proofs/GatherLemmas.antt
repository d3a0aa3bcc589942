-- The cells of a bucket from a place on, one page after another.
use Rattle.std.proofs.Common.{◌≡◌, ℕ, ◌+◌, ◌-◌, ◌<◌, ◌≤◌, ◌^◌, List, [], ◌∷◌, ◌++◌, length, map, drop, Some, refl, sym, ap, subst, ◌∙◌, arith, append_assoc, append-nil, length-append}
use Rattle.std.proofs.lemmas.Option.{same_Some}
use Rattle.std.specs.Prelude.{All, slice_get}
use Rattle.std.proofs.lemmas.List.{length-drop}
use Rattle.std.proofs.lemmas.List.Elements.{All-tail}
use Rattle.uq_page.specs.Page.{bytes_of}
use Rattle.uq_page.specs.Row.{IsRow}
use Rattle.uq_page.specs.RowLaws.{row_short}
use Rattle.uq_hash.specs.declared.seeking.Bound.{Bound}
use Rattle.uq_hash.specs.declared.searching.Place.{Place}
use Rattle.uq_hash.specs.Found.{IsNear}
use Rattle.uq_hash.specs.Lying.{LiesAt, sizes_of}
use Rattle.uq_hash.specs.Map.{Stored, IsStored, cell, first_of}
use Rattle.uq_hash.specs.Place.{IsSmall, cells_bytes, entries_page, flat}
use Rattle.uq_hash.specs.Standing.{rest_of}
use Rattle.uq_hash.proofs.CellLemmas.{bucket_tells}
use Rattle.uq_hash.proofs.LyingLemmas.{cells_bytes-append, lies_behind, sizes_of-append}
use Rattle.uq_hash.proofs.OpenLemmas.{all_right, flat-append, row_behind, row_none, row_some}
use Rattle.uq_hash.proofs.SearchLemmas.{OnPage, on_groups}
use Rattle.uq_hash.proofs.StandingLemmas.{group_count, group_small, group_stored}

-- The pages from that of the place on are gathered up to `next`, with the cells behind the place.
pub record Gathering (start : ℕ) (pages : List (List ℕ)) (row : List ℕ) (cells : List Stored) (bound : Bound) (place : Place) (near : IsNear start pages row cells bound place) (next : ℕ) (made sizes bytes : List ℕ) (seen : ℕ) : Type 0 where
  pub left : List ℕ
  pub groups : List (List Stored)
  pub linked : IsRow entries_page pages next left groups
  pub small : All IsSmall groups
  pub stored : All IsStored (flat groups)
  pub row_is : place.no ∷ near.found.stands.behind ≡ made ++ left
  pub sizes_are : sizes_of (rest_of near.found.stands) ≡ sizes ++ sizes_of (flat groups)
  pub bytes_are : cells_bytes (rest_of near.found.stands) ≡ bytes ++ cells_bytes (flat groups)
  pub count : seen + length left + 1 ≤ length pages

-- the cells behind the place in its page
pub lies_here : (start : ℕ) (pages : List (List ℕ)) (row : List ℕ) (cells : List Stored) (bound : Bound) (place : Place) (near : IsNear start pages row cells bound place)
    → LiesAt (bytes_of place.it.page) place.spot.at (drop place.spot.index near.found.stands.group)
lies_here start pages row cells bound place near =
    lies_behind (bytes_of place.it.page) near.found.stands.group place.it.head.next place.spot.index place.spot.at near.found.page.is (group_small start pages row cells bound place near.found)
    (group_stored start pages row cells bound place near.found) near.found.stands.spot_is.begins

pub left_count : (start : ℕ) (pages : List (List ℕ)) (row : List ℕ) (cells : List Stored) (bound : Bound) (place : Place) (near : IsNear start pages row cells bound place)
    → place.it.head.cells - place.spot.index ≡ length (drop place.spot.index near.found.stands.group)
left_count start pages row cells bound place near =
    let count = group_count start pages row cells bound place near.found in
    let long = length-drop place.spot.index near.found.stands.group in
    omega arith

row_from : (pages : List (List ℕ)) (head n : ℕ) (behind : List ℕ) (group : List Stored) (more : List (List Stored)) (page : List ℕ) (next : ℕ) → IsRow entries_page pages head (n ∷ behind) (group ∷ more) → slice_get pages n ≡ Some page
    → page ≡ entries_page group next → next < 2 ^ 32 → IsRow entries_page pages next behind more
row_from pages head n behind group more page next is there page_is fits =
    let same : is.next ≡ next = bucket_tells (map cell group) (map cell group) is.next next is.fits fits (same_Some (entries_page group is.next) (entries_page group next) (sym is.page ∙ there ∙ ap Some page_is)) in
    subst (λ (m : ℕ). IsRow entries_page pages m behind more) same is.rest

pub gathering_first : (start : ℕ) (pages : List (List ℕ)) (row : List ℕ) (cells : List Stored) (bound : Bound) (place : Place) (near : IsNear start pages row cells bound place) (sizes bytes : List ℕ)
    → sizes ≡ [] ++ sizes_of (drop place.spot.index near.found.stands.group) → bytes ≡ [] ++ cells_bytes (drop place.spot.index near.found.stands.group)
    → Gathering start pages row cells bound place near place.it.head.next (place.no ∷ []) sizes bytes 0
gathering_first start pages row cells bound place near sizes bytes sizes_are bytes_are =
    let stands = near.found.stands in
    let P : List ℕ → List (List Stored) → Type 0 = λ xs gs. IsRow entries_page pages (first_of row) xs gs in
    let whole : IsRow entries_page pages (first_of row) (stands.passed ++ place.no ∷ stands.behind) (stands.done ++ stands.group ∷ stands.more) =
    subst (λ gs. P (stands.passed ++ place.no ∷ stands.behind) gs) stands.groups_are (subst (λ xs. P xs stands.opened.groups) stands.row_is stands.opened.linked) in
    let behind = row_behind entries_page pages (first_of row) stands.passed (place.no ∷ stands.behind) stands.done (stands.group ∷ stands.more) stands.as_many whole in
    let all : cells ≡ flat stands.done ++ (stands.group ++ flat stands.more) = sym stands.opened.all ∙ ap flat stands.groups_are ∙ flat-append stands.done (stands.group ∷ stands.more) in
    let short = row_short entries_page (λ a b m n fits fits' page. bucket_tells (map cell a) (map cell b) m n fits fits' page) pages (first_of row) row stands.opened.groups stands.opened.linked in
    let long = ap length stands.row_is in
    let parts = length-append stands.passed (place.no ∷ stands.behind) in
    record {
      left = stands.behind;
      groups = stands.more;
      linked = row_from pages behind.0 place.no stands.behind stands.group stands.more (bytes_of place.it.page) place.it.head.next behind.1 near.found.there near.found.page.is near.found.page.fits;
      small = All-tail IsSmall stands.group stands.more (all_right IsSmall stands.done (stands.group ∷ stands.more) (subst (All IsSmall) stands.groups_are stands.opened.small));
      stored = all_right IsStored stands.group (flat stands.more) (all_right IsStored (flat stands.done) (stands.group ++ flat stands.more) (subst (All IsStored) all stands.opened.sizes));
      row_is = refl;
      sizes_are = sizes_of-append (drop place.spot.index stands.group) (flat stands.more) ∙ ap (λ xs. xs ++ sizes_of (flat stands.more)) (sym sizes_are);
      bytes_are = cells_bytes-append (drop place.spot.index stands.group) (flat stands.more) ∙ ap (λ xs. xs ++ cells_bytes (flat stands.more)) (sym bytes_are);
      count = omega arith;
    }

-- the page where the gathering goes on
pub gathering_page : (start : ℕ) (pages : List (List ℕ)) (row : List ℕ) (cells : List Stored) (bound : Bound) (place : Place) (near : IsNear start pages row cells bound place) (next : ℕ) (made sizes bytes : List ℕ) (seen : ℕ)
    (so : Gathering start pages row cells bound place near next made sizes bytes seen) → (next ≡ 0 → ⊥) → OnPage pages so.left so.groups next
gathering_page start pages row cells bound place near next made sizes bytes seen so some =
    on_groups pages so.left so.groups next (row_some entries_page pages next so.left so.groups so.linked some) so.linked so.small so.stored

pub gathering_more : (start : ℕ) (pages : List (List ℕ)) (row : List ℕ) (cells : List Stored) (bound : Bound) (place : Place) (near : IsNear start pages row cells bound place) (here next : ℕ) (made sizes bytes new_sizes new_bytes : List ℕ) (seen : ℕ)
    (so : Gathering start pages row cells bound place near here made sizes bytes seen) (on : OnPage pages so.left so.groups here) → next ≡ on.next → new_sizes ≡ sizes ++ sizes_of on.group → new_bytes ≡ bytes ++ cells_bytes on.group
    → Gathering start pages row cells bound place near next (made ++ here ∷ []) new_sizes new_bytes (seen + 1)
gathering_more start pages row cells bound place near here next made sizes bytes new_sizes new_bytes seen so on next_is sizes_now bytes_now =
    let all : flat so.groups ≡ on.group ++ flat on.more = ap flat on.groups_are in
    let long = ap length on.left_is in
    let count = so.count in
    record {
      left = on.behind;
      groups = on.more;
      linked = subst (λ (n : ℕ). IsRow entries_page pages n on.behind on.more) (sym next_is) on.rest;
      small = All-tail IsSmall on.group on.more (subst (All IsSmall) on.groups_are so.small);
      stored = all_right IsStored on.group (flat on.more) (subst (All IsStored) all so.stored);
      row_is = so.row_is ∙ ap (λ xs. made ++ xs) on.left_is ∙ sym (append_assoc made (here ∷ []) on.behind);
      sizes_are = so.sizes_are ∙ ap (λ xs. sizes ++ xs) (ap sizes_of all ∙ sizes_of-append on.group (flat on.more)) ∙ sym (append_assoc sizes (sizes_of on.group) (sizes_of (flat on.more))) ∙ ap (λ xs. xs ++ sizes_of (flat on.more)) (sym sizes_now);
      bytes_are = so.bytes_are ∙ ap (λ xs. bytes ++ xs) (ap cells_bytes all ∙ cells_bytes-append on.group (flat on.more)) ∙ sym (append_assoc bytes (cells_bytes on.group) (cells_bytes (flat on.more)))
          ∙ ap (λ xs. xs ++ cells_bytes (flat on.more)) (sym bytes_now);
      count = omega arith;
    }

-- all is gathered
pub gathering_all : (start : ℕ) (pages : List (List ℕ)) (row : List ℕ) (cells : List Stored) (bound : Bound) (place : Place) (near : IsNear start pages row cells bound place) (next : ℕ) (made sizes bytes : List ℕ) (seen : ℕ)
    → Gathering start pages row cells bound place near next made sizes bytes seen → next ≡ 0 → (made ≡ place.no ∷ near.found.stands.behind) × (sizes ≡ sizes_of (rest_of near.found.stands)) × (bytes ≡ cells_bytes (rest_of near.found.stands))
gathering_all start pages row cells bound place near next made sizes bytes seen so none =
    let no_groups = row_none entries_page pages next so.left so.groups so.linked none in
    let no_row : so.left ≡ [] = no_left so.left so.groups (subst (λ (n : ℕ). IsRow entries_page pages n so.left so.groups) none so.linked) in (
      sym (append-nil made) ∙ ap (λ xs. made ++ xs) (sym no_row) ∙ sym so.row_is,
      sym (append-nil sizes) ∙ ap (λ gs. sizes ++ sizes_of (flat gs)) (sym no_groups) ∙ sym so.sizes_are,
      sym (append-nil bytes) ∙ ap (λ gs. bytes ++ cells_bytes (flat gs)) (sym no_groups) ∙ sym so.bytes_are,
    )
  where
    no_left : (left : List ℕ) (groups : List (List Stored)) → IsRow entries_page pages 0 left groups → left ≡ []
    no_left [] groups is = refl
    no_left (n ∷ left) [] is = absurd is
    no_left (n ∷ left) (g ∷ gs) is = let here = is.is in let some = is.some in absurd (omega arith)
