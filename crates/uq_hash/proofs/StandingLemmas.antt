-- What stands behind a place.
use Rattle.std.proofs.Common.{◌≡◌, ◌⊎◌, inl, inr, ℕ, ◌+◌, ◌-◌, ◌<◌, ◌≤◌, List, [], ◌∷◌, ◌++◌, length, take, drop, None, Some, append_assoc, refl, sym, ap, subst, ◌∙◌, arith}
use Rattle.std.specs.Prelude.{All}
use Rattle.std.proofs.lemmas.Bool.{cases_lt}
use Rattle.std.proofs.lemmas.List.{drop_more, drop_all, take_more, length-map}
use Rattle.std.proofs.lemmas.List.Elements.{All-head}
use Rattle.uq_page.specs.Cell.{IsCellAt}
use Rattle.uq_page.specs.Page.{bytes_of}
use Rattle.uq_page.specs.declared.cell.Cell.{Cell}
use Rattle.uq_hash.specs.declared.seeking.Bound.{Bound}
use Rattle.uq_hash.specs.declared.searching.Place.{Place}
use Rattle.uq_hash.specs.declared.searching.Standing.{Standing}
use Rattle.uq_hash.specs.declared.searching.Standing.TheVariants.{Cell as AtCell, Nothing}
use Rattle.uq_hash.specs.Found.{IsFound, IsHere, IsNear}
use Rattle.uq_hash.specs.Map.{Stored, IsStored, cell, kept}
use Rattle.uq_hash.specs.Place.{IsSmall, at, flat, nothing}
use Rattle.uq_hash.specs.Standing.{IsKeyed, IsStanding, front_of, rest_of, standing_key}
use Rattle.uq_hash.specs.Split.{first_key, last_key}
use Rattle.uq_hash.proofs.CellLemmas.{cell_behind}
use Rattle.uq_hash.proofs.OpenLemmas.{all_left, all_right, flat-append}

-- the entries of the place's page are small and stored
pub group_small : (start : ℕ) (pages : List (List ℕ)) (row : List ℕ) (cells : List Stored) (bound : Bound) (place : Place) (found : IsFound start pages row cells bound place) → IsSmall found.stands.group
group_small start pages row cells bound place found =
    let stands = found.stands in
    All-head IsSmall stands.group stands.more (all_right IsSmall stands.done (stands.group ∷ stands.more) (subst (All IsSmall) stands.groups_are stands.opened.small))

pub group_stored : (start : ℕ) (pages : List (List ℕ)) (row : List ℕ) (cells : List Stored) (bound : Bound) (place : Place) (found : IsFound start pages row cells bound place) → All IsStored found.stands.group
group_stored start pages row cells bound place found =
    let stands = found.stands in
    let all : cells ≡ flat stands.done ++ (stands.group ++ flat stands.more) = sym stands.opened.all ∙ ap flat stands.groups_are ∙ flat-append stands.done (stands.group ∷ stands.more) in
    all_left IsStored stands.group (flat stands.more) (all_right IsStored (flat stands.done) (stands.group ++ flat stands.more) (subst (All IsStored) all stands.opened.sizes))

pub group_count : (start : ℕ) (pages : List (List ℕ)) (row : List ℕ) (cells : List Stored) (bound : Bound) (place : Place) (found : IsFound start pages row cells bound place) → place.it.head.cells ≡ length found.stands.group
group_count start pages row cells bound place found = ap (λ head. head.cells) found.head ∙ length-map found.stands.group cell

-- the cell at the place lies in its page
pub cell_there : (start : ℕ) (pages : List (List ℕ)) (row : List ℕ) (cells : List Stored) (bound : Bound) (place : Place) (found : IsFound start pages row cells bound place) → place.spot.index < length found.stands.group
    → IsCellAt (bytes_of place.it.page) place.spot.at (at found.stands.group place.spot.index).key (length (at found.stands.group place.spot.index).value) (kept (at found.stands.group place.spot.index))
cell_there start pages row cells bound place found within =
    cell_behind (bytes_of place.it.page) found.stands.group place.it.head.next place.spot.index place.spot.at found.page.is (group_small start pages row cells bound place found) within
    (group_stored start pages row cells bound place found place.spot.index nothing within) found.stands.spot_is.begins

pub rest_here : (start : ℕ) (pages : List (List ℕ)) (row : List ℕ) (cells : List Stored) (bound : Bound) (place : Place) (found : IsFound start pages row cells bound place) → place.spot.index < length found.stands.group
    → rest_of found.stands ≡ at found.stands.group place.spot.index ∷ (drop (place.spot.index + 1) found.stands.group ++ flat found.stands.more)
rest_here start pages row cells bound place found within = ap (λ (xs : List Stored). xs ++ flat found.stands.more) (drop_more found.stands.group place.spot.index nothing within)

-- no entry is behind the place
pub rest_none : (start : ℕ) (pages : List (List ℕ)) (row : List ℕ) (cells : List Stored) (bound : Bound) (place : Place) (here : IsHere start pages row cells bound place) → place.spot.index ≡ place.it.head.cells
    → rest_of here.found.stands ≡ []
rest_none start pages row cells bound place here all = by_end here.here (group_count start pages row cells bound place here.found)
  where
    by_end : (place.spot.index < length here.found.stands.group) ⊎ (here.found.stands.more ≡ []) → place.it.head.cells ≡ length here.found.stands.group → rest_of here.found.stands ≡ []
    by_end (inl less) count = absurd (omega arith)
    by_end (inr none) count = ap (λ (xs : List Stored). xs ++ flat here.found.stands.more) (drop_all place.spot.index here.found.stands.group (omega arith)) ∙ ap flat none

pub here_within : (start : ℕ) (pages : List (List ℕ)) (row : List ℕ) (cells : List Stored) (bound : Bound) (place : Place) (here : IsHere start pages row cells bound place) → (place.spot.index ≡ place.it.head.cells → ⊥)
    → place.spot.index < length here.found.stands.group
here_within start pages row cells bound place here unlike =
    let count = group_count start pages row cells bound place here.found in
    let few = here.found.stands.spot_is.within in
    less (λ same. unlike (same ∙ sym count)) few
  where
    less : {m n : ℕ} → (m ≡ n → ⊥) → m ≤ n → m < n
    less {m = m} {n = n} unlike few = by_cases (cases_lt m n)
      where
        by_cases : (m < n) ⊎ (n ≤ m) → m < n
        by_cases (inl is) = is
        by_cases (inr more) = absurd (unlike (omega arith))

-- by what stands behind the place, whether it is the key's
pub keyed_here : (rest : List Stored) (key : List ℕ) (found : Cell) → IsStanding rest (AtCell found) → found.key.now ≡ key → IsKeyed rest key (AtCell found)
keyed_here [] key found standing same = absurd standing
keyed_here (it ∷ rest) key found standing same = (standing, sym standing.key ∙ same)

pub keyed_other : (rest : List Stored) (key : List ℕ) (found : Cell) → IsStanding rest (AtCell found) → (found.key.now ≡ key → ⊥) → IsKeyed rest key Nothing
keyed_other [] key found standing unlike = absurd standing
keyed_other (it ∷ rest) key found standing unlike = λ same. unlike (standing.key ∙ same)

pub keyed_none : (rest : List Stored) (key : List ℕ) → IsStanding rest Nothing → IsKeyed rest key Nothing
keyed_none [] key standing = tt
keyed_none (it ∷ rest) key standing = absurd standing

-- the key of what stands behind the place
pub standing_first : (rest : List Stored) (standing : Standing) → IsStanding rest standing → standing_key standing ≡ first_key rest
standing_first [] (AtCell found) is = absurd is
standing_first [] Nothing is = refl
standing_first (it ∷ rest) (AtCell found) is = ap Some is.key
standing_first (it ∷ rest) Nothing is = absurd is

last_pushed : (xs : List Stored) (x : Stored) → last_key (xs ++ x ∷ []) ≡ Some x.key
last_pushed [] x = refl
last_pushed (y ∷ []) x = refl
last_pushed (y ∷ z ∷ xs) x = last_pushed (z ∷ xs) x

-- the last entry before the place, on its page
pub last_near : (start : ℕ) (pages : List (List ℕ)) (row : List ℕ) (cells : List Stored) (bound : Bound) (place : Place) (near : IsNear start pages row cells bound place) → 1 ≤ place.spot.index
    → last_key (front_of near.found.stands) ≡ Some (at near.found.stands.group (place.spot.index - 1)).key
last_near start pages row cells bound place near some =
    let stands = near.found.stands in
    let few = stands.spot_is.within in
    let back : place.spot.index ≡ place.spot.index - 1 + 1 = omega arith in
    ap (λ n. last_key (flat stands.done ++ take n stands.group)) back
    ∙ ap (λ xs. last_key (flat stands.done ++ xs)) (take_more stands.group (place.spot.index - 1) nothing (omega arith))
    ∙ ap last_key (sym (append_assoc (flat stands.done) (take (place.spot.index - 1) stands.group) (at stands.group (place.spot.index - 1) ∷ [])))
    ∙ last_pushed (flat stands.done ++ take (place.spot.index - 1) stands.group) (at stands.group (place.spot.index - 1))

pub last_none : (start : ℕ) (pages : List (List ℕ)) (row : List ℕ) (cells : List Stored) (bound : Bound) (place : Place) (near : IsNear start pages row cells bound place) → place.spot.index ≡ 0 → None ≡ last_key (front_of near.found.stands)
last_none start pages row cells bound place near none = by_near near.near
  where
    by_near : (1 ≤ place.spot.index) ⊎ (near.found.stands.done ≡ []) → None ≡ last_key (front_of near.found.stands)
    by_near (inl some) = absurd (omega arith)
    by_near (inr first) = sym (ap (λ gs. last_key (flat gs ++ take place.spot.index near.found.stands.group)) first ∙ ap (λ n. last_key (take n near.found.stands.group)) none)

-- and its cell lies in the page
pub cell_last : (start : ℕ) (pages : List (List ℕ)) (row : List ℕ) (cells : List Stored) (bound : Bound) (place : Place) (near : IsNear start pages row cells bound place) → 1 ≤ place.spot.index
    → IsCellAt (bytes_of place.it.page) place.spot.last (at near.found.stands.group (place.spot.index - 1)).key (length (at near.found.stands.group (place.spot.index - 1)).value) (kept (at near.found.stands.group (place.spot.index - 1)))
cell_last start pages row cells bound place near some =
    let stands = near.found.stands in
    let few = stands.spot_is.within in
    let within : place.spot.index - 1 < length stands.group = omega arith in
    cell_behind (bytes_of place.it.page) stands.group place.it.head.next (place.spot.index - 1) place.spot.last near.found.page.is (group_small start pages row cells bound place near.found) within
    (group_stored start pages row cells bound place near.found (place.spot.index - 1) nothing within) (stands.spot_is.last some)
