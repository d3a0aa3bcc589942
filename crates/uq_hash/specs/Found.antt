-- What a search in a bucket finds.
use Rattle.std.specs.Prelude.{◌≡◌, ◌⊎◌, ℕ, ◌<◌, ◌≤◌, List, [], ◌∷◌, ◌++◌, length, map, Option, Some, slice_get}
use Rattle.std.specs.Option.{ForSome}
use Rattle.uq_page.specs.Page.{bytes_of}
use Rattle.uq_page.specs.declared.layout.TheConstants.{CELLS_AT, PAGE_SIZE}
use Rattle.uq_hash.specs.declared.seeking.Bound.{Bound}
use Rattle.uq_hash.specs.declared.searching.Place.{Place}
use Rattle.uq_hash.specs.Bucket.{IsBucketPage, WhereChained, head_of}
use Rattle.uq_hash.specs.Map.{Stored, cell}
use Rattle.uq_hash.specs.Place.{Stands}

-- the page before, among those that are passed with the entries of each
pub record HasPrev (passed : List ℕ) (done : List (List Stored)) (prev : ℕ) : Type 0 where
  pub front : List ℕ
  pub early : List (List Stored)
  pub group : List Stored
  pub passed_are : passed ≡ front ++ prev ∷ []
  pub done_are : done ≡ early ++ group ∷ []
  pub as_many : length front ≡ length early
  pub some : 1 ≤ prev

-- there is no page before, or it is this one
abbrev pub IsPrev : List ℕ → List (List Stored) → ℕ → Type 0
IsPrev passed done prev = ((done ≡ []) × (prev ≡ 0)) ⊎ HasPrev passed done prev

-- The place is behind the entries before the bound, and its page was read.
pub record IsFound (start : ℕ) (pages : List (List ℕ)) (row : List ℕ) (cells : List Stored) (bound : Bound) (place : Place) : Type 0 where
  pub stands : Stands start pages row cells bound place.no place.spot
  pub page : IsBucketPage (bytes_of place.it.page) (map cell stands.group) place.it.head.next
  pub head : place.it.head ≡ head_of (map cell stands.group) place.it.head.next
  pub there : slice_get pages place.no ≡ Some (bytes_of place.it.page)
  pub some : 1 ≤ place.no

-- the entry behind the place is on its page, where there is one, and the page before is this one
pub record IsHere (start : ℕ) (pages : List (List ℕ)) (row : List ℕ) (cells : List Stored) (bound : Bound) (place : Place) : Type 0 where
  pub found : IsFound start pages row cells bound place
  pub here : (place.spot.index < length found.stands.group) ⊎ (found.stands.more ≡ [])
  pub prev : IsPrev found.stands.passed found.stands.done place.prev

-- the entry before the place is on its page, where there is one
pub record IsNear (start : ℕ) (pages : List (List ℕ)) (row : List ℕ) (cells : List Stored) (bound : Bound) (place : Place) : Type 0 where
  pub found : IsFound start pages row cells bound place
  pub near : (1 ≤ place.spot.index) ⊎ (found.stands.done ≡ [])

-- where the pages are told and a bucket begins there, the place of the bound was found
abbrev pub Finds : ℕ → Option (List (List ℕ)) → ℕ → Bound → Place → Type 0
Finds start told first bound place = WhereChained start told first (λ pages row cells. IsHere start pages row cells bound place)

-- the place lies in its page, whatever the page holds
pub record IsWithin (place : Place) : Type 0 where
  pub some : 1 ≤ place.no
  pub index : place.spot.index ≤ place.it.head.cells
  pub low : CELLS_AT ≤ place.spot.at
  pub high : place.spot.at ≤ PAGE_SIZE

-- P of the bucket's entries, where the pages are told and this is the place of some bound among them
abbrev pub WherePlace : ℕ → Option (List (List ℕ)) → Place → (List (List ℕ) → List ℕ → List Stored → Bound → Type 0) → Type 0
WherePlace start told place P = ForSome told (λ pages. (row : List ℕ) (cells : List Stored) (bound : Bound) → IsHere start pages row cells bound place → P pages row cells bound)

-- the pages are not told, or this is no place in a bucket
abbrev pub NoPlace : ℕ → Option (List (List ℕ)) → Place → Type 0
NoPlace start told place = WherePlace start told place (λ pages row cells bound. ⊥)

-- the same place, on the page of the entry before it
abbrev pub Nears : ℕ → Option (List (List ℕ)) → Place → Place → Type 0
Nears start told place near = WherePlace start told place (λ pages row cells bound. IsNear start pages row cells bound near)
