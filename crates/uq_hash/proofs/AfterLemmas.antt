-- The bucket after a change.
use Rattle.std.proofs.Common.{◌≡◌, ◌⊎◌, inl, inr, ℕ, ◌+◌, ◌<◌, ◌≤◌, true, List, [], ◌∷◌, ◌++◌, length, map, take, drop, refl, sym, ap, subst, ◌∙◌, arith, length-append}
use Rattle.std.specs.Prelude.{All, slice_get}
use Rattle.std.specs.List.{AllByRecursion}
use Rattle.std.specs.FinMap.{is_sorted}
use Rattle.std.proofs.lemmas.Bool.{cases_lt}
use Rattle.std.proofs.lemmas.List.{length-map, length-take, map-append, take-append-drop}
use Rattle.std.proofs.lemmas.List.Concat.{flat_map-append}
use Rattle.std.proofs.lemmas.List.Elements.{All-append, All-from_recursion, recursion_from_All}
use Rattle.uq_page.specs.Numbers.{times}
use Rattle.uq_page.specs.NumberLaws.{none_or_some, times-append}
use Rattle.uq_page.specs.declared.layout.TheConstants.{MOST_INLINE}
use Rattle.uq_page.specs.Row.{IsRow}
use Rattle.uq_page.specs.RowLaws.{keeps_row, row_joined, row_within}
use Rattle.uq_page.specs.ValuePage.{value_page}
use Rattle.uq_chain.specs.Chain.{pieces}
use Rattle.uq_chain.specs.ChainLaws.{keeps_chain}
use Rattle.uq_hash.specs.declared.seeking.Bound.{Bound}
use Rattle.uq_hash.specs.declared.searching.Place.{Place}
use Rattle.uq_hash.specs.Cells.{bucket_page, filled}
use Rattle.uq_hash.specs.Found.{IsNear}
use Rattle.uq_hash.specs.Map.{Chained, HasValue, IsStored, Stored, cell, entry, first_of, value_pages}
use Rattle.uq_hash.specs.Place.{cells_bytes, flat}
use Rattle.uq_hash.specs.Standing.{front_of, rest_of}
use Rattle.uq_hash.specs.WalkOrder.{walk_cmp}
use Rattle.uq_hash.proofs.ChangeLemmas.{Changes, made_stays, page_stays, stored_stays}
use Rattle.uq_hash.proofs.FillLemmas.{filled_front, refilled}
use Rattle.uq_hash.proofs.FillLemmas as fill
use Rattle.uq_hash.proofs.LyingLemmas.{cells_bytes-append}
use Rattle.uq_hash.proofs.OpenLemmas.{all_left, all_right}
use Rattle.uq_hash.proofs.SplitLemmas.{split_at}
use Rattle.uq_hash.proofs.StandingLemmas.{group_small}

pub value_pages-append : (xs ys : List Stored) → value_pages (xs ++ ys) ≡ value_pages xs ++ value_pages ys
value_pages-append xs ys = flat_map-append (λ (it : Stored). it.row) xs ys

-- values stay where their pages do
values_by : (before after : List (List ℕ)) (cells : List Stored) → ((n : ℕ) → 1 ≤ times n (value_pages cells) → slice_get after n ≡ slice_get before n) → AllByRecursion (HasValue before) cells → AllByRecursion (HasValue after) cells
values_by before after [] same all = tt
values_by before after (it ∷ cells) same all = (
  record {
    inline = all.0.inline;
    chained = λ more. keeps_chain before after (first_of it.row) it.row it.value (λ n some. same n (let sum = times-append n it.row (value_pages cells) in omega arith)) (all.0.chained more);
  },
  values_by before after cells (λ n some. same n (let sum = times-append n it.row (value_pages cells) in omega arith)) all.1,
)

pub values_stay : (before after : List (List ℕ)) (cells : List Stored) → ((n : ℕ) → 1 ≤ times n (value_pages cells) → slice_get after n ≡ slice_get before n) → All (HasValue before) cells → All (HasValue after) cells
values_stay before after cells same all = All-from_recursion (HasValue after) cells (values_by before after cells same (recursion_from_All (HasValue before) cells all))

-- the cells of groups of entries
pub flat_cells : (groups : List (List Stored)) → map cell (flat groups) ≡ fill.flat (map (map cell) groups)
flat_cells [] = refl
flat_cells (g ∷ gs) = map-append cell g (flat gs) ∙ ap (λ xs. map cell g ++ xs) (flat_cells gs)

-- The entries on the place's page before the place, and those from there on, as they are laid anew.
abbrev pub tail_of : (start : ℕ) (pages : List (List ℕ)) (row : List ℕ) (cells : List Stored) (bound : Bound) (place : Place) → IsNear start pages row cells bound place → List Stored → List Stored
tail_of start pages row cells bound place near more = take place.spot.index near.found.stands.group ++ more

some_cells : (xs : List Stored) (done : List (List Stored)) (index : ℕ) → (1 ≤ index) ⊎ (done ≡ []) → index ≡ length xs → (1 ≤ length (map cell xs)) ⊎ (map (map cell) done ≡ [])
some_cells xs done index (inl some) long = let same = length-map xs cell in inl (omega arith)
some_cells xs done index (inr none) long = inr (ap (map (map cell)) none)

pub front_len : (index : ℕ) (group : List Stored) → index ≤ length group → index ≡ length (take index group)
front_len index group few = let long = length-take index group in omega arith

-- The pages before the place keep their cells, and those from there on are filled anew.
pub refilled_bucket : (start : ℕ) (pages : List (List ℕ)) (row : List ℕ) (cells : List Stored) (bound : Bound) (place : Place) (near : IsNear start pages row cells bound place) (more : List Stored)
    → filled [] (map cell (front_of near.found.stands ++ more)) ≡ map (map cell) near.found.stands.done ++ filled [] (map cell (tail_of start pages row cells bound place near more))
refilled_bucket start pages row cells bound place near more =
    let stands = near.found.stands in
    let last = take place.spot.index stands.group in
    let split = split_at start pages row cells bound place.no place.spot stands in
    let groups : filled [] (map cell cells) ≡ map (map cell) stands.done ++ map cell stands.group ∷ map (map cell) stands.more =
    stands.opened.filled_are ∙ ap (map (map cell)) stands.groups_are ∙ map-append (map cell) stands.done (stands.group ∷ stands.more) in
    let page : map cell stands.group ≡ map cell last ++ map cell (drop place.spot.index stands.group) =
    ap (map cell) (sym (take-append-drop place.spot.index stands.group)) ∙ map-append cell last (drop place.spot.index stands.group) in
    let old : filled [] (map cell (front_of stands) ++ map cell (rest_of stands)) ≡ map (map cell) stands.done ++ (map cell last ++ map cell (drop place.spot.index stands.group)) ∷ map (map cell) stands.more =
    ap (filled []) (sym (ap (map cell) split.is ∙ map-append cell (front_of stands) (rest_of stands))) ∙ groups ∙ ap (λ g. map (map cell) stands.done ++ g ∷ map (map cell) stands.more) page in
    let cut : map cell (front_of stands) ≡ fill.flat (map (map cell) stands.done) ++ map cell last = map-append cell (flat stands.done) last ∙ ap (λ xs. xs ++ map cell last) (flat_cells stands.done) in
    let front = filled_front [] (map cell (front_of stands)) (map cell (rest_of stands)) (map (map cell) stands.done) (map cell last) (map cell (drop place.spot.index stands.group)) (map (map cell) stands.more) old cut
    (some_cells last stands.done place.spot.index near.near (front_len place.spot.index stands.group stands.spot_is.within)) in
    let small = group_small start pages row cells bound place near.found in
    let bytes = ap length (ap cells_bytes (sym (take-append-drop place.spot.index stands.group)) ∙ cells_bytes-append last (drop place.spot.index stands.group)) in
    let sum = length-append (cells_bytes last) (cells_bytes (drop place.spot.index stands.group)) in
    ap (filled []) (map-append cell (front_of stands) more) ∙ refilled (map cell (front_of stands)) (map cell more) (map (map cell) stands.done) (map cell last) front (omega arith)
    ∙ ap (λ xs. map (map cell) stands.done ++ filled [] xs) (sym (map-append cell last more))

-- the row of the bucket after the change
pub linked_after : (start : ℕ) (before b1 b2 b3 : List (List ℕ)) (f1 f2 f3 : ℕ) (free fixed stay old stored made row : List ℕ) (cells : List Stored) (bound : Bound) (place : Place) (near : IsNear start before row cells bound place) (more : List Stored) (head : ℕ)
    (so : Changes before b1 b2 b3 f1 f2 f3 free fixed near.found.stands.passed (place.no ∷ near.found.stands.behind) stay old stored made)
    → IsRow bucket_page before head row (filled [] (map cell cells)) → IsRow bucket_page b2 place.no made (filled [] (map cell (tail_of start before row cells bound place near more)))
    → IsRow bucket_page b3 head (near.found.stands.passed ++ made) (filled [] (map cell (front_of near.found.stands ++ more)))
linked_after start before b1 b2 b3 f1 f2 f3 free fixed stay old stored made row cells bound place near more head so linked laid =
    let stands = near.found.stands in
    let groups : filled [] (map cell cells) ≡ map (map cell) stands.done ++ map cell stands.group ∷ map (map cell) stands.more =
    stands.opened.filled_are ∙ ap (map (map cell)) stands.groups_are ∙ map-append (map cell) stands.done (stands.group ∷ stands.more) in
    let whole : IsRow bucket_page before head (stands.passed ++ place.no ∷ stands.behind) (map (map cell) stands.done ++ map cell stands.group ∷ map (map cell) stands.more) =
    subst (λ gs. IsRow bucket_page before head (stands.passed ++ place.no ∷ stands.behind) gs) groups (subst (λ xs. IsRow bucket_page before head xs (filled [] (map cell cells))) stands.row_is linked) in
    let new : IsRow bucket_page b3 place.no made (filled [] (map cell (tail_of start before row cells bound place near more))) =
    keeps_row bucket_page b2 b3 place.no made (filled [] (map cell (tail_of start before row cells bound place near more)))
    (λ n some. made_stays before b1 b2 b3 f1 f2 f3 free fixed stands.passed (place.no ∷ stands.behind) stay old stored made so n some
    ((row_within bucket_page b2 place.no made (filled [] (map cell (tail_of start before row cells bound place near more))) n laid some).1)) laid in
    let long = length-map stands.done (map cell) in
    let as_many = stands.as_many in
    subst (λ gs. IsRow bucket_page b3 head (stands.passed ++ made) gs) (sym (refilled_bucket start before row cells bound place near more))
    (row_joined bucket_page before b3 head place.no stands.passed stands.behind (map (map cell) stands.done) (map cell stands.group) (map (map cell) stands.more) made
    (filled [] (map cell (tail_of start before row cells bound place near more))) (omega arith)
    (λ n some. page_stays before b1 b2 b3 f1 f2 f3 free fixed stands.passed (place.no ∷ stands.behind) stay old stored made so n (omega arith)) whole new)

-- What the entries behind the place are, before and after the change: `olds` are gone, `news` have come, and `others` stay.
pub record Turn (start : ℕ) (before b1 : List (List ℕ)) (row : List ℕ) (cells : List Stored) (bound : Bound) (place : Place) (near : IsNear start before row cells bound place) (olds news others : List Stored) : Type 0 where
  pub rest_is : rest_of near.found.stands ≡ olds ++ others
  pub order : is_sorted (walk_cmp start) (map entry (front_of near.found.stands ++ (news ++ others))) ≡ true
  pub stored : All IsStored news
  pub values : All (HasValue b1) news

-- the pages of the values that stay
abbrev pub stay_of : (start : ℕ) (pages : List (List ℕ)) (row : List ℕ) (cells : List Stored) (bound : Bound) (place : Place) → IsNear start pages row cells bound place → List Stored → List ℕ
stay_of start pages row cells bound place near others = value_pages (front_of near.found.stands ++ others)

-- the pages of values lie among the pages, and page 0 is none of them
pub values_within : (pages : List (List ℕ)) (cells : List Stored) (n : ℕ) → AllByRecursion (HasValue pages) cells → 1 ≤ times n (value_pages cells) → (1 ≤ n) × (n < length pages)
values_within pages [] n all some = absurd (omega arith)
values_within pages (it ∷ cells) n all some = by_cases (none_or_some (times n it.row)) (cases_lt MOST_INLINE (length it.value)) (times-append n it.row (value_pages cells)) (λ more. values_within pages cells n all.1 more)
  where
    by_cases : (times n it.row ≡ 0) ⊎ (1 ≤ times n it.row) → (MOST_INLINE < length it.value) ⊎ (length it.value ≤ MOST_INLINE) → times n (it.row ++ value_pages cells) ≡ times n it.row + times n (value_pages cells)
        → (1 ≤ times n (value_pages cells) → (1 ≤ n) × (n < length pages)) → (1 ≤ n) × (n < length pages)
    by_cases (inl none) size sum behind = behind (omega arith)
    by_cases (inr here) (inl long) sum behind = let chain = all.0.chained long in row_within value_page pages (first_of it.row) it.row (pieces it.row it.value) n chain.linked here
    by_cases (inr here) (inr few) sum behind = let none = ap (times n) (all.0.inline few) in absurd (omega arith)

-- the bucket after the change
pub chained_after : (start : ℕ) (before b1 b2 b3 : List (List ℕ)) (f1 f2 f3 : ℕ) (free fixed made row : List ℕ) (cells : List Stored) (bound : Bound) (place : Place) (near : IsNear start before row cells bound place) (olds news others : List Stored)
    (turn : Turn start before b1 row cells bound place near olds news others)
    (so : Changes before b1 b2 b3 f1 f2 f3 free fixed near.found.stands.passed (place.no ∷ near.found.stands.behind) (stay_of start before row cells bound place near others) (value_pages olds) (value_pages news) made)
    → Chained start before row cells → IsRow bucket_page b2 place.no made (filled [] (map cell (tail_of start before row cells bound place near (news ++ others)))) → first_of (near.found.stands.passed ++ made) ≡ first_of row
    → Chained start b3 (near.found.stands.passed ++ made) (front_of near.found.stands ++ (news ++ others))
chained_after start before b1 b2 b3 f1 f2 f3 free fixed made row cells bound place near olds news others turn so is laid first_is =
    let stands = near.found.stands in
    let front = front_of stands in
    let stay = stay_of start before row cells bound place near others in
    let split = split_at start before row cells bound place.no place.spot stands in
    let all : cells ≡ front ++ (olds ++ others) = split.is ∙ ap (λ xs. front ++ xs) turn.rest_is in
    let sizes : All IsStored (front ++ (olds ++ others)) = subst (All IsStored) all is.sizes in
    let values : All (HasValue before) (front ++ (olds ++ others)) = subst (All (HasValue before)) all is.values in
    let behind_sizes = all_right IsStored olds others (all_right IsStored front (olds ++ others) sizes) in
    let behind_values = all_right (HasValue before) olds others (all_right (HasValue before) front (olds ++ others) values) in
    let stays : (n : ℕ) → 1 ≤ times n stay → slice_get b3 n ≡ slice_get before n =
    λ n some. page_stays before b1 b2 b3 f1 f2 f3 free fixed stands.passed (place.no ∷ stands.behind) stay (value_pages olds) (value_pages news) made so n (omega arith) in
    let parts : (n : ℕ) → times n stay ≡ times n (value_pages front) + times n (value_pages others) = λ n. ap (times n) (value_pages-append front others) ∙ times-append n (value_pages front) (value_pages others) in
    record {
      order = turn.order;
      sizes = All-append IsStored front (news ++ others) (all_left IsStored front (olds ++ others) sizes) (All-append IsStored news others turn.stored behind_sizes);
      linked = subst (λ (n : ℕ). IsRow bucket_page b3 n (stands.passed ++ made) (filled [] (map cell (front ++ (news ++ others))))) (sym first_is)
          (linked_after start before b1 b2 b3 f1 f2 f3 free fixed stay (value_pages olds) (value_pages news) made row cells bound place near (news ++ others) (first_of row) so is.linked laid);
      values = All-append (HasValue b3) front (news ++ others)
          (values_stay before b3 front (λ n some. stays n (let sum = parts n in omega arith)) (all_left (HasValue before) front (olds ++ others) values))
          (All-append (HasValue b3) news others
          (values_stay b1 b3 news (λ n some. stored_stays before b1 b2 b3 f1 f2 f3 free fixed stands.passed (place.no ∷ stands.behind) stay (value_pages olds) (value_pages news) made so n some ((values_within b1 news n (recursion_from_All (HasValue b1) news turn.values) some).1)) turn.values)
          (values_stay before b3 others (λ n some. stays n (let sum = parts n in omega arith)) behind_values));
    }
