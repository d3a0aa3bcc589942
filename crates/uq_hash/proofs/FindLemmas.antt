-- The value of a key by what stands behind its place.
use Rattle.std.proofs.Common.{◌≡◌, ℕ, true, Bor, List, [], ◌∷◌, map, Some, None, refl, ap, subst, ◌∙◌}
use Rattle.std.specs.Prelude.{All}
use Rattle.std.specs.FinMap.{is_sorted}
use Rattle.std.specs.FinMap.Entries.{find}
use Rattle.std.proofs.lemmas.List.Elements.{All-head}
use Rattle.uq_page.specs.Cell.{kept_bytes}
use Rattle.uq_page.specs.declared.cell.Cell.{Cell}
use Rattle.uq_hash.specs.declared.seeking.Bound.TheVariants.{Before}
use Rattle.uq_hash.specs.declared.searching.Place.{Place}
use Rattle.uq_hash.specs.declared.searching.Standing.TheVariants.{Cell as AtCell, Nothing}
use Rattle.uq_hash.specs.Looked.{IsEntry}
use Rattle.uq_hash.specs.Map.{Stored, Chained, HasValue, IsStored, entry}
use Rattle.uq_hash.specs.Place.{Stands, StopsAt}
use Rattle.uq_hash.specs.Standing.{IsKeyed, front_of, rest_of}
use Rattle.uq_hash.specs.WalkOrder.{walk_cmp}
use Rattle.uq_hash.proofs.OpenLemmas.{all_right}
use Rattle.uq_hash.proofs.SplitLemmas.{find_split, found_split, missed_split, sorted_right, split_at}

-- the entry whose cell stands behind the place of its key
pub record KeyEntry (start : ℕ) (pages : List (List ℕ)) (cells : List Stored) (key : List ℕ) (rest : List Stored) (seen : Cell) : Type 0 where
  pub it : Stored
  pub others : List Stored
  pub rest_is : rest ≡ it ∷ others
  pub same : it.key ≡ key
  pub is : IsEntry pages it seen.len (kept_bytes seen.value)
  pub found : find (walk_cmp start) key (map entry cells) ≡ Some it.value

entry_of_rest : (start : ℕ) (pages : List (List ℕ)) (cells : List Stored) (key : Bor (List ℕ)) (rest : List Stored) (found : Cell) → find (walk_cmp start) key.now (map entry cells) ≡ find (walk_cmp start) key.now (map entry rest)
    → All IsStored rest → All (HasValue pages) rest → IsKeyed rest key.now (AtCell found) → KeyEntry start pages cells key.now rest found
entry_of_rest start pages cells key [] found same sizes values keyed = absurd keyed
entry_of_rest start pages cells key (it ∷ others) found same sizes values keyed = record {
  it = it;
  others = others;
  rest_is = refl;
  same = keyed.1;
  is = record { stored = All-head IsStored it others sizes; has = All-head (HasValue pages) it others values; long = keyed.0.long; bytes_are = keyed.0.bytes };
  found = same ∙ found_split start key it others keyed.1;
}

pub key_entry : (start : ℕ) (pages : List (List ℕ)) (row : List ℕ) (cells : List Stored) (key : Bor (List ℕ)) (place : Place) (stands : Stands start pages row cells (Before key) place.no place.spot) (found : Cell)
    → Chained start pages row cells → IsKeyed (rest_of stands) key.now (AtCell found) → KeyEntry start pages cells key.now (rest_of stands) found
key_entry start pages row cells key place stands found is keyed =
    let split = split_at start pages row cells (Before key) place.no place.spot stands in
    entry_of_rest start pages cells key (rest_of stands) found (find_split start cells key (front_of stands) (rest_of stands) split is.order)
    (all_right IsStored (front_of stands) (rest_of stands) (subst (All IsStored) split.is is.sizes))
    (all_right (HasValue pages) (front_of stands) (rest_of stands) (subst (All (HasValue pages)) split.is is.values)) keyed

missed_rest : (start : ℕ) (key : Bor (List ℕ)) (rest : List Stored) → StopsAt start (Before key) rest → is_sorted (walk_cmp start) (map entry rest) ≡ true → IsKeyed rest key.now Nothing → find (walk_cmp start) key.now (map entry rest) ≡ None
missed_rest start key [] stops sorted keyed = refl
missed_rest start key (it ∷ others) stops sorted keyed = missed_split start key (it ∷ others) stops sorted (λ x more split same. keyed (ap (λ (xs : List Stored). (first xs).key) split ∙ same))
  where
    first : List Stored → Stored
    first [] = it
    first (x ∷ xs) = x

pub key_missed : (start : ℕ) (pages : List (List ℕ)) (row : List ℕ) (cells : List Stored) (key : Bor (List ℕ)) (place : Place) (stands : Stands start pages row cells (Before key) place.no place.spot)
    → Chained start pages row cells → IsKeyed (rest_of stands) key.now Nothing → find (walk_cmp start) key.now (map entry cells) ≡ None
key_missed start pages row cells key place stands is keyed =
    let split = split_at start pages row cells (Before key) place.no place.spot stands in
    let sorted = sorted_right start (front_of stands) (rest_of stands) (subst (λ (xs : List Stored). is_sorted (walk_cmp start) (map entry xs) ≡ true) split.is is.order) in
    find_split start cells key (front_of stands) (rest_of stands) split is.order ∙ missed_rest start key (rest_of stands) split.stops sorted keyed
