-- Entries in walk order, cut at a place.
use Rattle.std.proofs.Common.{◌≡◌, ◌⊎◌, inl, inr, ℕ, true, false, cond, Bor, List, [], ◌∷◌, ◌++◌, length, map, take, drop, Some, None, refl, sym, ap, ◌∙◌, append_assoc}
use Rattle.std.specs.Prelude.{All}
use Rattle.std.specs.Ordering.{is_eq, is_gt}
use Rattle.std.specs.Cmp.{tied_itself}
use Rattle.std.specs.FinMap.{is_sorted}
use Rattle.std.specs.FinMap.Entries.{find}
use Rattle.std.specs.declared.cmp.Ordering.TheVariants.{Less, Equal, Greater}
use Rattle.std.proofs.lemmas.Bool.{false≢true}
use Rattle.std.proofs.lemmas.List.{drop_at, map-append, take-append-drop}
use Rattle.std.proofs.lemmas.List.Elements.{All-append, All-head, All-tail}
use Rattle.uq_hash.specs.declared.seeking.Bound.{Bound}
use Rattle.uq_hash.specs.declared.seeking.Bound.TheVariants.{Before}
use Rattle.uq_hash.specs.declared.seeking.Spot.{Spot}
use Rattle.uq_hash.specs.Map.{Stored, entry}
use Rattle.uq_hash.specs.Place.{IsBefore, Stands, StopsAt, flat, passes}
use Rattle.uq_hash.specs.Split.{Split}
use Rattle.uq_hash.specs.Standing.{front_of, rest_of}
use Rattle.uq_hash.specs.WalkOrder.{walk_cmp}
use Rattle.uq_hash.proofs.OpenLemmas.{flat-append}
use Rattle.uq_hash.proofs.WalkLemmas.{find_less, sorted_drop, walk_same, walk_total}

pub split_at : (start : ℕ) (pages : List (List ℕ)) (row : List ℕ) (cells : List Stored) (bound : Bound) (n : ℕ) (spot : Spot) (stands : Stands start pages row cells bound n spot) → Split start cells bound (front_of stands) (rest_of stands)
split_at start pages row cells bound n spot stands = record {
  is = sym stands.opened.all ∙ ap flat stands.groups_are ∙ flat-append stands.done (stands.group ∷ stands.more)
      ∙ ap (λ xs. flat stands.done ++ (xs ++ flat stands.more)) (sym (take-append-drop spot.index stands.group))
      ∙ ap (λ xs. flat stands.done ++ xs) (append_assoc (take spot.index stands.group) (drop spot.index stands.group) (flat stands.more))
      ∙ sym (append_assoc (flat stands.done) (take spot.index stands.group) (rest_of stands));
  before = All-append (IsBefore start bound) (flat stands.done) (take spot.index stands.group) stands.before stands.spot_is.before;
  stops = stands.stops;
}

-- a key that does not lie before the bound is not among the entries that do
pub find_front : (start : ℕ) (bound : Bound) (other : List ℕ) (front rest : List Stored) → passes start bound other ≡ false → All (IsBefore start bound) front
    → find (walk_cmp start) other (map entry (front ++ rest)) ≡ find (walk_cmp start) other (map entry rest)
find_front start bound other [] rest stops all = refl
find_front start bound other (x ∷ front) rest stops all =
    ap (λ b. cond b (Some x.value) (find (walk_cmp start) other (map entry (front ++ rest)))) unlike
    ∙ find_front start bound other front rest stops (All-tail (IsBefore start bound) x front all)
  where
    unlike : is_eq (walk_cmp start other x.key) ≡ false
    unlike = elim (walk_cmp start other x.key) as (λ r. walk_cmp start other x.key ≡ r → is_eq r ≡ false) [
      | Less ↦ λ is. refl
      | Equal ↦ λ is. absurd (false≢true (sym stops ∙ ap (passes start bound) (walk_same start other x.key is) ∙ All-head (IsBefore start bound) x front all))
      | Greater ↦ λ is. refl
    ] refl

pub key_stops : (start : ℕ) (key : Bor (List ℕ)) → passes start (Before key) key.now ≡ false
key_stops start key = ap is_gt (tied_itself (walk_total start) key.now)

pub sorted_right : (start : ℕ) (front rest : List Stored) → is_sorted (walk_cmp start) (map entry (front ++ rest)) ≡ true → is_sorted (walk_cmp start) (map entry rest) ≡ true
sorted_right start front rest sorted =
    ap (is_sorted (walk_cmp start)) (sym (ap (drop (length (map entry front))) (map-append entry front rest) ∙ drop_at (map entry front) (map entry rest) (length (map entry front)) refl))
    ∙ sorted_drop start (length (map entry front)) (map entry (front ++ rest)) sorted

-- how a key is ordered to the first entry that does not lie before it
pub less_or_same : (start : ℕ) (key : Bor (List ℕ)) (other : List ℕ) → passes start (Before key) other ≡ false → (walk_cmp start key.now other ≡ Less) ⊎ (key.now ≡ other)
less_or_same start key other stops =
    elim (walk_cmp start key.now other) as (λ r. walk_cmp start key.now other ≡ r → (walk_cmp start key.now other ≡ Less) ⊎ (key.now ≡ other)) [
      | Less ↦ λ is. inl is
      | Equal ↦ λ is. inr (walk_same start key.now other is)
      | Greater ↦ λ is. absurd (false≢true (sym stops ∙ ap is_gt is))
    ] refl

pub find_split : (start : ℕ) (cells : List Stored) (key : Bor (List ℕ)) (front rest : List Stored) → Split start cells (Before key) front rest → is_sorted (walk_cmp start) (map entry cells) ≡ true
    → find (walk_cmp start) key.now (map entry cells) ≡ find (walk_cmp start) key.now (map entry rest)
find_split start cells key front rest so sorted =
    ap (λ (xs : List Stored). find (walk_cmp start) key.now (map entry xs)) so.is ∙ find_front start (Before key) key.now front rest (key_stops start key) so.before

pub found_split : (start : ℕ) (key : Bor (List ℕ)) (it : Stored) (others : List Stored) → it.key ≡ key.now → find (walk_cmp start) key.now (map entry (it ∷ others)) ≡ Some it.value
found_split start key it others is =
    ap (λ r. cond (is_eq r) (Some it.value) (find (walk_cmp start) key.now (map entry others))) (ap (walk_cmp start key.now) is ∙ tied_itself (walk_total start) key.now)

pub missed_split : (start : ℕ) (key : Bor (List ℕ)) (rest : List Stored) → StopsAt start (Before key) rest → is_sorted (walk_cmp start) (map entry rest) ≡ true
    → ((it : Stored) (others : List Stored) → rest ≡ it ∷ others → it.key ≡ key.now → ⊥) → find (walk_cmp start) key.now (map entry rest) ≡ None
missed_split start key [] stops sorted unlike = refl
missed_split start key (it ∷ others) stops sorted unlike = by_order (less_or_same start key it.key (stops it others refl))
  where
    by_order : (walk_cmp start key.now it.key ≡ Less) ⊎ (key.now ≡ it.key) → find (walk_cmp start) key.now (map entry (it ∷ others)) ≡ None
    by_order (inl less) = find_less start key.now (entry it) (map entry others) less sorted
    by_order (inr same) = absurd (unlike it others refl (sym same))

-- entries are cut at a bound in one way
pub split_unique : (start : ℕ) (bound : Bound) (front rest front' rest' : List Stored) → front ++ rest ≡ front' ++ rest' → All (IsBefore start bound) front → All (IsBefore start bound) front' → StopsAt start bound rest → StopsAt start bound rest'
    → (front ≡ front') × (rest ≡ rest')
split_unique start bound [] rest [] rest' same before before' stops stops' = (refl, same)
split_unique start bound [] rest (x ∷ front') rest' same before before' stops stops' = absurd (false≢true (sym (stops x (front' ++ rest') same) ∙ All-head (IsBefore start bound) x front' before'))
split_unique start bound (x ∷ front) rest [] rest' same before before' stops stops' = absurd (false≢true (sym (stops' x (front ++ rest) (sym same)) ∙ All-head (IsBefore start bound) x front before))
split_unique start bound (x ∷ front) rest (y ∷ front') rest' same before before' stops stops' =
    let here : x ≡ y = ap (first_or x) same in
    let behind = split_unique start bound front rest front' rest' (ap (drop 1) same) (All-tail (IsBefore start bound) x front before) (All-tail (IsBefore start bound) y front' before') stops stops' in
    (ap (λ (z : Stored). z ∷ front) here ∙ ap (λ (zs : List Stored). y ∷ zs) behind.0, behind.1)
  where
    first_or : Stored → List Stored → Stored
    first_or d [] = d
    first_or d (z ∷ zs) = z
