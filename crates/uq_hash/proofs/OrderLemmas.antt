-- The first and the last key of a map by its entries in walk order.
use Rattle.std.proofs.Common.{◌≡◌, ◌⊎◌, inl, inr, ℕ, Bool, true, false, cond, is_some, Bor, List, [], ◌∷◌, ◌++◌, map, Option, Some, None, refl, sym, ap, subst, ◌∙◌}
use Rattle.std.specs.Prelude.{All}
use Rattle.std.specs.Ordering.{is_eq, is_ge, is_gt, is_lt, ordering_reverse}
use Rattle.std.proofs.lemmas.Option.{same_Some}
use Rattle.std.specs.Cmp.{tied_itself}
use Rattle.std.specs.FinMap.{contains_key, get, is_sorted}
use Rattle.std.specs.FinMap.Entries.{below_all, find}
use Rattle.std.specs.declared.cmp.Ordering.{Ordering}
use Rattle.std.specs.declared.cmp.Ordering.TheVariants.{Less, Equal, Greater}
use Rattle.std.proofs.lemmas.Bool.{false≢true}
use Rattle.std.proofs.lemmas.List.Elements.{All-head, All-tail}
use Rattle.uq_hash.specs.declared.seeking.Bound.{Bound}
use Rattle.uq_hash.specs.declared.seeking.Bound.TheVariants.{Start, Before, Behind, End}
use Rattle.uq_hash.specs.Map.{Map, Stored, entry}
use Rattle.uq_hash.specs.Place.{IsBefore, StopsAt, passes}
use Rattle.uq_hash.specs.Split.{Split, first_key, last_key}
use Rattle.uq_hash.specs.Walk.{Any, GivesFirst, GivesLast}
use Rattle.uq_hash.specs.WalkOrder.{walk_cmp}
use Rattle.uq_hash.proofs.SplitLemmas.{find_front, sorted_right}
use Rattle.uq_hash.proofs.WalkLemmas.{and_left, and_right, find_less, less_is, walk_same, walk_total}

-- an order the other way round
pub turned_less : (start : ℕ) (a b : List ℕ) → walk_cmp start a b ≡ Greater → walk_cmp start b a ≡ Less
turned_less start a b is = (walk_total start).antisymm b a ∙ ap ordering_reverse is

pub turned_greater : (start : ℕ) (a b : List ℕ) → walk_cmp start a b ≡ Less → walk_cmp start b a ≡ Greater
turned_greater start a b is = (walk_total start).antisymm b a ∙ ap ordering_reverse is

not_there : (m : Map) (key : List ℕ) → get m key ≡ None → contains_key m key ≡ true → ⊥
not_there m key none there = false≢true (sym (ap is_some none) ∙ there)

-- what lies before a bound is less than what does not
pub passes_less : (start : ℕ) (bound : Bound) (a b : List ℕ) → passes start bound a ≡ true → passes start bound b ≡ false → walk_cmp start a b ≡ Less
passes_less start Start a b before stops = absurd (false≢true before)
passes_less start (Before key) a b before stops =
    elim (walk_cmp start key.now b) as (λ r. walk_cmp start key.now b ≡ r → walk_cmp start a b ≡ Less) [
      | Less ↦ λ is. (walk_total start).trans a key.now b less is
      | Equal ↦ λ is. subst (λ (x : List ℕ). walk_cmp start a x ≡ Less) (walk_same start key.now b is) less
      | Greater ↦ λ is. absurd (false≢true (sym stops ∙ ap is_gt is))
    ] refl
  where
    less : walk_cmp start a key.now ≡ Less
    less = turned_less start key.now a (greater (walk_cmp start key.now a) before)
      where
        greater : (r : Ordering) → is_gt r ≡ true → r ≡ Greater
        greater Less h = absurd (false≢true h)
        greater Equal h = absurd (false≢true h)
        greater Greater h = refl
passes_less start (Behind key) a b before stops =
    elim (walk_cmp start key.now a) as (λ r. walk_cmp start key.now a ≡ r → walk_cmp start a b ≡ Less) [
      | Less ↦ λ is. absurd (false≢true (sym (ap is_ge is) ∙ before))
      | Equal ↦ λ is. subst (λ (x : List ℕ). walk_cmp start x b ≡ Less) (walk_same start key.now a is) (less (walk_cmp start key.now b) stops)
      | Greater ↦ λ is. (walk_total start).trans a key.now b (turned_less start key.now a is) (less (walk_cmp start key.now b) stops)
    ] refl
  where
    less : (r : Ordering) → is_ge r ≡ false → r ≡ Less
    less Less h = refl
    less Equal h = absurd (false≢true (sym h))
    less Greater h = absurd (false≢true (sym h))
passes_less start End a b before stops = absurd (false≢true (sym stops))

pub bool_cases : (b : Bool) → (b ≡ true) ⊎ (b ≡ false)
bool_cases true = inl refl
bool_cases false = inr refl

-- the first key behind a bound is the first of the map's
pub gives_first : (start : ℕ) (m : Map) (cells : List Stored) (bound : Bound) (front rest : List Stored) → Split start cells bound front rest → is_sorted (walk_cmp start) (map entry cells) ≡ true
    → ((key : List ℕ) → find (walk_cmp start) key (map entry cells) ≡ get m key) → GivesFirst start m (λ key. passes start bound key ≡ false) (first_key rest)
gives_first start m cells bound front rest split sorted gets = by_rest rest split.stops sorted_rest (λ key stops. sym (gets key) ∙ ap (λ (xs : List Stored). find (walk_cmp start) key (map entry xs)) split.is ∙ find_front start bound key front rest stops split.before)
  where
    sorted_rest : is_sorted (walk_cmp start) (map entry rest) ≡ true
    sorted_rest = sorted_right start front rest (subst (λ (xs : List Stored). is_sorted (walk_cmp start) (map entry xs) ≡ true) split.is sorted)

    by_rest : (rest : List Stored) → StopsAt start bound rest → is_sorted (walk_cmp start) (map entry rest) ≡ true → ((key : List ℕ) → passes start bound key ≡ false → get m key ≡ find (walk_cmp start) key (map entry rest))
        → GivesFirst start m (λ key. passes start bound key ≡ false) (first_key rest)
    by_rest [] stops ordered finds = λ key there behind. not_there m key (finds key behind) there
    by_rest (it ∷ others) stops ordered finds = record {
      there = ap is_some (finds it.key (stops it others refl) ∙ ap (λ r. cond (is_eq r) (Some it.value) (find (walk_cmp start) it.key (map entry others))) (tied_itself (walk_total start) it.key));
      is = stops it others refl;
      first = λ other there behind greater. not_there m other (finds other behind ∙ find_less start other (entry it) (map entry others) (turned_less start it.key other greater) ordered) there;
    }

missed_behind : (start : ℕ) (bound : Bound) (rest : List Stored) (other : List ℕ) → StopsAt start bound rest → is_sorted (walk_cmp start) (map entry rest) ≡ true → passes start bound other ≡ true → find (walk_cmp start) other (map entry rest) ≡ None
missed_behind start bound [] other stops sorted before = refl
missed_behind start bound (it ∷ others) other stops sorted before = find_less start other (entry it) (map entry others) (passes_less start bound other it.key before (stops it others refl)) sorted

-- a key behind the last of some entries is not among them
record Missed (start : ℕ) (other : List ℕ) (xs : List Stored) (first : List ℕ) : Type 0 where
  pub less : walk_cmp start first other ≡ Less
  pub none : find (walk_cmp start) other (map entry xs) ≡ None

skip : (start : ℕ) (x : Stored) (other : List ℕ) (xs : List Stored) → walk_cmp start x.key other ≡ Less → find (walk_cmp start) other (map entry xs) ≡ None → find (walk_cmp start) other (map entry (x ∷ xs)) ≡ None
skip start x other xs less none = ap (λ r. cond (is_eq r) (Some x.value) (find (walk_cmp start) other (map entry xs))) (turned_greater start x.key other less) ∙ none

missed_front : (start : ℕ) (x : Stored) (front rest : List Stored) (key other : List ℕ) → last_key (x ∷ front) ≡ Some key → is_sorted (walk_cmp start) (map entry (x ∷ front ++ rest)) ≡ true → walk_cmp start key other ≡ Less
    → find (walk_cmp start) other (map entry rest) ≡ None → Missed start other (x ∷ front ++ rest) x.key
missed_front start x [] rest key other last sorted less none =
    let here : walk_cmp start x.key other ≡ Less = subst (λ (k : List ℕ). walk_cmp start k other ≡ Less) (sym (same_Some x.key key last)) less in
    record { less = here; none = skip start x other rest here none }
missed_front start x (y ∷ front) rest key other last sorted less none =
    let more = missed_front start y front rest key other last (and_right (below_all (walk_cmp start) x.key (map entry (y ∷ front ++ rest))) (is_sorted (walk_cmp start) (map entry (y ∷ front ++ rest))) sorted) less none in
    let next : walk_cmp start x.key y.key ≡ Less = less_is (walk_cmp start x.key y.key) (and_left (is_lt (walk_cmp start x.key y.key)) (below_all (walk_cmp start) x.key (map entry (front ++ rest)))
    (and_left (below_all (walk_cmp start) x.key (map entry (y ∷ front ++ rest))) (is_sorted (walk_cmp start) (map entry (y ∷ front ++ rest))) sorted)) in
    let here = (walk_total start).trans x.key y.key other next more.less in
    record { less = here; none = skip start x other (y ∷ front ++ rest) here more.none }

last_before : (start : ℕ) (bound : Bound) (x : Stored) (front : List Stored) (key : List ℕ) → last_key (x ∷ front) ≡ Some key → All (IsBefore start bound) (x ∷ front) → passes start bound key ≡ true
last_before start bound x [] key last all = ap (passes start bound) (sym (same_Some x.key key last)) ∙ All-head (IsBefore start bound) x [] all
last_before start bound x (y ∷ front) key last all = last_before start bound y front key last (All-tail (IsBefore start bound) x (y ∷ front) all)

-- the last entry is found
last_found : (start : ℕ) (x : Stored) (front rest : List Stored) (key : List ℕ) → last_key (x ∷ front) ≡ Some key → is_some (find (walk_cmp start) key (map entry (x ∷ front ++ rest))) ≡ true
last_found start x [] rest key last =
    ap (λ r. is_some (cond (is_eq r) (Some x.value) (find (walk_cmp start) key (map entry rest)))) (ap (λ (k : List ℕ). walk_cmp start k x.key) (sym (same_Some x.key key last)) ∙ tied_itself (walk_total start) x.key)
last_found start x (y ∷ front) rest key last =
    elim (is_eq (walk_cmp start key x.key)) as (λ b. is_some (cond b (Some x.value) (find (walk_cmp start) key (map entry (y ∷ front ++ rest)))) ≡ true) [
      | true ↦ refl
      | false ↦ last_found start y front rest key last
    ]

last_some : (x : Stored) (front : List Stored) → (key : List ℕ) × (last_key (x ∷ front) ≡ Some key)
last_some x [] = (x.key, refl)
last_some x (y ∷ front) = last_some y front

-- the last key before a bound is the last of the map's
pub gives_last : (start : ℕ) (m : Map) (cells : List Stored) (bound : Bound) (front rest : List Stored) → Split start cells bound front rest → is_sorted (walk_cmp start) (map entry cells) ≡ true
    → ((key : List ℕ) → find (walk_cmp start) key (map entry cells) ≡ get m key) → GivesLast start m (λ key. passes start bound key ≡ true) (last_key front)
gives_last start m cells bound front rest split sorted gets = by_front front split.before ordered (λ key. sym (gets key) ∙ ap (λ (xs : List Stored). find (walk_cmp start) key (map entry xs)) split.is)
  where
    ordered : is_sorted (walk_cmp start) (map entry (front ++ rest)) ≡ true
    ordered = subst (λ (xs : List Stored). is_sorted (walk_cmp start) (map entry xs) ≡ true) split.is sorted

    missed : (other : List ℕ) → passes start bound other ≡ true → find (walk_cmp start) other (map entry rest) ≡ None
    missed other before = missed_behind start bound rest other split.stops (sorted_right start front rest ordered) before

    by_front : (front : List Stored) → All (IsBefore start bound) front → is_sorted (walk_cmp start) (map entry (front ++ rest)) ≡ true → ((key : List ℕ) → get m key ≡ find (walk_cmp start) key (map entry (front ++ rest)))
        → GivesLast start m (λ key. passes start bound key ≡ true) (last_key front)
    by_front [] all order finds = λ key there before. not_there m key (finds key ∙ missed key before) there
    by_front (x ∷ front) all order finds =
        let last = last_some x front in
        subst (GivesLast start m (λ key. passes start bound key ≡ true)) (sym last.1) (record {
          there = ap is_some (finds last.0) ∙ last_found start x front rest last.0 last.1;
          is = last_before start bound x front last.0 last.1 all;
          last = λ other there before less. not_there m other (finds other ∙ (missed_front start x front rest last.0 other last.1 order less (missed other before)).none) there;
        })

-- the same by another word for what lies behind the bound
first_as : (start : ℕ) (m : Map) (P Q : List ℕ → Type 0) (found : Option (List ℕ)) → ((key : List ℕ) → P key → Q key) → ((key : List ℕ) → Q key → P key) → GivesFirst start m P found → GivesFirst start m Q found
first_as start m P Q None there back is = λ key among q. is key among (back key q)
first_as start m P Q (Some key) there back is = record { there = is.there; is = there key is.is; first = λ other among q greater. is.first other among (back other q) greater }

last_as : (start : ℕ) (m : Map) (P Q : List ℕ → Type 0) (found : Option (List ℕ)) → ((key : List ℕ) → P key → Q key) → ((key : List ℕ) → Q key → P key) → GivesLast start m P found → GivesLast start m Q found
last_as start m P Q None there back is = λ key among q. is key among (back key q)
last_as start m P Q (Some key) there back is = record { there = is.there; is = there key is.is; last = λ other among q less. is.last other among (back other q) less }

pub first_of_all : (start : ℕ) (m : Map) (found : Option (List ℕ)) → GivesFirst start m (λ key. passes start Start key ≡ false) found → (given : Option (List ℕ)) → given ≡ found → GivesFirst start m Any given
first_of_all start m found is given same =
    subst (GivesFirst start m Any) (sym same) (first_as start m (λ key. passes start Start key ≡ false) Any found (λ key p. tt) (λ key q. refl) is)

pub last_of_all : (start : ℕ) (m : Map) (found : Option (List ℕ)) → GivesLast start m (λ key. passes start End key ≡ true) found → (given : Option (List ℕ)) → given ≡ found → GivesLast start m Any given
last_of_all start m found is given same =
    subst (GivesLast start m Any) (sym same) (last_as start m (λ key. passes start End key ≡ true) Any found (λ key p. tt) (λ key q. refl) is)

not_ge : (r : Ordering) → is_ge r ≡ false → r ≡ Less
not_ge Less h = refl
not_ge Equal h = absurd (false≢true (sym h))
not_ge Greater h = absurd (false≢true (sym h))

gt_is : (r : Ordering) → is_gt r ≡ true → r ≡ Greater
gt_is Less h = absurd (false≢true h)
gt_is Equal h = absurd (false≢true h)
gt_is Greater h = refl

pub first_behind : (start : ℕ) (m : Map) (key : Bor (List ℕ)) (found : Option (List ℕ)) → GivesFirst start m (λ other. passes start (Behind key) other ≡ false) found → (given : Option (List ℕ)) → given ≡ found
    → GivesFirst start m (λ other. walk_cmp start key.now other ≡ Less) given
first_behind start m key found is given same =
    subst (GivesFirst start m (λ other. walk_cmp start key.now other ≡ Less)) (sym same)
    (first_as start m (λ other. passes start (Behind key) other ≡ false) (λ other. walk_cmp start key.now other ≡ Less) found (λ other p. not_ge (walk_cmp start key.now other) p) (λ other q. ap is_ge q) is)

pub last_before_key : (start : ℕ) (m : Map) (key : Bor (List ℕ)) (found : Option (List ℕ)) → GivesLast start m (λ other. passes start (Before key) other ≡ true) found → (given : Option (List ℕ)) → given ≡ found
    → GivesLast start m (λ other. walk_cmp start other key.now ≡ Less) given
last_before_key start m key found is given same =
    subst (GivesLast start m (λ other. walk_cmp start other key.now ≡ Less)) (sym same)
    (last_as start m (λ other. passes start (Before key) other ≡ true) (λ other. walk_cmp start other key.now ≡ Less) found
    (λ other p. turned_less start key.now other (gt_is (walk_cmp start key.now other) p)) (λ other q. ap is_gt (turned_greater start other key.now q)) is)
