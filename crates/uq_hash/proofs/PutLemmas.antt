-- The entries of a bucket with a key put among them, and without it.
use Rattle.std.proofs.Common.{◌≡◌, ◌⊎◌, inl, inr, ℕ, Bool, true, false, cond, ◌&&◌, T, Bor, List, [], ◌∷◌, ◌++◌, map, Some, None, refl, sym, ap, subst, ◌∙◌}
use Rattle.std.specs.Prelude.{All}
use Rattle.std.specs.Ordering.{is_eq, is_gt, is_lt, eq_by_cmp}
use Rattle.std.specs.Cmp.{tied_itself}
use Rattle.std.specs.Cmp.Lexicographic.{nat_list_cmp_total}
use Rattle.std.specs.FinMap.{from_entries, get, get-from_entries, get-insert, get-remove, insert, is_sorted, remove, same_map}
use Rattle.std.specs.FinMap.Entries.{below_all, by_order, find, find-put, is_sorted-put, put}
use Rattle.std.specs.declared.cmp.Ordering.{Ordering}
use Rattle.std.specs.declared.cmp.Ordering.TheVariants.{Less, Equal, Greater}
use Rattle.std.proofs.lemmas.Bool.{false≢true}
use Rattle.std.proofs.lemmas.List.{map-append}
use Rattle.std.proofs.lemmas.List.Elements.{All-head, All-tail}
use Rattle.uq_hash.specs.declared.seeking.Bound.TheVariants.{Before}
use Rattle.uq_hash.specs.Map.{Entry, Map, Stored, entry}
use Rattle.uq_hash.specs.Place.{IsBefore, StopsAt}
use Rattle.uq_hash.specs.WalkOrder.{walk_cmp}
use Rattle.uq_hash.proofs.SplitLemmas.{find_front, key_stops, less_or_same}
use Rattle.uq_hash.proofs.WalkLemmas.{and_left, and_right, bytes_same, find_walk, less_is, tie_walk, true_is, walk_same, walk_total}

greater_is : (r : Ordering) → is_gt r ≡ true → r ≡ Greater
greater_is Less h = absurd (false≢true h)
greater_is Equal h = absurd (false≢true h)
greater_is Greater h = refl

-- a key is put behind the entries before it
put_front : (start : ℕ) (key : Bor (List ℕ)) (value : List ℕ) (front rest : List Stored) → All (IsBefore start (Before key)) front
    → put (walk_cmp start) key.now value (map entry (front ++ rest)) ≡ map entry front ++ put (walk_cmp start) key.now value (map entry rest)
put_front start key value [] rest all = refl
put_front start key value (x ∷ front) rest all =
    let behind = put_front start key value front rest (All-tail (IsBefore start (Before key)) x front all) in
    let order = greater_is (walk_cmp start key.now x.key) (All-head (IsBefore start (Before key)) x front all) in
    ap (λ r. by_order r ((key.now, value) ∷ map entry (x ∷ front ++ rest)) ((x.key, value) ∷ map entry (front ++ rest)) (entry x ∷ put (walk_cmp start) key.now value (map entry (front ++ rest)))) order
    ∙ ap (λ xs. entry x ∷ xs) behind

-- at the front of those that do not lie before it
put_new : (start : ℕ) (key : Bor (List ℕ)) (value : List ℕ) (rest : List Stored) → StopsAt start (Before key) rest → ((it : Stored) (others : List Stored) → rest ≡ it ∷ others → it.key ≡ key.now → ⊥)
    → put (walk_cmp start) key.now value (map entry rest) ≡ (key.now, value) ∷ map entry rest
put_new start key value [] stops unlike = refl
put_new start key value (it ∷ others) stops unlike = by_case (less_or_same start key it.key (stops it others refl))
  where
    by_case : (walk_cmp start key.now it.key ≡ Less) ⊎ (key.now ≡ it.key) → put (walk_cmp start) key.now value (map entry (it ∷ others)) ≡ (key.now, value) ∷ map entry (it ∷ others)
    by_case (inl less) = ap (λ r. by_order r ((key.now, value) ∷ map entry (it ∷ others)) ((it.key, value) ∷ map entry others) (entry it ∷ put (walk_cmp start) key.now value (map entry others))) less
    by_case (inr same) = absurd (unlike it others refl (sym same))

-- in place of its old entry
put_old : (start : ℕ) (key : Bor (List ℕ)) (value : List ℕ) (it : Stored) (others : List Stored) → it.key ≡ key.now → put (walk_cmp start) key.now value (map entry (it ∷ others)) ≡ (key.now, value) ∷ map entry others
put_old start key value it others same =
    ap (λ r. by_order r ((key.now, value) ∷ map entry (it ∷ others)) ((it.key, value) ∷ map entry others) (entry it ∷ put (walk_cmp start) key.now value (map entry others)))
    (ap (walk_cmp start key.now) same ∙ tied_itself (walk_total start) key.now) ∙ ap (λ (k : List ℕ). (k, value) ∷ map entry others) same

-- what a key's entries are, before and after it is put
pub record Puts (start : ℕ) (cells : List Stored) (key value : List ℕ) (front others : List Stored) : Type 0 where
  pub is : (row : List ℕ) → map entry (front ++ (record { key = key; value = value; row = row } ∷ others)) ≡ put (walk_cmp start) key value (map entry cells)

pub puts_new : (start : ℕ) (cells : List Stored) (key : Bor (List ℕ)) (value : List ℕ) (front rest : List Stored) → cells ≡ front ++ rest → All (IsBefore start (Before key)) front → StopsAt start (Before key) rest
    → ((it : Stored) (others : List Stored) → rest ≡ it ∷ others → it.key ≡ key.now → ⊥) → Puts start cells key.now value front rest
puts_new start cells key value front rest is all stops unlike = record {
  is = λ row. map-append entry front (record { key = key.now; value = value; row = row } ∷ rest) ∙ ap (λ xs. map entry front ++ xs) (sym (put_new start key value rest stops unlike))
      ∙ sym (put_front start key value front rest all) ∙ ap (λ (xs : List Stored). put (walk_cmp start) key.now value (map entry xs)) (sym is);
}

pub puts_old : (start : ℕ) (cells : List Stored) (key : Bor (List ℕ)) (value : List ℕ) (front : List Stored) (it : Stored) (others : List Stored) → cells ≡ front ++ it ∷ others → All (IsBefore start (Before key)) front → it.key ≡ key.now
    → Puts start cells key.now value front others
puts_old start cells key value front it others is all same = record {
  is = λ row. map-append entry front (record { key = key.now; value = value; row = row } ∷ others) ∙ ap (λ xs. map entry front ++ xs) (sym (put_old start key value it others same))
      ∙ sym (put_front start key value front (it ∷ others) all) ∙ ap (λ (xs : List Stored). put (walk_cmp start) key.now value (map entry xs)) (sym is);
}

-- entries in order stay so
pub order_after : (start : ℕ) (key value : List ℕ) (xs : List Entry) → is_sorted (walk_cmp start) xs ≡ true → is_sorted (walk_cmp start) (put (walk_cmp start) key value xs) ≡ true
order_after start key value xs sorted = true_is (is_sorted (walk_cmp start) (put (walk_cmp start) key value xs)) (is_sorted-put (walk_cmp start) (walk_total start) key value xs (subst T (sym sorted) tt))

-- the map with the key is that of the entries with it
pub insert_is : (start : ℕ) (m : Map) (key value : List ℕ) (xs : List Entry) → ((q : List ℕ) → find (walk_cmp start) q xs ≡ get m q) → insert m key value ≡ from_entries (put (walk_cmp start) key value xs)
insert_is start m key value xs gets =
    same_map nat_list_cmp_total bytes_same (insert m key value) (from_entries (put (walk_cmp start) key value xs)) (λ q.
    get-insert nat_list_cmp_total m key value q
    ∙ ap (λ b. cond b (Some value) (get m q)) (sym (tie_walk start q key))
    ∙ ap (cond (eq_by_cmp (walk_cmp start) q key) (Some value)) (sym (gets q))
    ∙ sym (find-put (walk_cmp start) (walk_total start) q key value xs)
    ∙ find_walk start q (put (walk_cmp start) key value xs)
    ∙ sym (get-from_entries nat_list_cmp_total (put (walk_cmp start) key value xs) q))

-- a key below all of some entries is not among them
pub below_none : (start : ℕ) (k : List ℕ) (xs : List Entry) → below_all (walk_cmp start) k xs ≡ true → find (walk_cmp start) k xs ≡ None
below_none start k [] h = refl
below_none start k (e ∷ xs) h =
    ap (λ r. cond (is_eq r) (Some e.1) (find (walk_cmp start) k xs)) (less_is (walk_cmp start k e.0) (and_left (is_lt (walk_cmp start k e.0)) (below_all (walk_cmp start) k xs) h))
    ∙ below_none start k xs (and_right (is_lt (walk_cmp start k e.0)) (below_all (walk_cmp start) k xs) h)

both : (a b : Bool) → a ≡ true → b ≡ true → (a && b) ≡ true
both true b p q = q
both false b p q = p

-- entries in order stay so without one of them
below_less : (start : ℕ) (k : List ℕ) (front : List Stored) (it : Stored) (others : List Stored) → below_all (walk_cmp start) k (map entry (front ++ it ∷ others)) ≡ true → below_all (walk_cmp start) k (map entry (front ++ others)) ≡ true
below_less start k [] it others h = and_right (is_lt (walk_cmp start k it.key)) (below_all (walk_cmp start) k (map entry others)) h
below_less start k (x ∷ front) it others h =
    both (is_lt (walk_cmp start k x.key)) (below_all (walk_cmp start) k (map entry (front ++ others)))
    (and_left (is_lt (walk_cmp start k x.key)) (below_all (walk_cmp start) k (map entry (front ++ it ∷ others))) h)
    (below_less start k front it others (and_right (is_lt (walk_cmp start k x.key)) (below_all (walk_cmp start) k (map entry (front ++ it ∷ others))) h))

pub order_without : (start : ℕ) (front : List Stored) (it : Stored) (others : List Stored) → is_sorted (walk_cmp start) (map entry (front ++ it ∷ others)) ≡ true → is_sorted (walk_cmp start) (map entry (front ++ others)) ≡ true
order_without start [] it others h = and_right (below_all (walk_cmp start) it.key (map entry others)) (is_sorted (walk_cmp start) (map entry others)) h
order_without start (x ∷ front) it others h =
    both (below_all (walk_cmp start) x.key (map entry (front ++ others))) (is_sorted (walk_cmp start) (map entry (front ++ others)))
    (below_less start x.key front it others (and_left (below_all (walk_cmp start) x.key (map entry (front ++ it ∷ others))) (is_sorted (walk_cmp start) (map entry (front ++ it ∷ others))) h))
    (order_without start front it others (and_right (below_all (walk_cmp start) x.key (map entry (front ++ it ∷ others))) (is_sorted (walk_cmp start) (map entry (front ++ it ∷ others))) h))

-- a key that is another one is found as before
find_other : (start : ℕ) (q : List ℕ) (front : List Stored) (it : Stored) (others : List Stored) → is_eq (walk_cmp start q it.key) ≡ false → find (walk_cmp start) q (map entry (front ++ it ∷ others)) ≡ find (walk_cmp start) q (map entry (front ++ others))
find_other start q [] it others unlike = ap (λ b. cond b (Some it.value) (find (walk_cmp start) q (map entry others))) unlike
find_other start q (x ∷ front) it others unlike = ap (cond (is_eq (walk_cmp start q x.key)) (Some x.value)) (find_other start q front it others unlike)

find_without : (start : ℕ) (key : Bor (List ℕ)) (q : List ℕ) (front : List Stored) (it : Stored) (others : List Stored) → it.key ≡ key.now → All (IsBefore start (Before key)) front
    → is_sorted (walk_cmp start) (map entry (it ∷ others)) ≡ true → find (walk_cmp start) q (map entry (front ++ others)) ≡ cond (eq_by_cmp (walk_cmp start) q key.now) None (find (walk_cmp start) q (map entry (front ++ it ∷ others)))
find_without start key q front it others same all sorted =
    elim (walk_cmp start q key.now) as (λ r. walk_cmp start q key.now ≡ r → find (walk_cmp start) q (map entry (front ++ others)) ≡ cond (is_eq r) None (find (walk_cmp start) q (map entry (front ++ it ∷ others)))) [
      | Less ↦ λ is. sym (find_other start q front it others (ap is_eq (ap (walk_cmp start q) same ∙ is)))
      | Equal ↦ λ is.
          let q_is : q ≡ key.now = walk_same start q key.now is in
          let gone : find (walk_cmp start) key.now (map entry others) ≡ None = ap (λ (k : List ℕ). find (walk_cmp start) k (map entry others)) (sym same) ∙ below_none start it.key (map entry others) (and_left (below_all (walk_cmp start) it.key (map entry others)) (is_sorted (walk_cmp start) (map entry others)) sorted) in
          ap (λ (k : List ℕ). find (walk_cmp start) k (map entry (front ++ others))) q_is ∙ find_front start (Before key) key.now front others (key_stops start key) all ∙ gone
      | Greater ↦ λ is. sym (find_other start q front it others (ap is_eq (ap (walk_cmp start q) same ∙ is)))
    ] refl

-- the map without the key is that of the entries without it
pub remove_is : (start : ℕ) (m : Map) (key : Bor (List ℕ)) (front : List Stored) (it : Stored) (others : List Stored) → it.key ≡ key.now → All (IsBefore start (Before key)) front → is_sorted (walk_cmp start) (map entry (it ∷ others)) ≡ true
    → ((q : List ℕ) → find (walk_cmp start) q (map entry (front ++ it ∷ others)) ≡ get m q) → remove m key.now ≡ from_entries (map entry (front ++ others))
remove_is start m key front it others same all sorted gets =
    same_map nat_list_cmp_total bytes_same (remove m key.now) (from_entries (map entry (front ++ others))) (λ q.
    get-remove nat_list_cmp_total m key.now q
    ∙ ap (λ b. cond b None (get m q)) (sym (tie_walk start q key.now))
    ∙ ap (cond (eq_by_cmp (walk_cmp start) q key.now) None) (sym (gets q))
    ∙ sym (find_without start key q front it others same all sorted)
    ∙ find_walk start q (map entry (front ++ others))
    ∙ sym (get-from_entries nat_list_cmp_total (map entry (front ++ others)) q))
