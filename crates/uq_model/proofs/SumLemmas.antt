-- Sums over the entries of a finite map, when one is set or taken away.
use Rattle.std.proofs.Common.{◌≡◌, ℕ, ◌+◌, Bool, true, false, cond, T, ◌&&◌, List, [], ◌∷◌, Option, Some, None, refl, sym, ap, ◌∙◌, arith, sum_by}
use Rattle.std.specs.declared.cmp.Ordering.{Ordering}
use Rattle.std.specs.declared.cmp.Ordering.TheVariants.{Less, Equal, Greater}
use Rattle.std.specs.Ordering.{is_lt, is_eq, eq_by_cmp}
use Rattle.std.specs.Cmp.{IsTotalOrder, tied_itself}
use Rattle.std.proofs.lemmas.List.Recursion.{is_sum_by}
use Rattle.std.specs.FinMap.{FinMap, IsAntisymmetric, entries, entries_sorted, get, insert, remove, entries-insert, get-entries, get-insert, get-remove, same_map}
use Rattle.std.specs.FinMap.Entries.{find, put, by_order, below_all, is_sorted}

-- what this entry adds to a sum, where there is one
abbrev pub share : {K X : Type 0} → (K × X → ℕ) → K → Option X → ℕ
share f k None = 0
share f k (Some x) = f (k, x)

less_is : (r : Ordering) → T (is_lt r) → r ≡ Less
less_is Less h = refl
less_is Equal h = absurd h
less_is Greater h = absurd h

left_of : (a b : Bool) → T (a && b) → T a
left_of true b h = tt
left_of false b h = absurd h

right_of : (a b : Bool) → T (a && b) → T b
right_of true b h = h
right_of false b h = absurd h

hidden : {B : Type 0} (b : Bool) (x n y : B) → cond b x (cond b n y) ≡ cond b x y
hidden true x n y = refl
hidden false x n y = refl

abbrev total : {A : Type 0} → (A → ℕ) → List A → ℕ
total f [] = 0
total f (x ∷ xs) = f x + total f xs

total_is : {A : Type 0} (f : A → ℕ) (xs : List A) → total f xs ≡ sum_by f xs
total_is f xs = is_sum_by (total f) f refl (λ y ys. refl) xs

module _ {K X : Type 0} {R : K → K → Ordering} (o : IsTotalOrder R) where
  none_above : (k x : K) (es : List (K × X)) → R k x ≡ Less → T (below_all R x es) → find R k es ≡ None
  none_above k x [] less h = refl
  none_above k x (e ∷ es) less h =
      let below = o.trans k x e.0 less (less_is (R x e.0) (left_of (is_lt (R x e.0)) (below_all R x es) h)) in
      ap (λ r. cond (is_eq r) (Some e.1) (find R k es)) below
      ∙ none_above k x es less (right_of (is_lt (R x e.0)) (below_all R x es) h)

  total-put : IsAntisymmetric R → (f : K × X → ℕ) (k : K) (v : X) (es : List (K × X)) → T (is_sorted R es)
      → total f (put R k v es) + share f k (find R k es) ≡ total f es + f (k, v)
  total-put same f k v [] h = omega arith
  total-put same f k v (e ∷ es) h =
      elim (R k e.0) as (λ r. R k e.0 ≡ r
      → total f (by_order r ((k, v) ∷ e ∷ es) ((e.0, v) ∷ es) (e ∷ put R k v es)) + share f k
      (cond (is_eq r) (Some e.1) (find R k es)) ≡ (f e + total f es) + f (k, v)) [
        | Less ↦ λ at. ap (λ o. (f (k, v) + (f e + total f es)) + share f k o)
            (none_above k e.0 es at (left_of (below_all R e.0 es) (is_sorted R es) h)) ∙ (omega arith)
        | Equal ↦ λ at. let e0 = same k e.0 at in
            ap (λ x. (f (x, v) + total f es) + f (k, e.1)) (sym e0)
            ∙ ap (λ x. (f (k, v) + total f es) + f (x, e.1)) e0 ∙ (omega arith)
        | Greater ↦ λ at. let rest = total-put same f k v es (right_of (below_all R e.0 es) (is_sorted R es) h) in
            omega arith
      ] refl

  pub sum-insert : IsAntisymmetric R → (f : K × X → ℕ) (m : FinMap R X) (k : K) (v : X)
      → sum_by f (entries (insert m k v)) + share f k (get m k) ≡ sum_by f (entries m) + f (k, v)
  sum-insert same f m k v =
      ap (λ es. sum_by f es + share f k (get m k)) (entries-insert o m k v)
      ∙ ap (λ x. sum_by f (put R k v (entries m)) + share f k x) (get-entries m k)
      ∙ ap (λ n. n + share f k (find R k (entries m))) (sym (total_is f (put R k v (entries m))))
      ∙ total-put same f k v (entries m) (entries_sorted m)
      ∙ ap (λ n. n + f (k, v)) (total_is f (entries m))

  -- what takes an entry away is what puts it back
  put_back : IsAntisymmetric R → (m : FinMap R X) (k : K) (v : X) → insert (remove m k) k v ≡ insert m k v
  put_back same m k v = same_map o same _ _ (λ q.
      get-insert o (remove m k) k v q ∙ ap (cond (eq_by_cmp R q k) (Some v)) (get-remove o m k q)
      ∙ hidden (eq_by_cmp R q k) (Some v) None (get m q) ∙ sym (get-insert o m k v q))

  none_left : (m : FinMap R X) (k : K) → get (remove m k) k ≡ None
  none_left m k = get-remove o m k k ∙ ap (λ r. cond (is_eq r) None (get m k)) (tied_itself o k)

  -- v is any value, as that which was there
  pub sum-remove : IsAntisymmetric R → (f : K × X → ℕ) (m : FinMap R X) (k : K) (v : X)
      → sum_by f (entries (remove m k)) + share f k (get m k) ≡ sum_by f (entries m)
  sum-remove same f m k v =
      let back = sum-insert same f (remove m k) k v in
      let none = ap (share f k) (none_left m k) in
      let again = ap (λ n. sum_by f (entries n)) (put_back same m k v) in
      let all = sum-insert same f m k v in
      omega arith
