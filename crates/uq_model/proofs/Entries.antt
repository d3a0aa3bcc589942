-- The finite map of a sorted list of entries.
use Rattle.std.proofs.Common.{◌≡◌, ℕ, Bool, true, false, cond, not, ◌&&◌, nat_lt, arith, List, [], ◌∷◌, ◌++◌, map, length, Some, None, refl, sym, ap, ◌∙◌}
use Rattle.std.specs.List.{AllByRecursion, filter, find as list_find}
use Rattle.std.specs.List.Sorted.{IsStrictlySortedBy}
use Rattle.std.specs.declared.cmp.Ordering.{Ordering}
use Rattle.std.specs.declared.cmp.Ordering.TheVariants.{Less, Equal, Greater}
use Rattle.std.specs.Ordering.{ordering_reverse, is_eq, is_le, nat_cmp, eq_by_cmp, match_ordering}
use Rattle.std.specs.Cmp.{IsTotalOrder, eq_by_cmp_equiv}
use Rattle.std.specs.Option.{IsSome}
use Rattle.std.specs.Map.{keys_of, lookup, remove_entry, set_value}
use Rattle.std.specs.BTreeMap.{insert_entry, is_at}
use Rattle.std.proofs.lemmas.Grind.{common_steps}
use Rattle.std.proofs.lemmas.List.{nil_from_length}
use Rattle.std.proofs.lemmas.Map.{lookup-remove_entry, lookup-set_value}
use Rattle.std.proofs.lemmas.Map.Keys.{sorted_head, sorted_tail, IsDistinct-from_sorted}
use Rattle.std.specs.FinMap.{IsAntisymmetric, entries, get, insert, remove, len, from_entries, entries-insert, len-entries, len-empty, empty, get-insert, get-remove, get-from_entries, from_entries_push, same_map, same_entries_map}
use Rattle.std.specs.FinMap.Entries.{find, put, by_order}

-- ---- on lists

same_order : {B : Type 0} (r : Ordering) (x y : B) {z z' : B} → z ≡ z' → by_order r x y z ≡ match_ordering r x y z'
same_order Less x y e = refl
same_order Equal x y e = refl
same_order Greater x y e = e

is_equal : (r : Ordering) → is_eq r ≡ true → r ≡ Equal
is_equal Less e = absurd (let h : ⊥ = cc in h)
is_equal Equal e = refl
is_equal Greater e = absurd (let h : ⊥ = cc in h)

tests_one : {K : Type 0} {R : K → K → Ordering} → IsTotalOrder R → (k x y : K) → is_at (R k) x ≡ true
    → is_at (R k) y ≡ eq_by_cmp R x y
tests_one {R = R} o k x y h = ap is_eq (o.congr k x y (is_equal (R k x) h))

module _ {K X : Type 0} (R : K → K → Ordering) where
  -- a key below all others stands first
  put_first : (k : K) (v : X) (es : List (K × X)) → AllByRecursion (λ y. R k y ≡ Less) (keys_of es)
      → put R k v es ≡ (k, v) ∷ es
  put_first k v [] h = refl
  put_first k v (e ∷ es) h = ap (λ r. by_order r ((k, v) ∷ e ∷ es) ((e.0, v) ∷ es) (e ∷ put R k v es)) h.0

  put_is : (k : K) (v : X) (es : List (K × X)) → put R k v es ≡ insert_entry R es k v
  put_is k v [] = refl
  put_is k v (e ∷ es) = same_order (R k e.0) ((k, v) ∷ e ∷ es) ((e.0, v) ∷ es) (ap (λ xs. e ∷ xs) (put_is k v es))

  find_is : (q : K) (es : List (K × X)) → find R q es ≡ lookup (is_at (R q)) es
  find_is q [] = refl
  find_is q (e ∷ es) = ap (cond (is_eq (R q e.0)) (Some e.1)) (find_is q es)

-- the first element that passes, by those that pass another test that says the same
pub first_found : {B : Type 0} (p q : B → Bool) → ((x : B) → q x ≡ p x) → (es : List B) (x : B) (xs : List B)
    → filter q es ≡ x ∷ xs → list_find p es ≡ Some x
first_found p q same [] x xs is = absurd (let h : ⊥ = cc in h)
first_found p q same (e ∷ es) x xs is = by_test (q e) (p e) (same e) refl (first_found p q same es x xs)
  where
    by_test : (b c : Bool) → b ≡ c → q e ≡ b → (filter q es ≡ x ∷ xs → list_find p es ≡ Some x)
        → cond c (Some e) (list_find p es) ≡ Some x
    by_test true true bc at rest = ap Some (let heads : e ∷ filter q es ≡ x ∷ xs =
        sym (ap (λ b. cond b (e ∷ filter q es) (filter q es)) at) ∙ is in cc)
    by_test false false bc at rest = rest (sym (ap (λ b. cond b (e ∷ filter q es) (filter q es)) at) ∙ is)
    by_test true false bc at rest = absurd (let h : ⊥ = cc in h)
    by_test false true bc at rest = absurd (let h : ⊥ = cc in h)

pub none_found : {B : Type 0} (p q : B → Bool) → ((x : B) → q x ≡ p x) → (es : List B) → filter q es ≡ []
    → list_find p es ≡ None
none_found p q same [] is = refl
none_found p q same (e ∷ es) is = by_test (q e) (p e) (same e) refl (none_found p q same es)
  where
    by_test : (b c : Bool) → b ≡ c → q e ≡ b → (filter q es ≡ [] → list_find p es ≡ None)
        → cond c (Some e) (list_find p es) ≡ None
    by_test true true bc at rest = absurd (let heads : e ∷ filter q es ≡ [] =
        sym (ap (λ b. cond b (e ∷ filter q es) (filter q es)) at) ∙ is in let h : ⊥ = cc in h)
    by_test false false bc at rest = rest (sym (ap (λ b. cond b (e ∷ filter q es) (filter q es)) at) ∙ is)
    by_test true false bc at rest = absurd (let h : ⊥ = cc in h)
    by_test false true bc at rest = absurd (let h : ⊥ = cc in h)

pub from_number : (n m : ℕ) → is_le (nat_cmp n m) && true ≡ not (nat_lt m n)
from_number n m = grind (arith, common_steps)

-- ---- the map of a list in order

module _ {K X : Type 0} {R : K → K → Ordering} (o : IsTotalOrder R) where
  pub entries-empty : entries (empty {X = X} {R = R}) ≡ []
  entries-empty = nil_from_length _ (sym (len-entries empty) ∙ len-empty R X)

  pub entries_of_sorted : (es : List (K × X)) → IsStrictlySortedBy R (keys_of es)
      → entries (from_entries {R = R} es) ≡ es
  entries_of_sorted [] h = entries-empty
  entries_of_sorted (e ∷ es) h =
      entries-insert o (from_entries es) e.0 e.1
      ∙ ap (put R e.0 e.1) (entries_of_sorted es (sorted_tail R e.0 (keys_of es) h))
      ∙ put_first R e.0 e.1 es (sorted_head R e.0 (keys_of es) h)

  pub len_of_sorted : (es : List (K × X)) → IsStrictlySortedBy R (keys_of es)
      → len (from_entries {R = R} es) ≡ length es
  len_of_sorted es h = len-entries (from_entries es) ∙ ap length (entries_of_sorted es h)

  pub get_is : (es : List (K × X)) (q : K) → get (from_entries {R = R} es) q ≡ lookup (is_at (R q)) es
  get_is es q = get-from_entries o es q ∙ find_is R q es

  pub inserted : (es : List (K × X)) (k : K) (v : X) → IsStrictlySortedBy R (keys_of es)
      → IsStrictlySortedBy R (keys_of (insert_entry R es k v))
      → from_entries {R = R} (insert_entry R es k v) ≡ insert (from_entries es) k v
  inserted es k v before after =
      same_entries_map _ _ (entries_of_sorted _ after ∙ sym (entries-insert o (from_entries es) k v
      ∙ ap (put R k v) (entries_of_sorted es before) ∙ put_is R k v es))

  pub removed : IsAntisymmetric R → (es : List (K × X)) (k : K) → IsStrictlySortedBy R (keys_of es)
      → from_entries {R = R} (remove_entry (is_at (R k)) es) ≡ remove (from_entries es) k
  removed same es k sorted =
      same_map o same _ _ (λ q.
      get_is (remove_entry (is_at (R k)) es) q
      ∙ lookup-remove_entry (eq_by_cmp_equiv o) (is_at (R k)) (tests_one o k) q es
      (IsDistinct-from_sorted R (keys_of es) sorted)
      ∙ ap (λ b. cond b None (lookup (is_at (R q)) es)) ((eq_by_cmp_equiv o).symm k q)
      ∙ ap (cond (eq_by_cmp R q k) None) (sym (get_is es q))
      ∙ sym (get-remove o (from_entries es) k q))

-- ---- entries by the bytes of their keys

-- ---- one entry after the other

module _ {K X : Type 0} {R : K → K → Ordering} (o : IsTotalOrder R) where
  -- what holds of all keys holds of one
  holds_of : (P : K → Type 0) (before : List (K × X)) (e : K × X) (rest : List (K × X))
      → AllByRecursion P (keys_of (before ++ e ∷ rest)) → P e.0
  holds_of P [] e rest h = h.0
  holds_of P (d ∷ before) e rest h = holds_of P before e rest h.1

  not_before : (before : List (K × X)) (e : K × X) (rest : List (K × X))
      → IsStrictlySortedBy R (keys_of (before ++ e ∷ rest)) → find R e.0 before ≡ None
  not_before [] e rest h = refl
  not_before (d ∷ before) e rest h =
      let less : R d.0 e.0 ≡ Less = holds_of (λ k. R d.0 k ≡ Less) before e rest
      (sorted_head R d.0 (keys_of (before ++ e ∷ rest)) h) in
      let greater : R e.0 d.0 ≡ Greater = o.antisymm e.0 d.0 ∙ ap ordering_reverse less in
      ap (λ r. cond (is_eq r) (Some d.1) (find R e.0 before)) greater
      ∙ not_before before e rest (sorted_tail R d.0 (keys_of (before ++ e ∷ rest)) h)

  pub pushed : IsAntisymmetric R → (before : List (K × X)) (e : K × X) (rest : List (K × X))
      → IsStrictlySortedBy R (keys_of (before ++ e ∷ rest))
      → from_entries {R = R} (before ++ e ∷ []) ≡ insert (from_entries before) e.0 e.1
  pushed same before e rest sorted = from_entries_push o same before e.0 e.1 (not_before before e rest sorted)

  pub valued : IsAntisymmetric R → (es : List (K × X)) (k : K) (w : X) → IsSome (lookup (is_at (R k)) es)
      → from_entries {R = R} (set_value (is_at (R k)) es w) ≡ insert (from_entries es) k w
  valued same es k w there =
      same_map o same _ _ (λ q.
      get_is o (set_value (is_at (R k)) es w) q
      ∙ lookup-set_value (eq_by_cmp_equiv o) (is_at (R k)) (tests_one o k) q w es there
      ∙ ap (λ b. cond b (Some w) (lookup (is_at (R q)) es)) ((eq_by_cmp_equiv o).symm k q)
      ∙ ap (cond (eq_by_cmp R q k) (Some w)) (sym (get_is o es q))
      ∙ sym (get-insert o (from_entries es) k w q))

-- the order of what f takes from each
abbrev pub by_part : {A K : Type 0} → (K → K → Ordering) → (A → K) → A → A → Ordering
by_part R f a b = R (f a) (f b)

abbrev pub with_parts : {A K X : Type 0} → (A → K) → List (A × X) → List (K × X)
with_parts {A} {K} {X} f es = map (λ (e : A × X). (f e.0, e.1)) es

ordered_map : {B C : Type 0} (f : B → C) (r : Ordering) (x y : B) {z : B} {z' : C} → f z ≡ z'
    → f (match_ordering r x y z) ≡ match_ordering r (f x) (f y) z'
ordered_map f Less x y e = refl
ordered_map f Equal x y e = refl
ordered_map f Greater x y e = e

cond_map : {B C : Type 0} (f : B → C) (b : Bool) (x : B) {z : B} {z' : C} → f z ≡ z' → f (cond b x z) ≡ cond b (f x) z'
cond_map f true x e = refl
cond_map f false x e = e

module _ {A K X : Type 0} (R : K → K → Ordering) (f : A → K) where
  pub parts_found : (q : K) (es : List (A × X))
      → lookup (λ a. is_eq (R q (f a))) es ≡ lookup (is_at (R q)) (with_parts f es)
  parts_found q [] = refl
  parts_found q (e ∷ es) = ap (cond (is_eq (R q (f e.0))) (Some e.1)) (parts_found q es)

  pub parts_inserted : (k : A) (v : X) (es : List (A × X))
      → with_parts f (insert_entry (by_part R f) es k v) ≡ insert_entry R (with_parts f es) (f k) v
  parts_inserted k v [] = refl
  parts_inserted k v (e ∷ es) =
      ordered_map (with_parts {X = X} f) (R (f k) (f e.0)) ((k, v) ∷ e ∷ es) ((e.0, v) ∷ es)
      (ap (λ xs. (f e.0, e.1) ∷ xs) (parts_inserted k v es))

  pub parts_removed : (q : K) (es : List (A × X))
      → with_parts f (remove_entry (λ a. is_eq (R q (f a))) es) ≡ remove_entry (is_at (R q)) (with_parts f es)
  parts_removed q [] = refl
  parts_removed q (e ∷ es) = cond_map (with_parts {X = X} f) (is_eq (R q (f e.0))) es
      (ap (λ xs. (f e.0, e.1) ∷ xs) (parts_removed q es))

  pub parts_valued : (q : K) (w : X) (es : List (A × X))
      → with_parts f (set_value (λ a. is_eq (R q (f a))) es w) ≡ set_value (is_at (R q)) (with_parts f es) w
  parts_valued q w [] = refl
  parts_valued q w (e ∷ es) =
      cond_map (with_parts {X = X} f) (is_eq (R q (f e.0))) ((e.0, w) ∷ es)
      (ap (λ xs. (f e.0, e.1) ∷ xs) (parts_valued q w es))

  all_parts : (a : A) (es : List (A × X)) → AllByRecursion (λ b. R (f a) (f b) ≡ Less) (keys_of es)
      → AllByRecursion (λ k. R (f a) k ≡ Less) (keys_of (with_parts f es))
  all_parts a [] h = tt
  all_parts a (e ∷ es) h = (h.0, all_parts a es h.1)

  pub parts_sorted : (es : List (A × X)) → IsStrictlySortedBy (by_part R f) (keys_of es)
      → IsStrictlySortedBy R (keys_of (with_parts f es))
  unfolding IsStrictlySortedBy
  parts_sorted [] h = tt
  parts_sorted (e ∷ es) h = (all_parts e.0 es h.0, parts_sorted es h.1)
