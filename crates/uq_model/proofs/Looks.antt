-- The bounds of what is told of a store.
use Rattle.std.proofs.Common.{◌≡◌, ℕ, Bool, true, false, cond, not, nat_lt, ◌&&◌, T, List, [], ◌∷◌, Option, Some, None, refl, sym, ap, subst, ◌∙◌, arith}
use Rattle.std.specs.Option.{IfSome, option_map}
use Rattle.std.specs.List.{find as list_find}
use Rattle.std.specs.declared.cmp.Ordering.{Ordering}
use Rattle.std.specs.declared.cmp.Ordering.TheVariants.{Less, Equal, Greater}
use Rattle.std.specs.Ordering.{is_lt, is_eq, ordering_reverse}
use Rattle.std.specs.Cmp.{IsTotalOrder, nat_cmp_total, tied_itself}
use Rattle.std.specs.FinMap.{entries, entries_sorted, get, get-entries}
use Rattle.std.specs.FinMap.Entries.{find, below_all, is_sorted}
use Rattle.uq_value.specs.Data.{Bytes}
use Rattle.uq_value.specs.declared.value.Value.{Value}
use Rattle.uq_model.specs.declared.collection.Collection.{Collection}
use Rattle.uq_model.specs.Base.{IsIdFrom}
use Rattle.uq_model.specs.Collections.{least_from}
use Rattle.uq_model.specs.IsStore.{IsCollection}

less_is : (r : Ordering) → T (is_lt r) → r ≡ Less
less_is Less h = refl
less_is Equal h = absurd h
less_is Greater h = absurd h

left_of : (a b : Bool) → T (a && b) → T a
left_of true b h = tt
left_of false b h = absurd h

right_of : (a b : Bool) → T (a && b) → T b
right_of true b h = h
right_of false b h = absurd h

-- ---- an entry that is found by a test of its own

module _ {K X : Type 0} {R : K → K → Ordering} (o : IsTotalOrder R) (p : K × X → Bool) where
  later : (k : K) (e : K × X) (es : List (K × X)) → T (below_all R k es) → list_find p es ≡ Some e → R k e.0 ≡ Less
  later k e [] h is = absurd (let f : ⊥ = cc in f)
  later k e (x ∷ es) h is = by (p x) is (later k e es (right_of (is_lt (R k x.0)) (below_all R k es) h))
    where
      by : (b : Bool) → cond b (Some x) (list_find p es) ≡ Some e → (list_find p es ≡ Some e → R k e.0 ≡ Less)
          → R k e.0 ≡ Less
      by true found rest = let same : x ≡ e = cc in
          ap (λ (y : K × X). R k y.0) (sym same) ∙ less_is (R k x.0) (left_of (is_lt (R k x.0)) (below_all R k es) h)
      by false found rest = rest found

  there : (e : K × X) (es : List (K × X)) → T (is_sorted R es) → list_find p es ≡ Some e → find R e.0 es ≡ Some e.1
  there e [] h is = absurd (let f : ⊥ = cc in f)
  there e (x ∷ es) h is = by (p x) is (there e es (right_of (below_all R x.0 es) (is_sorted R es) h))
    where
      by : (b : Bool) → cond b (Some x) (list_find p es) ≡ Some e
          → (list_find p es ≡ Some e → find R e.0 es ≡ Some e.1) → find R e.0 (x ∷ es) ≡ Some e.1
      by true found rest =
          let same : x ≡ e = cc in
          subst (λ (y : K × X). find R y.0 (x ∷ es) ≡ Some y.1) same
          (ap (λ r. cond (is_eq r) (Some x.1) (find R x.0 es)) (tied_itself o x.0))
      by false found rest =
          let less = later x.0 e es (left_of (below_all R x.0 es) (is_sorted R es) h) found in
          let greater : R e.0 x.0 ≡ Greater = o.antisymm e.0 x.0 ∙ ap ordering_reverse less in
          ap (λ r. cond (is_eq r) (Some x.1) (find R e.0 es)) greater ∙ rest found

  passes : (e : K × X) (es : List (K × X)) → list_find p es ≡ Some e → p e ≡ true
  passes e [] is = absurd (let f : ⊥ = cc in f)
  passes e (x ∷ es) is = by (p x) refl is (passes e es)
    where
      by : (b : Bool) → p x ≡ b → cond b (Some x) (list_find p es) ≡ Some e → (list_find p es ≡ Some e → p e ≡ true)
          → p e ≡ true
      by true at found rest = let same : x ≡ e = cc in ap p (sym same) ∙ at
      by false at found rest = rest found

pub id_bounds : (name : Bytes) (c : Collection) (id : ℕ) → IsCollection name c → IfSome (least_from id c) (IsIdFrom id)
id_bounds name c id is = by (list_find (λ (r : ℕ × Value). not (nat_lt r.0 id)) (entries c.records)) refl
  where
    by : (o : Option (ℕ × Value)) → list_find (λ (r : ℕ × Value). not (nat_lt r.0 id)) (entries c.records) ≡ o
        → IfSome (option_map (λ (r : ℕ × Value). r.0) o) (IsIdFrom id)
    by None found = tt
    by (Some e) found =
        let at : get c.records e.0 ≡ Some e.1 = get-entries c.records e.0
        ∙ there nat_cmp_total (λ (r : ℕ × Value). not (nat_lt r.0 id)) e (entries c.records)
        (entries_sorted c.records) found in
        let above = passes nat_cmp_total (λ (r : ℕ × Value). not (nat_lt r.0 id)) e (entries c.records) found in
        let below = (is.records e.0 e.1 at).below in
        record { least = grind arith; most = omega (arith, below, is.next) }
