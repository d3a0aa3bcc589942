-- What is made in another order is the same.
use Rattle.std.proofs.Common.{◌≡◌, ℕ, ◌+◌, List, [], ◌∷◌, ◌++◌, length, sym, ap, ◌∙◌, append_assoc, append-nil, arith}
use Rattle.std.proofs.lemmas.List.{length-append}
use Rattle.uq_value.specs.Data.{Bytes}
use Rattle.jx9_syntax.specs.Grammar.{Spot, place_of}
use Rattle.jx9_syntax.specs.Making.{Making, nothing, mapped, then_made, all_made}
use Rattle.jx9_syntax.specs.declared.expression.Access.{Access as AccessTree}
use Rattle.jx9_syntax.specs.declared.expression.Place.{Place}
use Rattle.jx9_syntax.specs.declared.program.Function.{Function}
use Rattle.jx9_parse.specs.Expressions.{with_access}

module _ {A B C D E R : Type 0} (f : D → C → R) (g : A → B → D) (h : A → E → R) (k : B → C → E) (same : (x : A) (y : B) (z : C) → f (g x y) z ≡ h x (k y z)) where
  regrouped_at : (a : Making A) (b : Making B) (c : Making C) (token lambda : ℕ) → then_made f (then_made g a b) c token lambda ≡ then_made h a (then_made k b c) token lambda
  regrouped_at a b c token lambda =
      let x = a token lambda in
      let y = b x.next (lambda + length x.lambdas) in
      let e : lambda + length (x.lambdas ++ y.lambdas) ≡ (lambda + length x.lambdas) + length y.lambdas = omega (arith, length-append x.lambdas y.lambdas) in
      let z = c y.next ((lambda + length x.lambdas) + length y.lambdas) in
      ap (λ (j : ℕ). let u = c y.next j in record { made = f (g x.made y.made) u.made; next = u.next; lambdas = (x.lambdas ++ y.lambdas) ++ u.lambdas }) e
      ∙ ap (λ (r : R). record { made = r; next = z.next; lambdas = (x.lambdas ++ y.lambdas) ++ z.lambdas }) (same x.made y.made z.made)
      ∙ ap (λ (ls : List Function). record { made = h x.made (k y.made z.made); next = z.next; lambdas = ls }) (append_assoc x.lambdas y.lambdas z.lambdas)

  -- one behind two is two behind one
  pub regrouped : (a : Making A) (b : Making B) (c : Making C) → then_made f (then_made g a b) c ≡ then_made h a (then_made k b c)
  regrouped a b c = λ i token lambda. regrouped_at a b c token lambda i

-- ---- places that get their steps one by one

abbrev pub with_accesses : Place × Spot → List AccessTree → Place × Spot
with_accesses p as' = (record { name = p.0.name; steps = p.0.steps ++ as' }, p.1)

abbrev pub grown : Making (Place × Spot) → List (Making AccessTree) → Making (Place × Spot)
grown p [] = p
grown p (a ∷ as') = grown (then_made with_access p a) as'

with_none : (p : Making (Place × Spot)) (token lambda : ℕ) → p token lambda ≡ then_made with_accesses p (nothing []) token lambda
with_none p token lambda =
    let x = p token lambda in
    ap (λ (steps : List AccessTree). record { made = (record { name = x.made.0.name; steps = steps }, x.made.1); next = x.next; lambdas = x.lambdas }) (sym (append-nil x.made.0.steps))
    ∙ ap (λ (ls : List Function). record { made = (record { name = x.made.0.name; steps = x.made.0.steps ++ [] }, x.made.1); next = x.next; lambdas = ls }) (sym (append-nil x.lambdas))

grown_all : (p : Making (Place × Spot)) (as' : List (Making AccessTree)) → grown p as' ≡ then_made with_accesses p (all_made as')
grown_all p [] = λ i token lambda. with_none p token lambda i
grown_all p (a ∷ as') = grown_all (then_made with_access p a) as' ∙ regrouped with_accesses with_access with_accesses ◌∷◌ step p a (all_made as')
  where
    step : (q : Place × Spot) (x : AccessTree) (xs : List AccessTree) → with_accesses (with_access q x) xs ≡ with_accesses q (x ∷ xs)
    step q x xs = ap (λ (steps : List AccessTree). (record { name = q.0.name; steps = steps }, q.1)) (append_assoc q.0.steps (x ∷ []) xs)

abbrev pub bare : Bytes × Spot → Place × Spot
bare v = place_of v []

-- it is the place of the grammar
pub grown_is : (v : Making (Bytes × Spot)) (as' : List (Making AccessTree)) → grown (mapped bare v) as' ≡ then_made place_of v (all_made as')
grown_is v as' = grown_all (mapped bare v) as'
