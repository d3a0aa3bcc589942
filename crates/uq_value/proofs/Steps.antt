-- Where steps lead, one step at a time.
use Rattle.std.proofs.Common.{◌≡◌, ◌≤◌, ◌<◌, ◌+◌, ℕ, suc, refl, sym, ap, ◌∙◌, add-one, subst, length, drop, get_or, List, ◌∷◌, Option, Some, None, unwrap_or, option_copied, Ok, Err, Bor}
use Rattle.std.proofs.Math.Seq.{drop-cons}
use Rattle.std.proofs.lemmas.List.{drop_all}
use Rattle.uq_value.specs.Put.{Put, Key, key, there, child, with_child, then_put, at_child, put_within}
use Rattle.uq_value.specs.Internal.Reaching.{reached, Leads, Refused}
use Rattle.uq_value.specs.declared.value.Value.{Value}
use Rattle.uq_value.specs.declared.step.Step.{Step}
use Rattle.uq_value.specs.declared.error.ValueFault.{ValueFault}

there_or : Option Value → Put (Option Value) → Option Value
there_or o (Ok p) = p
there_or o (Err e) = o

module _ (rest : List Step) (new v : Value) where
  abbrev next : Put Key → Put Value
  next r = then_put r (λ k. at_child k (put_within rest new) v)

  stops : (e : ValueFault) (r : Put Key) → ◌≡◌ {A = Put (Option Value)} (then_put r (λ k. Ok (there k v))) (Err e) → next r ≡ Err e
  stops e (Ok k) p = cc
  stops e (Err f) p = let same : f ≡ e = cc in ap (λ x. Err x) same

  module _ (o : Option Value) where
    child-is : (k : Key) → ◌≡◌ {A = Put (Option Value)} (Ok (there k v)) (Ok o) → child k v ≡ unwrap_or o Value.Null
    unfolding there_or
    child-is k p = ap (λ r. unwrap_or (there_or o r) Value.Null) p

    pub leads : (r : Put Key) → ◌≡◌ {A = Put (Option Value)} (then_put r (λ k. Ok (there k v))) (Ok o) → (w : Value) → put_within rest new (unwrap_or o Value.Null) ≡ Ok w → (u : Value) × (next r ≡ Ok u)
    leads (Ok k) p w q =
        (with_child k w v, ap (λ x. then_put (put_within rest new x) (λ w. Ok (with_child k w v))) (child-is k p) ∙ ap (λ r. then_put r (λ w. Ok (with_child k w v))) q)
    leads (Err e) p w q = absurd (cc)

    refused : (r : Put Key) → ◌≡◌ {A = Put (Option Value)} (then_put r (λ k. Ok (there k v))) (Ok o) → (e : ValueFault) → put_within rest new (unwrap_or o Value.Null) ≡ Err e → next r ≡ Err e
    refused (Ok k) p e q = ap (λ x. then_put (put_within rest new x) (λ w. Ok (with_child k w v))) (child-is k p) ∙ ap (λ r. then_put r (λ w. Ok (with_child k w v))) q
    refused (Err f) p e q = absurd (cc)

-- the steps from a place on, from what has been reached there, stand for all steps
pub record StandsFor (rest : List Step) (here : Value) (steps : List Step) (v : Value) : Type 0 where
  pub leads_on : Leads rest here → Leads steps v
  pub refused_on : (e : ValueFault) → Refused rest here e → Refused steps v e

pub begins : (steps : List Step) (v : Value) → StandsFor steps v steps v
begins steps v = record { leads_on = λ h. h; refused_on = λ e h. h }

module _ (steps : List Step) (v here : Value) (i : ℕ) (s : Step) (s-is : s ≡ get_or steps i s) (h : i < length steps) (so_far : StandsFor (drop i steps) here steps v) where
  front : drop i steps ≡ s ∷ drop (i + 1) steps
  front = drop-cons steps i s h ∙ ap (λ x. x ∷ drop (suc i) steps) (sym s-is) ∙ ap (λ n. s ∷ drop n steps) (sym (add-one i))

  pub goes_on : (o : Option Value) → reached s here ≡ Ok o → StandsFor (drop (i + 1) steps) (unwrap_or o Value.Null) steps v
  goes_on o e =
      record {
        leads_on = λ q. so_far.leads_on (subst (λ ss. Leads ss here) (sym front) (λ new. leads (drop (i + 1) steps) new here o (key s here) e (q new).0 (q new).1));
        refused_on = λ f q. so_far.refused_on f (subst (λ ss. Refused ss here f) (sym front) (λ new. refused (drop (i + 1) steps) new here o (key s here) e f (q new)));
      }

  pub refused_here : (f : ValueFault) → reached s here ≡ Err f → Refused steps v f
  refused_here f e = so_far.refused_on f (subst (λ ss. Refused ss here f) (sym front) (λ new. stops (drop (i + 1) steps) new here f (key s here) e))

pub leads_whole : (steps : List Step) (v here : Value) (i : ℕ) → length steps ≤ i → StandsFor (drop i steps) here steps v → Leads steps v
leads_whole steps v here i h so_far = so_far.leads_on (subst (λ ss. Leads ss here) (sym (drop_all i steps h)) (λ new. (new, refl)))

-- what a reference leads to, or null
pub now_or : (o : Option (Bor Value)) (d r : Bor Value) → r ≡ unwrap_or o d → d.now ≡ Value.Null → unwrap_or (option_copied o) Value.Null ≡ r.now
now_or None d r e n = sym (ap (λ b. b.now) e ∙ n)
now_or (Some x) d r e n = sym (ap (λ b. b.now) e)
