-- `put` from a write with room for the greatest value.
use Rattle.std.proofs.Common.{◌≡◌, ◌≤◌, ◌<◌, ◌+◌, refl, sym, ap, ◌∙◌, arith, subst, length, if◌then◌else◌, List, [], Option, Some, None, unwrap_or, Result, Ok, Err, OnOk, IfErr, MatchOption}
use Rattle.std.proofs.lemmas.Result.{on_ok_weaker, IfErr-weaker}
use Rattle.uq_value.specs.Size.{most_size}
use Rattle.uq_value.specs.Depth.{most_depth}
use Rattle.uq_value.specs.Plain.{depth}
use Rattle.uq_value.specs.Put.{Put, Key, then_put, with_child, put_within, limited, put}
use Rattle.uq_value.specs.Internal.Writing.{fits, put_in, put_at}
use Rattle.uq_value.specs.Internal.Reaching.{Leads, Refused}
use Rattle.uq_value.specs.Faults.{Refuses}
use Rattle.uq_value.specs.declared.value.Value.{Value}
use Rattle.uq_value.specs.declared.step.Step.{Step}
use Rattle.uq_value.specs.declared.error.ValueFault.{ValueFault}
use Rattle.uq_value.specs.declared.error.ValueFault.TheVariants.{NotContainer, IndexRange, TooDeep, TooLarge, Memory}
use Rattle.uq_value.proofs.Limits.{not_above, too_deep}
use Rattle.uq_value.proofs.Deeper.{Between, child-deepens, put_within-depth}

module _ (steps : List Step) (new v : Value) where
  shallow_enough : length steps + depth new ≤ most_depth → depth v ≤ most_depth → (r : Put Value) → put_within steps new v ≡ r → then_put r limited ≡ then_put r (fits most_size)
  shallow_enough h k (Err e) p = refl
  shallow_enough h k (Ok w) p =
      let d : Between (depth v) (length steps + depth new) (depth w) = put_within-depth steps new v w p
      in ap (λ b. if b then Err TooDeep else fits most_size w) (not_above most_depth (depth w) (omega (arith, d.most, h, k)))

  pub roomy : length steps + depth new ≤ most_depth → depth v ≤ most_depth → put v steps new ≡ put_in most_size steps new v
  roomy h k = shallow_enough h k (put_within steps new v) refl

  pub deep : most_depth < length steps + depth new → Leads steps v → put v steps new ≡ Err TooDeep
  deep h q =
      let d : Between (depth v) (length steps + depth new) (depth (q new).0) = put_within-depth steps new v (q new).0 (q new).1
      in ap (λ r. then_put r limited) (q new).1 ∙ too_deep (q new).0 (omega (arith, d.least, h))

  pub faulty : (e : ValueFault) → Refused steps v e → put v steps new ≡ Err e
  faulty e q = ap (λ r. then_put r limited) (q new)

  pub refuses : (e : ValueFault) → put v steps new ≡ Err e → Refuses (put v steps new) e
  refuses Memory p = tt
  refuses TooLarge p = p
  refuses NotContainer p = p
  refuses IndexRange p = p
  refuses TooDeep p = p

  -- steps that are too many are refused by their own fault, or as too deep
  pub too_many : most_depth < length steps + depth new → (r : Option ValueFault) → MatchOption r (Leads steps v) (λ e. Refused steps v e) → Refuses (put v steps new) (unwrap_or r TooDeep)
  too_many h None q = deep h q
  too_many h (Some e) q = refuses e (faulty e q)

  along : put v steps new ≡ put_in most_size steps new v → (e : ValueFault) → Refuses (put_in most_size steps new v) e → Refuses (put v steps new) e
  along p e q = subst (λ r. Refuses r e) (sym p) q

  module _ (h : length steps + depth new ≤ most_depth) (k : depth v ≤ most_depth) (r : Result (Unit {0}) ValueFault) where
    pub put_ok : (w : Value) → OnOk r (put_in most_size steps new v ≡ Ok w) → OnOk r (put v steps new ≡ Ok w)
    put_ok w o = on_ok_weaker r (λ p. roomy h k ∙ p) o

    pub put_refused : IfErr r (Refuses (put_in most_size steps new v)) → IfErr r (Refuses (put v steps new))
    put_refused o = IfErr-weaker r (Refuses (put_in most_size steps new v)) (Refuses (put v steps new)) (along (roomy h k)) o

-- ---- one step

module _ (k : Key) (new v : Value) where
  whole : Between (depth v) (1 + depth new) (depth (with_child k new v))
  whole = child-deepens k new v

  pub child_too_deep : most_depth ≤ depth new → limited (with_child k new v) ≡ Err TooDeep
  child_too_deep h = too_deep (with_child k new v) (omega (arith, h, whole.least))

  module _ (h : depth new < most_depth) (d : depth v ≤ most_depth) where
    child_roomy : limited (with_child k new v) ≡ put_at most_size k [] new v
    child_roomy = ap (λ b. if b then Err TooDeep else fits most_size (with_child k new v)) (not_above most_depth (depth (with_child k new v)) (omega (arith, h, d, whole.most)))

    pub child_ok : (r : Result (Unit {0}) ValueFault) (w : Value) → OnOk r (put_at most_size k [] new v ≡ Ok w) → OnOk r (limited (with_child k new v) ≡ Ok w)
    child_ok r w o = on_ok_weaker r (λ p. child_roomy ∙ p) o

    pub child_refused : (r : Result (Unit {0}) ValueFault) → IfErr r (Refuses (put_at most_size k [] new v)) → IfErr r (Refuses (limited (with_child k new v)))
    child_refused r o = subst (λ x. IfErr r (Refuses x)) (sym child_roomy) o
