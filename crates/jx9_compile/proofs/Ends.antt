-- A code ends, and in one way.
use Rattle.std.proofs.Common.{◌≡◌, ℕ, zero, suc, ◌+◌, ◌<◌, Option, Some, refl, sym, ap, ◌∙◌, subst, arith}
use Rattle.std.specs.Prelude.{Bool, true, false, nat_lt, unwrap_or}
use Rattle.std.proofs.lemmas.Bool.{false≢true, ltb-false}
use Rattle.std.proofs.lemmas.Option.{none-some}
use Rattle.jx9_meaning.specs.Meaning.{Spent, spend}
use Rattle.jx9_meaning.specs.Meaning as meaning
use Rattle.jx9_meaning.specs.Script.{Ended, ended}
use Rattle.jx9_compile.specs.Laws.{EndsOnce, EndsAlways}
use Rattle.jx9_compile.specs.Machine.{Machine, on, with_outside, first}
use Rattle.jx9_compile.specs.Run.{gives, is_unit, act, run}
use Rattle.jx9_compile.specs.declared.code.Code.{Code}
use Rattle.jx9_compile.specs.declared.op.Op.{Op}
use Rattle.jx9_compile.specs.declared.op.Op.TheVariants.{Unit as OneUnit}
use Rattle.jx9_compile.proofs.Steps.{taken}
use Rattle.jx9_compile.proofs.Turns.{ahead, next_op, nearer, at_unit, Turn, stops, moves, turn}

module _ (code : Code) where
  -- ---- in one way

  -- what has ended stays so with more ops
  by_turn : (n : ℕ) (m : Machine) (e : Ended) → run code (suc n) m ≡ Some e → Turn code (next_op code m) m
      → ((m' : Machine) → run code n m' ≡ Some e → run code (suc n) m' ≡ Some e) → run code (suc (suc n)) m ≡ Some e
  by_turn n m e h (stops e' is) more = is (run code (suc n)) ∙ sym (is (run code n)) ∙ h
  by_turn n m e h (moves m' is falls) more = is (run code (suc n)) ∙ more m' (sym (is (run code n)) ∙ h)

  one_more : (n : ℕ) (m : Machine) (e : Ended) → run code n m ≡ Some e → run code (suc n) m ≡ Some e
  one_more zero m e h = absurd (none-some e h)
  one_more (suc n) m e h = by_turn n m e h (turn code m) (λ m' g. one_more n m' e g)

  so_many : (n k : ℕ) (m : Machine) (e : Ended) → run code n m ≡ Some e → run code (k + n) m ≡ Some e
  so_many n zero m e h = let same : n ≡ 0 + n = omega arith in subst (λ i. run code i m ≡ Some e) same h
  so_many n (suc k) m e h =
      let same : suc (k + n) ≡ suc k + n = omega arith in
      subst (λ i. run code i m ≡ Some e) same (one_more (k + n) m e (so_many n k m e h))

  pub ends_once : EndsOnce code
  ends_once w a b h g =
      let same : h.0 + g.0 ≡ g.0 + h.0 = omega arith in
      let x = so_many g.0 h.0 (first code w) b g.1 in
      let y = so_many h.0 g.0 (first code w) a h.1 in
      ap (λ o. unwrap_or o a) (sym y ∙ ap (λ n. run code n (first code w)) (sym same) ∙ x)

  -- ---- always

  EndsFrom : Machine → Type 0
  EndsFrom m = (e : Ended) × ((n : ℕ) × (run code n m ≡ Some e))

  unit_op : (o : Option Op) → is_unit o ≡ true → (line : ℕ) × (o ≡ Some (OneUnit line))
  unit_op (Some (OneUnit line)) h = (line, refl)
  unit_op _ h = absurd (false≢true h)

  module _ (units : ℕ) (below : (m : Machine) → m.outside.world.units < units → EndsFrom m) where
    -- a unit is taken, or none is left
    at_unit_ends : (m : Machine) → m.outside.world.units < suc units → is_unit (next_op code m) ≡ true → EndsFrom m
    unfolding EndsFrom meaning.take
    at_unit_ends m few h =
        let op = unit_op (next_op code m) h in
        by_units (nat_lt m.outside.world.units 1) refl (λ n. ap (λ o. act code (run code n) o m) op.1)
      where
        by_units : (b : Bool) → nat_lt m.outside.world.units 1 ≡ b
            → ((n : ℕ) → run code (suc n) m ≡ gives (taken 1 m.outside b) (λ _ s. run code n (on (with_outside s m)))) → EndsFrom m
        by_units true e is = (ended Spent m.outside, (1, is 0))
        by_units false e is =
            let rest = below (on (with_outside (spend 1 m.outside) m)) (omega (arith, ltb-false m.outside.world.units 1 e)) in
            (rest.0, (suc rest.1.0, is rest.1.0 ∙ rest.1.1))

    then_ends : (m m' : Machine) → ((n : ℕ) → run code (suc n) m ≡ run code n m') → EndsFrom m' → EndsFrom m
    unfolding EndsFrom
    then_ends m m' is rest = (rest.0, (suc rest.1.0, is rest.1.0 ∙ rest.1.1))

    turn_ends : (k : ℕ) (m : Machine) → m.outside.world.units < suc units → ahead code m < suc k
        → ((m' : Machine) → m'.outside.world.units < suc units → ahead code m' < k → EndsFrom m') → Turn code (next_op code m) m → EndsFrom m
    unfolding EndsFrom
    turn_ends k m few near ends (stops e is) = (e, (1, is (run code 0)))
    turn_ends k m few near ends (moves m' is (nearer fewer less)) = then_ends m m' (λ n. is (run code n)) (ends m' (omega arith) (omega arith))
    turn_ends k m few near ends (moves m' is (at_unit fewer here)) = then_ends m m' (λ n. is (run code n)) (at_unit_ends m' (omega arith) here)

    -- with fewer than so many ops ahead
    within : (k : ℕ) (m : Machine) → m.outside.world.units < suc units → ahead code m < k → EndsFrom m
    within zero m few near = absurd (omega arith)
    within (suc k) m few near = turn_ends k m few near (within k) (turn code m)

  with_units : (units : ℕ) (m : Machine) → m.outside.world.units < units → EndsFrom m
  with_units zero m few = absurd (omega arith)
  with_units (suc units) m few = within units (with_units units) (suc (ahead code m)) m few (omega arith)

  pub ends_always : EndsAlways code
  unfolding EndsFrom
  ends_always w = with_units (suc w.units) (first code w) (omega arith)
