-- A write at one level, from the write below it.
use Rattle.std.proofs.Common.{◌≡◌, ◌≤◌, ◌+◌, ◌-◌, ℕ, refl, sym, ap, ◌∙◌, arith, subst, Bool, true, false, nat_lt, if◌then◌else◌, List, Ok, Err}
use Rattle.uq_value.specs.Plain.{plain, size}
use Rattle.uq_value.specs.Put.{Put, Key, then_put, child, with_child, put_within}
use Rattle.uq_value.specs.Internal.Writing.{fits, put_in, put_at}
use Rattle.uq_value.specs.Faults.{Refuses}
use Rattle.uq_value.specs.declared.value.Value.{Value}
use Rattle.uq_value.specs.declared.step.Step.{Step}
use Rattle.uq_value.specs.declared.error.ValueFault.{ValueFault}
use Rattle.uq_value.specs.declared.error.ValueFault.TheVariants.{NotContainer, IndexRange, TooDeep, TooLarge, Memory}
use Rattle.uq_value.specs.Laws.Limits.{ok_one}
use Rattle.uq_value.proofs.Wholes.{some-size}

same-test : (room base s t : ℕ) → 1 ≤ s → t ≡ base + s → nat_lt room t ≡ nat_lt (room - base) s
same-test room base s t h e = grind arith

module _ (room base : ℕ) (k : Key) (v : Value) (sized : (w : Value) → size (with_child k w v) ≡ base + size w) where
  abbrev built : Value → Put Value
  built w = Ok (with_child k w v)

  chosen : (b : Bool) (w : Value) → ◌≡◌ {A = Put Value} (if b then Err TooLarge else Ok (with_child k w v)) (then_put (if b then Err TooLarge else Ok w) built)
  chosen true w = refl
  chosen false w = refl

  below : (r : Put Value) → then_put (then_put r built) (fits room) ≡ then_put (then_put r (fits (room - base))) built
  below (Err e) = refl
  below (Ok w) = ap (λ b. if b then Err TooLarge else Ok (with_child k w v)) (same-test room base (size w) (size (with_child k w v)) (some-size (plain w)) (sized w)) ∙ chosen (nat_lt (room - base) (size w)) w

  module _ (rest : List Step) (new x : Value) (child-is : child k v ≡ x) where
    level : put_at room k rest new v ≡ then_put (put_in (room - base) rest new x) built
    level = ap (λ y. then_put (then_put (put_within rest new y) built) (fits room)) child-is ∙ below (put_within rest new x)

    module _ (left : ℕ) (left-is : left ≡ room - base) where
      same-room : then_put (put_in left rest new x) built ≡ put_at room k rest new v
      same-room = ap (λ n. then_put (put_in n rest new x) built) left-is ∙ sym level

      pub level-ok : (w : Value) → put_in left rest new x ≡ Ok w → put_at room k rest new v ≡ Ok (with_child k w v)
      level-ok w o = sym same-room ∙ ap (λ r. then_put r built) o

      pub level-refused : (e : ValueFault) → Refuses (put_in left rest new x) e → Refuses (put_at room k rest new v) e
      level-refused Memory o = tt
      level-refused TooLarge o = sym same-room ∙ ap (λ r. then_put r built) o
      level-refused NotContainer o = sym same-room ∙ ap (λ r. then_put r built) o
      level-refused IndexRange o = sym same-room ∙ ap (λ r. then_put r built) o
      level-refused TooDeep o = sym same-room ∙ ap (λ r. then_put r built) o

-- what was written is what the steps give, and has room
pub record Within (room : ℕ) (r : Put Value) (w : Value) : Type 0 where
  pub gives : r ≡ Ok w
  pub small : size w ≤ room

fits-ok : (room : ℕ) (u w : Value) (b : Bool) → nat_lt room (size u) ≡ b → ◌≡◌ {A = Put Value} (if b then Err TooLarge else Ok u) (Ok w) → (u ≡ w) × (size u ≤ room)
fits-ok room u w true e p = cc
fits-ok room u w false e p = (ok_one u w p, grind arith)

pub within_room : (room : ℕ) (r : Put Value) (w : Value) → then_put r (fits room) ≡ Ok w → Within room r w
within_room room (Ok u) w p =
    let q : (u ≡ w) × (size u ≤ room) = fits-ok room u w (nat_lt room (size u)) refl p
    in record { gives = ap (λ x. Ok x) q.0; small = subst (λ x. size x ≤ room) q.0 q.1 }
within_room room (Err e) w p = absurd (cc)
