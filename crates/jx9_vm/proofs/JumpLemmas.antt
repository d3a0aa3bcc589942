-- Jumps.
use Rattle.std.proofs.Common.{◌≡◌, ℕ, suc, ◌+◌, ◌-◌, ◌<◌, ◌≤◌, Bool, true, false, List, [], Option, Some, refl, sym, ap, ◌∙◌, subst, arith, length}
use Rattle.std.specs.Prelude.{nat_lt, if◌then◌else◌, not, slice_get}
use Rattle.std.proofs.lemmas.Bool.{false≢true, le-ltb, lt-ltb}
use Rattle.uq_value.specs.Data.{Bytes}
use Rattle.uq_value.specs.Same.{alike}
use Rattle.uq_value.specs.Truth.{truth}
use Rattle.jx9_meaning.specs.Meaning.{Goes, Ends as Stops, spend}
use Rattle.jx9_meaning.specs.Meaning as meaning
use Rattle.jx9_meaning.specs.Script.{ended}
use Rattle.jx9_meaning.specs.World.{State}
use Rattle.jx9_compile.specs.Machine.{at_place, below, on, ops_of, with_outside, with_stack}
use Rattle.jx9_compile.specs.Run.{Next as Follows, act, gives, is_unit, jumped, jumped_if, run}
use Rattle.jx9_compile.specs.declared.code.Code.{Code}
use Rattle.jx9_compile.specs.declared.op.Op.{Op}
use Rattle.jx9_compile.specs.declared.op.Op.TheVariants.{Unit as OneUnit, Jump, JumpUnless, JumpIf}
use Rattle.jx9_vm.specs.declared.ending.Ending.TheVariants.{Spent}
use Rattle.jx9_vm.specs.declared.work.Flow.{Flow}
use Rattle.jx9_vm.specs.declared.work.Flow.TheVariants.{Next}
use Rattle.jx9_vm.specs.declared.work.Work.{Work}
use Rattle.jx9_vm.specs.Moves.{Branches, IsPopped, Jumps, goes_ahead, goes_back, has_no_unit, finds_no_unit}
use Rattle.jx9_vm.specs.Step.{Acts, DoesSome}
use Rattle.jx9_vm.specs.Work.{around, machine_of, stack_of, top_of}
use Rattle.jx9_vm.proofs.EventLemmas.{grows_not}
use Rattle.jx9_vm.proofs.Reaching.{did_end, did_pass, less_ahead, less_by_unit, nothing_happened, same_machine, zero_more}

pub less_is : (a b : ℕ) → a < b → nat_lt a b ≡ true
less_is a b h = lt-ltb a b h

pub not_less : (a b : ℕ) → b ≤ a → nat_lt a b ≡ false
not_less a b h = le-ltb a b h

pub unit_there : (o : Option Op) → is_unit o ≡ true → (line : ℕ) × (o ≡ Some (OneUnit line))
unit_there (Some (OneUnit line)) h = (line, refl)
unit_there _ h = absurd (false≢true h)

pub one_more_op : (k : ℕ) → 1 + k ≡ suc k
one_more_op k = omega arith

-- a unit is taken where one is left
pub unit_taken : (code : Code) (next : Follows) (line : ℕ) (old : Work) (t : State) → 0 < old.units
    → act code next (Some (OneUnit line)) (machine_of old t) ≡ next (on (with_outside (spend 1 (around old t)) (machine_of old t)))
unfolding meaning.take
unit_taken code next line old t some =
    ap (λ b. gives (if b then Stops meaning.Spent (around old t) else Goes tt (spend 1 (around old t))) (λ _ s. next (on (with_outside s (machine_of old t)))))
    (not_less old.units 1 (omega (arith, some)))

pub unit_missed : (code : Code) (next : Follows) (line : ℕ) (old : Work) (t : State) → old.units ≡ 0
    → act code next (Some (OneUnit line)) (machine_of old t) ≡ Some (ended meaning.Spent (around old t))
unfolding meaning.take
unit_missed code next line old t none =
    ap (λ b. gives (if b then Stops meaning.Spent (around old t) else Goes tt (spend 1 (around old t))) (λ _ s. next (on (with_outside s (machine_of old t)))))
    (less_is old.units 1 (omega (arith, none)))

module _ (code : Code) (ops : List Op) (to : ℕ) where
  -- where a jump leads, once it is known whether it may go
  at_jump : (next : Follows) (old : Work) (t : State) (b : Bool) → ops ≡ ops_of code old.function
      → (if nat_lt old.place to then true else is_unit (slice_get ops to)) ≡ b
      → jumped code next (machine_of old t) to ≡ (if b then next (at_place to (machine_of old t)) else Some (ended meaning.Spent (around old t)))
  at_jump next old t b is test =
      ap (λ x. if x then next (at_place to (machine_of old t)) else Some (ended meaning.Spent (around old t)))
      (ap (λ os. if nat_lt old.place to then true else is_unit (slice_get os to)) (sym is) ∙ test)

  goes : (old : Work) → old.place < to → (if nat_lt old.place to then true else is_unit (slice_get ops to)) ≡ true
  goes old ahead = ap (λ b. if b then true else is_unit (slice_get ops to)) (less_is old.place to ahead)

  looks : (old : Work) (b : Bool) → to ≤ old.place → is_unit (slice_get ops to) ≡ b → (if nat_lt old.place to then true else is_unit (slice_get ops to)) ≡ b
  looks old b back is = ap (λ b. if b then true else is_unit (slice_get ops to)) (not_less old.place to back) ∙ is

  -- back to a unit, and that op
  back_to : (k line : ℕ) (old : Work) (t : State) → ops ≡ ops_of code old.function → to ≤ old.place → slice_get ops to ≡ Some (OneUnit line)
      → jumped code (run code (1 + k)) (machine_of old t) to ≡ act code (run code k) (Some (OneUnit line)) (at_place to (machine_of old t))
  back_to k line old t is back unit =
      at_jump (run code (1 + k)) old t true is (looks old true back (ap is_unit unit))
      ∙ ap (λ n. run code n (at_place to (machine_of old t))) (one_more_op k)
      ∙ ap (λ os. act code (run code k) (slice_get os to) (at_place to (machine_of old t))) (sym is)
      ∙ ap (λ o. act code (run code k) o (at_place to (machine_of old t))) unit

  -- An op that jumps, from this machine on, does what the jump does.
  pub jump_from : (op : Op) (flow : Flow) (old mid new : Work) (w : Option Bytes) → ops ≡ ops_of code mid.function → mid.place < length ops
      → mid.function ≡ old.function → mid.place ≡ old.place → mid.calls ≡ old.calls → mid.units ≡ old.units → mid.events ≡ old.events → mid.last ≡ old.last
      → ((next : Follows) (t : State) → act code next (Some op) (machine_of old t) ≡ jumped code next (machine_of mid t) to)
      → Jumps ops to flow mid new → DoesSome code (Acts code op) flow old new w w
  jump_from op flow old mid new w is there function place calls units events last acts (goes_ahead ahead flow_is new_is) =
      subst (λ (f : Flow). DoesSome code (Acts code op) f old new w w) (sym flow_is)
      (subst (λ (n : Work). DoesSome code (Acts code op) Next old n w w) (sym new_is) (
        [],
        record {
          units = omega (arith, units);
          events = omega (arith, events);
          last = last;
          bytes = grows_not w;
          saves = λ store. refl;
          falls = λ going. less_ahead code old (record mid { place = to }) function
              (subst (λ os. old.place < length os) (is ∙ ap (ops_of code) function) (omega (arith, there, place))) (omega (arith, ahead, place)) (ap (λ x. x.items) calls) (omega (arith, units));
          leads = λ t same. (
            0,
            λ k. ap (λ n. act code (run code n) (Some op) (machine_of old t)) (zero_more k)
                ∙ acts (run code k) t
                ∙ at_jump (run code k) mid t true is (goes mid ahead)
                ∙ ap (run code k) (sym (nothing_happened (record mid { place = to }) t)),
          );
        },
      ))
  jump_from op flow old mid new w is there function place calls units events last acts (goes_back back unit some flow_is new_is) =
      let u = unit_there (slice_get ops to) unit in
      subst (λ (f : Flow). DoesSome code (Acts code op) f old new w w) (sym flow_is)
      (subst (λ (n : Work). DoesSome code (Acts code op) Next old n w w) (sym new_is) (
        [],
        record {
          units = omega (arith, units);
          events = omega (arith, events);
          last = last;
          bytes = grows_not w;
          saves = λ store. refl;
          falls = λ going. less_by_unit code old (record mid { place = to + 1; units = mid.units - 1 }) function (ap (λ x. x.items) calls) (omega (arith, some, units));
          leads = λ t same. (
            1,
            λ k. acts (run code (1 + k)) t
                ∙ back_to k u.0 mid t is back u.1
                ∙ unit_taken code (run code k) u.0 (record mid { place = to }) t some
                ∙ ap (run code k) (sym (nothing_happened (record mid { place = to + 1; units = mid.units - 1 }) t)),
          );
        },
      ))
  jump_from op flow old mid new w is there function place calls units events last acts (has_no_unit back unit none flow_is new_is) =
      let u = unit_there (slice_get ops to) unit in
      subst (λ (n : Work). DoesSome code (Acts code op) flow old n w w) (sym new_is)
      (did_end code op Spent flow old mid w flow_is (omega (arith, units)) events last (λ t same. (
        1,
        λ k. acts (run code (1 + k)) t
            ∙ back_to k u.0 mid t is back u.1
            ∙ unit_missed code (run code k) u.0 (record mid { place = to }) t none,
      )))
  jump_from op flow old mid new w is there function place calls units events last acts (finds_no_unit back unit flow_is new_is) =
      subst (λ (n : Work). DoesSome code (Acts code op) flow old n w w) (sym new_is)
      (did_end code op Spent flow old mid w flow_is (omega (arith, units)) events last (λ t same. (
        0,
        λ k. ap (λ n. act code (run code n) (Some op) (machine_of old t)) (zero_more k)
            ∙ acts (run code k) t
            ∙ at_jump (run code k) mid t false is (looks mid false back unit),
      )))

  pub jump_did : (flow : Flow) (old new : Work) (w : Option Bytes) → ops ≡ ops_of code old.function → old.place < length ops
      → Jumps ops to flow old new → DoesSome code (Acts code (Jump to)) flow old new w w
  jump_did flow old new w is there jumps = jump_from (Jump to) flow old old new w is there refl refl refl refl refl refl (λ next t. refl) jumps

  popped : (old mid : Work) (t : State) → IsPopped old mid → machine_of mid t ≡ with_stack (below (stack_of old)) (machine_of old t)
  popped old mid t is =
      same_machine t is.function is.place is.stack (ap (λ x. x.here) is.slots) (ap (λ x. x.items) is.calls) is.under (ap (λ x. x.under) is.slots) is.units

  branch : (op : Op) (flow : Flow) (old new : Work) (w : Option Bytes) (b : Bool) → ops ≡ ops_of code old.function → old.place < length ops
      → ((next : Follows) (t : State) → act code next (Some op) (machine_of old t) ≡ jumped_if b code next (machine_of old t) to)
      → Branches ops to b flow old new → DoesSome code (Acts code op) flow old new w w
  branch op flow old new w true is there acts jumps =
      let p = jumps.1 in
      jump_from op flow old jumps.0 new w (is ∙ ap (ops_of code) (sym p.function)) (omega (arith, p.place, there)) p.function p.place p.calls p.units p.events p.last
      (λ next t. acts next t ∙ ap (λ m. jumped code next m to) (sym (popped old jumps.0 t p))) jumps.2
  branch op flow old new w false is there acts passes =
      did_pass code op flow old.units _ _ old new w (subst (λ os. old.place < length os) is there) (omega arith) passes acts

  as_not : (b : Bool) → alike false b ≡ not b
  as_not true = refl
  as_not false = refl

  as_is : (b : Bool) → alike true b ≡ b
  as_is true = refl
  as_is false = refl

  pub unless_did : (flow : Flow) (old new : Work) (w : Option Bytes) → ops ≡ ops_of code old.function → old.place < length ops
      → Branches ops to (alike false (truth (top_of old))) flow old new → DoesSome code (Acts code (JumpUnless to)) flow old new w w
  unless_did flow old new w is there branches =
      branch (JumpUnless to) flow old new w (not (truth (top_of old))) is there (λ next t. refl)
      (subst (λ (b : Bool). Branches ops to b flow old new) (as_not (truth (top_of old))) branches)

  pub if_did : (flow : Flow) (old new : Work) (w : Option Bytes) → ops ≡ ops_of code old.function → old.place < length ops
      → Branches ops to (alike true (truth (top_of old))) flow old new → DoesSome code (Acts code (JumpIf to)) flow old new w w
  if_did flow old new w is there branches =
      branch (JumpIf to) flow old new w (truth (top_of old)) is there (λ next t. refl)
      (subst (λ (b : Bool). Branches ops to b flow old new) (as_is (truth (top_of old))) branches)
