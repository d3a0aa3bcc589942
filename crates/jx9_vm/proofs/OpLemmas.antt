-- Ops that look at the machine's own state, one by one, as steps of a code's run.
use Rattle.std.proofs.Common.{◌≡◌, ℕ, ◌-◌, ◌<◌, ◌≤◌, Bool, true, false, List, ◌∷◌, ◌++◌, Option, Some, None, Ok, Err, refl, ap, ◌∙◌, subst, arith, length, drop}
use Rattle.std.specs.Bool.{MatchBool}
use Rattle.std.specs.Prelude.{nat_lt, not, slice_set, ℤ, pos}
use Rattle.std.proofs.lemmas.Bool.{ltb-true}
use Rattle.uq_value.specs.Data.{Bytes}
use Rattle.uq_value.specs.Number.{number}
use Rattle.uq_value.specs.Put.{Put, limited}
use Rattle.uq_value.specs.Truth.{truth}
use Rattle.uq_value.specs.declared.value.Value.{Value}
use Rattle.uq_json.specs.Text.{text_of}
use Rattle.jx9_syntax.specs.declared.expression.Binary.{Binary}
use Rattle.jx9_syntax.specs.declared.expression.Binary.TheVariants as binary
use Rattle.jx9_syntax.specs.declared.expression.Change.{Change as How}
use Rattle.jx9_syntax.specs.declared.expression.Change.TheVariants.{By, Join as JoinTo}
use Rattle.jx9_syntax.specs.declared.expression.Step.{Step}
use Rattle.jx9_meaning.specs.Expression.{change_units, operation, shown, stepped}
use Rattle.jx9_meaning.specs.Meaning.{Meaning, Goes, after, pure, some_or, ok_or, put_or, fits, sized, units_of, fault_of, ◌>>=◌, ◌>>◌}
use Rattle.jx9_meaning.specs.Meaning as meaning
use Rattle.jx9_meaning.specs.Operators.{Checked, operate}
use Rattle.jx9_meaning.specs.World.{State}
use Rattle.jx9_meaning.specs.declared.fault.FaultKind.TheVariants.{NotNumber, TooLarge}
use Rattle.jx9_compile.specs.Machine.{below, on, ops_of, with_outside, with_slots, with_stack}
use Rattle.jx9_compile.specs.Run.{Next as Follows, Result', act, gives, stored}
use Rattle.jx9_compile.specs.declared.code.Code.{Code}
use Rattle.jx9_compile.specs.declared.op.Op.{Op}
use Rattle.jx9_compile.specs.declared.op.Op.TheVariants.{Unit as OneUnit, Push, Pop, Copy, Load, Store, Assign, Count, Change, Add, Operate, Not, Join}
use Rattle.jx9_vm.specs.declared.ending.Ending.TheVariants.{Fault, Spent}
use Rattle.jx9_vm.specs.declared.work.Flow.{Flow}
use Rattle.jx9_vm.specs.declared.work.Work.{Work}
use Rattle.jx9_vm.specs.Moves.{Appends, Changes, ChangesBy, Counts, IsWritten, Passes, Quits, Results, Sizes, Stepped, TakesUnit, is_appended, outgrows}
use Rattle.jx9_vm.specs.Step.{Acts, DoesSome}
use Rattle.jx9_vm.specs.Work.{around, joined_top, machine_of, second_of, slot_of, stack_of, top_of}
use Rattle.jx9_vm.proofs.Reaching.{did_pass, did_quit}
use Rattle.jx9_vm.proofs.Turns.{taken}

-- an op at its place in a function, and what it does
module _ (code : Code) (flow : Flow) (old new : Work) (w : Option Bytes) (there : old.place < length (ops_of code old.function)) where
  no_more : old.units ≤ old.units
  no_more = omega arith

  -- ---- at once

  pub push_did : (v : Value) → Passes flow old.units (v ∷ stack_of old) old.slots.here old new → DoesSome code (Acts code (Push v)) flow old new w w
  push_did v passes = did_pass code (Push v) flow old.units _ _ old new w there no_more passes (λ next t. refl)

  pub pop_did : Passes flow old.units (below (stack_of old)) old.slots.here old new → DoesSome code (Acts code Pop) flow old new w w
  pop_did passes = did_pass code Pop flow old.units _ _ old new w there no_more passes (λ next t. refl)

  pub copy_did : Passes flow old.units (top_of old ∷ stack_of old) old.slots.here old new → DoesSome code (Acts code Copy) flow old new w w
  copy_did passes = did_pass code Copy flow old.units _ _ old new w there no_more passes (λ next t. refl)

  pub load_did : (slot : ℕ) → Passes flow old.units (slot_of old slot ∷ stack_of old) old.slots.here old new
      → DoesSome code (Acts code (Load slot)) flow old new w w
  load_did slot passes = did_pass code (Load slot) flow old.units _ _ old new w there no_more passes (λ next t. refl)

  pub store_did : (slot : ℕ) → Passes flow old.units (below (stack_of old)) (slice_set old.slots.here slot (top_of old)) old new
      → DoesSome code (Acts code (Store slot)) flow old new w w
  store_did slot passes = did_pass code (Store slot) flow old.units _ _ old new w there no_more passes (λ next t. refl)

  pub not_did : Passes flow old.units (Value.Bool (not (truth (top_of old))) ∷ below (stack_of old)) old.slots.here old new
      → DoesSome code (Acts code Not) flow old new w w
  not_did passes = did_pass code Not flow old.units _ _ old new w there no_more passes (λ next t. refl)

  -- every value is within the limits
  pub assign_did : (slot line : ℕ) → limited (top_of old) ≡ Ok (top_of old)
      → Passes flow old.units (below (stack_of old)) (slice_set old.slots.here slot (top_of old)) old new
      → DoesSome code (Acts code (Assign slot line)) flow old new w w
  unfolding fits
  assign_did slot line within passes =
      did_pass code (Assign slot line) flow old.units _ _ old new w there no_more passes
      (λ next t. ap (λ p. gives (put_or line p (around old t)) (λ v s. next (stored (with_outside s (machine_of old t)) slot))) within)

  -- ---- units

  unit_acts : (line : ℕ) (next : Follows) (t : State) (b : Bool) → nat_lt old.units 1 ≡ b
      → act code next (Some (OneUnit line)) (machine_of old t)
      ≡ gives (taken 1 (around old t) b) (λ _ s. next (on (with_outside s (machine_of old t))))
  unfolding meaning.take
  unit_acts line next t b is =
      ap (λ x. gives (taken 1 (around old t) x) (λ _ s. next (on (with_outside s (machine_of old t))))) is

  by_units : (line : ℕ) (b : Bool) → nat_lt old.units 1 ≡ b
      → MatchBool b (Quits Spent flow old new) (Passes flow (old.units - 1) (stack_of old) old.slots.here old new)
      → DoesSome code (Acts code (OneUnit line)) flow old new w w
  by_units line true is quits = did_quit code (OneUnit line) Spent flow old new w quits (λ next t. unit_acts line next t true is)
  by_units line false is passes =
      did_pass code (OneUnit line) flow (old.units - 1) _ _ old new w there (omega arith) passes (λ next t. unit_acts line next t false is)

  pub unit_did : (line : ℕ) → TakesUnit flow old new → DoesSome code (Acts code (OneUnit line)) flow old new w w
  unit_did line takes = by_units line (nat_lt old.units 1) refl takes

  -- ---- operators

  results_did : (op : Op) (line : ℕ) (rest : List Value) (r : Checked)
      → ((next : Follows) (t : State) → act code next (Some op) (machine_of old t)
      ≡ gives (ok_or line r (around old t)) (λ v s. next (with_stack (v ∷ rest) (on (with_outside s (machine_of old t))))))
      → Results line rest r flow old new → DoesSome code (Acts code op) flow old new w w
  results_did op line rest (Ok v) acts passes = did_pass code op flow old.units _ _ old new w there no_more passes acts
  results_did op line rest (Err kind) acts quits = did_quit code op (Fault kind line) flow old new w quits acts

  pub operate_did : (operator : Binary) (line : ℕ) → Results line (below (below (stack_of old))) (operate operator (second_of old) (top_of old)) flow old new
      → DoesSome code (Acts code (Operate operator line)) flow old new w w
  operate_did operator line results = results_did (Operate operator line) line _ (operate operator (second_of old) (top_of old)) (λ next t. refl) results

  pub add_did : (line : ℕ) → Results line (below (below (stack_of old))) (operate binary.Add (second_of old) (top_of old)) flow old new
      → DoesSome code (Acts code (Add line)) flow old new w w
  add_did line results = results_did (Add line) line _ (operate binary.Add (second_of old) (top_of old)) (λ next t. refl) results

  -- ---- steps

  abbrev two : ℤ → Value → Value × Value
  two z v = (Value.Int z, v)

  module _ (slot : ℕ) (step : Step) (line : ℕ) where
    abbrev count_on : Follows → State → Value × Value → State → Result'
    count_on next t two s =
        next (with_stack (shown step two.0 two.1 ∷ stack_of old) (with_slots (slice_set old.slots.here slot two.1) (on (with_outside s (machine_of old t)))))

    stepped_did : (z : ℤ) (r : Checked)
        → ((next : Follows) (t : State) → act code next (Some (Count slot step line)) (machine_of old t)
        ≡ gives (after (ok_or line r (around old t)) (λ new. pure (two z new))) (count_on next t))
        → Stepped line slot step z r flow old new → DoesSome code (Acts code (Count slot step line)) flow old new w w
    stepped_did z (Ok v) acts passes = did_pass code (Count slot step line) flow old.units _ _ old new w there no_more passes acts
    stepped_did z (Err kind) acts quits = did_quit code (Count slot step line) (Fault kind line) flow old new w quits acts

    counts_did : (n : Option ℤ)
        → ((next : Follows) (t : State) → act code next (Some (Count slot step line)) (machine_of old t)
        ≡ gives (after (some_or line NotNumber n (around old t)) (λ z. ok_or line (operate (stepped step) (Value.Int z) (Value.Int (pos 1))) >>= (λ new. pure (two z new))))
        (count_on next t))
        → Counts line slot step n flow old new → DoesSome code (Acts code (Count slot step line)) flow old new w w
    counts_did None acts quits = did_quit code (Count slot step line) (Fault NotNumber line) flow old new w quits acts
    counts_did (Some z) acts counts = stepped_did z (operate (stepped step) (Value.Int z) (Value.Int (pos 1))) acts counts

    pub count_did : Counts line slot step (number (slot_of old slot)) flow old new → DoesSome code (Acts code (Count slot step line)) flow old new w w
    count_did counts = counts_did (number (slot_of old slot)) (λ next t. refl) counts

  -- ---- joined texts

  module _ (count line : ℕ) where
    abbrev text : Value
    text = Value.Text (joined_top count old)

    abbrev join_on : Follows → State → Value → State → Result'
    join_on next t v s = next (with_stack (v ∷ drop count (stack_of old)) (on (with_outside s (machine_of old t))))

    pays_did : (b : Bool)
        → ((next : Follows) (t : State) → act code next (Some (Join count line)) (machine_of old t)
        ≡ gives (after (taken (units_of text) (around old t) b) (λ _. pure text)) (join_on next t))
        → MatchBool b (Quits Spent flow old new) (Passes flow (old.units - units_of text) (text ∷ drop count (stack_of old)) old.slots.here old new)
        → DoesSome code (Acts code (Join count line)) flow old new w w
    pays_did true acts quits = did_quit code (Join count line) Spent flow old new w quits acts
    pays_did false acts passes = did_pass code (Join count line) flow (old.units - units_of text) _ _ old new w there (omega arith) passes acts

    sizes_did : (p : Put Value)
        → ((next : Follows) (t : State) → act code next (Some (Join count line)) (machine_of old t)
        ≡ gives (after (put_or line p (around old t)) (λ same. meaning.take (units_of text) >>= (λ _. pure text))) (join_on next t))
        → Sizes line (drop count (stack_of old)) text p flow old new → DoesSome code (Acts code (Join count line)) flow old new w w
    unfolding meaning.take
    sizes_did (Ok same) acts pays = pays_did (nat_lt old.units (units_of text)) acts pays
    sizes_did (Err e) acts quits = did_quit code (Join count line) (Fault (fault_of e) line) flow old new w quits acts

    pub join_did : Sizes line (drop count (stack_of old)) text (limited text) flow old new → DoesSome code (Acts code (Join count line)) flow old new w w
    unfolding sized fits
    join_did sizes = sizes_did (limited text) (λ next t. refl) sizes

  -- ---- variables that an operator changes

  module _ (slot line : ℕ) where
    abbrev change_on : Follows → State → Value → State → Result'
    change_on next t v s =
        next (with_stack (v ∷ below (stack_of old)) (with_slots (slice_set old.slots.here slot v) (on (with_outside s (machine_of old t)))))

    -- what follows the operation itself
    abbrev written : How → Value → Meaning Value
    written how v = fits line v >> (meaning.take (change_units how v) >> pure v)

    module _ (how : How) (v : Value) (within : limited v ≡ Ok v) (is : (s : State) → operation line (slot_of old slot) how (top_of old) s ≡ Goes v s) where
      change_acts : (next : Follows) (t : State) (b : Bool) → nat_lt old.units (change_units how v) ≡ b
          → act code next (Some (Change slot how line)) (machine_of old t)
          ≡ gives (after (taken (change_units how v) (around old t) b) (λ _. pure v)) (change_on next t)
      unfolding fits meaning.take
      change_acts next t b test =
          ap (λ o. gives (after o (written how)) (change_on next t)) (is (around old t))
          ∙ ap (λ p. gives (after (put_or line p (around old t)) (λ _. meaning.take (change_units how v) >> pure v)) (change_on next t)) within
          ∙ ap (λ x. gives (after (taken (change_units how v) (around old t) x) (λ _. pure v)) (change_on next t)) test

      written_did : (b : Bool) → nat_lt old.units (change_units how v) ≡ b
          → MatchBool b (Quits Spent flow old new) (IsWritten slot (old.units - change_units how v) v flow old new)
          → DoesSome code (Acts code (Change slot how line)) flow old new w w
      written_did true test quits = did_quit code (Change slot how line) Spent flow old new w quits (λ next t. change_acts next t true test)
      written_did false test passes =
          did_pass code (Change slot how line) flow (old.units - change_units how v) _ _ old new w there (omega arith) passes (λ next t. change_acts next t false test)

    at_no_cost : (v : Value) (b : Bool) → nat_lt old.units 0 ≡ b → IsWritten slot old.units v flow old new
        → MatchBool b (Quits Spent flow old new) (IsWritten slot (old.units - 0) v flow old new)
    at_no_cost v true test passes = absurd (omega (arith, ltb-true old.units 0 test))
    at_no_cost v false test passes = subst (λ n. IsWritten slot n v flow old new) (let e : old.units ≡ old.units - 0 = omega arith in e) passes

    changes_by : (operator : Binary) (r : Checked) → operate operator (slot_of old slot) (top_of old) ≡ r → ChangesBy line slot r flow old new
        → DoesSome code (Acts code (Change slot (By operator) line)) flow old new w w
    changes_by operator (Ok v) is changes =
        written_did (By operator) v changes.0 (λ s. ap (λ r. ok_or line r s) is) (nat_lt old.units 0) refl (at_no_cost v (nat_lt old.units 0) refl changes.1)
    changes_by operator (Err kind) is quits =
        did_quit code (Change slot (By operator) line) (Fault kind line) flow old new w quits
        (λ next t. ap (λ r. gives (after (ok_or line r (around old t)) (written (By operator))) (change_on next t)) is)

    appends : Appends line slot (Value.Text (text_of (slot_of old slot) ++ text_of (top_of old))) flow old new
        → DoesSome code (Acts code (Change slot JoinTo line)) flow old new w w
    unfolding fits
    appends (is_appended within pays) =
        let v : Value = Value.Text (text_of (slot_of old slot) ++ text_of (top_of old)) in
        written_did JoinTo v within (λ s. ap (λ p. put_or line p s) within) (nat_lt old.units (units_of v)) refl pays
    appends (outgrows large quits) =
        did_quit code (Change slot JoinTo line) (Fault TooLarge line) flow old new w quits
        (λ next t. ap (λ p. gives (after (put_or line p (around old t)) (written JoinTo)) (change_on next t)) large)

    pub change_did : (how : How) → Changes line slot how flow old new → DoesSome code (Acts code (Change slot how line)) flow old new w w
    change_did (By operator) changes = changes_by operator (operate operator (slot_of old slot) (top_of old)) refl changes
    change_did JoinTo changes = appends changes
