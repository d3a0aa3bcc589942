-- Calls and returns.
use Rattle.std.proofs.Common.{◌≡◌, ℕ, suc, ◌+◌, ◌-◌, ◌*◌, ◌<◌, Bool, true, false, List, [], ◌∷◌, ◌++◌, Option, Some, refl, sym, ap, ◌∙◌, subst, arith, length, length-append, drop, take, reverse}
use Rattle.std.specs.Bool.{MatchBool}
use Rattle.std.specs.Prelude.{nat_lt, if◌then◌else◌, slice_get}
use Rattle.std.specs.List.{sum_by}
use Rattle.std.proofs.Math.Seq.{drop-append_seam, take-append_seam}
use Rattle.std.proofs.lemmas.Bool.{ltb-false, ltb-true}
use Rattle.std.proofs.lemmas.List.{reverse-append}
use Rattle.std.proofs.lemmas.List.Sums.{sum_by-append}
use Rattle.uq_value.specs.Data.{Bytes}
use Rattle.uq_value.specs.declared.value.Value.{Value}
use Rattle.jx9_meaning.specs.Meaning as meaning
use Rattle.jx9_meaning.specs.Script.{ended, most_active, with_active}
use Rattle.jx9_meaning.specs.World.{State}
use Rattle.jx9_meaning.specs.declared.fault.FaultKind.TheVariants.{CallDepth}
use Rattle.jx9_compile.specs.Machine.{Frame, Machine, first_slots, on, ops_of, top, with_stack}
use Rattle.jx9_compile.specs.Run.{Next as Follows, act, arguments, is_unit, left, run}
use Rattle.jx9_compile.specs.declared.code.Code.{Code}
use Rattle.jx9_compile.specs.declared.op.Op.TheVariants.{Unit as OneUnit, Call as CallOp, End}
use Rattle.jx9_vm.specs.declared.ending.Ending.TheVariants.{Done, Fault, Spent}
use Rattle.jx9_vm.specs.declared.work.Call.{Call}
use Rattle.jx9_vm.specs.declared.work.Flow.{Flow}
use Rattle.jx9_vm.specs.declared.work.Work.{Work}
use Rattle.jx9_vm.specs.Moves.{Calls, IsBack, IsEntered, Passes, Quits, Returns, TakesUnit, call_of, ends_script, goes_back_to}
use Rattle.jx9_vm.specs.Step.{Acts, DoesSome}
use Rattle.jx9_vm.specs.Work.{around, left_of, machine_of, ops_in, stack_of, to_go, waiting}
use Rattle.jx9_vm.proofs.EventLemmas.{grows_not}
use Rattle.jx9_vm.proofs.JumpLemmas.{one_more_op, unit_missed, unit_taken, unit_there}
use Rattle.jx9_vm.proofs.Reaching.{did_end, did_quit, fewer, function_within, nothing_happened, same_around, same_machine, zero_more}

-- ---- upper values

drop_end : {A : Type 0} (xs ys : List A) → drop (length xs) (xs ++ ys) ≡ ys
drop_end xs ys = drop-append_seam xs ys

take_end : {A : Type 0} (xs ys : List A) → take (length xs) (xs ++ ys) ≡ xs
take_end xs ys = take-append_seam xs ys

reversed_last : {A : Type 0} (xs : List A) (x : A) → reverse (xs ++ x ∷ []) ≡ x ∷ reverse xs
reversed_last xs x = reverse-append xs (x ∷ [])

-- ---- calls

module _ (code : Code) (function count line : ℕ) where
  entered : Work → State → Machine
  entered old t = record {
    frame = record { function = function; place = 0; stack = []; slots = first_slots (slice_get code.functions function) (arguments count (stack_of old)) };
    callers = (with_stack (drop count (stack_of old)) (on (machine_of old t))).frame ∷ (machine_of old t).callers;
    outside = with_active (length old.calls.items + 1) (around old t);
  }

  -- the caller, over what lies under it
  caller_at : Work → List Value → List Value → List Value → List Value → List Frame
  caller_at old stack slots under slots_under =
      record { function = old.function; place = old.place + 1; stack = reverse stack; slots = slots } ∷ waiting (reverse old.calls.items) under slots_under

  callers_are : (old : Work) (kept : List Value) → reverse kept ≡ drop count (stack_of old)
      → waiting (reverse (old.calls.items ++ call_of old ∷ [])) (old.stack.under ++ kept) (old.slots.under ++ old.slots.here)
      ≡ record { function = old.function; place = old.place + 1; stack = drop count (stack_of old); slots = old.slots.here } ∷ waiting (reverse old.calls.items) old.stack.under old.slots.under
  unfolding caller_at
  callers_are old kept is =
      ap (λ cs. waiting cs (old.stack.under ++ kept) (old.slots.under ++ old.slots.here)) (reversed_last old.calls.items (call_of old))
      ∙ ap (λ x. caller_at old x (drop (length old.slots.under) (old.slots.under ++ old.slots.here)) (take (length old.stack.under) (old.stack.under ++ kept)) (take (length old.slots.under) (old.slots.under ++ old.slots.here)))
      (drop_end old.stack.under kept)
      ∙ ap (λ x. caller_at old kept x (take (length old.stack.under) (old.stack.under ++ kept)) (take (length old.slots.under) (old.slots.under ++ old.slots.here)))
      (drop_end old.slots.under old.slots.here)
      ∙ ap (λ x. caller_at old kept old.slots.here x (take (length old.slots.under) (old.slots.under ++ old.slots.here))) (take_end old.stack.under kept)
      ∙ ap (λ x. caller_at old kept old.slots.here old.stack.under x) (take_end old.slots.under old.slots.here)
      ∙ ap (λ (x : List Value). let f : Frame = record { function = old.function; place = old.place + 1; stack = x; slots = old.slots.here } in f ∷ waiting (reverse old.calls.items) old.stack.under old.slots.under) is

  -- the machine with these calls that wait, so many of them active
  with_callers : List Frame → ℕ → List Value → ℕ → State → Machine
  with_callers callers active slots units t = record {
    frame = record { function = function; place = 0; stack = []; slots = slots };
    callers = callers;
    outside = record t { world = record t.world { units = units; active = active } };
  }

  is_entered : (old mid : Work) (t : State) → reverse (take (length old.stack.here - count) old.stack.here) ≡ drop count (stack_of old)
      → IsEntered code function count old mid → machine_of mid t ≡ entered old t
  unfolding entered with_callers
  is_entered old mid t kept is =
      same_machine t is.function is.place (ap reverse is.stack) is.slots is.calls is.under is.slots_under is.units
      ∙ ap (λ cs. with_callers cs (length (old.calls.items ++ call_of old ∷ [])) (first_slots (slice_get code.functions function) (arguments count (stack_of old))) old.units t)
      (callers_are old (take (length old.stack.here - count) old.stack.here) kept)
      ∙ ap (λ n. with_callers (record { function = old.function; place = old.place + 1; stack = drop count (stack_of old); slots = old.slots.here } ∷ waiting (reverse old.calls.items) old.stack.under old.slots.under)
      n (first_slots (slice_get code.functions function) (arguments count (stack_of old))) old.units t)
      (length-append old.calls.items (call_of old ∷ []))

  waits : List Call → ℕ
  waits calls = sum_by (λ (c : Call). to_go code c.function c.place) calls

  -- a call takes a unit, and its function has no more ops than all have
  less_by_call : (old new : Work) → old.place < length (ops_of code old.function) → new.function ≡ function → new.place ≡ 1
      → new.calls.items ≡ old.calls.items ++ call_of old ∷ [] → new.units < old.units → left_of code new < left_of code old
  unfolding waits
  less_by_call old new there is place calls units =
      let e : length (ops_of code new.function) ≡ length (ops_of code function) = ap (λ f. length (ops_of code f)) is in
      let l = function_within code function in
      let w : waits new.calls.items ≡ waits (old.calls.items ++ call_of old ∷ []) = ap waits calls in
      let v : waits (old.calls.items ++ call_of old ∷ []) ≡ waits old.calls.items + waits (call_of old ∷ []) =
      sum_by-append (λ (c : Call). to_go code c.function c.place) old.calls.items (call_of old ∷ []) in
      let o : waits (call_of old ∷ []) ≡ 0 + (length (ops_of code old.function) - (old.place + 1)) = refl in
      let u = fewer (ops_in code + 1) old.units new.units units in
      omega (arith, e, l, w, v, o, u, there, place)

  module _ (flow : Flow) (old new : Work) (w : Option Bytes) (there : old.place < length (ops_of code old.function))
      (kept : reverse (take (length old.stack.here - count) old.stack.here) ≡ drop count (stack_of old)) where
    at_first : (k line' : ℕ) (mid : Work) (t : State) → IsEntered code function count old mid → slice_get (ops_of code function) 0 ≡ Some (OneUnit line')
        → run code (1 + k) (entered old t) ≡ act code (run code k) (Some (OneUnit line')) (machine_of mid t)
    at_first k line' mid t is unit =
        ap (λ n. run code n (entered old t)) (one_more_op k)
        ∙ ap (run code (suc k)) (sym (is_entered old mid t kept is))
        ∙ ap (λ f. act code (run code k) (slice_get (ops_of code f) mid.place) (machine_of mid t)) is.function
        ∙ ap (λ p. act code (run code k) (slice_get (ops_of code function) p) (machine_of mid t)) is.place
        ∙ ap (λ o. act code (run code k) o (machine_of mid t)) unit

    entered_did : (line' : ℕ) (mid : Work) (b : Bool) → nat_lt mid.units 1 ≡ b → IsEntered code function count old mid
        → slice_get (ops_of code function) 0 ≡ Some (OneUnit line')
        → ((next : Follows) (t : State) → act code next (Some (CallOp function count line)) (machine_of old t) ≡ next (entered old t))
        → MatchBool b (Quits Spent flow mid new) (Passes flow (mid.units - 1) (stack_of mid) mid.slots.here mid new)
        → DoesSome code (Acts code (CallOp function count line)) flow old new w w
    entered_did line' mid true none is unit acts quits =
        did_end code (CallOp function count line) Spent flow old new w quits.ends (omega (arith, quits.units, is.units))
        (quits.events ∙ is.events) (quits.last ∙ is.last) (λ t same. (
          1,
          λ k. acts (run code (1 + k)) t
              ∙ at_first k line' mid t is unit
              ∙ unit_missed code (run code k) line' mid t (no_units mid.units none)
              ∙ ap (λ s. Some (ended meaning.Spent s)) (sym (same_around mid new t quits.calls quits.units)),
        ))
      where
        no_units : (u : ℕ) → nat_lt u 1 ≡ true → u ≡ 0
        no_units u h = omega (arith, ltb-true u 1 h)
    entered_did line' mid false some is unit acts passes =
        subst (λ (f : Flow). DoesSome code (Acts code (CallOp function count line)) f old new w w) (sym passes.next) (
          [],
          record {
            units = omega (arith, passes.units, is.units);
            events = omega (arith, passes.events, is.events);
            last = passes.last ∙ is.last;
            bytes = grows_not w;
            saves = λ store. refl;
            falls = λ going. less_by_call old new there (passes.function ∙ is.function) (omega (arith, passes.place, is.place))
                (ap (λ x. x.items) passes.calls ∙ is.calls) (omega (arith, passes.units, is.units, a_unit mid.units some));
            leads = λ t same. (
              1,
              λ k. acts (run code (1 + k)) t
                  ∙ at_first k line' mid t is unit
                  ∙ unit_taken code (run code k) line' mid t (a_unit mid.units some)
                  ∙ ap (run code k) (same_machine t (sym passes.function) (sym passes.place) (sym passes.stack) (sym passes.slots) (ap (λ x. x.items) (sym passes.calls)) (sym passes.under) (sym passes.slots_under) (sym passes.units))
                  ∙ ap (run code k) (sym (nothing_happened new t)),
            );
          },
        )
      where
        a_unit : (u : ℕ) → nat_lt u 1 ≡ false → 0 < u
        a_unit u h = omega (arith, ltb-false u 1 h)

    tests : (b u : Bool) → is_unit (slice_get (ops_of code function) 0) ≡ u
        → ((next : Follows) (t : State) → act code next (Some (CallOp function count line)) (machine_of old t)
        ≡ (if b then (if u then next (entered old t) else Some (ended meaning.Spent (around old t))) else Some (ended (meaning.Fault CallDepth line) (around old t))))
        → MatchBool b (MatchBool u
        ((mid : Work) × IsEntered code function count old mid × TakesUnit flow mid new)
        (Quits Spent flow old new)) (Quits (Fault CallDepth line) flow old new)
        → DoesSome code (Acts code (CallOp function count line)) flow old new w w
    tests true true unit acts calls =
        let there_is = unit_there (slice_get (ops_of code function) 0) unit in
        entered_did there_is.0 calls.0 (nat_lt calls.0.units 1) refl calls.1 there_is.1 acts calls.2
    tests true false unit acts quits = did_quit code (CallOp function count line) Spent flow old new w quits acts
    tests false u unit acts quits = did_quit code (CallOp function count line) (Fault CallDepth line) flow old new w quits acts

    pub call_did : Calls code function count line flow old new → DoesSome code (Acts code (CallOp function count line)) flow old new w w
    unfolding entered
    call_did calls = tests (nat_lt (length old.calls.items) most_active) (is_unit (slice_get (ops_of code function) 0)) refl (λ next t. refl) calls

-- ---- returns

module _ (code : Code) where
  all_waits : List Call → ℕ
  all_waits calls = sum_by (λ (c : Call). to_go code c.function c.place) calls

  less_by_return : (old new : Work) (call : Call) → old.place < length (ops_of code old.function) → old.calls.items ≡ new.calls.items ++ call ∷ []
      → new.function ≡ call.function → new.place ≡ call.place → new.units ≡ old.units → left_of code new < left_of code old
  unfolding all_waits
  less_by_return old new call there calls function place units =
      let e : to_go code new.function new.place ≡ to_go code call.function call.place = ap (λ f. to_go code f new.place) function ∙ ap (to_go code call.function) place in
      let w : all_waits old.calls.items ≡ all_waits (new.calls.items ++ call ∷ []) = ap all_waits calls in
      let v : all_waits (new.calls.items ++ call ∷ []) ≡ all_waits new.calls.items + all_waits (call ∷ []) =
      sum_by-append (λ (c : Call). to_go code c.function c.place) new.calls.items (call ∷ []) in
      let o : all_waits (call ∷ []) ≡ 0 + to_go code call.function call.place = refl in
      let u : new.units * (ops_in code + 1) ≡ old.units * (ops_in code + 1) = ap (λ n. n * (ops_in code + 1)) units in
      omega (arith, e, w, v, o, u, there)

  back_at : Call → List Frame → List Value → List Value → ℕ → ℕ → State → Machine
  back_at call callers stack slots units active t = record {
    frame = record { function = call.function; place = call.place; stack = stack; slots = slots };
    callers = callers;
    outside = record t { world = record t.world { units = units; active = active } };
  }

  returned : (next : Follows) (old new : Work) (call : Call) (flow : Flow) (t : State) → IsBack call flow old new
      → act code next (Some End) (machine_of old t) ≡ next (machine_of new t)
  unfolding back_at
  returned next old new call flow t back =
      ap (λ cs. left next (waiting cs old.stack.under old.slots.under) (top (stack_of old)) (around old t)) (ap reverse back.waited ∙ reversed_last new.calls.items call)
      ∙ ap (λ n. next (back_at call (waiting (reverse new.calls.items) (take call.stack_floor old.stack.under) (take call.slots_floor old.slots.under))
      (top (stack_of old) ∷ reverse (drop call.stack_floor old.stack.under)) (drop call.slots_floor old.slots.under) old.units n t))
      (one_less old.calls.items new.calls.items call back.waited)
      ∙ ap next (same_machine t (sym back.function) (sym back.place)
      (sym (ap reverse back.stack ∙ reversed_last (drop call.stack_floor old.stack.under) (top (stack_of old))))
      (sym back.slots) refl (sym back.under) (sym back.slots_under) (sym back.units))
    where
      one_less : (xs ys : List Call) (x : Call) → xs ≡ ys ++ x ∷ [] → length xs - 1 ≡ length ys
      one_less xs ys x is = let e : length xs ≡ length ys + length (x ∷ []) = ap length is ∙ length-append ys (x ∷ []) in omega (arith, e)

  pub end_did : (flow : Flow) (old new : Work) (w : Option Bytes) → old.place < length (ops_of code old.function) → Returns flow old new
      → DoesSome code (Acts code End) flow old new w w
  end_did flow old new w there (ends_script none quits) =
      did_quit code End Done flow old new w quits
      (λ next t. ap (λ cs. left next (waiting (reverse cs) old.stack.under old.slots.under) (top (stack_of old)) (around old t)) none)
  end_did flow old new w there (goes_back_to call back) =
      subst (λ (f : Flow). DoesSome code (Acts code End) f old new w w) (sym back.next) (
        [],
        record {
          units = omega (arith, back.units);
          events = omega (arith, back.events);
          last = back.last;
          bytes = grows_not w;
          saves = λ store. refl;
          falls = λ going. less_by_return old new call there back.waited back.function back.place back.units;
          leads = λ t same. (
            0,
            λ k. ap (λ n. act code (run code n) (Some End) (machine_of old t)) (zero_more k)
                ∙ returned (run code k) old new call flow t back
                ∙ ap (run code k) (sym (nothing_happened new t)),
          );
        },
      )
