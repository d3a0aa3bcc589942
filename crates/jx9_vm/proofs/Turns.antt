-- What an op does, whatever follows it: it ends the script, or goes on with one machine, and either only adds events.
use Rattle.std.proofs.Common.{◌≡◌, ℕ, zero, suc, ◌+◌, ◌-◌, List, [], ◌∷◌, ◌++◌, Option, Some, None, refl, sym, ap, ◌∙◌, subst, arith}
use Rattle.std.specs.Prelude.{Bool, true, false, not, if◌then◌else◌, nat_lt, length, pos, drop, slice_get, slice_set, unwrap_or, Result, Ok, Err}
use Rattle.std.proofs.lemmas.Option.{none-some}
use Rattle.uq_value.specs.Number.{number}
use Rattle.uq_value.specs.Put.{Put, limited}
use Rattle.uq_value.specs.Truth.{truth}
use Rattle.uq_value.specs.declared.value.Value.{Value}
use Rattle.uq_json.specs.Text.{text_of}
use Rattle.jx9_syntax.specs.declared.expression.Binary.{Binary}
use Rattle.jx9_syntax.specs.declared.expression.Binary.TheVariants as binary
use Rattle.jx9_syntax.specs.declared.expression.Change.{Change as How}
use Rattle.jx9_syntax.specs.declared.expression.Change.TheVariants.{By, Join as JoinTo}
use Rattle.jx9_syntax.specs.declared.expression.Step.{Step}
use Rattle.jx9_meaning.specs.Expression.{change_units, joined, operation, shown, stepped}
use Rattle.jx9_meaning.specs.Meaning.{Done, Fault, Spent, Meaning, Outcome, Goes, Ends, Unfinished, after, pure, some_or, ok_or, put_or, spend, most_events, fits, sized, tell, units_of}
use Rattle.jx9_meaning.specs.Meaning as meaning
use Rattle.jx9_meaning.specs.Operators.{operate}
use Rattle.jx9_meaning.specs.Script.{Ended, ended, most_active, with_active}
use Rattle.jx9_meaning.specs.World.{State, Event, Out, with_event}
use Rattle.jx9_meaning.specs.declared.fault.FaultKind.{FaultKind}
use Rattle.jx9_meaning.specs.declared.fault.FaultKind.TheVariants.{NotNumber, CallDepth}
use Rattle.jx9_compile.specs.Machine.{Frame, Machine, ops_of, first_slots, at_place, on, with_stack, with_slots, with_outside, top, below, slot_value}
use Rattle.jx9_compile.specs.Run.{Next, gives, is_unit, jumped, jumped_if, changing, counting, called, arguments, left, act, run}
use Rattle.jx9_compile.specs.declared.code.Code.{Code}
use Rattle.jx9_compile.specs.declared.op.Op.{Op}
use Rattle.jx9_compile.specs.declared.op.Op.TheVariants.{Unit as OneUnit, Push, Pop, Copy, Load, Store, Assign, Count, Change, Add, Operate, Not, Join, Jump, JumpUnless, JumpIf, Call, Print, End}
use Rattle.jx9_vm.specs.Step.{IsFront}
use Rattle.jx9_vm.proofs.EventLemmas.{front_itself, front_on}

-- ---- the steps of the meaning that ops take

-- it is finished, and has only added events
abbrev Adds : {A : Type 0} → State → Outcome A → Type 0
Adds s (Goes a t) = IsFront s.events t.events
Adds s (Ends e t) = IsFront s.events t.events
Adds s Unfinished = ⊥

adds_from : {A : Type 0} (s t : State) (r : Outcome A) → IsFront s.events t.events → Adds t r → Adds s r
adds_from s t (Goes a u) f g = front_on s.events t.events u.events f g
adds_from s t (Ends e u) f g = front_on s.events t.events u.events f g
adds_from s t Unfinished f g = g

adds_then : {A B : Type 0} (s : State) (r : Outcome A) (f : A → Meaning B) → Adds s r → ((a : A) (t : State) → Adds t (f a t)) → Adds s (after r f)
adds_then s (Goes a t) f h g = adds_from s t (f a t) h (g a t)
adds_then s (Ends e t) f h g = h
adds_then s Unfinished f h g = h

adds_pure : {A : Type 0} (s : State) (a : A) → Adds s (pure a s)
adds_pure s a = front_itself s.events

adds_some : {A : Type 0} (s : State) (line : ℕ) (kind : FaultKind) (o : Option A) → Adds s (some_or line kind o s)
adds_some s line kind (Some a) = front_itself s.events
adds_some s line kind None = front_itself s.events

adds_ok : {A : Type 0} (s : State) (line : ℕ) (r : Result A FaultKind) → Adds s (ok_or line r s)
adds_ok s line (Ok a) = front_itself s.events
adds_ok s line (Err e) = front_itself s.events

adds_put : {A : Type 0} (s : State) (line : ℕ) (r : Put A) → Adds s (put_or line r s)
adds_put s line (Ok a) = front_itself s.events
adds_put s line (Err e) = front_itself s.events

abbrev pub taken : ℕ → State → Bool → Outcome (Unit {0})
taken n s b = if b then Ends Spent s else Goes tt (spend n s)

adds_taken : (s : State) (n : ℕ) (b : Bool) → Adds s (taken n s b)
adds_taken s n true = front_itself s.events
adds_taken s n false = front_itself s.events

adds_take : (s : State) (n : ℕ) → Adds s (meaning.take n s)
unfolding meaning.take
adds_take s n = adds_taken s n (nat_lt s.world.units n)

abbrev pub told : Event → State → Bool → Outcome (Unit {0})
told e s b = if b then Goes tt (with_event e s) else Ends Spent s

adds_told : (s : State) (e : Event) (b : Bool) → Adds s (told e s b)
unfolding with_event
adds_told s e true = (e ∷ [], refl)
adds_told s e false = front_itself s.events

adds_tell : (s : State) (e : Event) → Adds s (tell e s)
unfolding tell
adds_tell s e = adds_told s e (nat_lt (length s.events) most_events)

adds_fits : (s : State) (line : ℕ) (v : Value) → Adds s (fits line v s)
unfolding fits
adds_fits s line v = adds_put s line (limited v)

adds_sized : (s : State) (line : ℕ) (v : Value) → Adds s (sized line v s)
unfolding sized
adds_sized s line v =
    adds_then s (fits line v s) _ (adds_fits s line v)
    (λ a t. adds_then t (meaning.take (units_of v) t) (λ _. pure v) (adds_take t (units_of v)) (λ b u. adds_pure u v))

adds_counting : (s : State) (line : ℕ) (step : Step) (v : Value) → Adds s (counting line step v s)
adds_counting s line step v =
    adds_then s (some_or line NotNumber (number v) s) _ (adds_some s line NotNumber (number v))
    (λ old t. adds_then t (ok_or line (operate (stepped step) (Value.Int old) (Value.Int (pos 1))) t) _
    (adds_ok t line (operate (stepped step) (Value.Int old) (Value.Int (pos 1))))
    (λ new u. let two : Value × Value = (Value.Int old, new) in adds_pure u two))

adds_operation : (s : State) (line : ℕ) (old : Value) (how : How) (right : Value) → Adds s (operation line old how right s)
adds_operation s line old (By operator) right = adds_ok s line (operate operator old right)
adds_operation s line old JoinTo right = adds_fits s line (Value.Text (text_of old ++ text_of right))

adds_changing : (s : State) (line : ℕ) (how : How) (old right : Value) → Adds s (changing line how old right s)
adds_changing s line how old right =
    adds_then s (operation line old how right s) _ (adds_operation s line old how right)
    (λ new t. adds_then t (fits line new t) _ (adds_fits t line new)
    (λ a u. adds_then u (meaning.take (change_units how new) u) (λ _. pure new) (adds_take u (change_units how new)) (λ b v. adds_pure v new)))

-- ---- ops

module _ (code : Code) where
  data Turn (o : Option Op) (m : Machine) : Type 0 where
    stops : (e : Ended) → ((next : Next) → act code next o m ≡ Some e) → IsFront m.outside.events e.events → Turn o m
    moves : (m' : Machine) → ((next : Next) → act code next o m ≡ next m') → IsFront m.outside.events m'.outside.events → Turn o m

  at_once : (o : Option Op) (m m' : Machine) → m'.outside.events ≡ m.outside.events → ((next : Next) → act code next o m ≡ next m') → Turn o m
  at_once o m m' same is = moves m' is (subst (IsFront m.outside.events) (sym same) (front_itself m.outside.events))

  by_step : {A : Type 0} (o : Option Op) (m : Machine) (r : Outcome A) (vs slots : A → List Value) → Adds m.outside r
      → ((next : Next) → act code next o m ≡ gives r (λ a s. next (with_stack (vs a) (with_slots (slots a) (on (with_outside s m)))))) → Turn o m
  by_step o m (Goes a s) vs slots adds is = moves (with_stack (vs a) (with_slots (slots a) (on (with_outside s m)))) is adds
  by_step o m (Ends e s) vs slots adds is = stops (ended e s) is adds
  by_step o m Unfinished vs slots adds is = absurd adds

  by_operator : (o : Option Op) (m : Machine) (operator : Binary) (line : ℕ)
      → ((next : Next) → act code next o m ≡ gives (ok_or line (operate operator (top (below m.frame.stack)) (top m.frame.stack)) m.outside)
      (λ v s. next (with_stack (v ∷ below (below m.frame.stack)) (on (with_outside s m)))))
      → Turn o m
  by_operator o m operator line is =
      by_step o m (ok_or line (operate operator (top (below m.frame.stack)) (top m.frame.stack)) m.outside)
      (λ v. v ∷ below (below m.frame.stack)) (λ v. m.frame.slots)
      (adds_ok m.outside line (operate operator (top (below m.frame.stack)) (top m.frame.stack))) is

  by_test : (o : Option Op) (m m' : Machine) (e : Ended) (b : Bool) → m'.outside.events ≡ m.outside.events → e.events ≡ m.outside.events
      → ((next : Next) → act code next o m ≡ (if b then next m' else Some e)) → Turn o m
  by_test o m m' e true same same' is = at_once o m m' same is
  by_test o m m' e false same same' is = stops e is (subst (IsFront m.outside.events) (sym same') (front_itself m.outside.events))

  by_jump : (o : Option Op) (m : Machine) (vs : List Value) (to : ℕ) → ((next : Next) → act code next o m ≡ jumped code next (with_stack vs m) to) → Turn o m
  by_jump o m vs to is =
      by_test o m (at_place to (with_stack vs m)) (ended Spent m.outside)
      (if nat_lt m.frame.place to then true else is_unit (slice_get (ops_of code m.frame.function) to)) refl refl is

  by_branch : (o : Option Op) (m : Machine) (to : ℕ) (jumps : Bool) → ((next : Next) → act code next o m ≡ jumped_if jumps code next m to) → Turn o m
  by_branch o m to true is = by_jump o m (below m.frame.stack) to is
  by_branch o m to false is = at_once o m (with_stack (below m.frame.stack) (on m)) refl is

  entered : Machine → ℕ → ℕ → Machine
  entered m function count = record {
    frame = record { function = function; place = 0; stack = []; slots = first_slots (slice_get code.functions function) (arguments count m.frame.stack) };
    callers = (with_stack (drop count m.frame.stack) (on m)).frame ∷ m.callers;
    outside = with_active (m.outside.world.active + 1) m.outside;
  }

  by_call : (o : Option Op) (m : Machine) (function count line : ℕ) → ((next : Next) → act code next o m ≡ called code next m function count line) → Turn o m
  unfolding entered
  by_call o m function count line is = by_tests (nat_lt m.outside.world.active most_active) (is_unit (slice_get (ops_of code function) 0)) is
    where
      by_tests : (b u : Bool)
          → ((next : Next) → act code next o m
          ≡ (if b then (if u then next (entered m function count) else Some (ended Spent m.outside)) else Some (ended (Fault CallDepth line) m.outside)))
          → Turn o m
      by_tests true u h = by_test o m (entered m function count) (ended Spent m.outside) u refl refl h
      by_tests false u h = stops (ended (Fault CallDepth line) m.outside) h (front_itself m.outside.events)

  by_end : (o : Option Op) (m : Machine) (fs : List Frame) → ((next : Next) → act code next o m ≡ left next fs (top m.frame.stack) m.outside) → Turn o m
  by_end o m [] is = stops (ended Done m.outside) is (front_itself m.outside.events)
  by_end o m (f ∷ fs) is =
      at_once o m
      (record { frame = record f { stack = top m.frame.stack ∷ f.stack }; callers = fs; outside = with_active (m.outside.world.active - 1) m.outside })
      refl is

  by_op : (o : Option Op) (m : Machine) → Turn o m
  by_op None m = stops (ended Spent m.outside) (λ next. refl) (front_itself m.outside.events)
  by_op (Some (OneUnit line)) m =
      by_step _ m (meaning.take 1 m.outside) (λ _. m.frame.stack) (λ _. m.frame.slots) (adds_take m.outside 1) (λ next. refl)
  by_op (Some (Push v)) m = at_once _ m (with_stack (v ∷ m.frame.stack) (on m)) refl (λ next. refl)
  by_op (Some Pop) m = at_once _ m (with_stack (below m.frame.stack) (on m)) refl (λ next. refl)
  by_op (Some Copy) m = at_once _ m (with_stack (top m.frame.stack ∷ m.frame.stack) (on m)) refl (λ next. refl)
  by_op (Some (Load slot)) m = at_once _ m (with_stack (slot_value m slot ∷ m.frame.stack) (on m)) refl (λ next. refl)
  by_op (Some (Store slot)) m =
      at_once _ m (with_stack (below m.frame.stack) (with_slots (slice_set m.frame.slots slot (top m.frame.stack)) (on m))) refl (λ next. refl)
  by_op (Some (Assign slot line)) m =
      by_step _ m (fits line (top m.frame.stack) m.outside) (λ _. below m.frame.stack) (λ v. slice_set m.frame.slots slot (top m.frame.stack))
      (adds_fits m.outside line (top m.frame.stack)) (λ next. refl)
  by_op (Some (Count slot step line)) m =
      by_step _ m (counting line step (slot_value m slot) m.outside) (λ two. shown step two.0 two.1 ∷ m.frame.stack)
      (λ two. slice_set m.frame.slots slot two.1) (adds_counting m.outside line step (slot_value m slot)) (λ next. refl)
  by_op (Some (Change slot how line)) m =
      by_step _ m (changing line how (slot_value m slot) (top m.frame.stack) m.outside) (λ v. v ∷ below m.frame.stack)
      (λ v. slice_set m.frame.slots slot v) (adds_changing m.outside line how (slot_value m slot) (top m.frame.stack)) (λ next. refl)
  by_op (Some (Add line)) m = by_operator _ m binary.Add line (λ next. refl)
  by_op (Some (Operate operator line)) m = by_operator _ m operator line (λ next. refl)
  by_op (Some Not) m = at_once _ m (with_stack (Value.Bool (not (truth (top m.frame.stack))) ∷ below m.frame.stack) (on m)) refl (λ next. refl)
  by_op (Some (Join count line)) m =
      by_step _ m (sized line (Value.Text (joined (arguments count m.frame.stack))) m.outside) (λ v. v ∷ drop count m.frame.stack) (λ v. m.frame.slots)
      (adds_sized m.outside line (Value.Text (joined (arguments count m.frame.stack)))) (λ next. refl)
  by_op (Some (Jump to)) m = by_jump _ m m.frame.stack to (λ next. refl)
  by_op (Some (JumpUnless to)) m = by_branch _ m to (not (truth (top m.frame.stack))) (λ next. refl)
  by_op (Some (JumpIf to)) m = by_branch _ m to (truth (top m.frame.stack)) (λ next. refl)
  by_op (Some (Call function count line)) m = by_call _ m function count line (λ next. refl)
  by_op (Some Print) m =
      by_step _ m (tell (Out (text_of (top m.frame.stack))) m.outside) (λ _. below m.frame.stack) (λ _. m.frame.slots)
      (adds_tell m.outside (Out (text_of (top m.frame.stack)))) (λ next. refl)
  by_op (Some End) m = by_end _ m m.callers (λ next. refl)

  abbrev next_op : Machine → Option Op
  next_op m = slice_get (ops_of code m.frame.function) m.frame.place

  -- ---- runs

  some_is : (x y : Ended) → Some x ≡ Some y → x ≡ y
  some_is x y is = ap (λ (o : Option Ended). unwrap_or o x) is

  -- where a run ends, its events begin with those that are there
  adds_by : (n : ℕ) (m : Machine) (e : Ended) → run code (suc n) m ≡ Some e → Turn (next_op m) m
      → ((m' : Machine) → run code n m' ≡ Some e → IsFront m'.outside.events e.events) → IsFront m.outside.events e.events
  adds_by n m e h (stops e' is front) more = subst (λ (x : Ended). IsFront m.outside.events x.events) (some_is e' e (sym (is (run code n)) ∙ h)) front
  adds_by n m e h (moves m' is front) more = front_on m.outside.events m'.outside.events e.events front (more m' (sym (is (run code n)) ∙ h))

  pub run_adds : (n : ℕ) (m : Machine) (e : Ended) → run code n m ≡ Some e → IsFront m.outside.events e.events
  run_adds zero m e h = absurd (none-some e h)
  run_adds (suc n) m e h = adds_by n m e h (by_op (next_op m) m) (λ m' g. run_adds n m' e g)

  -- what has ended stays so with more ops
  longer_by : (n : ℕ) (m : Machine) (e : Ended) → run code (suc n) m ≡ Some e → Turn (next_op m) m
      → ((m' : Machine) → run code n m' ≡ Some e → run code (suc n) m' ≡ Some e) → run code (suc (suc n)) m ≡ Some e
  longer_by n m e h (stops e' is front) more = is (run code (suc n)) ∙ sym (is (run code n)) ∙ h
  longer_by n m e h (moves m' is front) more = is (run code (suc n)) ∙ more m' (sym (is (run code n)) ∙ h)

  one_more : (n : ℕ) (m : Machine) (e : Ended) → run code n m ≡ Some e → run code (suc n) m ≡ Some e
  one_more zero m e h = absurd (none-some e h)
  one_more (suc n) m e h = longer_by n m e h (by_op (next_op m) m) (λ m' g. one_more n m' e g)

  pub run_longer : (n k : ℕ) (m : Machine) (e : Ended) → run code n m ≡ Some e → run code (k + n) m ≡ Some e
  run_longer n zero m e h = let same : n ≡ 0 + n = omega arith in subst (λ i. run code i m ≡ Some e) same h
  run_longer n (suc k) m e h =
      let same : suc (k + n) ≡ suc k + n = omega arith in
      subst (λ i. run code i m ≡ Some e) same (one_more (k + n) m e (run_longer n k m e h))
