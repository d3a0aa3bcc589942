-- What an op does, whatever follows it: it ends the script, or it goes on with one machine, which is nearer to its end.
use Rattle.std.proofs.Common.{◌≡◌, ℕ, ◌+◌, ◌-◌, ◌<◌, ◌≤◌, List, [], ◌∷◌, Option, Some, None, refl, arith}
use Rattle.std.specs.Prelude.{Bool, true, false, not, if◌then◌else◌, nat_lt, length, drop, slice_get, slice_set}
use Rattle.std.proofs.lemmas.Bool.{ltb-true}
use Rattle.std.proofs.lemmas.Option.{slice_get_within}
use Rattle.uq_value.specs.Truth.{truth}
use Rattle.uq_value.specs.declared.value.Value.{Value}
use Rattle.uq_json.specs.Text.{text_of}
use Rattle.jx9_syntax.specs.declared.expression.Binary.{Binary}
use Rattle.jx9_syntax.specs.declared.expression.Binary.TheVariants as binary
use Rattle.jx9_meaning.specs.Expression.{joined, shown}
use Rattle.jx9_meaning.specs.Meaning.{Done, Fault, Spent, Outcome, Goes, Ends, Unfinished, ok_or, fits, sized, tell}
use Rattle.jx9_meaning.specs.Meaning as meaning
use Rattle.jx9_meaning.specs.Operators.{operate}
use Rattle.jx9_meaning.specs.Script.{Ended, ended, most_active, with_active}
use Rattle.jx9_meaning.specs.World.{State, Out}
use Rattle.jx9_meaning.specs.declared.fault.FaultKind.TheVariants.{CallDepth}
use Rattle.jx9_compile.specs.Machine.{Frame, Machine, ops_of, first_slots, at_place, on, with_stack, with_slots, with_outside, top, below, slot_value}
use Rattle.jx9_compile.specs.Run.{Next, gives, is_unit, jumped, jumped_if, counting, changing, called, arguments, left, act}
use Rattle.jx9_compile.specs.declared.code.Code.{Code}
use Rattle.jx9_compile.specs.declared.op.Op.{Op}
use Rattle.jx9_compile.specs.declared.op.Op.TheVariants.{Unit as OneUnit, Push, Pop, Copy, Load, Store, Assign, Count, Change, Add, Operate, Not, Join, Jump, JumpUnless, JumpIf, Call, Print, End}
use Rattle.jx9_compile.proofs.Steps.{Thrifty, thrifty_take, thrifty_tell, thrifty_ok, thrifty_fits, thrifty_sized, thrifty_counting, thrifty_changing}

module _ (code : Code) where
  -- the ops ahead of a call, of those that wait, and of a machine
  abbrev pub to_go : Frame → ℕ
  to_go f = length (ops_of code f.function) - f.place

  abbrev pub waiting : List Frame → ℕ
  waiting [] = 0
  waiting (f ∷ fs) = to_go f + waiting fs

  abbrev pub ahead : Machine → ℕ
  ahead m = to_go m.frame + waiting m.callers

  abbrev pub next_op : Machine → Option Op
  next_op m = slice_get (ops_of code m.frame.function) m.frame.place

  -- no units have come, and there are fewer ops ahead, or one comes that takes a unit
  pub data Falls (m m' : Machine) : Type 0 where
    nearer : m'.outside.world.units ≤ m.outside.world.units → ahead m' < ahead m → Falls m m'
    at_unit : m'.outside.world.units ≤ m.outside.world.units → is_unit (next_op m') ≡ true → Falls m m'

  pub data Turn (o : Option Op) (m : Machine) : Type 0 where
    stops : (e : Ended) → ((next : Next) → act code next o m ≡ Some e) → Turn o m
    moves : (m' : Machine) → ((next : Next) → act code next o m ≡ next m') → Falls m m' → Turn o m

  -- at the next op
  forward : (m : Machine) (s : State) (vs slots : List Value) → m.frame.place < length (ops_of code m.frame.function)
      → s.world.units ≤ m.outside.world.units → Falls m (with_stack vs (with_slots slots (on (with_outside s m))))
  forward m s vs slots h l = nearer l (omega arith)

  -- a step on the machine alone
  at_once : (o : Option Op) (m : Machine) (vs slots : List Value) → m.frame.place < length (ops_of code m.frame.function)
      → ((next : Next) → act code next o m ≡ next (with_stack vs (with_slots slots (on m)))) → Turn o m
  at_once o m vs slots h is = moves (with_stack vs (with_slots slots (on m))) is (forward m m.outside vs slots h (omega arith))

  -- a step of the meaning first
  by_step : {A : Type 0} (o : Option Op) (m : Machine) (r : Outcome A) (vs slots : A → List Value) → m.frame.place < length (ops_of code m.frame.function)
      → Thrifty m.outside r
      → ((next : Next) → act code next o m ≡ gives r (λ a s. next (with_stack (vs a) (with_slots (slots a) (on (with_outside s m))))))
      → Turn o m
  by_step o m (Goes a s) vs slots h thrifty is =
      moves (with_stack (vs a) (with_slots (slots a) (on (with_outside s m)))) is (forward m s (vs a) (slots a) h thrifty)
  by_step o m (Ends e s) vs slots h thrifty is = stops (ended e s) is
  by_step o m Unfinished vs slots h thrifty is = absurd thrifty

  by_operator : (o : Option Op) (m : Machine) (operator : Binary) (line : ℕ) → m.frame.place < length (ops_of code m.frame.function)
      → ((next : Next) → act code next o m ≡ gives (ok_or line (operate operator (top (below m.frame.stack)) (top m.frame.stack)) m.outside)
      (λ v s. next (with_stack (v ∷ below (below m.frame.stack)) (on (with_outside s m)))))
      → Turn o m
  by_operator o m operator line h is =
      by_step o m (ok_or line (operate operator (top (below m.frame.stack)) (top m.frame.stack)) m.outside)
      (λ v. v ∷ below (below m.frame.stack)) (λ v. m.frame.slots) h
      (thrifty_ok m.outside line (operate operator (top (below m.frame.stack)) (top m.frame.stack))) is

  by_jump : (o : Option Op) (m : Machine) (vs : List Value) (to : ℕ) → m.frame.place < length (ops_of code m.frame.function)
      → ((next : Next) → act code next o m ≡ jumped code next (with_stack vs m) to) → Turn o m
  by_jump o m vs to h is =
      by_test (nat_lt m.frame.place to) refl (is_unit (slice_get (ops_of code m.frame.function) to)) refl is
    where
      by_test : (b : Bool) → nat_lt m.frame.place to ≡ b → (u : Bool) → is_unit (slice_get (ops_of code m.frame.function) to) ≡ u
          → ((next : Next) → act code next o m ≡ (if (if b then true else u) then next (at_place to (with_stack vs m)) else Some (ended Spent m.outside)))
          → Turn o m
      by_test true e u f is = moves (at_place to (with_stack vs m)) is (nearer (omega arith) (omega (arith, ltb-true m.frame.place to e)))
      by_test false e true f is = moves (at_place to (with_stack vs m)) is (at_unit (omega arith) f)
      by_test false e false f is = stops (ended Spent m.outside) is

  by_branch : (o : Option Op) (m : Machine) (to : ℕ) (jumps : Bool) → m.frame.place < length (ops_of code m.frame.function)
      → ((next : Next) → act code next o m ≡ jumped_if jumps code next m to) → Turn o m
  by_branch o m to true h is = by_jump o m (below m.frame.stack) to h is
  by_branch o m to false h is = at_once o m (below m.frame.stack) m.frame.slots h is

  -- the callee's first op
  entered : Machine → ℕ → ℕ → Machine
  entered m function count = record {
    frame = record { function = function; place = 0; stack = []; slots = first_slots (slice_get code.functions function) (arguments count m.frame.stack) };
    callers = (with_stack (drop count m.frame.stack) (on m)).frame ∷ m.callers;
    outside = with_active (m.outside.world.active + 1) m.outside;
  }

  by_call : (o : Option Op) (m : Machine) (function count line : ℕ) → ((next : Next) → act code next o m ≡ called code next m function count line) → Turn o m
  unfolding entered
  by_call o m function count line is =
      by_test (nat_lt m.outside.world.active most_active) (is_unit (slice_get (ops_of code function) 0)) refl is
    where
      by_test : (b u : Bool) → is_unit (slice_get (ops_of code function) 0) ≡ u
          → ((next : Next) → act code next o m
          ≡ (if b then (if u then next (entered m function count) else Some (ended Spent m.outside)) else Some (ended (Fault CallDepth line) m.outside)))
          → Turn o m
      by_test true true f is = moves (entered m function count) is (at_unit (omega arith) f)
      by_test true false f is = stops (ended Spent m.outside) is
      by_test false u f is = stops (ended (Fault CallDepth line) m.outside) is

  by_end : (o : Option Op) (m : Machine) (fs : List Frame) → m.callers ≡ fs → m.frame.place < length (ops_of code m.frame.function)
      → ((next : Next) → act code next o m ≡ left next fs (top m.frame.stack) m.outside) → Turn o m
  by_end o m [] e h is = stops (ended Done m.outside) is
  by_end o m (f ∷ fs) e h is =
      moves (record {
        frame = record f { stack = top m.frame.stack ∷ f.stack };
        callers = fs;
        outside = with_active (m.outside.world.active - 1) m.outside;
      }) is (nearer (omega arith) (rw e (omega arith)))

  by_op : (op : Op) (m : Machine) → m.frame.place < length (ops_of code m.frame.function) → Turn (Some op) m
  by_op (OneUnit line) m h =
      by_step _ m (meaning.take 1 m.outside) (λ _. m.frame.stack) (λ _. m.frame.slots) h (thrifty_take m.outside 1) (λ next. refl)
  by_op (Push v) m h = at_once _ m _ _ h (λ next. refl)
  by_op Pop m h = at_once _ m _ _ h (λ next. refl)
  by_op Copy m h = at_once _ m _ _ h (λ next. refl)
  by_op (Load slot) m h = at_once _ m _ _ h (λ next. refl)
  by_op (Store slot) m h = at_once _ m _ _ h (λ next. refl)
  by_op (Assign slot line) m h =
      by_step _ m (fits line (top m.frame.stack) m.outside) (λ _. below m.frame.stack) (λ v. slice_set m.frame.slots slot (top m.frame.stack)) h
      (thrifty_fits m.outside line (top m.frame.stack)) (λ next. refl)
  by_op (Count slot step line) m h =
      by_step _ m (counting line step (slot_value m slot) m.outside) (λ two. shown step two.0 two.1 ∷ m.frame.stack)
      (λ two. slice_set m.frame.slots slot two.1) h (thrifty_counting m.outside line step (slot_value m slot)) (λ next. refl)
  by_op (Change slot how line) m h =
      by_step _ m (changing line how (slot_value m slot) (top m.frame.stack) m.outside) (λ new. new ∷ below m.frame.stack)
      (λ new. slice_set m.frame.slots slot new) h (thrifty_changing m.outside line how (slot_value m slot) (top m.frame.stack)) (λ next. refl)
  by_op (Add line) m h = by_operator _ m binary.Add line h (λ next. refl)
  by_op (Operate operator line) m h = by_operator _ m operator line h (λ next. refl)
  by_op Not m h = at_once _ m _ _ h (λ next. refl)
  by_op (Join count line) m h =
      by_step _ m (sized line (Value.Text (joined (arguments count m.frame.stack))) m.outside) (λ v. v ∷ drop count m.frame.stack) (λ v. m.frame.slots) h
      (thrifty_sized m.outside line (Value.Text (joined (arguments count m.frame.stack)))) (λ next. refl)
  by_op (Jump to) m h = by_jump _ m m.frame.stack to h (λ next. refl)
  by_op (JumpUnless to) m h = by_branch _ m to (not (truth (top m.frame.stack))) h (λ next. refl)
  by_op (JumpIf to) m h = by_branch _ m to (truth (top m.frame.stack)) h (λ next. refl)
  by_op (Call function count line) m h = by_call _ m function count line (λ next. refl)
  by_op Print m h =
      by_step _ m (tell (Out (text_of (top m.frame.stack))) m.outside) (λ _. below m.frame.stack) (λ _. m.frame.slots) h
      (thrifty_tell m.outside (Out (text_of (top m.frame.stack)))) (λ next. refl)
  by_op End m h = by_end _ m m.callers refl h (λ next. refl)

  by_next : (m : Machine) (o : Option Op) → next_op m ≡ o → Turn o m
  by_next m None e = stops (ended Spent m.outside) (λ next. refl)
  by_next m (Some op) e = by_op op m (slice_get_within (ops_of code m.frame.function) m.frame.place op e)

  pub turn : (m : Machine) → Turn (next_op m) m
  turn m = by_next m (next_op m) refl
