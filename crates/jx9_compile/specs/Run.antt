-- What code does, op by op.
use Rattle.std.specs.Prelude.{◌≡◌, ℕ, zero, suc, ◌+◌, ◌-◌, Bool, true, false, not, if◌then◌else◌, nat_lt, pos, List, [], ◌∷◌, take, drop, reverse, Option, Some, None, slice_get, slice_set}
use Rattle.uq_value.specs.Number.{number}
use Rattle.uq_value.specs.Truth.{truth}
use Rattle.uq_value.specs.declared.value.Value.{Value}
use Rattle.uq_json.specs.Text.{text_of}
use Rattle.jx9_syntax.specs.declared.expression.Binary.{Binary}
use Rattle.jx9_syntax.specs.declared.expression.Binary.TheVariants as binary
use Rattle.jx9_syntax.specs.declared.expression.Change.{Change as How}
use Rattle.jx9_syntax.specs.declared.expression.Step.{Step}
use Rattle.jx9_meaning.specs.Expression.{joined, stepped, shown, operation, change_units}
use Rattle.jx9_meaning.specs.Meaning.{Done, Fault, Spent, Meaning, Outcome, Goes, Ends, Unfinished, ◌>>=◌, ◌>>◌, pure, some_or, ok_or, fits, sized, tell}
use Rattle.jx9_meaning.specs.Meaning as meaning
use Rattle.jx9_meaning.specs.Operators.{operate}
use Rattle.jx9_meaning.specs.Script.{Ended, ended, most_active, with_active}
use Rattle.jx9_meaning.specs.World.{World, State, Out}
use Rattle.jx9_meaning.specs.declared.fault.FaultKind.TheVariants.{NotNumber, CallDepth}
use Rattle.jx9_compile.specs.Machine.{Frame, Machine, ops_of, first_slots, at_place, on, with_stack, with_slots, with_outside, top, below, slot_value, first}
use Rattle.jx9_compile.specs.declared.code.Code.{Code}
use Rattle.jx9_compile.specs.declared.op.Op.{Op}
use Rattle.jx9_compile.specs.declared.op.Op.TheVariants.{Unit as OneUnit, Push, Pop, Copy, Load, Store, Assign, Count, Change, Add, Operate, Not, Join, Jump, JumpUnless, JumpIf, Call, Print, End}

-- how a run ends, where so many ops are enough
abbrev pub Result' : Type 0
Result' = Option Ended

-- what follows an op
abbrev pub Next : Type 0
Next = Machine → Result'

-- after a step of the meaning
abbrev pub gives : {A : Type 0} → Outcome A → (A → State → Result') → Result'
gives (Goes a s) go = go a s
gives (Ends e s) go = Some (ended e s)
gives Unfinished go = None

-- a step of the meaning whose value stands on this stack then
abbrev pub pushed : Next → Machine → List Value → Meaning Value → Result'
pushed next m rest step = gives (step m.outside) (λ v s. next (with_stack (v ∷ rest) (on (with_outside s m))))

-- ---- jumps

abbrev pub is_unit : Option Op → Bool
is_unit (Some (OneUnit line)) = true
is_unit _ = false

-- ahead, or back or to its own place where a `Unit` stands: so code can't go round without taking units
abbrev pub may_jump : Code → Machine → ℕ → Bool
may_jump code m to = if nat_lt m.frame.place to then true else is_unit (slice_get (ops_of code m.frame.function) to)

-- any other jump ends the script as spent
abbrev pub jumped : Code → Next → Machine → ℕ → Result'
jumped code next m to = if may_jump code m to then next (at_place to m) else Some (ended Spent m.outside)

-- drops the top, and jumps or goes on
abbrev pub jumped_if : Bool → Code → Next → Machine → ℕ → Result'
jumped_if jumps code next m to =
    let dropped = with_stack (below m.frame.stack) m in
    if jumps then jumped code next dropped to else next (on dropped)

-- ---- slots

-- moves the top into a slot
abbrev pub stored : Machine → ℕ → Machine
stored m slot = with_stack (below m.frame.stack) (with_slots (slice_set m.frame.slots slot (top m.frame.stack)) (on m))

-- within the limits
abbrev pub assigned : Next → Machine → ℕ → ℕ → Result'
assigned next m slot line = gives (fits line (top m.frame.stack) m.outside) (λ v s. next (stored (with_outside s m) slot))

-- the old number of a value, and the new one
abbrev pub counting : ℕ → Step → Value → Meaning (Value × Value)
counting line step v = do
  old ← some_or line NotNumber (number v)
  new ← ok_or line (operate (stepped step) (Value.Int old) (Value.Int (pos 1)))
  pure (Value.Int old, new)

abbrev pub counted : Next → Machine → ℕ → Step → ℕ → Result'
counted next m slot step line =
    gives (counting line step (slot_value m slot) m.outside)
    (λ two s. next (with_stack (shown step two.0 two.1 ∷ m.frame.stack) (with_slots (slice_set m.frame.slots slot two.1) (on (with_outside s m)))))

-- what `op=` writes, from the old value and the right side, within the limits and for the units of its size
abbrev pub changing : ℕ → How → Value → Value → Meaning Value
changing line how old right = do
  new ← operation line old how right
  fits line new
  meaning.take (change_units how new)
  pure new

abbrev pub changed : Next → Machine → ℕ → How → ℕ → Result'
changed next m slot how line =
    gives (changing line how (slot_value m slot) (top m.frame.stack) m.outside)
    (λ new s. next (with_stack (new ∷ below m.frame.stack) (with_slots (slice_set m.frame.slots slot new) (on (with_outside s m)))))

-- ---- calls

-- the arguments, from the lowest on
abbrev pub arguments : ℕ → List Value → List Value
arguments count stack = reverse (take count stack)

-- A function that begins with no `Unit` ends the script as spent: so code can't call without taking units.
abbrev pub called : Code → Next → Machine → ℕ → ℕ → ℕ → Result'
called code next m function count line =
    if nat_lt m.outside.world.active most_active
    then (if is_unit (slice_get (ops_of code function) 0)
    then next (record {
      frame = record { function = function; place = 0; stack = []; slots = first_slots (slice_get code.functions function) (arguments count m.frame.stack) };
      callers = (with_stack (drop count m.frame.stack) (on m)).frame ∷ m.callers;
      outside = with_active (m.outside.world.active + 1) m.outside;
    })
    else Some (ended Spent m.outside))
    else Some (ended (Fault CallDepth line) m.outside)

-- the end of a function, whose value stands on its caller's stack then
abbrev pub left : Next → List Frame → Value → State → Result'
left next [] v s = Some (ended Done s)
left next (f ∷ fs) v s = next (record { frame = record f { stack = v ∷ f.stack }; callers = fs; outside = with_active (s.world.active - 1) s })

-- ---- ops

-- an operator on the two upper values
abbrev pub operated : Next → Machine → Binary → ℕ → Result'
operated next m operator line =
    pushed next m (below (below m.frame.stack)) (ok_or line (operate operator (top (below m.frame.stack)) (top m.frame.stack)))

-- What an op does. Where the ops run out, the script is spent: assembled code ends each function.
abbrev pub act : Code → Next → Option Op → Machine → Result'
act code next None m = Some (ended Spent m.outside)
act code next (Some (OneUnit line)) m = gives (meaning.take 1 m.outside) (λ _ s. next (on (with_outside s m)))
act code next (Some (Push v)) m = next (with_stack (v ∷ m.frame.stack) (on m))
act code next (Some Pop) m = next (with_stack (below m.frame.stack) (on m))
act code next (Some Copy) m = next (with_stack (top m.frame.stack ∷ m.frame.stack) (on m))
act code next (Some (Load slot)) m = next (with_stack (slot_value m slot ∷ m.frame.stack) (on m))
act code next (Some (Store slot)) m = next (stored m slot)
act code next (Some (Assign slot line)) m = assigned next m slot line
act code next (Some (Count slot step line)) m = counted next m slot step line
act code next (Some (Change slot how line)) m = changed next m slot how line
act code next (Some (Add line)) m = operated next m binary.Add line
act code next (Some (Operate operator line)) m = operated next m operator line
act code next (Some Not) m = next (with_stack (Value.Bool (not (truth (top m.frame.stack))) ∷ below m.frame.stack) (on m))
act code next (Some (Join count line)) m =
    pushed next m (drop count m.frame.stack) (sized line (Value.Text (joined (arguments count m.frame.stack))))
act code next (Some (Jump to)) m = jumped code next m to
act code next (Some (JumpUnless to)) m = jumped_if (not (truth (top m.frame.stack))) code next m to
act code next (Some (JumpIf to)) m = jumped_if (truth (top m.frame.stack)) code next m to
act code next (Some (Call function count line)) m = called code next m function count line
act code next (Some Print) m =
    gives (tell (Out (text_of (top m.frame.stack))) m.outside) (λ _ s. next (with_stack (below m.frame.stack) (on (with_outside s m))))
act code next (Some End) m = left next m.callers (top m.frame.stack) m.outside

-- ---- a whole run

-- of at most so many ops
abbrev pub run : Code → ℕ → Machine → Result'
run code zero m = None
run code (suc n) m = act code (run code n) (slice_get (ops_of code m.frame.function) m.frame.place) m

-- From this world the code has these events, and ends so.
abbrev pub CodeRun : Code → World → Ended → Type 0
CodeRun code w ended = (n : ℕ) × (run code n (first code w) ≡ Some ended)
