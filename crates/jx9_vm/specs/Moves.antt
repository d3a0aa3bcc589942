-- What the ops that look at nothing but the machine's own fields do to them.
use Rattle.std.specs.Prelude.{◌≡◌, ℕ, ◌+◌, ◌-◌, ◌<◌, ◌≤◌, Bool, true, false, nat_lt, ℤ, pos, List, [], ◌∷◌, ◌++◌}
use Rattle.std.specs.Bool.{MatchBool}
use Rattle.std.specs.Prelude.{drop, length, take, Option, Some, None, Ok, Err, slice_get, slice_set}
use Rattle.uq_value.specs.Put.{Put, limited}
use Rattle.uq_value.specs.declared.error.ValueFault.TheVariants as value
use Rattle.uq_value.specs.declared.value.Value.{Value}
use Rattle.uq_json.specs.Text.{text_of}
use Rattle.jx9_syntax.specs.declared.expression.Change.{Change}
use Rattle.jx9_syntax.specs.declared.expression.Change.TheVariants.{By, Join}
use Rattle.jx9_syntax.specs.declared.expression.Step.{Step}
use Rattle.jx9_meaning.specs.Expression.{shown, stepped}
use Rattle.jx9_meaning.specs.Meaning.{fault_of, units_of}
use Rattle.jx9_meaning.specs.Operators.{Checked, operate}
use Rattle.jx9_meaning.specs.Script.{most_active}
use Rattle.jx9_meaning.specs.declared.fault.FaultKind.TheVariants.{NotNumber, CallDepth, TooLarge}
use Rattle.jx9_compile.specs.Machine.{below, first_slots, ops_of, top}
use Rattle.jx9_compile.specs.Run.{arguments, is_unit}
use Rattle.jx9_compile.specs.declared.code.Code.{Code}
use Rattle.jx9_compile.specs.declared.op.Op.{Op}
use Rattle.jx9_vm.specs.declared.ending.Ending.{Ending}
use Rattle.jx9_vm.specs.declared.ending.Ending.TheVariants.{Done, Fault, Spent}
use Rattle.jx9_vm.specs.declared.stop.StopCause.{StopCause}
use Rattle.jx9_vm.specs.declared.stop.StopCause.TheVariants.{Memory}
use Rattle.jx9_vm.specs.declared.work.Call.{Call}
use Rattle.jx9_vm.specs.declared.work.Flow.{Flow}
use Rattle.jx9_vm.specs.declared.work.Flow.TheVariants.{Next, Ends}
use Rattle.jx9_vm.specs.declared.work.Work.{Work}
use Rattle.jx9_vm.specs.Work.{slot_of, stack_of, top_of}

-- goes on with the next op, with so many units left, and these values on the stack and in the slots
pub record Passes (flow : Flow) (left : ℕ) (values variables : List Value) (old new : Work) : Type 0 where
  pub next : flow ≡ Next
  pub function : new.function ≡ old.function
  pub place : new.place ≡ old.place + 1
  pub stack : stack_of new ≡ values
  pub under : new.stack.under ≡ old.stack.under
  pub slots : new.slots.here ≡ variables
  pub slots_under : new.slots.under ≡ old.slots.under
  pub calls : new.calls ≡ old.calls
  pub units : new.units ≡ left
  pub events : new.events ≡ old.events
  pub last : new.last ≡ old.last

-- ends the script
pub record Quits (ending : Ending) (flow : Flow) (old new : Work) : Type 0 where
  pub ends : flow ≡ Ends ending
  pub calls : new.calls.items ≡ old.calls.items
  pub units : new.units ≡ old.units
  pub events : new.events ≡ old.events
  pub last : new.last ≡ old.last

-- no event is made, and no units come
pub record IsUncounted (old new : Work) : Type 0 where
  pub units : new.units ≤ old.units
  pub events : new.events ≡ old.events
  pub last : new.last ≡ old.last

-- there was no memory for an op
pub record Unmade (old new : Work) (cause : StopCause) : Type 0 where
  pub memory : cause ≡ Memory
  pub units : new.units ≤ old.units
  pub events : new.events ≡ old.events
  pub last : new.last ≡ old.last

-- the top is dropped
pub record IsPopped (old new : Work) : Type 0 where
  pub function : new.function ≡ old.function
  pub place : new.place ≡ old.place
  pub stack : stack_of new ≡ below (stack_of old)
  pub under : new.stack.under ≡ old.stack.under
  pub slots : new.slots ≡ old.slots
  pub calls : new.calls ≡ old.calls
  pub units : new.units ≡ old.units
  pub events : new.events ≡ old.events
  pub last : new.last ≡ old.last

-- the top is dropped, and what a slot holds is taken out
pub record IsTaken (slot : ℕ) (old new : Work) : Type 0 where
  pub function : new.function ≡ old.function
  pub place : new.place ≡ old.place
  pub stack : stack_of new ≡ below (stack_of old)
  pub under : new.stack.under ≡ old.stack.under
  pub slots : new.slots.here ≡ slice_set old.slots.here slot Value.Null
  pub slots_under : new.slots.under ≡ old.slots.under
  pub calls : new.calls ≡ old.calls
  pub units : new.units ≡ old.units
  pub events : new.events ≡ old.events
  pub last : new.last ≡ old.last

-- ---- values

-- a value on top of these, or a fault in this line
abbrev pub Results : ℕ → List Value → Checked → Flow → Work → Work → Type 0
Results line rest (Ok v) flow old new = Passes flow old.units (v ∷ rest) old.slots.here old new
Results line rest (Err kind) flow old new = Quits (Fault kind line) flow old new

-- a unit is taken, where one is left
abbrev pub TakesUnit : Flow → Work → Work → Type 0
TakesUnit flow old new =
    MatchBool (nat_lt old.units 1) (Quits Spent flow old new) (Passes flow (old.units - 1) (stack_of old) old.slots.here old new)

-- a value on top of these that takes units by its size
abbrev pub Pays : List Value → Value → Flow → Work → Work → Type 0
Pays rest v flow old new =
    MatchBool (nat_lt old.units (units_of v)) (Quits Spent flow old new)
    (Passes flow (old.units - units_of v) (v ∷ rest) old.slots.here old new)

-- where it is within the limits, else a fault in this line
abbrev pub Sizes : ℕ → List Value → Value → Put Value → Flow → Work → Work → Type 0
Sizes line rest v (Ok same) flow old new = Pays rest v flow old new
Sizes line rest v (Err e) flow old new = Quits (Fault (fault_of e) line) flow old new

abbrev pub IsSized : ℕ → List Value → Value → Flow → Work → Work → Type 0
IsSized line rest v flow old new = Sizes line rest v (limited v) flow old new

-- the new number in a slot, and on the stack the one that is shown
abbrev pub Stepped : ℕ → ℕ → Step → ℤ → Checked → Flow → Work → Work → Type 0
Stepped line slot step z (Ok v) flow old new =
    Passes flow old.units (shown step (Value.Int z) v ∷ stack_of old) (slice_set old.slots.here slot v) old new
Stepped line slot step z (Err kind) flow old new = Quits (Fault kind line) flow old new

-- what `++` or `--` makes of the number of a value
abbrev pub after_step : Step → Option ℤ → Checked
after_step step None = Err NotNumber
after_step step (Some z) = operate (stepped step) (Value.Int z) (Value.Int (pos 1))

-- `++` or `--` on the number of what a slot holds
abbrev pub Counts : ℕ → ℕ → Step → Option ℤ → Flow → Work → Work → Type 0
Counts line slot step None flow old new = Quits (Fault NotNumber line) flow old new
Counts line slot step (Some z) flow old new =
    Stepped line slot step z (operate (stepped step) (Value.Int z) (Value.Int (pos 1))) flow old new

-- ---- variables that an operator changes

-- a value in a slot, and on the stack in the place of the right side, with so many units left
abbrev pub IsWritten : ℕ → ℕ → Value → Flow → Work → Work → Type 0
IsWritten slot left v flow old new = Passes flow left (v ∷ below (stack_of old)) (slice_set old.slots.here slot v) old new

-- a value in a slot and on the stack that takes units by its size
abbrev pub IsPaidFor : ℕ → Value → Flow → Work → Work → Type 0
IsPaidFor slot v flow old new =
    MatchBool (nat_lt old.units (units_of v)) (Quits Spent flow old new)
    (Passes flow (old.units - units_of v) (v ∷ stack_of old) (slice_set old.slots.here slot v) old new)

-- what an operator gives, which is within the limits, or a fault in this line
abbrev pub ChangesBy : ℕ → ℕ → Checked → Flow → Work → Work → Type 0
ChangesBy line slot (Ok v) flow old new = (limited v ≡ Ok v) × IsWritten slot old.units v flow old new
ChangesBy line slot (Err kind) flow old new = Quits (Fault kind line) flow old new

-- a text that takes units by its size where it is within the limits, or a fault in this line
pub data Appends (line slot : ℕ) (v : Value) (flow : Flow) (old new : Work) : Type 0 where
  is_appended : limited v ≡ Ok v
      → MatchBool (nat_lt old.units (units_of v)) (Quits Spent flow old new) (IsWritten slot (old.units - units_of v) v flow old new)
      → Appends line slot v flow old new
  outgrows : limited v ≡ Err value.TooLarge → Quits (Fault TooLarge line) flow old new → Appends line slot v flow old new

abbrev pub Changes : ℕ → ℕ → Change → Flow → Work → Work → Type 0
Changes line slot (By operator) flow old new = ChangesBy line slot (operate operator (slot_of old slot) (top_of old)) flow old new
Changes line slot Join flow old new = Appends line slot (Value.Text (text_of (slot_of old slot) ++ text_of (top_of old))) flow old new

-- ---- ops with a `Pop` behind them

-- goes on behind the next op, with so many units left, and these values on the stack and in the slots
pub record Skips (flow : Flow) (left : ℕ) (values variables : List Value) (old new : Work) : Type 0 where
  pub next : flow ≡ Next
  pub function : new.function ≡ old.function
  pub place : new.place ≡ old.place + 2
  pub stack : stack_of new ≡ values
  pub under : new.stack.under ≡ old.stack.under
  pub slots : new.slots.here ≡ variables
  pub slots_under : new.slots.under ≡ old.slots.under
  pub calls : new.calls ≡ old.calls
  pub units : new.units ≡ left
  pub events : new.events ≡ old.events
  pub last : new.last ≡ old.last

-- a value in a slot that takes units by its size
abbrev pub IsKept : ℕ → Value → Flow → Work → Work → Type 0
IsKept slot v flow old new =
    MatchBool (nat_lt old.units (units_of v)) (Quits Spent flow old new)
    (Skips flow (old.units - units_of v) (stack_of old) (slice_set old.slots.here slot v) old new)

-- An op and the `Pop` behind it are made: there is a machine between them, with a value on top that is dropped.
pub record Drops (Moves : Flow → Work → Work → Type 0) (old new : Work) : Type 0 where
  pub between : Work
  pub function : between.function ≡ old.function
  pub place : between.place ≡ old.place + 1
  pub made : Moves Next old between
  pub dropped : Passes Next between.units (below (stack_of between)) between.slots.here between new

-- the op alone, where it ends the script
abbrev pub Unshown : (Flow → Work → Work → Type 0) → Flow → Work → Work → Type 0
Unshown Moves Next old new = Drops Moves old new
Unshown Moves (Ends ending) old new = Moves (Ends ending) old new

-- ---- jumps

-- Goes on at another op. A jump back is made together with the unit that stands there.
pub data Jumps (ops : List Op) (to : ℕ) (flow : Flow) (old new : Work) : Type 0 where
  goes_ahead : old.place < to → flow ≡ Next → new ≡ record old { place = to } → Jumps ops to flow old new
  goes_back : to ≤ old.place → is_unit (slice_get ops to) ≡ true → 0 < old.units
      → flow ≡ Next → new ≡ record old { place = to + 1; units = old.units - 1 } → Jumps ops to flow old new
  has_no_unit : to ≤ old.place → is_unit (slice_get ops to) ≡ true → old.units ≡ 0
      → flow ≡ Ends Spent → new ≡ old → Jumps ops to flow old new
  finds_no_unit : to ≤ old.place → is_unit (slice_get ops to) ≡ false
      → flow ≡ Ends Spent → new ≡ old → Jumps ops to flow old new

-- drops the top, and jumps or goes on
abbrev pub Branches : List Op → ℕ → Bool → Flow → Work → Work → Type 0
Branches ops to jumps flow old new =
    MatchBool jumps ((mid : Work) × IsPopped old mid × Jumps ops to flow mid new)
    (Passes flow old.units (below (stack_of old)) old.slots.here old new)

-- ---- calls

-- where the call at work is to go on, once it waits
abbrev pub call_of : Work → Call
call_of w = record {
  function = w.function;
  place = w.place + 1;
  stack_floor = length w.stack.under;
  slots_floor = length w.slots.under;
}

-- at the first op of a function, with so many upper values as its arguments
pub record IsEntered (code : Code) (number count : ℕ) (old new : Work) : Type 0 where
  pub function : new.function ≡ number
  pub place : new.place ≡ 0
  pub stack : new.stack.here ≡ []
  pub under : new.stack.under ≡ old.stack.under ++ take (length old.stack.here - count) old.stack.here
  pub slots : new.slots.here ≡ first_slots (slice_get code.functions number) (arguments count (stack_of old))
  pub slots_under : new.slots.under ≡ old.slots.under ++ old.slots.here
  pub calls : new.calls.items ≡ old.calls.items ++ call_of old ∷ []
  pub units : new.units ≡ old.units
  pub events : new.events ≡ old.events
  pub last : new.last ≡ old.last

-- A call is made together with the unit that stands first in its function.
abbrev pub Calls : Code → ℕ → ℕ → ℕ → Flow → Work → Work → Type 0
Calls code function count line flow old new =
    MatchBool (nat_lt (length old.calls.items) most_active)
    (MatchBool (is_unit (slice_get (ops_of code function) 0))
    ((mid : Work) × IsEntered code function count old mid × TakesUnit flow mid new)
    (Quits Spent flow old new))
    (Quits (Fault CallDepth line) flow old new)

-- back in the last call that waits, with this value on its stack
pub record IsBack (call : Call) (flow : Flow) (old new : Work) : Type 0 where
  pub next : flow ≡ Next
  pub waited : old.calls.items ≡ new.calls.items ++ call ∷ []
  pub function : new.function ≡ call.function
  pub place : new.place ≡ call.place
  pub stack : new.stack.here ≡ drop call.stack_floor old.stack.under ++ top (stack_of old) ∷ []
  pub under : new.stack.under ≡ take call.stack_floor old.stack.under
  pub slots : new.slots.here ≡ drop call.slots_floor old.slots.under
  pub slots_under : new.slots.under ≡ take call.slots_floor old.slots.under
  pub units : new.units ≡ old.units
  pub events : new.events ≡ old.events
  pub last : new.last ≡ old.last

-- ends the function, or the script where no call waits
pub data Returns (flow : Flow) (old new : Work) : Type 0 where
  ends_script : old.calls.items ≡ [] → Quits Done flow old new → Returns flow old new
  goes_back_to : (call : Call) → IsBack call flow old new → Returns flow old new
