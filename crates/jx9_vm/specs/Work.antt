-- What the fields of the machine stand for.
use Rattle.std.specs.Prelude.{◌≡◌, ℕ, ◌+◌, ◌-◌, ◌*◌, List, [], ◌∷◌, None, drop, length, reverse, slice_get, take, unwrap_or}
use Rattle.std.specs.List.{sum_by}
use Rattle.uq_value.specs.Data.{Bytes}
use Rattle.uq_value.specs.declared.value.Value.{Value}
use Rattle.jx9_meaning.specs.Expression.{joined}
use Rattle.jx9_meaning.specs.World.{State}
use Rattle.jx9_compile.specs.Machine.{Frame, Machine, below, first_slots, ops_of, top}
use Rattle.jx9_compile.specs.Run.{arguments}
use Rattle.jx9_compile.specs.declared.code.Code.{Code}
use Rattle.jx9_compile.specs.declared.function.Function.{Function}
use Rattle.jx9_vm.specs.declared.work.Call.{Call}
use Rattle.jx9_vm.specs.declared.work.Work.{Work}

-- the stack of the function at work, the top first
abbrev pub stack_of : Work → List Value
stack_of w = reverse w.stack.here

abbrev pub top_of : Work → Value
top_of w = top (stack_of w)

-- what is below the top
abbrev pub second_of : Work → Value
second_of w = top (below (stack_of w))

-- the texts of so many upper values, joined from the lowest on
abbrev pub joined_top : ℕ → Work → Bytes
joined_top count w = joined (arguments count (stack_of w))

-- what a slot of it holds
abbrev pub slot_of : Work → ℕ → Value
slot_of w slot = unwrap_or (slice_get w.slots.here slot) Value.Null

-- the calls that wait, the last first, over what lies under those behind them
abbrev pub waiting : List Call → List Value → List Value → List Frame
waiting [] stack slots = []
waiting (c ∷ cs) stack slots = record {
  function = c.function;
  place = c.place;
  stack = reverse (drop c.stack_floor stack);
  slots = drop c.slots_floor slots;
} ∷ waiting cs (take c.stack_floor stack) (take c.slots_floor slots)

abbrev pub frame_of : Work → Frame
frame_of w = record { function = w.function; place = w.place; stack = stack_of w; slots = w.slots.here }

-- what stands around the calls, with the units that are left and the calls that are active
abbrev pub around : Work → State → State
around w t = record t { world = record t.world { units = w.units; active = length w.calls.items } }

-- the machine that the fields stand for, in this world and after these events
abbrev pub machine_of : Work → State → Machine
machine_of w t = record {
  frame = frame_of w;
  callers = waiting (reverse w.calls.items) w.stack.under w.slots.under;
  outside = around w t;
}

-- at the first op of function 0, with the whole budget
pub record IsFirst (code : Code) (budget : ℕ) (w : Work) : Type 0 where
  pub function : w.function ≡ 0
  pub place : w.place ≡ 0
  pub stack : w.stack.here ≡ []
  pub slots : w.slots.here ≡ first_slots (slice_get code.functions 0) []
  pub calls : w.calls.items ≡ []
  pub units : w.units ≡ budget
  pub events : w.events ≡ 0
  pub last : w.last ≡ None

-- ---- what is left to do

-- the ops ahead of a call at this place
abbrev pub to_go : Code → ℕ → ℕ → ℕ
to_go code function place = length (ops_of code function) - place

abbrev pub ahead : Code → Work → ℕ
ahead code w = to_go code w.function w.place + sum_by (λ (c : Call). to_go code c.function c.place) w.calls.items

-- all ops of a code
abbrev pub ops_in : Code → ℕ
ops_in code = sum_by (λ (f : Function). length f.ops) code.functions

-- A unit outweighs all ops that it may bring: those of a turn, or of a call.
abbrev pub left_of : Code → Work → ℕ
left_of code w = w.units * (ops_in code + 1) + ahead code w
