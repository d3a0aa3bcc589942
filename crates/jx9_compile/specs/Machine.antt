-- What the machine keeps.
use Rattle.std.specs.Prelude.{ℕ, ◌+◌, List, [], ◌∷◌, ◌++◌, replicate, take, Option, Some, None, slice_get, unwrap_or}
use Rattle.uq_value.specs.declared.value.Value.{Value}
use Rattle.jx9_meaning.specs.Script.{start}
use Rattle.jx9_meaning.specs.World.{World, State}
use Rattle.jx9_compile.specs.declared.code.Code.{Code}
use Rattle.jx9_compile.specs.declared.function.Function.{Function}
use Rattle.jx9_compile.specs.declared.op.Op.{Op}

-- where a call of a function stands: the function's number, the place of the next op, the values on the stack with the top
-- first, and what the slots hold
pub record Frame : Type 0 where
  pub function : ℕ
  pub place : ℕ
  pub stack : List Value
  pub slots : List Value

-- The call at work, those that wait with the last first, and the world and the events. The variables of `outside` stand in
-- slots, so its own are never looked at.
pub record Machine : Type 0 where
  pub frame : Frame
  pub callers : List Frame
  pub outside : State

-- ---- a code

-- the ops of a function, none where there is no such function
abbrev pub ops_or_none : Option Function → List Op
ops_or_none None = []
ops_or_none (Some f) = f.ops

abbrev pub ops_of : Code → ℕ → List Op
ops_of code f = ops_or_none (slice_get code.functions f)

-- The first slots hold the arguments, all others null. Missing arguments are null, further ones are dropped.
abbrev pub first_slots : Option Function → List Value → List Value
first_slots None vs = []
first_slots (Some f) vs = take f.slots (take f.params vs ++ replicate f.slots Value.Null)

-- ---- the parts of a machine

abbrev pub at_place : ℕ → Machine → Machine
at_place n m = record m { frame = record m.frame { place = n } }

-- at the next op
abbrev pub on : Machine → Machine
on m = at_place (m.frame.place + 1) m

abbrev pub with_stack : List Value → Machine → Machine
with_stack vs m = record m { frame = record m.frame { stack = vs } }

abbrev pub with_slots : List Value → Machine → Machine
with_slots vs m = record m { frame = record m.frame { slots = vs } }

abbrev pub with_outside : State → Machine → Machine
with_outside s m = record m { outside = s }

-- a value that is not there counts as null: assembled code never asks for one
abbrev pub top : List Value → Value
top [] = Value.Null
top (v ∷ vs) = v

abbrev pub below : List Value → List Value
below [] = []
below (v ∷ vs) = vs

abbrev pub slot_value : Machine → ℕ → Value
slot_value m slot = unwrap_or (slice_get m.frame.slots slot) Value.Null

-- at the first op of function 0
abbrev pub first : Code → World → Machine
first code w = record {
  frame = record { function = 0; place = 0; stack = []; slots = first_slots (slice_get code.functions 0) [] };
  callers = [];
  outside = start w;
}
