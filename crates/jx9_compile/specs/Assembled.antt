-- Which functions are code.
use Rattle.std.specs.Prelude.{◌≡◌, ℕ, ◌+◌, ◌<◌, ◌≤◌, true, List, [], length, Some, ◌⊎◌, slice_get}
use Rattle.jx9_compile.specs.Shape.{goes_on, next_of, jump_of, callee_of, puts, slot_of, takes}
use Rattle.jx9_compile.specs.declared.code.Code.{Code}
use Rattle.jx9_compile.specs.declared.error.CodeFault.{CodeFault}
use Rattle.jx9_compile.specs.declared.error.CodeFault.TheVariants.{BadCode, Memory}
use Rattle.jx9_compile.specs.declared.function.Function.{Function}
use Rattle.jx9_compile.specs.declared.op.Op.{Op}

-- from this op at this place its function may go on there
abbrev pub LeadsTo : Op → ℕ → ℕ → Type 0
LeadsTo op at to = (next_of op at ≡ Some to) ⊎ (jump_of op ≡ Some to)

-- `Way ops at put taken`: a way from the first op to the one at this place, on which so many values are put on the stack and
-- so many taken from it. The height of the stack there is put - taken. It may be below 0, since each op on the way takes and
-- puts its values also where too few are there.
pub data Way (ops : List Op) : ℕ → ℕ → ℕ → Type 0 where
  begins : Way ops 0 0 0
  follows : {at put taken : ℕ} (op : Op) (to : ℕ)
      → Way ops at put taken → slice_get ops at ≡ Some op → LeadsTo op at to → to < length ops
      → Way ops to (put + puts op) (taken + takes op)

-- two ways to a place on which the stack is not as high
pub record HasTwoHeights (ops : List Op) (at : ℕ) : Type 0 where
  pub put : ℕ
  pub taken : ℕ
  pub put' : ℕ
  pub taken' : ℕ
  pub one : Way ops at put taken
  pub other : Way ops at put' taken'
  pub apart : put + taken' ≡ put' + taken → ⊥

-- Why an op is bad, in a function of a code of so many functions. The last three speak of an op to which a way leads.
pub data IsBadOp (functions : ℕ) (f : Function) (at : ℕ) (op : Op) : Type 0 where
  leaves_the_function : (to : ℕ) → jump_of op ≡ Some to → length f.ops ≤ to → IsBadOp functions f at op
  has_no_such_slot : (slot : ℕ) → slot_of op ≡ Some slot → f.slots ≤ slot → IsBadOp functions f at op
  calls_no_function : (function : ℕ) → callee_of op ≡ Some function → functions ≤ function → IsBadOp functions f at op
  finds_too_few : (put taken : ℕ) → Way f.ops at put taken → put < taken + takes op → IsBadOp functions f at op
  is_met_at_two_heights : HasTwoHeights f.ops at → IsBadOp functions f at op
  runs_off_the_end : (put taken : ℕ) → Way f.ops at put taken → goes_on op ≡ true → at + 1 ≡ length f.ops → IsBadOp functions f at op

-- a bad place of a function
pub data IsBadAt (functions : ℕ) (f : Function) : ℕ → Type 0 where
  has_too_few_slots : f.slots < f.params → IsBadAt functions f 0
  has_no_ops : f.ops ≡ [] → IsBadAt functions f 0
  has_a_bad_op : {at : ℕ} (op : Op) → slice_get f.ops at ≡ Some op → IsBadOp functions f at op → IsBadAt functions f at

-- no place is bad
abbrev pub IsGood : ℕ → Function → Type 0
IsGood functions f = (at : ℕ) → IsBadAt functions f at → ⊥

-- the first bad place of a function
pub record IsFirstBadAt (functions : ℕ) (f : Function) (at : ℕ) : Type 0 where
  pub bad : IsBadAt functions f at
  pub first : (before : ℕ) → before < at → IsBadAt functions f before → ⊥

-- all functions before this one are good
abbrev pub AreGoodBefore : List Function → ℕ → Type 0
AreGoodBefore functions number =
    (before : ℕ) (g : Function) → before < number → slice_get functions before ≡ Some g → IsGood (length functions) g

-- No functions are bad at the start, and else the first bad place of the first function that has one is bad.
pub data IsFirstBad (functions : List Function) : ℕ → ℕ → Type 0 where
  no_functions : functions ≡ [] → IsFirstBad functions 0 0
  bad_function : {number at : ℕ} (f : Function) → slice_get functions number ≡ Some f
      → IsFirstBadAt (length functions) f at → AreGoodBefore functions number → IsFirstBad functions number at

-- there are functions, and all of them are good
pub record AreGood (functions : List Function) : Type 0 where
  pub some : functions ≡ [] → ⊥
  pub good : AreGoodBefore functions (length functions)

-- the functions as they are given
pub record IsAssembled (functions : List Function) (code : Code) : Type 0 where
  pub same : code.functions ≡ functions
  pub good : AreGood functions

-- nothing is said of want of memory
abbrev pub IsRefused : List Function → CodeFault → Type 0
IsRefused functions (BadCode function at) = IsFirstBad functions function at
IsRefused functions Memory = Unit {0}
