-- What an op takes from the stack and puts on it, and what it names.
use Rattle.std.specs.Prelude.{ℕ, ◌+◌, Bool, true, false, if◌then◌else◌, Option, Some, None}
use Rattle.jx9_compile.specs.declared.op.Op.{Op}
use Rattle.jx9_compile.specs.declared.op.Op.TheVariants.{Unit as OneUnit, Push, Pop, Copy, Load, Store, Assign, Count, Change, Add, Operate, Not, Join, Jump, JumpUnless, JumpIf, Call, Print, End}

-- so many values it takes from the stack: `End` takes its value only where there is one
abbrev pub takes : Op → ℕ
takes (OneUnit line) = 0
takes (Push v) = 0
takes Pop = 1
takes Copy = 1
takes (Load slot) = 0
takes (Store slot) = 1
takes (Assign slot line) = 1
takes (Count slot step line) = 0
takes (Change slot how line) = 1
takes (Add line) = 2
takes (Operate operator line) = 2
takes Not = 1
takes (Join count line) = count
takes (Jump to) = 0
takes (JumpUnless to) = 1
takes (JumpIf to) = 1
takes (Call function count line) = count
takes Print = 1
takes End = 0

-- and so many it puts on it
abbrev pub puts : Op → ℕ
puts (OneUnit line) = 0
puts (Push v) = 1
puts Pop = 0
puts Copy = 2
puts (Load slot) = 1
puts (Store slot) = 0
puts (Assign slot line) = 0
puts (Count slot step line) = 1
puts (Change slot how line) = 1
puts (Add line) = 1
puts (Operate operator line) = 1
puts Not = 1
puts (Join count line) = 1
puts (Jump to) = 0
puts (JumpUnless to) = 0
puts (JumpIf to) = 0
puts (Call function count line) = 1
puts Print = 0
puts End = 0

-- whether the next op may follow
abbrev pub goes_on : Op → Bool
goes_on (Jump to) = false
goes_on End = false
goes_on _ = true

abbrev pub next_of : Op → ℕ → Option ℕ
next_of op at = if goes_on op then Some (at + 1) else None

-- the place of another op that may follow
abbrev pub jump_of : Op → Option ℕ
jump_of (Jump to) = Some to
jump_of (JumpUnless to) = Some to
jump_of (JumpIf to) = Some to
jump_of _ = None

-- the slot that it reads or writes
abbrev pub slot_of : Op → Option ℕ
slot_of (Load slot) = Some slot
slot_of (Store slot) = Some slot
slot_of (Assign slot line) = Some slot
slot_of (Count slot step line) = Some slot
slot_of (Change slot how line) = Some slot
slot_of _ = None

-- the function that it calls
abbrev pub callee_of : Op → Option ℕ
callee_of (Call function count line) = Some function
callee_of _ = None
