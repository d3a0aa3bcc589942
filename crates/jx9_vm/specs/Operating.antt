-- Operands of operators.
use Rattle.std.specs.Prelude.{ℤ, Option, Some, None, Result, Ok, Err}
use Rattle.uq_value.specs.declared.value.Value.{Value}
use Rattle.jx9_meaning.specs.Operators.{Checked}
use Rattle.jx9_meaning.specs.declared.fault.FaultKind.{FaultKind}
use Rattle.jx9_meaning.specs.declared.fault.FaultKind.TheVariants.{NotNumber, Overflow}
use Rattle.jx9_vm.specs.declared.operators.Plain.{Plain}
use Rattle.jx9_vm.specs.declared.operators.Plain.TheVariants.{Number, Truth}

-- where both have one
abbrev pub both_numbers : Option ℤ → Option ℤ → Result (ℤ × ℤ) FaultKind
both_numbers None y = Err NotNumber
both_numbers (Some x) None = Err NotNumber
both_numbers (Some x) (Some y) = Ok (x, y)

-- a number that was in range
abbrev pub whole_or_overflow : Option ℤ → Checked
whole_or_overflow None = Err Overflow
whole_or_overflow (Some z) = Ok (Value.Int z)

abbrev pub value_of : Plain → Value
value_of (Number z) = Value.Int z
value_of (Truth b) = Value.Bool b
