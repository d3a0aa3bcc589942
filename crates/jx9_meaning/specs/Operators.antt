-- Operators on two values.
use Rattle.std.specs.Prelude.{Bool, true, false, not, ◌^◌, if◌then◌else◌, nat_lt, ℤ, pos, negsuc, ◌+ℤ◌, ◌-ℤ◌, ◌*ℤ◌, int_div, int_rem, Option, Some, None, Result, Ok, Err}
use Rattle.std.specs.declared.cmp.Ordering.{Ordering}
use Rattle.std.specs.declared.cmp.Ordering.TheVariants.{Less as Below, Equal as Even, Greater as Above}
use Rattle.uq_value.specs.Number.{number}
use Rattle.uq_value.specs.Order.{order}
use Rattle.uq_value.specs.Same.{same, loose_same}
use Rattle.uq_value.specs.Truth.{is_zero}
use Rattle.uq_value.specs.declared.value.Value.{Value}
use Rattle.jx9_syntax.specs.declared.expression.Binary.{Binary}
use Rattle.jx9_syntax.specs.declared.expression.Binary.TheVariants.{Add, Subtract, Multiply, Divide, Remainder, Equal, NotEqual, Same, NotSame, Less, LessOrEqual, Greater, GreaterOrEqual}
use Rattle.jx9_meaning.specs.declared.fault.FaultKind.{FaultKind}
use Rattle.jx9_meaning.specs.declared.fault.FaultKind.TheVariants.{Overflow, ZeroDivisor, NotNumber}

-- a value or a fault
abbrev pub Checked : Type 0
Checked = Result Value FaultKind

-- from -2^63 to 2^63 - 1
abbrev pub in_range : ℤ → Bool
in_range (pos n) = nat_lt n (2 ^ 63)
in_range (negsuc n) = nat_lt n (2 ^ 63)

abbrev pub checked : ℤ → Checked
checked z = if in_range z then Ok (Value.Int z) else Err Overflow

-- by 0 there is no quotient, whatever else would come
abbrev pub divided : (ℤ → ℤ → ℤ) → ℤ → ℤ → Checked
divided f x y = if is_zero y then Err ZeroDivisor else checked (f x y)

-- over the numbers of both sides
abbrev pub arithmetic : (ℤ → ℤ → Checked) → Option ℤ → Option ℤ → Checked
arithmetic f (Some x) (Some y) = f x y
arithmetic f _ _ = Err NotNumber

abbrev pub compared : (Ordering → Bool) → Option Ordering → Checked
compared test None = Err NotNumber
compared test (Some o) = Ok (Value.Bool (test o))

abbrev pub is_below : Ordering → Bool
is_below Below = true
is_below Even = false
is_below Above = false

abbrev pub is_above : Ordering → Bool
is_above Below = false
is_above Even = false
is_above Above = true

-- `/` and `%` truncate towards zero
unfoldable pub operate : Binary → Value → Value → Checked
operate Add a b = arithmetic (λ x y. checked (x +ℤ y)) (number a) (number b)
operate Subtract a b = arithmetic (λ x y. checked (x -ℤ y)) (number a) (number b)
operate Multiply a b = arithmetic (λ x y. checked (x *ℤ y)) (number a) (number b)
operate Divide a b = arithmetic (divided int_div) (number a) (number b)
operate Remainder a b = arithmetic (divided int_rem) (number a) (number b)
operate Equal a b = Ok (Value.Bool (loose_same a b))
operate NotEqual a b = Ok (Value.Bool (not (loose_same a b)))
operate Same a b = Ok (Value.Bool (same a b))
operate NotSame a b = Ok (Value.Bool (not (same a b)))
operate Less a b = compared is_below (order a b)
operate LessOrEqual a b = compared (λ o. not (is_above o)) (order a b)
operate Greater a b = compared is_above (order a b)
operate GreaterOrEqual a b = compared (λ o. not (is_below o)) (order a b)
