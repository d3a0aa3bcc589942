-- Which of two values comes first.
use Rattle.std.specs.Prelude.{ℤ, Option, Some, None}
use Rattle.std.specs.Ordering.{nat_cmp, int_cmp}
use Rattle.std.specs.Cmp.Lexicographic.{slice_cmp}
use Rattle.std.specs.declared.cmp.Ordering.{Ordering}
use Rattle.uq_value.specs.Number.{number}
use Rattle.uq_value.specs.declared.value.Value.{Value}

abbrev pub number_order : Option ℤ → Option ℤ → Option Ordering
number_order (Some x) (Some y) = Some (int_cmp x y)
number_order _ _ = None

-- two texts by their bytes, all else by the numbers of both; none where one has no number
abbrev pub order : Value → Value → Option Ordering
order (Value.Text s) (Value.Text t) = Some (slice_cmp nat_cmp s t)
order a b = number_order (number a) (number b)
