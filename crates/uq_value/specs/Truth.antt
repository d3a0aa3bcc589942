-- Which values count as true.
use Rattle.std.specs.Prelude.{zero, suc, Bool, true, false, not, ℤ, pos, negsuc, List, [], ◌∷◌}
use Rattle.uq_value.specs.declared.value.Value.{Value}

abbrev pub is_zero : ℤ → Bool
is_zero (pos zero) = true
is_zero (pos (suc n)) = false
is_zero (negsuc n) = false

abbrev pub is_empty : {A : Type 0} → List A → Bool
is_empty [] = true
is_empty (x ∷ xs) = false

-- null, false, 0, the empty text, `[]` and `{}` are false; all else is true
abbrev pub truth : Value → Bool
truth Value.Null = false
truth (Value.Bool b) = b
truth (Value.Int z) = not (is_zero z)
truth (Value.Text bs) = not (is_empty bs)
truth (Value.List ds) = not (is_empty ds)
truth (Value.Object ms) = not (is_empty ms)
