-- The built-in functions.
use Rattle.std.specs.Prelude.{if◌then◌else◌, List, [], ◌∷◌, Option, Some, None}
use Rattle.std.specs.Str.{bytes_eq}
use Rattle.uq_value.specs.Data.{Bytes}
use Rattle.uq_value.specs.declared.value.Value.{Value}
use Rattle.jx9_meaning.specs.Operators.{Checked}

-- what stands under this name
abbrev pub row_named : {A : Type 0} → List (Bytes × A) → Bytes → Option A
row_named [] name = None
row_named (row ∷ rows) name = if bytes_eq row.0 name then Some row.1 else row_named rows name

-- a value by the arguments, its limits aside, or a fault
abbrev pub Builtin : Type 0
Builtin = List Value → Checked

-- The table: a row for each function.
abbrev pub builtins : List (Bytes × Builtin)
builtins = []
