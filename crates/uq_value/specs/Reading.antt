-- What stands in a value, one step on.
use Rattle.std.specs.Prelude.{if◌then◌else◌, ℤ, pos, negsuc, [], ◌∷◌, Option, Some, None, option_map, slice_get}
use Rattle.std.specs.Fmt.{signed_decimal}
use Rattle.std.specs.Str.{bytes_eq}
use Rattle.uq_value.specs.Data.{Bytes, Data, Datas, Pairs}
use Rattle.uq_value.specs.Plain.{value_of}
use Rattle.uq_value.specs.declared.value.Value.{Value}

-- the data of this name
abbrev pub find : Bytes → Pairs → Option Data
find name [] = None
find name (m ∷ ms) = if bytes_eq m.0 name then Some m.1 else find name ms

abbrev pub find_member : Bytes → Pairs → Option Value
find_member name ms = option_map value_of (find name ms)

-- an object's member of this name
abbrev pub get_member : Value → Bytes → Option Value
get_member (Value.Object ms) name = find_member name ms
get_member _ name = None

abbrev pub item_at : Datas → ℤ → Option Value
item_at ds (pos n) = option_map value_of (slice_get ds n)
item_at ds (negsuc n) = None

-- a list's item by a whole number; an object's member by a text, or by the decimal text of a whole number
abbrev pub get_index : Value → Value → Option Value
get_index (Value.List ds) (Value.Int z) = item_at ds z
get_index (Value.Object ms) (Value.Text name) = find_member name ms
get_index (Value.Object ms) (Value.Int z) = find_member (signed_decimal z) ms
get_index _ _ = None
