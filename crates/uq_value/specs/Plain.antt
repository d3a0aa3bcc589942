-- The plain data that a value is, and one level of some data as a value.
use Rattle.std.specs.Prelude.{ℕ, List, map}
use Rattle.uq_value.specs.Data.{Bytes, Data, Datas, Pairs, null, bool, int, text, list, object, sequence, mapping, list_of, pairs_of}
use Rattle.uq_value.specs.Size.{data_size}
use Rattle.uq_value.specs.Depth.{data_depth}
use Rattle.uq_value.specs.declared.value.Value.{Value}

abbrev pub plain : Value → Data
plain Value.Null = null
plain (Value.Bool b) = bool b
plain (Value.Int z) = int z
plain (Value.Text bs) = text bs
plain (Value.List ds) = list ds
plain (Value.Object ms) = object ms

abbrev pub value_of : Data → Value
value_of null = Value.Null
value_of (bool b) = Value.Bool b
value_of (int z) = Value.Int z
value_of (text bs) = Value.Text bs
value_of (sequence ds) = Value.List (list_of ds)
value_of (mapping ms) = Value.Object (pairs_of ms)

-- the values in a list
abbrev pub items : Datas → List Value
items ds = map value_of ds

-- the names and values in an object
abbrev pub members : Pairs → List (Bytes × Value)
members ms = map (λ m. (m.0, value_of m.1)) ms

abbrev pub size : Value → ℕ
size v = data_size (plain v)

abbrev pub depth : Value → ℕ
depth v = data_depth (plain v)
