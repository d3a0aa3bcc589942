-- What lies in a list or an object is less deep than it.
use Rattle.std.specs.Prelude.{◌≤◌, max, List, [], ◌∷◌, map}
use Rattle.std.proofs.Common.{arith}
use denote.Param.Weighed.{most}
use Rattle.uq_value.specs.Data.{items_of, members_of}
use Rattle.uq_value.specs.Depth.{data_depth, items_depth, members_depth}
use Rattle.uq_value.specs.Plain.{plain}
use Rattle.uq_value.specs.Internal.Kept.{plain_member}
use Rattle.uq_value.specs.declared.value.Value.{Value}
use Rattle.uq_value.specs.declared.object.Member.{Member}
use Rattle.uq_value.specs.declared.list.List.TheDeep.{deep-Value, deep-Member}

value_falls : (v : Value) → deep-Value v ≤ data_depth (plain v)
value_falls Value.Null = omega arith
value_falls (Value.Bool b) = omega arith
value_falls (Value.Int z) = omega arith
value_falls (Value.Text bs) = omega arith
value_falls (Value.List ds) = omega arith
value_falls (Value.Object ms) = omega arith

items_fall : (vs : List Value) → most (λ v. deep-Value v) vs ≤ items_depth (items_of (map plain vs))
items_fall [] = omega arith
items_fall (v ∷ vs) = omega (arith, value_falls v, items_fall vs)

pub list_falls : (vs : List Value) → max (most (λ v. deep-Value v) vs) 0 ≤ items_depth (items_of (map plain vs))
list_falls vs = omega (arith, items_fall vs)

members_fall : (ms : List Member) → most (λ m. deep-Member m) ms ≤ members_depth (members_of (map plain_member ms))
members_fall [] = omega arith
members_fall (m ∷ ms) = omega (arith, value_falls m.value, members_fall ms)

pub object_falls : (ms : List Member) → max (most (λ m. deep-Member m) ms) 0 ≤ members_depth (members_of (map plain_member ms))
object_falls ms = omega (arith, members_fall ms)
