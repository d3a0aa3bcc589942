-- The names and depths of members.
use Rattle.std.specs.Prelude.{◌≡◌, ◌<◌, ℕ, List, length, map}
use Rattle.uq_value.specs.Data.{Bytes}
use Rattle.uq_value.specs.Places.{place_of}
use Rattle.uq_value.specs.Plain.{depth}
use Rattle.uq_value.specs.declared.object.Member.{Member}

abbrev pub name_of : Member → Bytes
name_of m = m.name.items

abbrev pub names : List Member → List Bytes
names ms = map name_of ms

abbrev pub member_depth : Member → ℕ
member_depth m = depth m.value

-- the place of a name among these
pub record IsFound (ns : List Bytes) (name : Bytes) (at : ℕ) : Type 0 where
  pub within : at < length ns
  pub place : place_of name ns ≡ at
