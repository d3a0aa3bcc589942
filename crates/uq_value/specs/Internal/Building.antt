-- What a builder of objects keeps, and what always holds of it.
use Rattle.std.specs.Prelude.{ℕ, List, map}
use Rattle.uq_value.specs.Data.{Pairs, IsDistinct}
use Rattle.uq_value.specs.Internal.Names.{names}
use Rattle.uq_value.specs.Internal.Beside.{CountsAre, NamesAre}
use Rattle.uq_value.specs.Internal.Kept.{plain_member}
use Rattle.uq_value.specs.declared.builder.ObjectBuilder.TheInside.{Inside}

abbrev pub builder_view : Inside → Pairs
builder_view b = map plain_member b.members.items

-- no name stands twice, the index finds them, and nothing is counted yet
pub record IsBuilder (b : Inside) : Type 0 where
  pub distinct : IsDistinct (names b.members.items)
  pub index : NamesAre b.kept (names b.members.items)
  pub counts : (ds : List ℕ) → CountsAre b.kept ds
