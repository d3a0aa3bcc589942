use Rattle.std.proofs.Common.{take}
use Rattle.uq_value.specs.Internal.Index.{Indexes}
use Rattle.uq_value.specs.Internal.Names.{names}
use Rattle.uq_value.proofs.names.NameIndex.of.Given as goal

abbrev pub invariant-loop-at : goal.invariant-loop-at
invariant-loop-at l = Indexes l.index (take l.at (names l.members))
