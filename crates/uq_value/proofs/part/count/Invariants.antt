use Rattle.std.proofs.Common.{map, take}
use Rattle.uq_value.specs.Internal.Tally.{IsTally}
use Rattle.uq_value.proofs.part.count.Given as goal

abbrev pub invariant-loop-part : goal.invariant-loop-part
invariant-loop-part g l = IsTally l.counts.counts (map g.P.Part.depth_of (take l.part-index l.parts))
