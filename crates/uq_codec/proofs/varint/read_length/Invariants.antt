use Rattle.std.proofs.Common.{◌+◌, ◌-◌}
use Rattle.uq_codec.proofs.Lengths.{HasRead}
use Rattle.uq_codec.proofs.varint.read_length.Given as goal

abbrev pub invariant-loop-weight : goal.invariant-loop-weight
invariant-loop-weight l = HasRead l.bytes l.rest l.low l.weight

abbrev pub decreases-loop-weight : goal.decreases-loop-weight
decreases-loop-weight l = 16777152 + 1 - l.weight
