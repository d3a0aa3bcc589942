use Rattle.std.proofs.Common.{refl}
use Rattle.uq_value.proofs.Tallies.{tally-none}
use Rattle.uq_value.proofs.depth_counts.DepthCounts.new.Goals as goal

pub returns : goal.returns
returns c = tally-none _ refl
