use Rattle.std.proofs.Common.{◌≤◌, ℕ, List}
use Rattle.uq_value.specs.Internal.Tally.{IsTally, deepest_of}
use Rattle.uq_value.proofs.depth_counts.DepthCounts.deepest.Given as goal

abbrev pub invariant-loop-depth : goal.invariant-loop-depth
invariant-loop-depth l =
    record {
      bound : l.depth ≤ l.most;
      below : (ds : List ℕ) → deepest_of ds ≤ l.most → IsTally l.self.counts ds → deepest_of ds ≤ l.depth;
    }

abbrev pub decreases-loop-depth : goal.decreases-loop-depth
decreases-loop-depth l = l.depth
