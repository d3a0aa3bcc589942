use Rattle.jx9_compile.specs.Heights.{IsTable, Never, still_of}
use Rattle.jx9_compile.proofs.heights.heights_of.Given as goal

abbrev pub invariant-loop-at : goal.invariant-loop-at
invariant-loop-at l = IsTable l.ops Never l.heights.table.items l.heights.work.items

abbrev pub decreases-loop-at : goal.decreases-loop-at
decreases-loop-at l = still_of l.heights.table.items l.heights.work.items
