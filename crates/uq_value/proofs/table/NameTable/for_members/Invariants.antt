use Rattle.std.proofs.Common.{◌≤◌, ◌+◌, ◌*◌, ◌-◌, length}
use Rattle.uq_value.proofs.table.NameTable.for_members.Given as goal

abbrev pub invariant-loop-count : goal.invariant-loop-count
invariant-loop-count l =
    record {
      least : 8 ≤ l.count;
      most : l.count ≤ 4 * length l.members + 8;
    }

abbrev pub decreases-loop-count : goal.decreases-loop-count
decreases-loop-count l = 4 * length l.members + 8 - l.count
