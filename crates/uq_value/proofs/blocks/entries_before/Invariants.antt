use Rattle.std.proofs.Common.{◌≤◌, ◌-◌, ◌∷◌, length, take, drop}
use Rattle.uq_value.specs.Internal.Blocks.{AllBefore, NoneBefore}
use Rattle.uq_value.specs.Internal.Names.{names}
use Rattle.uq_value.proofs.blocks.entries_before.Given as goal

abbrev pub invariant-loop-low : goal.invariant-loop-low
invariant-loop-low l =
    record {
      order : l.low ≤ l.high;
      bound : l.high ≤ length l.entries;
      before : AllBefore (names l.members) (l.digest ∷ l.name) (take l.low l.entries);
      rest : NoneBefore (names l.members) (l.digest ∷ l.name) (drop l.high l.entries);
    }

abbrev pub decreases-loop-low : goal.decreases-loop-low
decreases-loop-low l = l.high - l.low
