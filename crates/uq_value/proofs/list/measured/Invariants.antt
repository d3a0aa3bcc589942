use Rattle.std.proofs.Common.{◌≡◌, ◌≤◌, ◌+◌, ◌-◌, ◌^◌, min, map, take, length}
use Rattle.uq_value.specs.Size.{leb_size}
use Rattle.uq_value.specs.Data.{items_of}
use Rattle.uq_value.specs.IsValue.{ItemsAreSound}
use Rattle.uq_value.specs.Depth.{most_depth}
use Rattle.uq_value.specs.Plain.{plain, size, depth}
use Rattle.uq_value.proofs.Totals.{total, greatest}
use Rattle.uq_value.proofs.list.measured.Given as goal

abbrev pub invariant-loop-v : goal.invariant-loop-v
invariant-loop-v l =
    record {
      whole : l.whole ≡ min (1 + leb_size (length l.values) + total size (take l.v-index l.values)) (2 ^ 64 - 1);
      deepest : l.deepest ≡ greatest depth (take l.v-index l.values);
      small : l.deepest ≤ most_depth;
      sound : ItemsAreSound (items_of (map plain (take l.v-index l.values)));
    }
