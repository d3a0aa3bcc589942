use Rattle.std.proofs.Common.{◌≡◌, ◌≤◌, ◌<◌, ◌-◌, ◌∷◌, length, take, get_or, false, Vec}
use Rattle.std.specs.declared.alloc.Global.{Global}
use Rattle.uq_value.specs.Internal.NameOrder.{is_before}
use Rattle.uq_value.specs.Internal.Blocks.{entries, label, AllBefore}
use Rattle.uq_value.specs.Internal.Names.{names}
use Rattle.uq_value.specs.declared.blocks.Entry.{Entry}
use Rattle.uq_value.proofs.blocks.NameBlocks.blocks_before.Given as goal

abbrev pub invariant-loop-low : goal.invariant-loop-low
invariant-loop-low l =
    record {
      order : l.low ≤ l.high;
      bound : l.high ≤ length l.self.blocks.items;
      before : AllBefore (names l.members) (l.digest ∷ l.name) (entries (take l.low l.self.blocks.items));
      next_not : (b : Vec Entry Global) (e : Entry) → l.high < length l.self.blocks.items → is_before (label (names l.members) (get_or (get_or l.self.blocks.items l.high b).items (length (get_or l.self.blocks.items l.high b).items - 1) e)) (l.digest ∷ l.name) ≡ false;
    }

abbrev pub decreases-loop-low : goal.decreases-loop-low
decreases-loop-low l = l.high - l.low
