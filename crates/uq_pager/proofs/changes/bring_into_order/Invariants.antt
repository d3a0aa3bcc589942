use Rattle.std.proofs.Common.{◌≡◌, ◌++◌, take}
use Rattle.std.specs.BTreeMap.{IsOrdered, btree_map_len}
use Rattle.std.specs.Ordering.{nat_cmp}
use Rattle.uq_journal.specs.Recovered.{changes}
use Rattle.uq_pager.specs.Places.{Places, in_order}
use Rattle.uq_pager.proofs.changes.bring_into_order.Given as goal

abbrev pub invariant-loop-no : goal.invariant-loop-no
invariant-loop-no l = record {
  placed : Places l.at l.pages.items l.places.entries;
  batch : changes (take l.at l.pages.items) ++ in_order l.pages.items l.places.entries ≡ in_order l.fn.pages.items l.fn.places.entries;
  ordered : IsOrdered nat_cmp l.places;
}

abbrev pub decreases-loop-no : goal.decreases-loop-no
decreases-loop-no l = btree_map_len l.places
