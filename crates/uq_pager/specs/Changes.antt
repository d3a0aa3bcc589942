-- What a transaction changed.
use Rattle.std.specs.Prelude.{ℕ, List}
use Rattle.std.specs.Ordering.{nat_cmp}
use Rattle.std.specs.BTreeMap.{insert_entry}
use Rattle.uq_journal.specs.Batches.{Original}
use Rattle.uq_pager.specs.Places.{in_order}
use Rattle.uq_pager.specs.declared.changes.Changes.{Changes}

-- the changed pages, in order of their numbers
abbrev pub batch_of : Changes → List Original
batch_of it = in_order it.pages.items it.places.entries

-- the batch with this page, in place of the one of its number
abbrev pub with_change : ℕ → List ℕ → List Original → List Original
with_change k page batch = insert_entry nat_cmp batch k page
