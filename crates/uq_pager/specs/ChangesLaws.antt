-- What a transaction changed is whole pages.
use Rattle.std.specs.Prelude.{ℕ, ◌<◌, List, [], ◌∷◌}
use Rattle.std.specs.List.{AllByRecursion}
use Rattle.std.proofs.Common.{ap, ◌∙◌, length}
use Rattle.uq_journal.specs.Pages.{IsWhole}
use Rattle.uq_journal.specs.PagesLaws.{AreSized}
use Rattle.uq_journal.specs.declared.dirty.Dirty.{Dirty}
use Rattle.uq_pager.specs.declared.changes.Changes.{Changes}
use Rattle.uq_pager.specs.Changes.{batch_of}
use Rattle.uq_pager.specs.Lists.{there}
use Rattle.uq_pager.specs.Places.{bytes_at, in_order}
use Rattle.uq_pager.specs.PlacesLaws.{bytes_read, each_within}

-- the page at a place
sized_at : (pages : List Dirty) (at : ℕ) → at < length pages → IsWhole (bytes_at pages at)
sized_at pages at lt =
    let found = there pages at lt in
    ap length (bytes_read pages at found.0 found.1) ∙ found.0.page.size

sized_order : (pages : List Dirty) (places : List (ℕ × ℕ)) → AllByRecursion (λ e. e.1 < length pages) places → AreSized (in_order pages places)
sized_order pages [] within = tt
sized_order pages (e ∷ later) within = (sized_at pages e.1 within.0, sized_order pages later within.1)

pub changes_sized : (it : Changes) → AreSized (batch_of it)
changes_sized it = sized_order it.pages.items it.places.entries (each_within 0 it.pages.items it.places.entries it.ordered it.placed)
