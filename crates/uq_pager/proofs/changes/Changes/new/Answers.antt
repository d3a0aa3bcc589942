use Rattle.uq_pager.specs.PlacesLaws.{placed_none}
use Rattle.uq_pager.proofs.changes.Changes.new.Goals as goal

pub invariant_of-result : goal.invariant_of-result
invariant_of-result c = record { placed = placed_none 0 _ _ c.new.ensures.items c.new-2.ensures.empty; ordered = c.new-2.ensures.ordered }
