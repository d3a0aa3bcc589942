use Rattle.uq_value.proofs.Levels.{no_list}
use Rattle.uq_value.proofs.list.List.new.Goals as goal

pub invariant_of-result : goal.invariant_of-result
invariant_of-result c = no_list _ c.new.ensures.items c.new-2.ensures.size c.new-2.ensures.depth c.new-2.ensures.counts
