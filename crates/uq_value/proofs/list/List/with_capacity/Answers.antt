use Rattle.uq_value.proofs.Levels.{no_list}
use Rattle.uq_value.proofs.list.List.with_capacity.Goals as goal

pub invariant_of-result : goal.invariant_of-result
invariant_of-result c = no_list _ c.in_ok-with_capacity.ensures.items c.new.ensures.size c.new.ensures.depth c.new.ensures.counts
