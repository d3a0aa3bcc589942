use Rattle.uq_value.proofs.Levels.{no_object}
use Rattle.uq_value.proofs.object.Object.new.Goals as goal

pub invariant_of-result : goal.invariant_of-result
invariant_of-result c = no_object _ c.new.ensures.items c.new-2.ensures.size c.new-2.ensures.depth c.new-2.ensures.counts c.new-2.ensures.names
