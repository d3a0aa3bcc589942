use Rattle.std.proofs.Common.{◌∙◌}
use Rattle.jx9_compile.proofs.Places.{set_next}
use Rattle.jx9_compile.proofs.emitting.Emitter.fill_all.Goals as goal

pub loop-at-preserved : goal.loop-at-preserved
loop-at-preserved c = (set_next _ _ _ _ _ _ c.loop-at-test.true c.loop-at.invariant.0 c.fill.ensures.ops, c.fill.ensures.names ∙ c.loop-at.invariant.1)
