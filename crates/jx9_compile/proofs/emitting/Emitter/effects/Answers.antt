use Rattle.jx9_compile.proofs.EmitNodes.{no_effects_emitted, effects_go_on}
use Rattle.jx9_compile.proofs.emitting.Emitter.effects.Goals as goal

pub loop-e-init : goal.loop-e-init
loop-e-init c = no_effects_emitted _

pub loop-e-preserved : goal.loop-e-preserved
loop-e-preserved c = effects_go_on _ _ _ _ _ _ c.loop-e-test.true c.e-item.is c.loop-e.invariant c.in_ok-effect.ensures
