use Rattle.jx9_compile.proofs.EmitStatements.{no_prints_emitted, prints_go_on}
use Rattle.jx9_compile.proofs.emitting.Emitter.prints.Goals as goal

pub loop-value-init : goal.loop-value-init
loop-value-init c = no_prints_emitted _

pub loop-value-preserved : goal.loop-value-preserved
loop-value-preserved c = prints_go_on _ _ _ _ _ _ _ c.loop-value-test.true c.value-item.is c.loop-value.invariant c.in_ok-expr.ensures c.in_ok-put.ensures
