use Rattle.std.proofs.Common.{ap}
use Rattle.uq_value.specs.declared.value.Value.{Value}
use Rattle.jx9_compile.proofs.EmitLemmas.{emits_same}
use Rattle.jx9_compile.proofs.EmitNodes.{no_parts_emitted, text_goes_on, variable_goes_on}
use Rattle.jx9_compile.proofs.emitting.Emitter.parts.Goals as goal
use Rattle.jx9_compile.proofs.emitting.Emitter.parts.Goals.{in-Text+in_ok-text-in-Text+in_ok-put-in-Text, in-Var+in_ok-slot-in-Var+in_ok-put-in-Var}

pub loop-part-init : goal.loop-part-init
loop-part-init c = no_parts_emitted _

pub loop-part-preserved : goal.loop-part-preserved
loop-part-preserved c = elim c.match-part.branch [
  | in-Text+in_ok-text-in-Text+in_ok-put-in-Text w ↦
      emits_same _ _ _ _ w.self-is (text_goes_on _ _ _ _ _ _ _ _ c.loop-part-test.true c.part-item.is w.in-Text.is (ap (λ x. Value.Text x) w.in_ok-text-in-Text.ensures) c.loop-part.invariant w.in_ok-put-in-Text.ensures)
  | in-Var+in_ok-slot-in-Var+in_ok-put-in-Var w ↦
      emits_same _ _ _ _ w.self-is (variable_goes_on _ _ _ _ _ _ _ _ _ c.loop-part-test.true c.part-item.is w.in-Var.is c.loop-part.invariant w.in_ok-slot-in-Var.ensures w.in_ok-put-in-Var.ensures)
]
