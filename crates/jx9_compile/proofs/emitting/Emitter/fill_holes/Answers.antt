use Rattle.std.proofs.Common.{sym, ap, ◌∙◌, true≢false}
use Rattle.jx9_compile.proofs.Places.{fill_more, fill_none, fill_all}
use Rattle.jx9_compile.proofs.emitting.Emitter.fill_holes.Goals as goal
use Rattle.jx9_compile.proofs.emitting.Emitter.fill_holes.Goals.{then-is_hole, else-is_hole}

pub loop-at-preserved : goal.loop-at-preserved
loop-at-preserved c = elim c.if-is_hole.branch [
  | then-is_hole w ↦
      (fill_more _ _ _ _ _ _ c.loop-at.invariant.0 c.loop-at.auto.at (sym c.get.ensures.value ∙ c.is_hole.ensures.0 w.if-is_hole.true) (ap (λ x. x.ops) w.self-is ∙ w.set.ensures), ap (λ x. x.names) w.self-is ∙ c.loop-at.invariant.1)
  | else-is_hole w ↦
      (fill_none _ _ _ _ _ _ c.loop-at.invariant.0 (λ e. true≢false (sym (c.is_hole.ensures.1 (c.get.ensures.value ∙ e)) ∙ w.if-is_hole.false)) (ap (λ x. x.ops) w.self-is), ap (λ x. x.names) w.self-is ∙ c.loop-at.invariant.1)
]

pub returns-clause-ops : goal.returns-clause-ops
returns-clause-ops c = fill_all _ _ _ _ _ _ c.loop-at.invariant.0 c.len-at-end.ensures c.loop-at-test.false
