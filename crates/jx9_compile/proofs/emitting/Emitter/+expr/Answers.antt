use Rattle.std.proofs.Common.{length, refl, ap}
use Rattle.jx9_syntax.specs.declared.expression.Node as node
use Rattle.jx9_compile.specs.Emits.{IsExpr}
use Rattle.jx9_compile.proofs.EmitLemmas.{expr_stable, no_pieces, pieces_go_on}
use Rattle.jx9_compile.proofs.EmitNodes.{behind_emitted, group_emitted, negate_emitted, not_emitted, or_emitted, and_emitted, join_emitted, chain_emitted, choice_emitted, assign_emitted, change_emitted, unbuilt_emitted, no_links_emitted, links_go_on, no_values_emitted, values_go_on}
use Rattle.jx9_compile.proofs.LeftOver.{left_over}
use Rattle.jx9_compile.proofs.emitting.Emitter.+expr.Goals as goal

pub expr-returns-in_ok-literal-in-Literal : goal.expr-returns-in_ok-literal-in-Literal
expr-returns-in_ok-literal-in-Literal t c = behind_emitted _ _ _ _ _ _ c.in-Literal.is refl c.in_ok-put.ensures c.in_ok-literal-in-Literal.ensures

pub expr-returns-in_ok-mixed-in-Mixed : goal.expr-returns-in_ok-mixed-in-Mixed
expr-returns-in_ok-mixed-in-Mixed t c = behind_emitted _ _ _ _ _ _ c.in-Mixed.is (ap (λ x. node.Mixed x) c.as_slice.ensures) c.in_ok-put.ensures c.in_ok-mixed-in-Mixed.ensures

pub expr-returns-in_ok-variable-in-Var : goal.expr-returns-in_ok-variable-in-Var
expr-returns-in_ok-variable-in-Var t c =
    behind_emitted _ _ _ _ _ _ c.in-Var.is (ap (λ x. node.Var c.in-Var.name x) c.as_slice-in-Var.ensures) c.in_ok-put.ensures c.in_ok-variable-in-Var.ensures

pub expr-returns-in_ok-expr-in-Group : goal.expr-returns-in_ok-expr-in-Group
expr-returns-in_ok-expr-in-Group t c = group_emitted _ _ _ _ _ _ c.in-Group.is c.get.ensures c.in_ok-put.ensures c.in_ok-expr-in-Group.ensures

pub expr-returns-in_ok-put-in-Negate-2 : goal.expr-returns-in_ok-put-in-Negate-2
expr-returns-in_ok-put-in-Negate-2 t c =
    negate_emitted _ _ _ _ _ _ _ _ c.in-Negate.is c.get-in-Negate.ensures c.in_ok-put.ensures c.in_ok-put-in-Negate.ensures c.in_ok-expr-in-Negate.ensures c.in_ok-put-in-Negate-2.ensures

pub expr-returns-in_ok-put-in-Not : goal.expr-returns-in_ok-put-in-Not
expr-returns-in_ok-put-in-Not t c = not_emitted _ _ _ _ _ _ _ c.in-Not.is c.get-in-Not.ensures c.in_ok-put.ensures c.in_ok-expr-in-Not.ensures c.in_ok-put-in-Not.ensures

pub expr-returns-in_ok-step-in-Step : goal.expr-returns-in_ok-step-in-Step
expr-returns-in_ok-step-in-Step t c = behind_emitted _ _ _ _ _ _ c.in-Step.is refl c.in_ok-put.ensures c.in_ok-step-in-Step.ensures

pub expr-returns-in_ok-decide-in-Or : goal.expr-returns-in_ok-decide-in-Or
expr-returns-in_ok-decide-in-Or t c =
    or_emitted _ _ _ _ _ _ _ _ _ _ _ _ _ _ c.in-Or.is c.get-in-Or.ensures c.as_slice-in-Or.ensures c.in_ok-put.ensures c.in_ok-expr-in-Or.ensures c.in_ok-head-in-Or.ensures
    c.in_ok-held-in-Or.ensures c.as_slice-in-Or-2.ensures.value c.in_ok-decide-in-Or.ensures

pub expr-returns-in_ok-decide-in-And : goal.expr-returns-in_ok-decide-in-And
expr-returns-in_ok-decide-in-And t c =
    and_emitted _ _ _ _ _ _ _ _ _ _ _ _ _ _ c.in-And.is c.get-in-And.ensures c.as_slice-in-And.ensures c.in_ok-put.ensures c.in_ok-expr-in-And.ensures c.in_ok-head-in-And.ensures
    c.in_ok-held-in-And.ensures c.as_slice-in-And-2.ensures.value c.in_ok-decide-in-And.ensures

pub expr-returns-in_ok-join-in-Join : goal.expr-returns-in_ok-join-in-Join
expr-returns-in_ok-join-in-Join t c =
    join_emitted _ _ _ _ _ _ _ _ c.in-Join.is c.as_slice-in-Join.ensures (ap length c.as_slice-in-Join-2.ensures) c.in_ok-put.ensures c.in_ok-values-in-Join.ensures c.in_ok-join-in-Join.ensures

pub expr-returns-in_ok-links-in-Chain : goal.expr-returns-in_ok-links-in-Chain
expr-returns-in_ok-links-in-Chain t c =
    chain_emitted _ _ _ _ _ _ _ _ _ c.in-Chain.is c.get-in-Chain.ensures c.as_slice-in-Chain.ensures c.in_ok-put.ensures c.in_ok-expr-in-Chain.ensures c.in_ok-links-in-Chain.ensures

pub expr-returns-in_ok-land-in-Cond : goal.expr-returns-in_ok-land-in-Cond
expr-returns-in_ok-land-in-Cond t c =
    choice_emitted _ _ _ _ _ _ _ _ _ _ _ _ _ _ _ _ _ c.in-Cond.is c.get-in-Cond.ensures c.get-in-Cond-2.ensures c.get-in-Cond-3.ensures c.in_ok-put.ensures c.in_ok-expr-in-Cond.ensures
    c.in_ok-branch-in-Cond.ensures c.in_ok-expr-in-Cond-2.ensures c.in_ok-over-in-Cond.ensures c.in_ok-expr-in-Cond-3.ensures c.in_ok-land-in-Cond.ensures

pub expr-returns-in_ok-assign-in-Assign : goal.expr-returns-in_ok-assign-in-Assign
expr-returns-in_ok-assign-in-Assign t c =
    assign_emitted _ _ _ _ _ _ _ _ _ c.in-Assign.is c.get-in-Assign.ensures c.in_ok-put.ensures c.in_ok-expr-in-Assign.ensures c.in_ok-put-in-Assign.ensures c.in_ok-assign-in-Assign.ensures

pub expr-returns-in_ok-change-in-Change : goal.expr-returns-in_ok-change-in-Change
expr-returns-in_ok-change-in-Change t c =
    change_emitted _ _ _ _ _ _ _ _ _ c.in-Change.is c.get-in-Change.ensures c.in_ok-put.ensures c.in_ok-expr-in-Change.ensures c.in_ok-change-in-Change.ensures

pub expr-returns-in_default : goal.expr-returns-in_default
expr-returns-in_default t c =
    unbuilt_emitted _ _ _
    (left_over _ c.in_default.not-Literal c.in_default.not-Mixed c.in_default.not-Var c.in_default.not-Group c.in_default.not-Negate c.in_default.not-Not c.in_default.not-Step c.in_default.not-Or
    c.in_default.not-And c.in_default.not-Join c.in_default.not-Chain c.in_default.not-Cond c.in_default.not-Assign c.in_default.not-Change).0 c.in_ok-put.ensures

pub links-loop-link-init : goal.links-loop-link-init
links-loop-link-init t c = no_links_emitted _ _

pub links-loop-link-preserved : goal.links-loop-link-preserved
links-loop-link-preserved t c =
    links_go_on _ _ _ _ _ _ _ _ _ c.loop-link-test.true c.link-item.is c.operator_op.ensures c.loop-link.invariant c.in_ok-expr.ensures c.in_ok-put.ensures

pub values-loop-value-init : goal.values-loop-value-init
values-loop-value-init t c = no_values_emitted _

pub values-loop-value-preserved : goal.values-loop-value-preserved
values-loop-value-preserved t c = values_go_on _ _ _ _ _ _ c.loop-value-test.true c.value-item.is c.loop-value.invariant c.in_ok-expr.ensures

pub operands-loop-operand-init : goal.operands-loop-operand-init
operands-loop-operand-init t c = no_pieces IsExpr _ _ c.new-held.ensures.items

pub operands-loop-operand-preserved : goal.operands-loop-operand-preserved
operands-loop-operand-preserved t c =
    pieces_go_on IsExpr expr_stable _ _ _ _ _ _ _ _ _ _ c.loop-operand-test.true c.operand-item.is c.loop-operand.invariant c.in_ok-expr.ensures c.in_ok-hold.ensures c.in_ok-push.ensures.items
