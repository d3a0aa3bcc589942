use Rattle.jx9_compile.proofs.LeftOver.{left_over}
use Rattle.jx9_compile.proofs.Searches.{no_exprs, exprs_go_on, links_go_on, literal_adds, mixed_adds, variable_adds, group_adds, negate_adds, not_adds, step_adds, or_adds, and_adds, join_adds, chain_adds, choice_adds, assign_adds, change_adds, unbuilt_adds}
use Rattle.jx9_compile.proofs.problems.Search.+search_expr.Goals as goal

pub expr-returns-in-Literal : goal.expr-returns-in-Literal
expr-returns-in-Literal t c = literal_adds _ _ _ c.in-Literal.is

pub expr-returns-in-Mixed : goal.expr-returns-in-Mixed
expr-returns-in-Mixed t c = mixed_adds _ _ _ c.in-Mixed.is

pub expr-returns-in-Var : goal.expr-returns-in-Var
expr-returns-in-Var t c = variable_adds _ _ _ _ _ _ c.in-Var.is c.is_empty.ensures.0 c.is_empty.ensures.1 c.built.ensures

pub expr-returns-in-Group : goal.expr-returns-in-Group
expr-returns-in-Group t c = group_adds _ _ _ _ _ c.in-Group.is c.get.ensures c.expr.ensures

pub expr-returns-in-Negate : goal.expr-returns-in-Negate
expr-returns-in-Negate t c = negate_adds _ _ _ _ _ c.in-Negate.is c.get-in-Negate.ensures c.expr-in-Negate.ensures

pub expr-returns-in-Not : goal.expr-returns-in-Not
expr-returns-in-Not t c = not_adds _ _ _ _ _ c.in-Not.is c.get-in-Not.ensures c.expr-in-Not.ensures

pub expr-returns-in-Step : goal.expr-returns-in-Step
expr-returns-in-Step t c = step_adds _ _ _ _ _ _ c.in-Step.is c.is_empty-in-Step.ensures.0 c.is_empty-in-Step.ensures.1 c.built-in-Step.ensures

pub expr-returns-in-Or : goal.expr-returns-in-Or
expr-returns-in-Or t c = or_adds _ _ _ _ _ _ _ _ c.in-Or.is c.get-in-Or.ensures c.as_slice.ensures c.expr-in-Or.ensures c.exprs.ensures

pub expr-returns-in-And : goal.expr-returns-in-And
expr-returns-in-And t c = and_adds _ _ _ _ _ _ _ _ c.in-And.is c.get-in-And.ensures c.as_slice-in-And.ensures c.expr-in-And.ensures c.exprs-in-And.ensures

pub expr-returns-in-Join : goal.expr-returns-in-Join
expr-returns-in-Join t c = join_adds _ _ _ _ _ c.in-Join.is c.as_slice-in-Join.ensures c.exprs-in-Join.ensures

pub expr-returns-in-Chain : goal.expr-returns-in-Chain
expr-returns-in-Chain t c = chain_adds _ _ _ _ _ _ _ _ c.in-Chain.is c.get-in-Chain.ensures c.as_slice-in-Chain.ensures c.expr-in-Chain.ensures c.links.ensures

pub expr-returns-in-Cond : goal.expr-returns-in-Cond
expr-returns-in-Cond t c =
    choice_adds _ _ _ _ _ _ _ _ _ _ _ c.in-Cond.is c.get-in-Cond.ensures c.get-in-Cond-2.ensures c.get-in-Cond-3.ensures c.expr-in-Cond.ensures c.expr-in-Cond-2.ensures c.expr-in-Cond-3.ensures

pub expr-returns-in-Assign : goal.expr-returns-in-Assign
expr-returns-in-Assign t c =
    assign_adds _ _ _ _ _ _ _ _ c.in-Assign.is c.get-in-Assign.ensures c.is_empty-in-Assign.ensures.0 c.is_empty-in-Assign.ensures.1 c.built-in-Assign.ensures c.expr-in-Assign.ensures

pub expr-returns-in-Change : goal.expr-returns-in-Change
expr-returns-in-Change t c =
    change_adds _ _ _ _ _ _ _ _ _ c.in-Change.is c.get-in-Change.ensures c.is_empty-in-Change.ensures.0 c.is_empty-in-Change.ensures.1 c.built-in-Change.ensures c.expr-in-Change.ensures

pub expr-returns-in_default : goal.expr-returns-in_default
expr-returns-in_default t c =
    unbuilt_adds _ _ _
    (left_over _ c.in_default.not-Literal c.in_default.not-Mixed c.in_default.not-Var c.in_default.not-Group c.in_default.not-Negate c.in_default.not-Not c.in_default.not-Step c.in_default.not-Or
    c.in_default.not-And c.in_default.not-Join c.in_default.not-Chain c.in_default.not-Cond c.in_default.not-Assign c.in_default.not-Change) c.built-in_default.ensures

pub exprs-loop-e-init : goal.exprs-loop-e-init
exprs-loop-e-init t c = no_exprs _

pub exprs-loop-e-preserved : goal.exprs-loop-e-preserved
exprs-loop-e-preserved t c = exprs_go_on _ _ _ _ _ _ c.loop-e-test.true c.e-item.is c.loop-e.invariant c.expr.ensures

pub links-loop-link-init : goal.links-loop-link-init
links-loop-link-init t c = no_exprs _

pub links-loop-link-preserved : goal.links-loop-link-preserved
links-loop-link-preserved t c = links_go_on _ _ _ _ _ _ c.loop-link-test.true c.link-item.is c.loop-link.invariant c.expr.ensures
