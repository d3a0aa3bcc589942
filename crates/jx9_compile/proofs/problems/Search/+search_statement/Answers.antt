use Rattle.jx9_compile.proofs.LeftOver.{kind_left_over}
use Rattle.jx9_compile.proofs.Searches.{no_statements, statements_go_on, no_branches, branches_go_on, block_adds, print_adds, expr_adds, if_none_adds, if_some_adds, while_adds, for_adds, return_adds, break_adds, continue_adds, unbuilt_statement_adds}
use Rattle.jx9_compile.proofs.problems.Search.+search_statement.Goals as goal

pub statement-returns-in-Block : goal.statement-returns-in-Block
statement-returns-in-Block t c = block_adds _ _ _ _ _ _ c.in-Block.is c.as_slice.ensures c.statements.ensures

pub statement-returns-in-Print : goal.statement-returns-in-Print
statement-returns-in-Print t c = print_adds _ _ _ _ _ _ c.in-Print.is c.as_slice-in-Print.ensures c.exprs.ensures

pub statement-returns-in-Expr : goal.statement-returns-in-Expr
statement-returns-in-Expr t c = expr_adds _ _ _ _ _ c.in-Expr.is c.expr.ensures

pub statement-returns-in-None : goal.statement-returns-in-None
statement-returns-in-None t c = if_none_adds _ _ _ _ _ _ _ c.in-If.is c.in-None.is c.as_slice-in-If.ensures c.branches.ensures

pub statement-returns-in-Some : goal.statement-returns-in-Some
statement-returns-in-Some t c = if_some_adds _ _ _ _ _ _ _ _ _ _ c.in-If.is c.in-Some.is c.as_slice-in-If.ensures c.get.ensures c.branches.ensures c.statement.ensures

pub statement-returns-in-While : goal.statement-returns-in-While
statement-returns-in-While t c = while_adds _ _ _ _ _ _ _ _ c.in-While.is c.get-in-While.ensures c.expr-in-While.ensures c.statement-in-While.ensures

pub statement-returns-in-For : goal.statement-returns-in-For
statement-returns-in-For t c =
    for_adds _ _ _ _ _ _ _ _ _ _ _ _ _ _ c.in-For.is c.as_slice-in-For.ensures c.as_slice-in-For-2.ensures c.get-in-For.ensures c.exprs-in-For.ensures c.option.ensures c.exprs-in-For-2.ensures
    c.statement-in-For.ensures

pub statement-returns-in-Return : goal.statement-returns-in-Return
statement-returns-in-Return t c = return_adds _ _ _ _ _ c.in-Return.is c.option-in-Return.ensures

pub statement-returns-in-Break : goal.statement-returns-in-Break
statement-returns-in-Break t c = break_adds _ _ _ _ c.in-Break.is c.looped.ensures

pub statement-returns-in-Continue : goal.statement-returns-in-Continue
statement-returns-in-Continue t c = continue_adds _ _ _ _ c.in-Continue.is c.looped-in-Continue.ensures

pub statement-returns-in_default : goal.statement-returns-in_default
statement-returns-in_default t c =
    unbuilt_statement_adds _ _ _ _
    (kind_left_over _ c.in_default.not-Block c.in_default.not-Print c.in_default.not-Expr c.in_default.not-If c.in_default.not-While c.in_default.not-For c.in_default.not-Return c.in_default.not-Break
    c.in_default.not-Continue) c.built.ensures

pub statements-loop-statement-init : goal.statements-loop-statement-init
statements-loop-statement-init t c = no_statements _ _

pub statements-loop-statement-preserved : goal.statements-loop-statement-preserved
statements-loop-statement-preserved t c = statements_go_on _ _ _ _ _ _ _ c.loop-statement-test.true c.statement-item.is c.loop-statement.invariant c.statement.ensures

pub branches-loop-branch-init : goal.branches-loop-branch-init
branches-loop-branch-init t c = no_branches _ _

pub branches-loop-branch-preserved : goal.branches-loop-branch-preserved
branches-loop-branch-preserved t c = branches_go_on _ _ _ _ _ _ _ _ c.loop-branch-test.true c.branch-item.is c.loop-branch.invariant c.expr.ensures c.statement.ensures
