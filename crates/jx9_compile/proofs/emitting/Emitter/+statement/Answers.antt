use Rattle.std.proofs.Common.{sym, ap, ◌∙◌, Some}
use Rattle.jx9_compile.specs.Emits.{IsBranch}
use Rattle.jx9_compile.proofs.EmitLemmas.{no_pieces, pieces_go_on}
use Rattle.jx9_compile.proofs.EmitStatements.{no_statements_emitted, sequence_goes_on, branch_stable, branch_emitted, block_emitted, print_emitted, expr_emitted, if_none_emitted, if_some_emitted, while_emitted, for_emitted, endless_emitted, turns_emitted, turn_emitted, return_emitted, return_null_emitted, break_emitted, continue_emitted, unbuilt_emitted}
use Rattle.jx9_compile.proofs.LeftOver.{kind_left_over}
use Rattle.jx9_compile.proofs.emitting.Emitter.+statement.Goals as goal

pub statement-returns-in-Block : goal.statement-returns-in-Block
statement-returns-in-Block t c = block_emitted _ _ _ _ _ _ _ c.in-Block.is c.as_slice.ensures c.in_ok-put.ensures c.in_ok-statements-in-Block.ensures

pub statement-returns-in-Print : goal.statement-returns-in-Print
statement-returns-in-Print t c = print_emitted _ _ _ _ _ _ _ c.in-Print.is c.as_slice-in-Print.ensures c.in_ok-put.ensures c.in_ok-prints-in-Print.ensures

pub statement-returns-in-Expr : goal.statement-returns-in-Expr
statement-returns-in-Expr t c = expr_emitted _ _ _ _ _ _ c.in-Expr.is c.in_ok-put.ensures c.in_ok-effect-in-Expr.ensures

pub statement-returns-in-None : goal.statement-returns-in-None
statement-returns-in-None t c =
    if_none_emitted _ _ _ _ _ _ _ _ _ _ _ c.in-If.is c.in-None.is c.as_slice-in-If.ensures c.as_slice-in-None.ensures.value c.in_ok-put.ensures c.in_ok-overs-in-If.ensures c.in_ok-land_all-in-None.ensures

pub statement-returns-in-If : goal.statement-returns-in-If
statement-returns-in-If t c =
    if_some_emitted _ _ _ _ _ _ _ _ _ _ _ _ _ _ c.in-If.is c.in-Some.is c.as_slice-in-If.ensures c.get.ensures c.as_slice-in-Some.ensures.value c.in_ok-put.ensures c.in_ok-overs-in-If.ensures c.in_ok-statement-in-Some.ensures
    c.in_ok-land_all-in-Some.ensures

pub statement-returns-in-While : goal.statement-returns-in-While
statement-returns-in-While t c =
    while_emitted _ _ _ _ _ _ _ _ _ c.in-While.is c.get-in-While.ensures c.in_ok-again-in-While.ensures.place c.in_ok-put.ensures
    (turns_emitted _ _ _ _ _ _ _ _ _ c.in_ok-expr-in-While.ensures c.in_ok-branch-in-While.ensures c.in_ok-turn-in-While.ensures c.in_ok-land-in-While.ensures)

pub statement-returns-in-None-test : goal.statement-returns-in-None-test
statement-returns-in-None-test t c =
    for_emitted _ _ _ _ _ _ _ _ _ _ _ _ _ _ _ c.in-For.is c.as_slice-in-For.ensures c.as_slice-in-For-2.ensures c.in-None-test.is c.get-in-None-test.ensures c.in_ok-put.ensures
    c.in_ok-again-in-For.ensures.added (endless_emitted _ _ _ _ c.in_ok-turn-in-None-test.ensures)

pub statement-returns-in-For : goal.statement-returns-in-For
statement-returns-in-For t c =
    for_emitted _ _ _ _ _ _ _ _ _ _ _ _ _ _ _ c.in-For.is c.as_slice-in-For.ensures c.as_slice-in-For-2.ensures (c.in-Some-test.is ∙ ap (λ x. Some x) (sym c.get-in-Some-test.ensures)) c.get-in-Some-test-2.ensures
    c.in_ok-put.ensures c.in_ok-again-in-For.ensures.added
    (turns_emitted _ _ _ _ _ _ _ _ _ c.in_ok-expr-in-Some-test.ensures c.in_ok-branch-in-Some-test.ensures c.in_ok-turn-in-Some-test.ensures c.in_ok-land-in-Some-test.ensures)

pub statement-returns-in-None-value : goal.statement-returns-in-None-value
statement-returns-in-None-value t c = return_null_emitted _ _ _ _ _ _ _ c.in-Return.is c.in-None-value.is c.in_ok-put.ensures c.in_ok-put-in-None-value.ensures c.in_ok-put-in-None-value-2.ensures

pub statement-returns-in-Return : goal.statement-returns-in-Return
statement-returns-in-Return t c =
    return_emitted _ _ _ _ _ _ _ _ _ c.in-Return.is c.in-Some-value.is c.get-in-Some-value.ensures c.in_ok-put.ensures c.in_ok-expr-in-Some-value.ensures c.in_ok-put-in-Some-value.ensures

pub statement-returns-in-Break : goal.statement-returns-in-Break
statement-returns-in-Break t c = break_emitted _ _ _ _ _ c.in-Break.is c.in_ok-put.ensures c.in_ok-leave-in-Break.ensures

pub statement-returns-in-Continue : goal.statement-returns-in-Continue
statement-returns-in-Continue t c = continue_emitted _ _ _ _ _ c.in-Continue.is c.in_ok-put.ensures c.in_ok-go_on-in-Continue.ensures

pub statement-returns : goal.statement-returns
statement-returns t c =
    unbuilt_emitted _ _ _ _
    (kind_left_over _ c.in_default.not-Block c.in_default.not-Print c.in_default.not-Expr c.in_default.not-If c.in_default.not-While c.in_default.not-For c.in_default.not-Return c.in_default.not-Break
    c.in_default.not-Continue).0 c.in_ok-put.ensures

pub statements-loop-statement-init : goal.statements-loop-statement-init
statements-loop-statement-init t c = no_statements_emitted _ _

pub statements-loop-statement-preserved : goal.statements-loop-statement-preserved
statements-loop-statement-preserved t c = sequence_goes_on _ _ _ _ _ _ _ c.loop-statement-test.true c.statement-item.is c.loop-statement.invariant c.in_ok-statement.ensures

pub branches-loop-branch-init : goal.branches-loop-branch-init
branches-loop-branch-init t c = no_pieces (IsBranch c.args.around) _ _ c.new-overs.ensures.items

pub branches-loop-branch-preserved : goal.branches-loop-branch-preserved
branches-loop-branch-preserved t c =
    pieces_go_on (IsBranch c.args.around) (branch_stable c.args.around) _ _ _ _ _ _ _ _ _ _ c.loop-branch-test.true c.branch-item.is c.loop-branch.invariant
    (branch_emitted c.args.around _ _ _ _ _ _ _ _ c.in_ok-expr.ensures c.in_ok-skip.ensures c.in_ok-statement.ensures c.in_ok-otherwise.ensures) c.in_ok-otherwise.ensures.held c.in_ok-push.ensures.items

pub turn-returns : goal.turn-returns
turn-returns t c =
    turn_emitted _ _ _ _ _ _ _ _ c.requires c.len-start.ensures c.in_ok-after.ensures.place c.in_ok-after.ensures.known c.in_ok-statement.ensures c.in_ok-put.ensures c.fill_holes.ensures.ops c.fill_holes.ensures.names
