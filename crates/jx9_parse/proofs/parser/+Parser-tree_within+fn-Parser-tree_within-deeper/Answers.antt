use Rattle.std.proofs.Common.{Result}
use Rattle.jx9_parse.specs.Answers.{state}
use Rattle.jx9_parse.specs.Deeper.{Tree, TreeGives}
use Rattle.jx9_parse.specs.declared.stop.Stop.{Stop}
use Rattle.jx9_parse.proofs.Descents.{no_tree, as_err, unary_read, unary_stops, expression_read, expression_stops, block_read, block_stops, statement_read, statement_stops}
use Rattle.jx9_parse.proofs.parser.+Parser-tree_within+fn-Parser-tree_within-deeper.Goals as goal

pub returns-then-room-eq0 : goal.returns-then-room-eq0
returns-then-room-eq0 t c = no_tree c.args.construct c.args.self.now c.args.room c.if-room-eq0.true

pub returns-in_ok-unary-in-Unary : goal.returns-in_ok-unary-in-Unary
returns-in_ok-unary-in-Unary t c = unary_read c.args.construct c.in_ok-unary-in-Unary.field-0 c.unary.new.self c.args.room (state c.args.self.now) c.in-Unary.is c.if-room-eq0.false c.in_ok-unary-in-Unary.ensures

pub returns-in_err-unary-in-Unary : goal.returns-in_err-unary-in-Unary
returns-in_err-unary-in-Unary t c = as_err (λ (r : Result Tree Stop). TreeGives c.args.construct r c.unary.new.self c.args.room (state c.args.self.now)) c.from_residual.result c.in_err-unary-in-Unary.field-0.0 c.from_residual.ensures.1
    (unary_stops c.args.construct c.in_err-unary-in-Unary.field-0.0 c.unary.new.self c.args.room (state c.args.self.now) c.in-Unary.is c.if-room-eq0.false c.in_err-unary-in-Unary.ensures)

pub returns-in_ok-expression-in-Expr : goal.returns-in_ok-expression-in-Expr
returns-in_ok-expression-in-Expr t c = expression_read c.args.construct c.in_ok-expression-in-Expr.field-0 c.expression.new.self c.args.room (state c.args.self.now) c.in-Expr.is c.if-room-eq0.false c.in_ok-expression-in-Expr.ensures

pub returns-in_err-expression-in-Expr : goal.returns-in_err-expression-in-Expr
returns-in_err-expression-in-Expr t c = as_err (λ (r : Result Tree Stop). TreeGives c.args.construct r c.expression.new.self c.args.room (state c.args.self.now)) c.from_residual-in_err-expression-in-Expr.result c.in_err-expression-in-Expr.field-0.0 c.from_residual-in_err-expression-in-Expr.ensures.1
    (expression_stops c.args.construct c.in_err-expression-in-Expr.field-0.0 c.expression.new.self c.args.room (state c.args.self.now) c.in-Expr.is c.if-room-eq0.false c.in_err-expression-in-Expr.ensures)

pub returns-in_ok-block-in-Block : goal.returns-in_ok-block-in-Block
returns-in_ok-block-in-Block t c = block_read c.args.construct c.in_ok-block-in-Block.field-0 c.block.new.self c.args.room (state c.args.self.now) c.in-Block.is c.if-room-eq0.false c.in_ok-block-in-Block.ensures

pub returns-in_err-block-in-Block : goal.returns-in_err-block-in-Block
returns-in_err-block-in-Block t c = as_err (λ (r : Result Tree Stop). TreeGives c.args.construct r c.block.new.self c.args.room (state c.args.self.now)) c.from_residual-in_err-block-in-Block.result c.in_err-block-in-Block.field-0.0 c.from_residual-in_err-block-in-Block.ensures.1
    (block_stops c.args.construct c.in_err-block-in-Block.field-0.0 c.block.new.self c.args.room (state c.args.self.now) c.in-Block.is c.if-room-eq0.false c.in_err-block-in-Block.ensures)

pub returns-in_ok-statement-in-Statement : goal.returns-in_ok-statement-in-Statement
returns-in_ok-statement-in-Statement t c = statement_read c.args.construct c.in_ok-statement-in-Statement.field-0 c.statement.new.self c.args.room (state c.args.self.now) c.in-Statement.is c.if-room-eq0.false c.in_ok-statement-in-Statement.ensures

pub returns-in_err-statement-in-Statement : goal.returns-in_err-statement-in-Statement
returns-in_err-statement-in-Statement t c = as_err (λ (r : Result Tree Stop). TreeGives c.args.construct r c.statement.new.self c.args.room (state c.args.self.now)) c.from_residual-in_err-statement-in-Statement.result c.in_err-statement-in-Statement.field-0.0 c.from_residual-in_err-statement-in-Statement.ensures.1
    (statement_stops c.args.construct c.in_err-statement-in-Statement.field-0.0 c.statement.new.self c.args.room (state c.args.self.now) c.in-Statement.is c.if-room-eq0.false c.in_err-statement-in-Statement.ensures)
