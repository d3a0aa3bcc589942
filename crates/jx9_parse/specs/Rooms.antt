-- How trees of nesting at most a number are read. With no room reading stops before the first token.
use Rattle.std.specs.Prelude.{ℕ, zero, suc, ltb, Err}
use Rattle.jx9_syntax.specs.declared.expression.Expr.{Expr}
use Rattle.jx9_syntax.specs.declared.statement.Statement.{Statement}
use Rattle.jx9_parse.specs.Reading.{State, Read}
use Rattle.jx9_parse.specs.Expressions.{unary, expression}
use Rattle.jx9_parse.specs.Statements.{block_of, one_statement}

unfoldable mutual
  pub unary_within : ℕ → State → Read Expr
  unary_within zero = λ s. Err s.tokens
  unary_within (suc k) = unary (ltb 0 k) (unary_within k) (expr_within k) (block_within k)

  pub expr_within : ℕ → State → Read Expr
  expr_within zero = λ s. Err s.tokens
  expr_within (suc k) = expression (ltb 0 k) (unary_within k) (expr_within k) (block_within k)

  pub block_within : ℕ → State → Read Statement
  block_within zero = λ s. Err s.tokens
  block_within (suc k) = block_of (ltb 0 k) (expression (ltb 0 k) (unary_within k) (expr_within k) (block_within k)) (expr_within k) (statement_within k)

  pub statement_within : ℕ → State → Read Statement
  statement_within zero = λ s. Err s.tokens
  statement_within (suc k) = one_statement (ltb 0 k) (expression (ltb 0 k) (unary_within k) (expr_within k) (block_within k)) (expr_within k) (statement_within k)
