-- The readers of constructs where k is the room for what stands within.
use Rattle.std.specs.Prelude.{ℕ, ltb, List, ◌∷◌, [], Bool, Option, Some, None, Ok, codes}
use Rattle.uq_value.specs.Data.{Bytes}
use Rattle.jx9_syntax.specs.Grammar.{Spot, is_sign, is_word, function_of, key_and_value, pair, change_sign}
use Rattle.jx9_syntax.specs.declared.expression.Access
use Rattle.jx9_syntax.specs.declared.expression.Access.{Access as AccessTree}
use Rattle.jx9_syntax.specs.declared.expression.Entry.{Entry}
use Rattle.jx9_syntax.specs.declared.expression.Expr.{Expr}
use Rattle.jx9_syntax.specs.declared.expression.Place.{Place}
use Rattle.jx9_syntax.specs.declared.program.Function.{Function}
use Rattle.jx9_syntax.specs.declared.sign.Sign.TheVariants as sign
use Rattle.jx9_syntax.specs.declared.statement.Branch.{Branch}
use Rattle.jx9_syntax.specs.declared.statement.Statement.{Statement}
use Rattle.jx9_parse.specs.Chains as chains
use Rattle.jx9_parse.specs.Expressions as reading
use Rattle.jx9_parse.specs.Expressions.{expr_begins, parameters}
use Rattle.jx9_parse.specs.Reading.{Reader, ◌>>=◌, one, map_read, choose, given, guarded, guarded_on, commas, perhaps_commas, listed, many, ending, before, perhaps, then_read}
use Rattle.jx9_parse.specs.Statements.{statement_begins}
use Rattle.jx9_parse.specs.Rooms.{unary_within, expr_within, block_within, statement_within}
use Rattle.jx9_parse.specs.Statements as statement_reading

module _ (k : ℕ) where
  abbrev pub inside : Bool
  inside = ltb 0 k

  abbrev pub access : Reader AccessTree
  access = reading.access inside (unary_within k) (expr_within k) (block_within k)

  abbrev pub member : Reader AccessTree
  member = reading.member_access inside (unary_within k) (expr_within k) (block_within k)

  abbrev pub steps : Reader (List AccessTree)
  steps = reading.steps inside (unary_within k) (expr_within k) (block_within k)

  abbrev pub place : Reader (Place × Spot)
  place = reading.place inside (unary_within k) (expr_within k) (block_within k)

  abbrev pub exprs : Reader (List Expr)
  exprs = commas (guarded inside (expr_within k))

  abbrev pub other_expr : Reader Expr
  other_expr = before (is_sign sign.Comma) (guarded inside (expr_within k))

  abbrev pub some_exprs : Reader (List Expr)
  some_exprs = perhaps_commas expr_begins (guarded inside (expr_within k))

  abbrev pub arguments : Reader (List Expr)
  arguments = reading.arguments inside (unary_within k) (expr_within k) (block_within k)

  abbrev pub entry : Reader Entry
  entry = guarded inside (reading.entry inside (unary_within k) (expr_within k) (block_within k))

  abbrev pub list_items : Reader (List Expr)
  list_items = listed sign.CloseBracket (guarded inside (expr_within k))

  abbrev pub object_members : Reader (List Entry)
  object_members = listed sign.CloseBrace entry

  abbrev pub function : Reader Function
  function = then_read (λ ps b. function_of (ps, b)) parameters (block_within k)

  abbrev pub lambda : Reader Expr
  lambda = guarded inside (reading.lambda inside (unary_within k) (expr_within k) (block_within k))

  abbrev pub group : Reader Expr
  group = guarded inside (reading.group inside (unary_within k) (expr_within k) (block_within k))

  abbrev pub list : Reader Expr
  list = reading.list inside (unary_within k) (expr_within k) (block_within k)

  abbrev pub object : Reader Expr
  object = reading.object inside (unary_within k) (expr_within k) (block_within k)

  abbrev pub call : Reader Expr
  call = reading.call_by_name inside (unary_within k) (expr_within k) (block_within k)

  abbrev pub primary : Reader Expr
  primary = reading.primary inside (unary_within k) (expr_within k) (block_within k)

  abbrev pub may_step : Place × Spot → Reader Expr
  may_step = reading.may_step inside (unary_within k) (expr_within k) (block_within k)

  abbrev pub called : Bytes × Spot → Reader Expr
  called = reading.called inside (unary_within k) (expr_within k) (block_within k)

  abbrev pub at_variable : Reader Expr
  at_variable = reading.at_variable inside (unary_within k) (expr_within k) (block_within k)

  abbrev pub negated : Reader Expr
  negated = guarded inside (reading.negated inside (unary_within k) (expr_within k) (block_within k))

  abbrev pub not_of : Reader Expr
  not_of = guarded inside (reading.not_of inside (unary_within k) (expr_within k) (block_within k))

  abbrev pub step_before : Reader Expr
  step_before = reading.step_before inside (unary_within k) (expr_within k) (block_within k)

  abbrev pub path : Reader Expr
  path = reading.path inside (unary_within k) (expr_within k) (block_within k)

  abbrev pub no_variable : Reader Expr
  no_variable = reading.no_variable inside (unary_within k) (expr_within k) (block_within k)

  abbrev pub unary : Reader Expr
  unary = reading.unary inside (unary_within k) (expr_within k) (block_within k)

  -- what stands behind the first operand of a chain, up to the highest level
  abbrev pub chain : Expr → Reader Expr
  chain = chains.tail unary 7

  -- behind a condition: its branches
  abbrev pub chosen : Expr → Reader Expr
  chosen = guarded_on inside (given reading.conditional (then_read pair (before (is_sign sign.Question) (expr_within k)) (before (is_sign sign.Colon) (expr_within k))))

  abbrev pub may_choose : Expr → Reader Expr
  may_choose = reading.may_choose inside (unary_within k) (expr_within k) (block_within k)

  abbrev pub or_rest : Expr → Reader Expr
  or_rest = reading.or_rest inside (unary_within k) (expr_within k) (block_within k)

  abbrev pub assigned : Place × Spot → Reader Expr
  assigned = guarded_on inside (given reading.assignment (before (is_sign sign.Assign) (expr_within k)))

  abbrev pub changed : Place × Spot → Reader Expr
  changed = guarded_on inside (given reading.changed (then_read pair (one change_sign) (expr_within k)))

  abbrev pub behind_place : Place × Spot → Reader Expr
  behind_place = reading.behind_place inside (unary_within k) (expr_within k) (block_within k)

  -- behind `[`: `]`, and what is appended
  abbrev pub appended : Place × Spot → Reader Expr
  appended p s = one (is_sign sign.CloseBracket) s >>= λ c. given reading.appending (before (is_sign sign.Assign) (expr_within k)) p c.1

  -- a step, or `[` before the `]` of an appending
  abbrev pub index_or_none : Reader (Option AccessTree)
  index_or_none = choose (31 ∷ []) (λ s. Ok (None, s)) (map_read (λ e. Some (Access.Index e)) (ending (expr_within k) (is_sign sign.CloseBracket)))

  abbrev pub head_step : Reader (Option AccessTree)
  head_step = choose (36 ∷ []) (map_read Some member) (guarded inside (before (is_sign sign.OpenBracket) index_or_none))

  abbrev pub head : Place × Spot → Reader Expr
  head = reading.head inside (unary_within k) (expr_within k) (block_within k)

  abbrev pub expression : Reader Expr
  expression = reading.expression inside (unary_within k) (expr_within k) (block_within k)

  -- ---- statements

  abbrev pub expressions : Reader (List Expr)
  expressions = commas expression

  abbrev pub other_expression : Reader Expr
  other_expression = before (is_sign sign.Comma) expression

  abbrev pub print_statement : Reader Statement
  print_statement = statement_reading.print_statement inside expression (expr_within k) (statement_within k)

  abbrev pub return_statement : Reader Statement
  return_statement = statement_reading.return_statement inside expression (expr_within k) (statement_within k)

  abbrev pub of_expression : Reader Statement
  of_expression = statement_reading.of_expression inside expression (expr_within k) (statement_within k)

  abbrev pub in_parens : Reader Expr
  in_parens = statement_reading.in_parens inside expression (expr_within k) (statement_within k)

  abbrev pub branch : Reader Branch
  branch = statement_reading.branch inside expression (expr_within k) (statement_within k)

  abbrev pub other_branch : Reader Branch
  other_branch = before (is_word (codes "elseif")) branch

  abbrev pub otherwise : Reader (Option Statement)
  otherwise = perhaps (38 ∷ []) (before (is_word (codes "else")) (statement_within k))

  abbrev pub branches : Reader (List Branch × Option Statement)
  branches = statement_reading.branches inside expression (expr_within k) (statement_within k)

  abbrev pub if_statement : Reader Statement
  if_statement = statement_reading.if_statement inside expression (expr_within k) (statement_within k)

  abbrev pub while_statement : Reader Statement
  while_statement = statement_reading.while_statement inside expression (expr_within k) (statement_within k)

  abbrev pub for_statement : Reader Statement
  for_statement = statement_reading.for_statement inside expression (expr_within k) (statement_within k)

  abbrev pub foreach_statement : Reader Statement
  foreach_statement = statement_reading.foreach_statement inside expression (expr_within k) (statement_within k)

  abbrev pub statements : Reader (List Statement)
  statements = many statement_begins (guarded inside (statement_within k))

  abbrev pub block : Reader Statement
  block = statement_reading.block_of inside expression (expr_within k) (statement_within k)

  abbrev pub simple_statement : Reader Statement
  simple_statement = statement_reading.simple_statement inside expression (expr_within k) (statement_within k)

  abbrev pub one_statement : Reader Statement
  one_statement = statement_reading.one_statement inside expression (expr_within k) (statement_within k)

  abbrev pub for_test : Reader (Option Expr)
  for_test = ending (perhaps expr_begins (guarded inside (expr_within k))) (is_sign sign.Semicolon)

  abbrev pub for_head : Reader (List Expr × (Option Expr × List Expr))
  for_head = statement_reading.for_head inside expression (expr_within k) (statement_within k)

  abbrev pub foreach_variables : Reader (Option Bytes × Bytes)
  foreach_variables = then_read key_and_value (statement_reading.var_name inside expression (expr_within k) (statement_within k))
      (perhaps (33 ∷ []) (before (is_sign sign.Comma) (statement_reading.var_name inside expression (expr_within k) (statement_within k))))

  abbrev pub foreach_head : Reader (Expr × (Option Bytes × Bytes))
  foreach_head = statement_reading.foreach_head inside expression (expr_within k) (statement_within k)
