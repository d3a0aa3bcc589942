-- How statements are read. `expression` reads an expression of the same nesting; what stands within are `inner` and `statement`.
use Rattle.std.specs.Prelude.{ℕ, zero, suc, Bool, List, [], ◌∷◌, length, Option, Ok, Err, codes}
use Rattle.uq_value.specs.Data.{Bytes}
use Rattle.jx9_syntax.specs.Grammar.{is_sign, is_word, var, pair, stands, expr_statement, key_and_value, branch_of, with_branch, no_branch, otherwise}
use Rattle.jx9_syntax.specs.declared.expression.Expr.{Expr}
use Rattle.jx9_syntax.specs.declared.sign.Sign.TheVariants as sign
use Rattle.jx9_syntax.specs.declared.statement.Branch.{Branch}
use Rattle.jx9_syntax.specs.declared.statement.Kind
use Rattle.jx9_syntax.specs.declared.statement.Statement.{Statement}
use Rattle.jx9_parse.specs.Reading.{Reader, one, then_read, map_read, before, ending, many, guarded, choose, perhaps, commas, perhaps_commas}
use Rattle.jx9_parse.specs.Expressions.{expr_begins}

-- with what a statement begins
abbrev pub statement_begins : List ℕ
statement_begins = 1 ∷ 2 ∷ 3 ∷ 4 ∷ 5 ∷ 6 ∷ 7 ∷ 8 ∷ 9 ∷ 10 ∷ 11 ∷ 12 ∷ 13 ∷ 14 ∷ 15 ∷ 16 ∷ 17 ∷ 20 ∷ 21 ∷ 22 ∷ 23 ∷ 24 ∷ 25 ∷ 26 ∷ 27 ∷ 28 ∷ []

module _ (inside : Bool) (expression inner : Reader Expr) (statement : Reader Statement) where
  abbrev pub empty_statement : Reader Statement
  empty_statement = map_read (λ p. stands p Kind.Empty) (one (is_sign sign.Semicolon))

  abbrev pub print_statement : Reader Statement
  print_statement = then_read (λ p es. stands p (Kind.Print es)) (one (is_word (codes "print"))) (ending (commas expression) (is_sign sign.Semicolon))

  abbrev pub of_expression : Reader Statement
  of_expression = map_read expr_statement (ending expression (is_sign sign.Semicolon))

  abbrev pub return_statement : Reader Statement
  return_statement = then_read (λ p e. stands p (Kind.Return e)) (one (is_word (codes "return"))) (ending (perhaps expr_begins expression) (is_sign sign.Semicolon))

  abbrev pub break_statement : Reader Statement
  break_statement = map_read (λ p. stands p Kind.Break) (ending (one (is_word (codes "break"))) (is_sign sign.Semicolon))

  abbrev pub continue_statement : Reader Statement
  continue_statement = map_read (λ p. stands p Kind.Continue) (ending (one (is_word (codes "continue"))) (is_sign sign.Semicolon))

  -- ( expr )
  abbrev pub in_parens : Reader Expr
  in_parens = ending (before (is_sign sign.OpenParen) inner) (is_sign sign.CloseParen)

  abbrev pub while_statement : Reader Statement
  while_statement = then_read (λ p x. stands p (Kind.While x.0 x.1)) (one (is_word (codes "while"))) (then_read pair in_parens statement)

  abbrev pub some_exprs : Reader (List Expr)
  some_exprs = perhaps_commas expr_begins (guarded inside inner)

  abbrev pub for_head : Reader (List Expr × (Option Expr × List Expr))
  for_head = then_read pair (ending (before (is_sign sign.OpenParen) some_exprs) (is_sign sign.Semicolon))
      (then_read pair (ending (perhaps expr_begins (guarded inside inner)) (is_sign sign.Semicolon)) (ending some_exprs (is_sign sign.CloseParen)))

  abbrev pub for_statement : Reader Statement
  for_statement = then_read (λ p x. stands p (Kind.For x.0.0 x.0.1.0 x.0.1.1 x.1)) (one (is_word (codes "for"))) (then_read pair for_head statement)

  abbrev pub var_name : Reader Bytes
  var_name = map_read (λ v. v.0) (one var)

  abbrev pub foreach_head : Reader (Expr × (Option Bytes × Bytes))
  foreach_head = then_read pair (ending (before (is_sign sign.OpenParen) inner) (is_word (codes "as")))
      (ending (then_read key_and_value var_name (perhaps (33 ∷ []) (before (is_sign sign.Comma) var_name))) (is_sign sign.CloseParen))

  abbrev pub foreach_statement : Reader Statement
  foreach_statement = then_read (λ p x. stands p (Kind.Foreach x.0.0 x.0.1.0 x.0.1.1 x.1)) (one (is_word (codes "foreach"))) (then_read pair foreach_head statement)

  -- { {stmt} }
  abbrev pub block_of : Reader Statement
  block_of = then_read (λ p ss. stands p (Kind.Block ss)) (one (is_sign sign.OpenBrace)) (ending (many statement_begins (guarded inside statement)) (is_sign sign.CloseBrace))

  -- ---- branches of `if`

  -- ( expr ) stmt
  abbrev pub branch : Reader Branch
  branch = then_read branch_of in_parens statement

  -- `else` and a statement, `elseif` and more branches, or nothing
  abbrev pub behind_branch : Reader (List Branch × Option Statement) → Reader (List Branch × Option Statement)
  behind_branch rest = choose (38 ∷ []) (map_read otherwise (before (is_word (codes "else")) statement)) (choose (39 ∷ []) (before (is_word (codes "elseif")) rest) (λ s. Ok (no_branch, s)))

  -- at most n branches
  abbrev pub branches_within : ℕ → Reader (List Branch × Option Statement)
  branches_within zero s = Err s.tokens
  branches_within (suc n) s = then_read with_branch branch (behind_branch (branches_within n)) s

  abbrev pub branches : Reader (List Branch × Option Statement)
  branches s = branches_within (suc (length s.tokens)) s

  abbrev pub if_statement : Reader Statement
  if_statement = then_read (λ p x. stands p (Kind.If x.0 x.1)) (one (is_word (codes "if"))) branches

  -- ---- statements of a level

  abbrev pub block_or_expression : Reader Statement
  block_or_expression = choose (12 ∷ []) block_of of_expression

  -- a statement that ends with a sign
  abbrev pub simple_statement : Reader Statement
  simple_statement = choose (20 ∷ []) empty_statement (choose (21 ∷ []) print_statement (choose (26 ∷ []) return_statement (choose (27 ∷ []) break_statement (choose (28 ∷ []) continue_statement block_or_expression))))

  abbrev pub one_statement : Reader Statement
  one_statement = choose (22 ∷ []) (guarded inside if_statement) (choose (23 ∷ []) (guarded inside while_statement) (choose (24 ∷ []) (guarded inside for_statement) (choose (25 ∷ []) (guarded inside foreach_statement) simple_statement)))
