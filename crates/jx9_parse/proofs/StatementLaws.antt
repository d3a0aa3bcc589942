-- What is read of statements, from what is read of the expressions and statements within.
use Rattle.std.proofs.Common.{◌≡◌, ℕ, Bool, true, false, inl, inr, List, [], ◌∷◌, ◌++◌, Option, codes, refl}
use Rattle.uq_value.specs.Data.{Bytes}
use Rattle.jx9_syntax.specs.Grammar.{Rule, Seq, Repeat, Commas, Perhaps, PerhapsCommas, Before, Ending, is_sign, is_word, first, second, pair, or_none, stands, expr_statement, key_and_value, VarName, Statements, AnyOf, branch_of, IsBranches, a_branch, IsBlock, BeginsNoBlock, IsSimple, empty, printing, returning, breaking, continuing, of_block, of_expr, IsStatement, of_if, of_while, of_for, of_foreach, simple}
use Rattle.jx9_syntax.specs.Making.{Making, mapped, then_made}
use Rattle.jx9_syntax.specs.Words.{One, Map}
use Rattle.jx9_syntax.specs.declared.expression.Expr.{Expr}
use Rattle.jx9_syntax.specs.declared.sign.Sign.TheVariants as sign
use Rattle.jx9_syntax.specs.declared.statement.Branch.{Branch}
use Rattle.jx9_syntax.specs.declared.statement.Kind
use Rattle.jx9_syntax.specs.declared.statement.Statement.{Statement}
use Rattle.jx9_syntax.specs.declared.token.Token.{Token}
use Rattle.jx9_parse.specs.Reading.{Tokens, Reader, one, perhaps_commas, guarded}
use Rattle.jx9_parse.specs.Expressions.{expr_begins}
use Rattle.jx9_parse.specs.Statements.{statement_begins}
use Rattle.jx9_parse.specs.Statements as reading
use Rattle.jx9_parse.proofs.Sets.{within_in}
use Rattle.jx9_parse.proofs.Parts.{Part, Tail, Guard, Or, part_then, part_tail, tail_part, part_map, tail_map, part_as, part_or, guard_left, guard_right, free}
use Rattle.jx9_parse.proofs.Repeats.{tail_many, tail_many_by, tail_perhaps}
use Rattle.jx9_parse.proofs.Singles.{part_sign, part_word, part_var}
use Rattle.jx9_parse.proofs.Primaries.{expr_more, tail_perhaps_commas}
use Rattle.jx9_parse.proofs.Barred.{NoBrace, part_barred}
use Rattle.jx9_parse.proofs.Opens.{Open, GuardOpen, Closed, OrOpen, open_then, open_as, open_closed, open_or, guard_any}
use Rattle.jx9_parse.proofs.Branches.{the_branches}

-- an expression of the same nesting, and what stands within; an open statement goes on with `else` and `elseif` alone
pub record Within (inside : Bool) (X E : Rule Expr) (S : Statements) (expression inner : Reader Expr) (statement : Reader Statement) : Type 0 where
  pub an_expr : Part X expr_more expr_begins expression
  pub plain : (w : Tokens) × (m : Making Expr) × NoBrace X w m
  pub an_inner : Guard inside E expr_more expr_begins inner
  pub a_statement : GuardOpen inside S statement_begins statement

module _ {inside : Bool} {X E : Rule Expr} {S : Statements} {expression inner : Reader Expr} {statement : Reader Statement} (i : Within inside X E S expression inner statement) where
  pub an_empty : Part (Map (One (is_sign sign.Semicolon)) (mapped (λ p. stands p Kind.Empty))) [] (20 ∷ []) (reading.empty_statement inside expression inner statement)
  an_empty = part_map (λ p. stands p Kind.Empty) (part_sign sign.Semicolon)

  pub a_print : Part (Seq (λ p es. stands p (Kind.Print es)) (One (is_word (codes "print"))) (Ending (Commas X) (is_sign sign.Semicolon))) [] (21 ∷ []) (reading.print_statement inside expression inner statement)
  a_print = part_then (λ p es. stands p (Kind.Print es)) (part_word 21 (codes "print") refl)
      (part_then first (part_tail ◌∷◌ i.an_expr (tail_many (part_then second (part_sign sign.Comma) i.an_expr refl) refl) refl) (part_sign sign.Semicolon) refl) refl

  pub of_expression : Part (Map (Ending X (is_sign sign.Semicolon)) (mapped expr_statement)) [] expr_begins (reading.of_expression inside expression inner statement)
  of_expression = part_map expr_statement (part_then first i.an_expr (part_sign sign.Semicolon) refl)

  pub a_return : Part (Seq (λ p e. stands p (Kind.Return e)) (One (is_word (codes "return"))) (Ending (Perhaps X) (is_sign sign.Semicolon))) [] (26 ∷ []) (reading.return_statement inside expression inner statement)
  a_return = part_then (λ p e. stands p (Kind.Return e)) (part_word 26 (codes "return") refl) (tail_part first (tail_perhaps true (free i.an_expr)) (part_sign sign.Semicolon) refl) refl

  pub a_break : Part (Map (Ending (One (is_word (codes "break"))) (is_sign sign.Semicolon)) (mapped (λ p. stands p Kind.Break))) [] (27 ∷ []) (reading.break_statement inside expression inner statement)
  a_break = part_map (λ p. stands p Kind.Break) (part_then first (part_word 27 (codes "break") refl) (part_sign sign.Semicolon) refl)

  pub a_continue : Part (Map (Ending (One (is_word (codes "continue"))) (is_sign sign.Semicolon)) (mapped (λ p. stands p Kind.Continue))) [] (28 ∷ []) (reading.continue_statement inside expression inner statement)
  a_continue = part_map (λ p. stands p Kind.Continue) (part_then first (part_word 28 (codes "continue") refl) (part_sign sign.Semicolon) refl)

  pub in_parens : Guard inside (Ending (Before (is_sign sign.OpenParen) E) (is_sign sign.CloseParen)) [] (10 ∷ []) (reading.in_parens inside expression inner statement)
  in_parens = guard_left first (guard_right second (part_sign sign.OpenParen) i.an_inner refl) (part_sign sign.CloseParen) refl

  abbrev pub Parens : Rule Expr
  Parens = Ending (Before (is_sign sign.OpenParen) E) (is_sign sign.CloseParen)

  abbrev pub While : Statements
  While is_open = Seq (λ p x. stands p (Kind.While x.0 x.1)) (One (is_word (codes "while"))) (Seq pair Parens (S is_open))

  a_while : GuardOpen inside While (23 ∷ []) (reading.while_statement inside expression inner statement)
  a_while = record {
    inner = λ h. open_then (λ p x. stands p (Kind.While x.0 x.1)) (part_word 23 (codes "while") refl) (open_then pair (in_parens.part h) (i.a_statement.inner h) refl) refl;
    empty = λ h is_open w m is. i.a_statement.empty h is_open is.is_right.back is.is_right.right is.is_right.is_right;
  }

  some_exprs : Tail (PerhapsCommas E) ((expr_more ++ (expr_more ++ (33 ∷ []))) ++ expr_begins) expr_begins (perhaps_commas expr_begins (guarded inside inner))
  some_exprs = tail_map or_none (tail_perhaps_commas inside i.an_inner refl)

  abbrev pub ForWords : Rule (List Expr × (Option Expr × List Expr))
  ForWords = Seq pair (Ending (Before (is_sign sign.OpenParen) (PerhapsCommas E)) (is_sign sign.Semicolon))
      (Seq pair (Ending (Perhaps E) (is_sign sign.Semicolon)) (Ending (PerhapsCommas E) (is_sign sign.CloseParen)))

  a_for_head : Part ForWords [] (10 ∷ []) (reading.for_head inside expression inner statement)
  a_for_head = part_then pair (part_then first (part_tail second (part_sign sign.OpenParen) some_exprs refl) (part_sign sign.Semicolon) refl)
      (part_then pair (tail_part first (tail_perhaps inside i.an_inner) (part_sign sign.Semicolon) refl) (tail_part first some_exprs (part_sign sign.CloseParen) refl) refl) refl

  abbrev pub For : Statements
  For is_open = Seq (λ p x. stands p (Kind.For x.0.0 x.0.1.0 x.0.1.1 x.1)) (One (is_word (codes "for"))) (Seq pair ForWords (S is_open))

  a_for : GuardOpen inside For (24 ∷ []) (reading.for_statement inside expression inner statement)
  a_for = record {
    inner = λ h. open_then (λ p x. stands p (Kind.For x.0.0 x.0.1.0 x.0.1.1 x.1)) (part_word 24 (codes "for") refl) (open_then pair a_for_head (i.a_statement.inner h) refl) refl;
    empty = λ h is_open w m is. i.a_statement.empty h is_open is.is_right.back is.is_right.right is.is_right.is_right;
  }

  a_name : Part VarName [] (17 ∷ []) (reading.var_name inside expression inner statement)
  a_name = part_map (λ v. v.0) part_var

  abbrev pub ForeachWords : Rule (Expr × (Option Bytes × Bytes))
  ForeachWords = Seq pair (Ending (Before (is_sign sign.OpenParen) E) (is_word (codes "as")))
      (Ending (Seq key_and_value VarName (Perhaps (Before (is_sign sign.Comma) VarName))) (is_sign sign.CloseParen))

  a_foreach_head : Guard inside ForeachWords [] (10 ∷ []) (reading.foreach_head inside expression inner statement)
  a_foreach_head = guard_left pair (guard_left first (guard_right second (part_sign sign.OpenParen) i.an_inner refl) (part_word 37 (codes "as") refl) refl)
      (part_then first (part_tail key_and_value a_name (tail_perhaps true (free (part_then second (part_sign sign.Comma) a_name refl))) refl) (part_sign sign.CloseParen) refl) refl

  abbrev pub Foreach : Statements
  Foreach is_open = Seq (λ p x. stands p (Kind.Foreach x.0.0 x.0.1.0 x.0.1.1 x.1)) (One (is_word (codes "foreach"))) (Seq pair ForeachWords (S is_open))

  a_foreach : GuardOpen inside Foreach (25 ∷ []) (reading.foreach_statement inside expression inner statement)
  a_foreach = record {
    inner = λ h. open_then (λ p x. stands p (Kind.Foreach x.0.0 x.0.1.0 x.0.1.1 x.1)) (part_word 25 (codes "foreach") refl) (open_then pair (a_foreach_head.part h) (i.a_statement.inner h) refl) refl;
    empty = λ h is_open w m is. i.a_statement.empty h is_open is.is_right.back is.is_right.right is.is_right.is_right;
  }

  pub a_block : Part (Seq (λ p ss. stands p (Kind.Block ss)) (One (is_sign sign.OpenBrace)) (Ending (Repeat (AnyOf S)) (is_sign sign.CloseBrace))) [] (12 ∷ []) (reading.block_of inside expression inner statement)
  a_block = part_then (λ p ss. stands p (Kind.Block ss)) (part_sign sign.OpenBrace) (tail_part first (tail_many_by inside (guard_any i.a_statement) refl) (part_sign sign.CloseBrace) refl) refl

  -- ---- `if`

  abbrev pub BranchOf : Bool → Rule Branch
  BranchOf is_open = Seq branch_of Parens (S is_open)

  abbrev pub If : Statements
  If is_open = Seq (λ p x. stands p (Kind.If x.0 x.1)) (One (is_word (codes "if"))) (IsBranches BranchOf S is_open)

  no_branches : inside ≡ false → (is_open : Bool) (w : Tokens) (m : Making (List Branch × Option Statement)) → IsBranches BranchOf S is_open w m → ⊥
  no_branches h is_open w m (a_branch first_open front back b others parts is_left is_right is_value) = i.a_statement.empty h first_open is_left.back is_left.right is_left.is_right

  an_if : GuardOpen inside If (22 ∷ []) (reading.if_statement inside expression inner statement)
  an_if = record {
    inner = λ h. let s = i.a_statement.inner h in
        open_then (λ p x. stands p (Kind.If x.0 x.1)) (part_word 22 (codes "if") refl) (the_branches (open_then branch_of (in_parens.part h) s refl) s refl) refl;
    empty = λ h is_open w m is. no_branches h is_open is.back is.right is.is_right;
  }

  -- ---- a block, or an expression that begins with no `{`

  abbrev pub Block : Rule Statement
  Block = IsBlock S

  abbrev pub OfExpr : Rule Statement
  OfExpr = Map (Ending X (is_sign sign.Semicolon)) (mapped expr_statement)

  no_brace_front : (u v : Tokens) (m : Making Expr) → X u m → BeginsNoBlock u → BeginsNoBlock (u ++ v)
  no_brace_front [] v m is bars = let s = i.an_expr.starts [] m is in absurd (empty_begins s.0 s.1 s.2)
    where
      empty_begins : (t : Token) (more : Tokens) → [] ≡ t ∷ more → ⊥
      empty_begins t more e = cc
  no_brace_front (t ∷ u) v m is bars = bars

  a_plain : (w : Tokens) × (m : Making Statement) × NoBrace OfExpr w m
  a_plain = let x = i.plain in let s = semicolon.some in (
    x.0 ++ s.0,
    mapped expr_statement (then_made first x.1 s.1),
    (
      no_brace_front x.0 s.0 x.1 x.2.1 x.2.0,
      record { value = then_made first x.1 s.1; is_word = record { front = x.0; back = s.0; left = x.1; right = s.1; parts = refl; is_left = x.2.1; is_right = s.2; is_value = refl }; is_value = refl },
    ),
  )
    where
      semicolon : Part (One (is_sign sign.Semicolon)) [] (20 ∷ []) (one (is_sign sign.Semicolon))
      semicolon = part_sign sign.Semicolon

  block_or_expr : Part (Or Block (NoBrace OfExpr)) [] (12 ∷ expr_begins) (reading.block_or_expression inside expression inner statement)
  block_or_expr = part_barred of_expression a_plain a_block

  -- ---- statements of a level

  abbrev pub Simple : Rule Statement
  Simple = IsSimple X E S Block

  abbrev pub SimpleCases : Rule Statement
  SimpleCases = Or (Map (One (is_sign sign.Semicolon)) (mapped (λ p. stands p Kind.Empty)))
      (Or (Seq (λ p es. stands p (Kind.Print es)) (One (is_word (codes "print"))) (Ending (Commas X) (is_sign sign.Semicolon)))
      (Or (Seq (λ p e. stands p (Kind.Return e)) (One (is_word (codes "return"))) (Ending (Perhaps X) (is_sign sign.Semicolon)))
      (Or (Map (Ending (One (is_word (codes "break"))) (is_sign sign.Semicolon)) (mapped (λ p. stands p Kind.Break)))
      (Or (Map (Ending (One (is_word (codes "continue"))) (is_sign sign.Semicolon)) (mapped (λ p. stands p Kind.Continue)))
      (Or Block (NoBrace OfExpr))))))

  pub into_simple : (w : Tokens) (m : Making Statement) → SimpleCases w m → Simple w m
  into_simple w m (inl is) = empty is
  into_simple w m (inr (inl is)) = printing is
  into_simple w m (inr (inr (inl is))) = returning is
  into_simple w m (inr (inr (inr (inl is)))) = breaking is
  into_simple w m (inr (inr (inr (inr (inl is))))) = continuing is
  into_simple w m (inr (inr (inr (inr (inr (inl is)))))) = of_block is
  into_simple w m (inr (inr (inr (inr (inr (inr is)))))) = of_expr is.0 is.1

  pub from_simple : (w : Tokens) (m : Making Statement) → Simple w m → SimpleCases w m
  from_simple w m (empty is) = inl is
  from_simple w m (printing is) = inr (inl is)
  from_simple w m (returning is) = inr (inr (inl is))
  from_simple w m (breaking is) = inr (inr (inr (inl is)))
  from_simple w m (continuing is) = inr (inr (inr (inr (inl is))))
  from_simple w m (of_block is) = inr (inr (inr (inr (inr (inl is)))))
  from_simple w m (of_expr bars is) = inr (inr (inr (inr (inr (inr (bars, is))))))

  abbrev simple_begins : List ℕ
  simple_begins = 20 ∷ 21 ∷ 26 ∷ 27 ∷ 28 ∷ 12 ∷ expr_begins

  a_simple : Part Simple [] simple_begins (reading.simple_statement inside expression inner statement)
  a_simple = part_as [] simple_begins refl refl into_simple from_simple
      (part_or true (free an_empty) (part_or true (free a_print) (part_or true (free a_return) (part_or true (free a_break) (part_or true (free a_continue) block_or_expr refl) refl) refl) refl) refl)

  abbrev pub StatementCases : Statements
  StatementCases = OrOpen If (OrOpen While (OrOpen For (OrOpen Foreach (Closed Simple))))

  abbrev pub OfStatement : Statements
  OfStatement = IsStatement X E S Block

  pub into_statement : (is_open : Bool) (w : Tokens) (m : Making Statement) → StatementCases is_open w m → OfStatement is_open w m
  into_statement is_open w m (inl is) = of_if is
  into_statement is_open w m (inr (inl is)) = of_while is
  into_statement is_open w m (inr (inr (inl is))) = of_for is
  into_statement is_open w m (inr (inr (inr (inl is)))) = of_foreach is
  into_statement is_open w m (inr (inr (inr (inr is)))) = simple is.0 is.1

  pub from_statement : (is_open : Bool) (w : Tokens) (m : Making Statement) → OfStatement is_open w m → StatementCases is_open w m
  from_statement is_open w m (of_if is) = inl is
  from_statement is_open w m (of_while is) = inr (inl is)
  from_statement is_open w m (of_for is) = inr (inr (inl is))
  from_statement is_open w m (of_foreach is) = inr (inr (inr (inl is)))
  from_statement is_open w m (simple e is) = inr (inr (inr (inr (e, is))))

  pub the_statement : Open OfStatement statement_begins (reading.one_statement inside expression inner statement)
  the_statement = open_as statement_begins (within_in (22 ∷ 23 ∷ 24 ∷ 25 ∷ simple_begins) statement_begins refl) into_statement from_statement
      (open_or inside an_if (open_or inside a_while (open_or inside a_for (open_or inside a_foreach (open_closed a_simple) refl) refl) refl) refl)
