-- What is read of unary expressions, from what is read of what stands within.
use Rattle.std.proofs.Common.{Bool, true, ◌⊎◌, inl, inr, List, [], ◌∷◌, ◌++◌, codes, refl, sym, ap, ◌∙◌}
use Rattle.uq_value.specs.Data.{Bytes}
use Rattle.jx9_syntax.specs.Grammar.{Rule, Seq, Repeat, Ending, Listed, Spot, is_sign, is_word, var, name, literal_or_mixed, at, first, second, pair, or_none, place_of, variable, with_steps, step_sign, function_of, Params, IsAccess, IsPlace, Arguments, IsEntry, IsPrimary, of_literal, in_group, in_list, in_object, call, var_call, lambda, IsUnary, negated, not_of, step_before, step_after, of_variable, of_primary}
use Rattle.jx9_syntax.specs.Making.{Making, mapped, lambda_made}
use Rattle.jx9_syntax.specs.Words.{One, Nothing, Map}
use Rattle.jx9_syntax.specs.declared.expression.Access.{Access as AccessTree}
use Rattle.jx9_syntax.specs.declared.expression.Expr.{Expr}
use Rattle.jx9_syntax.specs.declared.expression.Node
use Rattle.jx9_syntax.specs.declared.expression.Place.{Place}
use Rattle.jx9_syntax.specs.declared.expression.Step.{Step}
use Rattle.jx9_syntax.specs.declared.expression.Step.TheVariants as step
use Rattle.jx9_syntax.specs.declared.sign.Sign.TheVariants as sign
use Rattle.jx9_syntax.specs.declared.statement.Statement.{Statement}
use Rattle.jx9_parse.specs.Reading.{Tokens, Reader, choose_on}
use Rattle.jx9_parse.specs.Expressions.{expr_begins, of_var_call, stepped, unary as read_unary}
use Rattle.jx9_parse.specs.Expressions as reading
use Rattle.jx9_parse.proofs.Sets.{Begin, false_true}
use Rattle.jx9_parse.proofs.Parts.{Part, Guard, Or, part_then, part_tail, part_map, tail_map, part_as, guard_lambda, guard_left, guard_right, part_or, free}
use Rattle.jx9_parse.proofs.After.{After, OrAfter, as_tail, after_nothing, after_tail, after_map, after_after, after_as, after_or, guard_after, part_after}
use Rattle.jx9_parse.proofs.Binds.{Bind, Given, to_bind, from_bind, to_right, to_left, bind_left, bind_cases, bind_inl, bind_inr, to_nothing, from_nothing}
use Rattle.jx9_parse.proofs.Lists.{part_listed}
use Rattle.jx9_parse.proofs.Singles.{part_sign, part_word, part_var, part_name, part_step, part_literal, literals, names}
use Rattle.jx9_parse.proofs.Primaries.{Inner, tail_perhaps_commas, expr_more, unary_more, the_steps, a_place, the_arguments, an_entry}

module _ {inside : Bool} {U E : Rule Expr} {B : Rule Statement} {un expr : Reader Expr} {block : Reader Statement} (i : Inner inside U E B un expr block) where
  -- ---- what stands behind a variable, in a unary expression

  abbrev pub Steps : Rule (List AccessTree)
  Steps = Repeat (IsAccess U E B)

  -- ( [exprs] ), then steps
  abbrev pub Called : Making (Bytes × Spot) → Rule Expr
  Called v = Bind (Given of_var_call (Arguments U E B) v) (Given with_steps Steps)

  -- `++`, `--` or nothing
  abbrev pub Stepped : Making (Place × Spot) → Rule Expr
  Stepped = OrAfter (Given stepped (One (step_sign step.IncrementAfter step.DecrementAfter))) (λ p. Map (Nothing p) (mapped variable))

  -- steps, then `++`, `--` or nothing
  abbrev pub Placed : Making (Bytes × Spot) → Rule Expr
  Placed v = Bind (Given place_of Steps v) Stepped

  abbrev pub BehindVar : Making (Bytes × Spot) → Rule Expr
  BehindVar = OrAfter Called Placed

  pub called : After Called (11 ∷ 36 ∷ []) (10 ∷ 11 ∷ 36 ∷ []) (reading.called inside un expr block)
  called = after_after (after_tail of_var_call (as_tail (the_arguments i))) (after_tail with_steps (the_steps i)) refl

  pub may_step : After Stepped (15 ∷ 16 ∷ []) (15 ∷ 16 ∷ []) (reading.may_step inside un expr block)
  may_step = after_or true (guard_after true stepped (free (part_as (15 ∷ 16 ∷ []) (15 ∷ 16 ∷ []) refl refl (λ w m is. is) (λ w m is. is) (part_step step.IncrementAfter step.DecrementAfter))))
      (after_as (15 ∷ 16 ∷ []) [] refl refl (λ x w m is. is) (λ x w m is. is) (after_map variable after_nothing)) refl refl

  pub placed : After Placed (11 ∷ 36 ∷ 15 ∷ 16 ∷ []) (11 ∷ 36 ∷ 15 ∷ 16 ∷ []) (reading.placed inside un expr block)
  placed = after_after (after_tail place_of (the_steps i)) may_step refl

  pub called_begins : (v : Making (Bytes × Spot)) (w : Tokens) (m : Making Expr) → Called v w m → Begin (10 ∷ []) w
  called_begins v w m is =
      let s = (the_arguments i).starts is.front is.is_left.value is.is_left.is_word in
      (s.0, s.1 ++ is.back, is.parts ∙ ap (λ (u : Tokens). u ++ is.back) s.2, s.3)

  behind_var : After BehindVar (11 ∷ 36 ∷ 15 ∷ 16 ∷ 10 ∷ []) (10 ∷ 11 ∷ 36 ∷ 15 ∷ 16 ∷ []) (choose_on (10 ∷ []) (reading.called inside un expr block) (reading.placed inside un expr block))
  behind_var = after_or {bs = 10 ∷ []} true (record { inner = 10 ∷ 11 ∷ 36 ∷ []; after = λ h. after_as (11 ∷ 36 ∷ 15 ∷ 16 ∷ 10 ∷ []) (10 ∷ 11 ∷ 36 ∷ []) refl refl (λ x w m is. is) (λ x w m is. is) called; empty = λ h. absurd (false_true (sym h)); full = called_begins })
      (after_as (11 ∷ 36 ∷ 15 ∷ 16 ∷ 10 ∷ []) (11 ∷ 36 ∷ 15 ∷ 16 ∷ []) refl refl (λ x w m is. is) (λ x w m is. is) placed) refl refl

  at_variable : Part (Bind (One var) BehindVar) unary_more (17 ∷ []) (reading.at_variable inside un expr block)
  at_variable = part_as unary_more (17 ∷ []) refl refl (λ w m is. is) (λ w m is. is) (part_after part_var behind_var refl)

  -- ---- primaries that are no variables

  abbrev pub Group : Rule Expr
  Group = Seq (λ s x. at s (Node.Group x)) (One (is_sign sign.OpenParen)) (Ending E (is_sign sign.CloseParen))

  abbrev pub Bracketed : Rule Expr
  Bracketed = Seq (λ s es. at s (Node.List es)) (One (is_sign sign.OpenBracket)) (Listed sign.CloseBracket E)

  abbrev pub Braced : Rule Expr
  Braced = Seq (λ s ms. at s (Node.Object ms)) (One (is_sign sign.OpenBrace)) (Listed sign.CloseBrace (IsEntry U E B))

  abbrev pub CallByName : Rule Expr
  CallByName = Seq (λ n es. at n.1 (Node.Call n.0 es)) (One name) (Arguments U E B)

  abbrev pub Lambda : Rule Expr
  Lambda = Map (Seq pair (One (is_word (codes "function"))) (Seq pair Params B)) (lambda_made (λ x n. at x.0 (Node.Lambda n)) (λ x. function_of x.1))

  -- a primary that is no variable
  abbrev pub Other : Rule Expr
  Other = Or Group (Or Bracketed (Or Braced (Or CallByName (Or Lambda (One literal_or_mixed)))))

  pub the_parameters : Part Params [] (10 ∷ []) reading.parameters
  the_parameters = part_then first (part_tail second (part_sign sign.OpenParen) (tail_map or_none (tail_perhaps_commas true (free (part_map (λ v. v.0) part_var)) refl)) refl) (part_sign sign.CloseParen) refl

  pub a_group : Guard inside Group [] (10 ∷ []) (reading.group inside un expr block)
  a_group = guard_right (λ s x. at s (Node.Group x)) (part_sign sign.OpenParen) (guard_left first i.an_expr (part_sign sign.CloseParen) refl) refl

  pub bracketed : Part Bracketed [] (11 ∷ []) (reading.list inside un expr block)
  bracketed = part_then (λ s es. at s (Node.List es)) (part_sign sign.OpenBracket) (part_listed sign.CloseBracket E expr_more expr_begins expr refl refl refl inside i.an_expr) refl

  pub braced : Part Braced [] (12 ∷ []) (reading.object inside un expr block)
  braced = part_then (λ s ms. at s (Node.Object ms)) (part_sign sign.OpenBrace) (part_listed sign.CloseBrace (IsEntry U E B) expr_more (2 ∷ names) (reading.entry inside un expr block) refl refl refl inside (an_entry i)) refl

  pub call_by_name : Part CallByName [] (8 ∷ []) (reading.call_by_name inside un expr block)
  call_by_name = part_then (λ n es. at n.1 (Node.Call n.0 es)) part_name (the_arguments i) refl

  pub a_lambda : Guard inside Lambda [] (9 ∷ []) (reading.lambda inside un expr block)
  a_lambda = guard_lambda (λ x n. at x.0 (Node.Lambda n)) (λ x. function_of x.1) (guard_right pair (part_word 9 (codes "function") refl) (guard_right pair the_parameters i.a_block refl) refl)

  pub other : Part Other [] (10 ∷ 11 ∷ 12 ∷ 8 ∷ 9 ∷ literals) (reading.primary inside un expr block)
  other = part_or inside a_group (part_or true (free bracketed) (part_or true (free braced) (part_or true (free call_by_name) (part_or inside a_lambda part_literal refl) refl) refl) refl) refl

  into_primary : (w : Tokens) (m : Making Expr) → Other w m → IsPrimary U E B w m
  into_primary w m (inl is) = in_group is
  into_primary w m (inr (inl is)) = in_list is
  into_primary w m (inr (inr (inl is))) = in_object is
  into_primary w m (inr (inr (inr (inl is)))) = call is
  into_primary w m (inr (inr (inr (inr (inl is))))) = lambda is
  into_primary w m (inr (inr (inr (inr (inr is))))) = of_literal is

  abbrev VarCalled : Rule Expr
  VarCalled = Seq of_var_call (One var) (Arguments U E B)

  primary_cases : (w : Tokens) (m : Making Expr) → IsPrimary U E B w m → VarCalled w m ⊎ Other w m
  primary_cases w m (in_group is) = inr (inl is)
  primary_cases w m (in_list is) = inr (inr (inl is))
  primary_cases w m (in_object is) = inr (inr (inr (inl is)))
  primary_cases w m (call is) = inr (inr (inr (inr (inl is))))
  primary_cases w m (lambda is) = inr (inr (inr (inr (inr (inl is)))))
  primary_cases w m (of_literal is) = inr (inr (inr (inr (inr (inr is)))))
  primary_cases w m (var_call is) = inl is

  -- ---- unary expressions

  abbrev pub Negated : Rule Expr
  Negated = Seq (λ s x. at s (Node.Negate x)) (One (is_sign sign.Minus)) U

  abbrev pub NotOf : Rule Expr
  NotOf = Seq (λ s x. at s (Node.Not x)) (One (is_sign sign.Not)) U

  abbrev pub StepBefore : Rule Expr
  StepBefore = Seq (λ s p. at s.1 (Node.Step s.0 p.0)) (One (step_sign step.IncrementFirst step.DecrementFirst)) (IsPlace U E B)

  abbrev pub AtVariable : Rule Expr
  AtVariable = Bind (One var) BehindVar

  abbrev pub Path : Rule Expr
  Path = Seq with_steps Other Steps

  -- with no variable first
  abbrev pub NoVariable : Rule Expr
  NoVariable = Or Negated (Or NotOf (Or StepBefore Path))

  abbrev pub Operand : Rule Expr
  Operand = Or AtVariable NoVariable

  pub no_variable : Part NoVariable unary_more (13 ∷ 14 ∷ 15 ∷ 16 ∷ 10 ∷ 11 ∷ 12 ∷ 8 ∷ 9 ∷ literals) (reading.no_variable inside un expr block)
  no_variable = part_or inside (guard_right (λ s x. at s (Node.Negate x)) (part_sign sign.Minus) i.a_unary refl)
      (part_or inside (guard_right (λ s x. at s (Node.Not x)) (part_sign sign.Not) i.a_unary refl)
      (part_or true (free (part_as unary_more (15 ∷ 16 ∷ []) refl refl (λ w m is. is) (λ w m is. is) (part_then (λ s p. at s.1 (Node.Step s.0 p.0)) (part_step step.IncrementFirst step.DecrementFirst) (a_place i) refl)))
      (part_as unary_more (10 ∷ 11 ∷ 12 ∷ 8 ∷ 9 ∷ literals) refl refl (λ w m is. is) (λ w m is. is) (part_tail with_steps other (the_steps i) refl)) refl) refl) refl

  operand : Part Operand unary_more (17 ∷ 13 ∷ 14 ∷ 15 ∷ 16 ∷ 10 ∷ 11 ∷ 12 ∷ 8 ∷ 9 ∷ literals) (reading.unary inside un expr block)
  unfolding read_unary
  operand = part_or true (free at_variable) no_variable refl

  pub placed_is : (w : Tokens) (m : Making Expr) → Bind (IsPlace U E B) Stepped w m → IsUnary U E B w m
  placed_is w m is = elim (bind_cases (IsPlace U E B) (Given stepped (One (step_sign step.IncrementAfter step.DecrementAfter))) (λ p. Map (Nothing p) (mapped variable)) w m is) [
    | inl c ↦ step_after (from_bind stepped (IsPlace U E B) (One (step_sign step.IncrementAfter step.DecrementAfter)) w m c)
    | inr c ↦ of_variable (from_nothing (IsPlace U E B) variable w m c)
  ]

  -- steps behind a variable are a place
  pub as_place : (w : Tokens) (m : Making Expr) → Bind (One var) Placed w m → Bind (IsPlace U E B) Stepped w m
  as_place w m is = bind_left (Bind (One var) (Given place_of Steps)) (IsPlace U E B) Stepped (from_bind place_of (One var) Steps) w m (to_left (One var) (Given place_of Steps) Stepped w m is)

  pub at_variable_is : (w : Tokens) (m : Making Expr) → AtVariable w m → IsUnary U E B w m
  at_variable_is w m is = elim (bind_cases (One var) Called Placed w m is) [
    | inl c ↦ of_primary (from_bind with_steps (IsPrimary U E B) Steps w m
        (bind_left (Bind (One var) (Given of_var_call (Arguments U E B))) (IsPrimary U E B) (Given with_steps Steps) (λ u x h. var_call (from_bind of_var_call (One var) (Arguments U E B) u x h)) w m
        (to_left (One var) (Given of_var_call (Arguments U E B)) (Given with_steps Steps) w m c)))
    | inr c ↦ placed_is w m (as_place w m c)
  ]

  placed_at : (w : Tokens) (m : Making Expr) → Bind (IsPlace U E B) Stepped w m → AtVariable w m
  placed_at w m is = bind_inr (One var) Called Placed w m (to_right (One var) (Given place_of Steps) Stepped w m
      (bind_left (IsPlace U E B) (Bind (One var) (Given place_of Steps)) Stepped (to_bind place_of (One var) Steps) w m is))

  called_at : (w : Tokens) (m : Making Expr) → Seq with_steps VarCalled Steps w m → AtVariable w m
  called_at w m is = bind_inl (One var) Called Placed w m (to_right (One var) (Given of_var_call (Arguments U E B)) (Given with_steps Steps) w m
      (bind_left VarCalled (Bind (One var) (Given of_var_call (Arguments U E B))) (Given with_steps Steps) (to_bind of_var_call (One var) (Arguments U E B)) w m (to_bind with_steps VarCalled Steps w m is)))

  pub into_unary : (w : Tokens) (m : Making Expr) → Operand w m → IsUnary U E B w m
  into_unary w m (inl is) = at_variable_is w m is
  into_unary w m (inr (inl is)) = negated is
  into_unary w m (inr (inr (inl is))) = not_of is
  into_unary w m (inr (inr (inr (inl is)))) = step_before is
  into_unary w m (inr (inr (inr (inr is)))) =
      of_primary (record { front = is.front; back = is.back; left = is.left; right = is.right; parts = is.parts; is_left = into_primary is.front is.left is.is_left; is_right = is.is_right; is_value = is.is_value })

  pub back_unary : (w : Tokens) (m : Making Expr) → IsUnary U E B w m → Operand w m
  back_unary w m (negated is) = inr (inl is)
  back_unary w m (not_of is) = inr (inr (inl is))
  back_unary w m (step_before is) = inr (inr (inr (inl is)))
  back_unary w m (step_after is) = inl (placed_at w m
      (bind_inl (IsPlace U E B) (Given stepped (One (step_sign step.IncrementAfter step.DecrementAfter))) (λ p. Map (Nothing p) (mapped variable)) w m (to_bind stepped (IsPlace U E B) (One (step_sign step.IncrementAfter step.DecrementAfter)) w m is)))
  back_unary w m (of_variable is) = inl (placed_at w m
      (bind_inr (IsPlace U E B) (Given stepped (One (step_sign step.IncrementAfter step.DecrementAfter))) (λ p. Map (Nothing p) (mapped variable)) w m (to_nothing (IsPlace U E B) variable w m is)))
  back_unary w m (of_primary is) = elim (primary_cases is.front is.left is.is_left) [
    | inl c ↦ inl (called_at w m (record { front = is.front; back = is.back; left = is.left; right = is.right; parts = is.parts; is_left = c; is_right = is.is_right; is_value = is.is_value }))
    | inr c ↦ inr (inr (inr (inr (record { front = is.front; back = is.back; left = is.left; right = is.right; parts = is.parts; is_left = c; is_right = is.is_right; is_value = is.is_value }))))
  ]

  pub the_unary : Part (IsUnary U E B) unary_more expr_begins (reading.unary inside un expr block)
  the_unary = part_as unary_more expr_begins refl refl into_unary back_unary operand
