-- How expressions are read. With no room inside, what takes one level of nesting stops before its first token.
use Rattle.std.specs.Prelude.{ℕ, zero, suc, Bool, cond, List, [], ◌∷◌, ◌++◌, length, Option, Some, Err, codes}
use Rattle.uq_value.specs.Data.{Bytes}
use Rattle.jx9_syntax.specs.Making.{Making, mapped}
use Rattle.jx9_syntax.specs.Grammar.{Spot, spot, is_sign, is_word, var, any_name, name, member_name, literal_or_mixed, at, like, place_of, variable, with_steps, step_sign, function_of, pair, change_sign}
use Rattle.jx9_syntax.specs.declared.expression.Access
use Rattle.jx9_syntax.specs.declared.expression.Access.{Access as AccessTree}
use Rattle.jx9_syntax.specs.declared.expression.Change.{Change as Operation}
use Rattle.jx9_syntax.specs.declared.expression.Entry.{Entry}
use Rattle.jx9_syntax.specs.declared.expression.Expr.{Expr}
use Rattle.jx9_syntax.specs.declared.expression.Node
use Rattle.jx9_syntax.specs.declared.expression.Place.{Place}
use Rattle.jx9_syntax.specs.declared.expression.Step.{Step}
use Rattle.jx9_syntax.specs.declared.expression.Step.TheVariants as step
use Rattle.jx9_syntax.specs.declared.sign.Sign.TheVariants as sign
use Rattle.jx9_syntax.specs.declared.statement.Statement.{Statement}
use Rattle.jx9_syntax.specs.declared.token.Token.{Token}
use Rattle.jx9_parse.specs.Reading.{Reader, ◌>>=◌, next_in, one, then_read, map_read, before, ending, many, guarded, choose, perhaps_commas, listed, given, bind, bind_on, choose_on, guarded_on, done, lambda_read}
use Rattle.jx9_parse.specs.Chains.{tail}

-- with what an expression begins
abbrev pub expr_begins : List ℕ
expr_begins = 1 ∷ 2 ∷ 3 ∷ 4 ∷ 5 ∷ 6 ∷ 7 ∷ 8 ∷ 9 ∷ 10 ∷ 11 ∷ 12 ∷ 13 ∷ 14 ∷ 15 ∷ 16 ∷ 17 ∷ []

abbrev pub of_var_call : Bytes × Spot → List Expr → Expr
of_var_call v es = at v.1 (Node.VarCall v.0 es)

abbrev pub stepped : Place × Spot → Step × Spot → Expr
stepped p s = at p.1 (Node.Step s.0 p.0)

abbrev pub conditional : Expr → Expr × Expr → Expr
conditional test bs = like test (Node.Cond test bs.0 bs.1)

abbrev pub assignment : Place × Spot → Expr → Expr
assignment p v = at p.1 (Node.Assign p.0 v)

abbrev pub changed : Place × Spot → Operation × Expr → Expr
changed p v = at p.1 (Node.Change p.0 v.0 v.1)

abbrev pub appending : Place × Spot → Expr → Expr
appending p v = at p.1 (Node.Append p.0 v)

-- one step more
abbrev pub with_access : Place × Spot → AccessTree → Place × Spot
with_access p a = (record { name = p.0.name; steps = p.0.steps ++ a ∷ [] }, p.1)

abbrev pub with_index : Place × Spot → Expr → Place × Spot
with_index p e = with_access p (Access.Index e)

-- the token as this node
abbrev pub taken_as : Node.Node → Token → Option (Making Expr)
taken_as node t = Some (mapped (λ s. at s node) (spot t))

abbrev pub parameter : Reader Bytes
parameter = map_read (λ v. v.0) (one var)

abbrev pub other_parameter : Reader Bytes
other_parameter = before (is_sign sign.Comma) parameter

abbrev pub some_names : Reader (List Bytes)
some_names = perhaps_commas (17 ∷ []) parameter

-- ( VAR , .. )
abbrev pub parameters : Reader (List Bytes)
parameters = ending (before (is_sign sign.OpenParen) some_names) (is_sign sign.CloseParen)

module _ (inside : Bool) (un expr : Reader Expr) (block : Reader Statement) where
  abbrev pub index : Reader AccessTree
  index = map_read (λ e. Access.Index e) (ending (before (is_sign sign.OpenBracket) expr) (is_sign sign.CloseBracket))

  abbrev pub member_access : Reader AccessTree
  member_access = map_read (λ n. Access.Member n.0) (before (is_sign sign.Dot) (one any_name))

  abbrev pub access : Reader AccessTree
  access = choose (11 ∷ []) (guarded inside index) member_access

  abbrev pub steps : Reader (List AccessTree)
  steps = many (11 ∷ 36 ∷ []) access

  abbrev pub place : Reader (Place × Spot)
  place = then_read place_of (one var) steps

  abbrev pub arguments : Reader (List Expr)
  arguments = ending (before (is_sign sign.OpenParen) (perhaps_commas expr_begins (guarded inside expr))) (is_sign sign.CloseParen)

  abbrev pub entry : Reader Entry
  entry = then_read (λ n e. record { name = n.0; value = e }) (one member_name) (before (is_sign sign.Colon) expr)

  -- ---- behind a variable, in a unary expression

  -- the arguments of a call by the variable's name, then steps
  abbrev pub called : Bytes × Spot → Reader Expr
  called = bind_on (given of_var_call arguments) (given with_steps steps)

  abbrev pub may_step : Place × Spot → Reader Expr
  may_step = choose_on (15 ∷ 16 ∷ []) (given stepped (one (step_sign step.IncrementAfter step.DecrementAfter))) (done variable)

  abbrev pub placed : Bytes × Spot → Reader Expr
  placed = bind_on (given place_of steps) may_step

  abbrev pub at_variable : Reader Expr
  at_variable = bind (one var) (choose_on (10 ∷ []) called placed)

  -- ---- primaries that are no variables

  abbrev pub group : Reader Expr
  group = then_read (λ s x. at s (Node.Group x)) (one (is_sign sign.OpenParen)) (ending expr (is_sign sign.CloseParen))

  abbrev pub list : Reader Expr
  list = then_read (λ s es. at s (Node.List es)) (one (is_sign sign.OpenBracket)) (listed sign.CloseBracket (guarded inside expr))

  abbrev pub object : Reader Expr
  object = then_read (λ s ms. at s (Node.Object ms)) (one (is_sign sign.OpenBrace)) (listed sign.CloseBrace (guarded inside entry))

  abbrev pub call_by_name : Reader Expr
  call_by_name = then_read (λ n es. at n.1 (Node.Call n.0 es)) (one name) arguments

  abbrev pub lambda : Reader Expr
  lambda = lambda_read (λ x n. at x.0 (Node.Lambda n)) (λ x. function_of x.1) (then_read pair (one (is_word (codes "function"))) (then_read pair parameters block))

  abbrev pub primary : Reader Expr
  primary = choose (10 ∷ []) (guarded inside group) (choose (11 ∷ []) list (choose (12 ∷ []) object (choose (8 ∷ []) call_by_name (choose (9 ∷ []) (guarded inside lambda) (one literal_or_mixed)))))

  -- ---- unary expressions

  abbrev pub negated : Reader Expr
  negated = then_read (λ s x. at s (Node.Negate x)) (one (is_sign sign.Minus)) un

  abbrev pub not_of : Reader Expr
  not_of = then_read (λ s x. at s (Node.Not x)) (one (is_sign sign.Not)) un

  abbrev pub step_before : Reader Expr
  step_before = then_read (λ s p. at s.1 (Node.Step s.0 p.0)) (one (step_sign step.IncrementFirst step.DecrementFirst)) place

  abbrev pub path : Reader Expr
  path = then_read with_steps primary steps

  -- a unary expression that begins with no variable
  abbrev pub no_variable : Reader Expr
  no_variable = choose (13 ∷ []) (guarded inside negated) (choose (14 ∷ []) (guarded inside not_of) (choose (15 ∷ 16 ∷ []) step_before path))

  -- no abbreviation, so that what reads more than one keeps it as it is written
  unfoldable pub unary : Reader Expr
  unary = choose (17 ∷ []) at_variable no_variable

  -- ---- behind the first operand of an expression

  abbrev pub may_choose : Expr → Reader Expr
  may_choose = choose_on (35 ∷ []) (guarded_on inside (given conditional (then_read pair (before (is_sign sign.Question) expr) (before (is_sign sign.Colon) expr)))) (done (λ e. e))

  -- the other operands of a chain, and a condition's branches
  abbrev pub or_rest : Expr → Reader Expr
  or_rest = bind_on (tail unary 7) may_choose

  -- an assignment, or a place as the first operand
  abbrev pub behind_place : Place × Spot → Reader Expr
  behind_place = choose_on (40 ∷ []) (guarded_on inside (given assignment (before (is_sign sign.Assign) expr)))
      (choose_on (41 ∷ 42 ∷ 43 ∷ 44 ∷ 45 ∷ 46 ∷ []) (guarded_on inside (given changed (then_read pair (one change_sign) expr))) (bind_on may_step or_rest))

  -- ---- the place with which an expression begins

  -- behind `[`: the `]` of an appending and what is appended, or an index and what is read behind it
  abbrev pub in_brackets : (Place × Spot → Reader Expr) → Place × Spot → Reader Expr
  in_brackets rest p s = cond (next_in (31 ∷ []) s.tokens)
      (one (is_sign sign.CloseBracket) s >>= λ c. given appending (before (is_sign sign.Assign) expr) p c.1)
      (expr s >>= λ e. one (is_sign sign.CloseBracket) e.1 >>= λ c. rest (with_index p e.0) c.1)

  -- with at most n steps
  abbrev pub head_within : ℕ → Place × Spot → Reader Expr
  head_within zero p s = Err s.tokens
  head_within (suc n) p s = cond (next_in (36 ∷ []) s.tokens) (member_access s >>= λ a. head_within n (with_access p a.0) a.1)
      (cond (next_in (11 ∷ []) s.tokens) (cond inside (one (is_sign sign.OpenBracket) s >>= λ o. in_brackets (head_within n) p o.1) (Err s.tokens)) (behind_place p s))

  abbrev pub head : Place × Spot → Reader Expr
  head p s = head_within (suc (length s.tokens)) p s

  abbrev pub at_place : Bytes × Spot → Reader Expr
  at_place v = head (place_of v [])

  unfoldable pub expression : Reader Expr
  expression = choose (17 ∷ []) (bind (one var) (choose_on (10 ∷ []) (bind_on called or_rest) at_place)) (bind no_variable or_rest)
