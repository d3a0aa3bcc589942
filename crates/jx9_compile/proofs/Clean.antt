-- What stands in a clean tree is clean.
use Rattle.std.proofs.Common.{◌≡◌, ℕ, suc, List, [], ◌∷◌, ◌++◌, Some, refl, sym, ap, ◌∙◌, subst, true≢false}
use Rattle.std.specs.Prelude.{Bool, true, false, ◌||◌, slice_get}
use Rattle.std.proofs.lemmas.Option.{slice_get_within}
use Rattle.jx9_syntax.specs.Trees.{ExprLayer, StatementLayer, node_of, kind_of}
use Rattle.jx9_syntax.specs.declared.expression.Access.{Access}
use Rattle.jx9_syntax.specs.declared.expression.Expr.{Expr}
use Rattle.jx9_syntax.specs.declared.expression.Link.{Link}
use Rattle.jx9_syntax.specs.declared.statement.Branch.{Branch}
use Rattle.jx9_syntax.specs.declared.statement.Statement.{Statement}
use Rattle.jx9_compile.specs.Problems.{problem, are_none, is_built, exprs_within, itself, within, operands_of, is_built_statement, leaves_turn, is_loop, exprs_in, statements_in, tests_of, bodies_of, StatementProblem, unbuilt, outside, in_expr, in_statement, IsCleanExpr, AreCleanExprs, IsCleanStatement, AreCleanStatements}
use Rattle.jx9_compile.specs.declared.error.CompileKind.TheVariants.{NotBuilt, BreakOutside}
use Rattle.jx9_compile.proofs.Places.{slice_get-front}

pub slice_get-into : {A : Type 0} (xs ys : List A) (i : ℕ) (y : A) → slice_get ys i ≡ Some y → (j : ℕ) × (slice_get (xs ++ ys) j ≡ Some y)
slice_get-into [] ys i y h = (i, h)
slice_get-into (x ∷ xs) ys i y h = let more = slice_get-into xs ys i y h in (suc more.0, more.1)

-- ---- lists

pub clean_head : (e : Expr) (es : List Expr) → AreCleanExprs (e ∷ es) → IsCleanExpr e
clean_head e es c = record { none = λ q p. c.none q (0, e, refl, p) }

pub clean_tail : (e : Expr) (es : List Expr) → AreCleanExprs (e ∷ es) → AreCleanExprs es
clean_tail e es c = record { none = λ q p. c.none q (suc p.0, p.1, p.2, p.3) }

pub clean_front : (xs ys : List Expr) → AreCleanExprs (xs ++ ys) → AreCleanExprs xs
clean_front xs ys c = record { none = λ q p. c.none q (p.0, p.1, slice_get-front xs ys p.0 (slice_get_within xs p.0 p.1 p.2) ∙ p.2, p.3) }

pub clean_rest : (xs ys : List Expr) → AreCleanExprs (xs ++ ys) → AreCleanExprs ys
clean_rest xs ys c = record { none = λ q p. let there = slice_get-into xs ys p.0 p.1 p.2 in c.none q (there.0, p.1, there.1, p.3) }

pub clean_last : (xs : List Expr) (e : Expr) → AreCleanExprs (xs ++ e ∷ []) → IsCleanExpr e
clean_last xs e c = clean_head e [] (clean_rest xs (e ∷ []) c)

pub clean_statements_head : (looped : Bool) (t : Statement) (ts : List Statement) → AreCleanStatements looped (t ∷ ts) → IsCleanStatement looped t
clean_statements_head looped t ts c = record { none = λ q p. c.none q (0, t, refl, p) }

pub clean_statements_tail : (looped : Bool) (t : Statement) (ts : List Statement) → AreCleanStatements looped (t ∷ ts) → AreCleanStatements looped ts
clean_statements_tail looped t ts c = record { none = λ q p. c.none q (suc p.0, p.1, p.2, p.3) }

pub clean_statements_front : (looped : Bool) (xs ys : List Statement) → AreCleanStatements looped (xs ++ ys) → AreCleanStatements looped xs
clean_statements_front looped xs ys c = record { none = λ q p. c.none q (p.0, p.1, slice_get-front xs ys p.0 (slice_get_within xs p.0 p.1 p.2) ∙ p.2, p.3) }

pub clean_statements_rest : (looped : Bool) (xs ys : List Statement) → AreCleanStatements looped (xs ++ ys) → AreCleanStatements looped ys
clean_statements_rest looped xs ys c = record { none = λ q p. let there = slice_get-into xs ys p.0 p.1 p.2 in c.none q (there.0, p.1, there.1, p.3) }

pub clean_statements_last : (looped : Bool) (xs : List Statement) (t : Statement) → AreCleanStatements looped (xs ++ t ∷ []) → IsCleanStatement looped t
clean_statements_last looped xs t c = clean_statements_head looped t [] (clean_statements_rest looped xs (t ∷ []) c)

pub operands_append : (xs : List Link) (l : Link) → operands_of (xs ++ l ∷ []) ≡ operands_of xs ++ l.operand ∷ []
operands_append [] l = refl
operands_append (x ∷ xs) l = ap (λ es. x.operand ∷ es) (operands_append xs l)

pub tests_append : (xs : List Branch) (b : Branch) → tests_of (xs ++ b ∷ []) ≡ tests_of xs ++ b.test ∷ []
tests_append [] b = refl
tests_append (x ∷ xs) b = ap (λ es. x.test ∷ es) (tests_append xs b)

pub bodies_append : (xs : List Branch) (b : Branch) → bodies_of (xs ++ b ∷ []) ≡ bodies_of xs ++ b.body ∷ []
bodies_append [] b = refl
bodies_append (x ∷ xs) b = ap (λ ts. x.body ∷ ts) (bodies_append xs b)

-- ---- nodes

pub clean_within : (e : Expr) (layer : ExprLayer) → node_of e ≡ layer → IsCleanExpr e → AreCleanExprs (exprs_within layer)
clean_within e layer is c = record { none = λ q p. c.none q (within p.0 p.1 (ap (λ l. slice_get (exprs_within l) p.0) is ∙ p.2) p.3) }

true_or_not : (b : Bool) → (b ≡ false → ⊥) → b ≡ true
true_or_not true h = refl
true_or_not false h = absurd (h refl)

pub clean_built : (e : Expr) (layer : ExprLayer) → node_of e ≡ layer → IsCleanExpr e → is_built layer ≡ true
clean_built e layer is c = true_or_not (is_built layer) (λ fails. c.none (problem e.token NotBuilt e.line) (itself (ap is_built is ∙ fails) refl))

pub no_steps : (steps : List Access) → are_none steps ≡ true → steps ≡ []
no_steps [] h = refl
no_steps (a ∷ more) h = absurd (true≢false (sym h))

-- ---- statements

pub clean_exprs_in : (looped : Bool) (t : Statement) (layer : StatementLayer) → kind_of t ≡ layer → IsCleanStatement looped t → AreCleanExprs (exprs_in layer)
clean_exprs_in looped t layer is c = record { none = λ q p. c.none q (in_expr p.0 p.1 (ap (λ l. slice_get (exprs_in l) p.0) is ∙ p.2) p.3) }

pub clean_statements_in : (looped : Bool) (t : Statement) (layer : StatementLayer) → kind_of t ≡ layer → IsCleanStatement looped t
    → AreCleanStatements (is_loop layer || looped) (statements_in layer)
clean_statements_in looped t layer is c = record {
  none = λ q p. c.none q
      (in_statement p.0 p.1 (ap (λ l. slice_get (statements_in l) p.0) is ∙ p.2) (subst (λ l. StatementProblem (is_loop l || looped) p.1 q) (sym is) p.3));
}

pub clean_statement_built : (looped : Bool) (t : Statement) (layer : StatementLayer) → kind_of t ≡ layer → IsCleanStatement looped t → is_built_statement layer ≡ true
clean_statement_built looped t layer is c =
    true_or_not (is_built_statement layer) (λ fails. c.none (problem t.token NotBuilt t.line) (unbuilt (ap is_built_statement is ∙ fails) refl))

-- a `break` or `continue` that is clean stands in a loop
pub clean_looped : (looped : Bool) (t : Statement) (layer : StatementLayer) → kind_of t ≡ layer → leaves_turn layer ≡ true → IsCleanStatement looped t → looped ≡ true
clean_looped looped t layer is leaves c =
    true_or_not looped (λ fails. c.none (problem t.token BreakOutside t.line) (outside (ap leaves_turn is ∙ leaves) fails refl))
