-- The first problem of a program, computed.
use Rattle.std.proofs.Common.{◌≡◌, ℕ, zero, suc, ◌<◌, List, [], ◌∷◌, Option, Some, None, refl, sym, subst, arith, inl, inr}
use Rattle.std.specs.Prelude.{Bool, true, false, ◌||◌, ◌⊎◌, MatchOption, slice_get}
use Rattle.std.proofs.lemmas.Bool.{cases_Bool}
use Rattle.std.proofs.lemmas.Option.{same_Some, slice_get_within}
use Rattle.jx9_syntax.specs.Trees.{node_of, kind_of}
use Rattle.jx9_syntax.specs.declared.expression.Expr.{Expr, size-Expr}
use Rattle.jx9_syntax.specs.declared.program.Named.{Named}
use Rattle.jx9_syntax.specs.declared.program.Program.{Program}
use Rattle.jx9_syntax.specs.declared.statement.Statement.{Statement, size-Statement}
use Rattle.jx9_compile.specs.Problems.{problem, is_built, exprs_within, ExprProblem, is_built_statement, leaves_turn, is_loop, exprs_in, statements_in, StatementProblem, IsInStatements, IsDefinition, IsProblemOf, IsClean, IsFirst, is_before, Adds}
use Rattle.jx9_compile.specs.declared.error.CompileKind.{CompileKind}
use Rattle.jx9_compile.specs.declared.error.CompileKind.TheVariants.{NotBuilt, BreakOutside}
use Rattle.jx9_compile.specs.declared.problems.Problem.{Problem}
use Rattle.jx9_compile.proofs.Depths.{expr_less, statement_less}
use Rattle.jx9_compile.proofs.Searches.{adds_nothing, adds_then, adds_as, noted, passed, Itself, Outside, node_adds, statement_adds, first_of}

-- from any problem so far, what a search for these adds
abbrev pub Searched : (Problem → Type 0) → Type 0
Searched P = (old : Option Problem) → (new : Option Problem) × Adds P old new

nowhere : (P : Problem → Type 0) → ((q : Problem) → P q → ⊥) → Searched P
nowhere P none old = (old, adds_nothing P old none)

both : (P Q : Problem → Type 0) → Searched P → Searched Q → Searched (λ q. P q ⊎ Q q)
both P Q p q old =
    let first = p old in
    let second = q first.0 in
    (second.0, adds_then P Q old first.0 second.0 first.1 second.1)

same : (P Q : Problem → Type 0) → ((q : Problem) → P q → Q q) → ((q : Problem) → Q q → P q) → Searched P → Searched Q
same P Q to from p old = let found = p old in (found.0, adds_as P Q old found.0 to from found.1)

one : (token line : ℕ) (what : CompileKind) → Searched (λ q. q ≡ problem token what line)
one token line what old =
    elim (cases_Bool (is_before (problem token what line) old)) [
      | inl before ↦ (Some (problem token what line), noted old token line what (is_before (problem token what line) old) refl before)
      | inr behind ↦ (old, passed old token line what (is_before (problem token what line) old) refl behind)
    ]

itself : (built : Bool) (token line : ℕ) → Searched (Itself built token line)
itself true token line = nowhere (Itself true token line) (λ q p. absurd (different p.0))
  where
    different : true ≡ false → ⊥
    different e = cc
itself false token line = same (λ q. q ≡ problem token NotBuilt line) (Itself false token line) (λ q e. (refl, e)) (λ q p. p.1) (one token line NotBuilt)

outside : (leaves looped : Bool) (token line : ℕ) → Searched (Outside leaves looped token line)
outside true false token line =
    same (λ q. q ≡ problem token BreakOutside line) (Outside true false token line) (λ q e. (refl, refl, e)) (λ q p. p.2) (one token line BreakOutside)
outside true true token line = nowhere (Outside true true token line) (λ q p. absurd (different p.1))
  where
    different : true ≡ false → ⊥
    different e = cc
outside false looped token line = nowhere (Outside false looped token line) (λ q p. absurd (different p.0))
  where
    different : false ≡ true → ⊥
    different e = cc

-- ---- lists

module _ {A : Type 0} (P : A → Problem → Type 0) where
  -- in one of these
  abbrev Among : List A → Problem → Type 0
  Among xs q = (i : ℕ) × (x : A) × (slice_get xs i ≡ Some x) × P x q

  among_none : (q : Problem) → Among [] q → ⊥
  among_none q p = absurd (omega (arith, slice_get_within [] p.0 p.1 p.2))

  to_more : (x : A) (xs : List A) (q : Problem) → P x q ⊎ Among xs q → Among (x ∷ xs) q
  to_more x xs q (inl p) = (0, x, refl, p)
  to_more x xs q (inr p) = (suc p.0, p.1, p.2, p.3)

  from_more : (x : A) (xs : List A) (q : Problem) → Among (x ∷ xs) q → P x q ⊎ Among xs q
  from_more x xs q (zero, y, h, p) = inl (subst (λ z. P z q) (sym (same_Some x y h)) p)
  from_more x xs q (suc i, y, h, p) = inr (i, y, h, p)

  among : (xs : List A) → ((i : ℕ) (x : A) → slice_get xs i ≡ Some x → Searched (P x)) → Searched (Among xs)
  among [] each = nowhere (Among []) among_none
  among (x ∷ xs) each =
      same (λ q. P x q ⊎ Among xs q) (Among (x ∷ xs)) (to_more x xs) (from_more x xs)
      (both (P x) (Among xs) (each 0 x refl) (among xs (λ i y h. each (suc i) y h)))

-- ---- trees

expr_within : (n : ℕ) (e : Expr) → size-Expr e < n → Searched (ExprProblem e)
expr_within zero e fits old = absurd (omega (arith, fits))
expr_within (suc n) e fits old =
    let here = itself (is_built (node_of e)) e.token e.line old in
    let inner = among ExprProblem (exprs_within (node_of e)) (λ i x h. let less = expr_less e i x h in expr_within n x (omega (arith, less, fits))) here.0 in
    (inner.0, node_adds e (node_of e) old here.0 inner.0 refl here.1 inner.1)

expr : (e : Expr) → Searched (ExprProblem e)
expr e = expr_within (suc (size-Expr e)) e (omega arith)

statement_within : (n : ℕ) (looped : Bool) (t : Statement) → size-Statement t < n → Searched (StatementProblem looped t)
statement_within zero looped t fits old = absurd (omega (arith, fits))
statement_within (suc n) looped t fits old =
    let layer = kind_of t in
    let here = itself (is_built_statement layer) t.token t.line old in
    let there = outside (leaves_turn layer) looped t.token t.line here.0 in
    let exprs = among ExprProblem (exprs_in layer) (λ i x h. expr x) there.0 in
    let inner = among (StatementProblem (is_loop layer || looped)) (statements_in layer)
    (λ i x h. let less = statement_less t i x h in statement_within n (is_loop layer || looped) x (omega (arith, less, fits))) exprs.0 in
    (inner.0, statement_adds looped t layer old here.0 there.0 exprs.0 inner.0 refl here.1 there.1 exprs.1 inner.1)

statement : (looped : Bool) (t : Statement) → Searched (StatementProblem looped t)
statement looped t = statement_within (suc (size-Statement t)) looped t (omega arith)

-- ---- programs

abbrev OfDefinition : Named → Problem → Type 0
OfDefinition f q = q ≡ problem f.token NotBuilt f.line

in_program : (definitions : List Named) (ts : List Statement) → Searched (IsProblemOf definitions ts)
in_program definitions ts =
    both (IsDefinition definitions) (IsInStatements false ts) (among OfDefinition definitions (λ i f h. one f.token f.line NotBuilt))
    (among (StatementProblem false) ts (λ i t h. statement false t))

first_or_none : (p : Program) (new : Option Problem) → MatchOption new (IsClean p) (IsFirst p) → IsClean p ⊎ ((q : Problem) × IsFirst p q)
first_or_none p None h = inl h
first_or_none p (Some q) h = inr (q, h)

pub clean_or_first : (p : Program) → IsClean p ⊎ ((q : Problem) × IsFirst p q)
clean_or_first p =
    let found = in_program p.functions p.statements None in
    first_or_none p found.0 (first_of p p.functions p.statements found.0 refl refl found.1)
