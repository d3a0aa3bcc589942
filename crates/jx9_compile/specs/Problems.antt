-- What keeps a program from being compiled, and which of that comes first in order of text.
use Rattle.std.specs.Prelude.{◌≡◌, ℕ, Bool, true, false, ◌||◌, ◌==◌, if◌then◌else◌, List, [], ◌∷◌, ◌++◌, map, nat_lt, Option, Some, None, ◌⊎◌, slice_get}
use Rattle.jx9_syntax.specs.Trees.{ExprLayer, StatementLayer, node_of, kind_of}
use Rattle.jx9_syntax.specs.declared.expression.Access.{Access}
use Rattle.jx9_syntax.specs.declared.expression.Access.TheOpen.{Node-F}
use Rattle.jx9_syntax.specs.declared.expression.Expr.{Expr}
use Rattle.jx9_syntax.specs.declared.expression.Link.{Link}
use Rattle.jx9_syntax.specs.declared.program.Named.{Named}
use Rattle.jx9_syntax.specs.declared.program.Program.{Program}
use Rattle.jx9_syntax.specs.declared.statement.Branch.{Branch}
use Rattle.jx9_syntax.specs.declared.statement.Kind.TheOpen.{Kind-F}
use Rattle.jx9_syntax.specs.declared.statement.Statement.{Statement}
use Rattle.jx9_compile.specs.declared.error.CompileKind.{CompileKind}
use Rattle.jx9_compile.specs.declared.error.CompileKind.TheVariants.{UnknownFunction, DefinedTwice, BreakOutside, NotBuilt}
use Rattle.jx9_compile.specs.declared.problems.Problem.{Problem}

abbrev pub problem : ℕ → CompileKind → ℕ → Problem
problem token kind line = record { token = token; kind = kind; line = line }

-- ---- expressions

abbrev pub are_none : List Access → Bool
are_none [] = true
are_none (a ∷ more) = false

-- the nodes that have ops
abbrev pub is_built : ExprLayer → Bool
is_built (Node-F.Literal l) = true
is_built (Node-F.Mixed parts) = true
is_built (Node-F.Var name steps) = are_none steps
is_built (Node-F.Path e steps) = false
is_built (Node-F.Group e) = true
is_built (Node-F.List es) = false
is_built (Node-F.Object es) = false
is_built (Node-F.Call name es) = false
is_built (Node-F.VarCall name es) = false
is_built (Node-F.Lambda n) = false
is_built (Node-F.Negate e) = true
is_built (Node-F.Not e) = true
is_built (Node-F.Step s place) = are_none place.steps
is_built (Node-F.Or e es) = true
is_built (Node-F.And e es) = true
is_built (Node-F.Join es) = true
is_built (Node-F.Chain e links) = true
is_built (Node-F.Cond test first second) = true
is_built (Node-F.Assign place e) = are_none place.steps
is_built (Node-F.Append place e) = false
is_built (Node-F.Change place how e) = are_none place.steps

abbrev pub operands_of : List Link → List Expr
operands_of links = map (λ l. l.operand) links

-- The expressions directly within. Those in a node that is not built come after its first token, so they are left out.
abbrev pub exprs_within : ExprLayer → List Expr
exprs_within (Node-F.Literal l) = []
exprs_within (Node-F.Mixed parts) = []
exprs_within (Node-F.Var name steps) = []
exprs_within (Node-F.Path e steps) = []
exprs_within (Node-F.Group e) = e ∷ []
exprs_within (Node-F.List es) = []
exprs_within (Node-F.Object es) = []
exprs_within (Node-F.Call name es) = []
exprs_within (Node-F.VarCall name es) = []
exprs_within (Node-F.Lambda n) = []
exprs_within (Node-F.Negate e) = e ∷ []
exprs_within (Node-F.Not e) = e ∷ []
exprs_within (Node-F.Step s place) = []
exprs_within (Node-F.Or e es) = e ∷ es
exprs_within (Node-F.And e es) = e ∷ es
exprs_within (Node-F.Join es) = es
exprs_within (Node-F.Chain e links) = e ∷ operands_of links
exprs_within (Node-F.Cond test first second) = test ∷ first ∷ second ∷ []
exprs_within (Node-F.Assign place e) = e ∷ []
exprs_within (Node-F.Append place e) = []
exprs_within (Node-F.Change place how e) = e ∷ []

pub data ExprProblem : Expr → Problem → Type 0 where
  itself : {e : Expr} {q : Problem} → is_built (node_of e) ≡ false → q ≡ problem e.token NotBuilt e.line → ExprProblem e q
  within : {e : Expr} {q : Problem} (i : ℕ) (inner : Expr) → slice_get (exprs_within (node_of e)) i ≡ Some inner → ExprProblem inner q → ExprProblem e q

-- in one of some expressions
abbrev pub IsIn : List Expr → Problem → Type 0
IsIn es q = (i : ℕ) × (e : Expr) × (slice_get es i ≡ Some e) × ExprProblem e q

abbrev pub IsInLinks : List Link → Problem → Type 0
IsInLinks links q = IsIn (operands_of links) q

abbrev pub exprs_of : Option Expr → List Expr
exprs_of None = []
exprs_of (Some e) = e ∷ []

abbrev pub IsInOption : Option Expr → Problem → Type 0
IsInOption o q = IsIn (exprs_of o) q

-- ---- statements

-- the statements that have ops
abbrev pub is_built_statement : StatementLayer → Bool
is_built_statement Kind-F.Empty = false
is_built_statement (Kind-F.Block ts) = true
is_built_statement (Kind-F.Print es) = true
is_built_statement (Kind-F.Expr e) = true
is_built_statement (Kind-F.If bs other) = true
is_built_statement (Kind-F.While e t) = true
is_built_statement (Kind-F.For first e last t) = true
is_built_statement (Kind-F.Foreach e key name t) = false
is_built_statement (Kind-F.Return e) = true
is_built_statement Kind-F.Break = true
is_built_statement Kind-F.Continue = true

-- those that stand in a loop alone
abbrev pub leaves_turn : StatementLayer → Bool
leaves_turn Kind-F.Break = true
leaves_turn Kind-F.Continue = true
leaves_turn _ = false

abbrev pub is_loop : StatementLayer → Bool
is_loop (Kind-F.While e t) = true
is_loop (Kind-F.For first e last t) = true
is_loop _ = false

abbrev pub tests_of : List Branch → List Expr
tests_of bs = map (λ b. b.test) bs

abbrev pub bodies_of : List Branch → List Statement
bodies_of bs = map (λ b. b.body) bs

abbrev pub statements_of : Option Statement → List Statement
statements_of None = []
statements_of (Some t) = t ∷ []

-- the expressions directly within
abbrev pub exprs_in : StatementLayer → List Expr
exprs_in Kind-F.Empty = []
exprs_in (Kind-F.Block ts) = []
exprs_in (Kind-F.Print es) = es
exprs_in (Kind-F.Expr e) = e ∷ []
exprs_in (Kind-F.If bs other) = tests_of bs
exprs_in (Kind-F.While e t) = e ∷ []
exprs_in (Kind-F.For first e last t) = first ++ (exprs_of e ++ last)
exprs_in (Kind-F.Foreach e key name t) = []
exprs_in (Kind-F.Return e) = exprs_of e
exprs_in Kind-F.Break = []
exprs_in Kind-F.Continue = []

-- and the statements
abbrev pub statements_in : StatementLayer → List Statement
statements_in Kind-F.Empty = []
statements_in (Kind-F.Block ts) = ts
statements_in (Kind-F.Print es) = []
statements_in (Kind-F.Expr e) = []
statements_in (Kind-F.If bs other) = bodies_of bs ++ statements_of other
statements_in (Kind-F.While e t) = t ∷ []
statements_in (Kind-F.For first e last t) = t ∷ []
statements_in (Kind-F.Foreach e key name t) = []
statements_in (Kind-F.Return e) = []
statements_in Kind-F.Break = []
statements_in Kind-F.Continue = []

-- of a statement that stands in a loop or not
pub data StatementProblem : Bool → Statement → Problem → Type 0 where
  unbuilt : {looped : Bool} {t : Statement} {q : Problem} → is_built_statement (kind_of t) ≡ false → q ≡ problem t.token NotBuilt t.line
      → StatementProblem looped t q
  outside : {looped : Bool} {t : Statement} {q : Problem} → leaves_turn (kind_of t) ≡ true → looped ≡ false → q ≡ problem t.token BreakOutside t.line
      → StatementProblem looped t q
  in_expr : {looped : Bool} {t : Statement} {q : Problem} (i : ℕ) (e : Expr) → slice_get (exprs_in (kind_of t)) i ≡ Some e → ExprProblem e q
      → StatementProblem looped t q
  in_statement : {looped : Bool} {t : Statement} {q : Problem} (i : ℕ) (s : Statement) → slice_get (statements_in (kind_of t)) i ≡ Some s
      → StatementProblem (is_loop (kind_of t) || looped) s q → StatementProblem looped t q

-- in one of some statements
abbrev pub IsInStatements : Bool → List Statement → Problem → Type 0
IsInStatements looped ts q = (i : ℕ) × (t : Statement) × (slice_get ts i ≡ Some t) × StatementProblem looped t q

abbrev pub IsInBranches : Bool → List Branch → Problem → Type 0
IsInBranches looped bs q = IsIn (tests_of bs) q ⊎ IsInStatements looped (bodies_of bs) q

-- ---- programs

-- no definition of a function is built
abbrev pub IsDefinition : List Named → Problem → Type 0
IsDefinition fs q = (i : ℕ) × (f : Named) × (slice_get fs i ≡ Some f) × (q ≡ problem f.token NotBuilt f.line)

abbrev pub IsProblemOf : List Named → List Statement → Problem → Type 0
IsProblemOf definitions ts q = IsDefinition definitions q ⊎ IsInStatements false ts q

abbrev pub IsProblem : Program → Problem → Type 0
IsProblem p q = IsProblemOf p.functions p.statements q

pub record IsClean (p : Program) : Type 0 where
  pub none : (q : Problem) → IsProblem p q → ⊥

-- The kinds in order, which tells apart two problems at one token.
abbrev pub rank : CompileKind → ℕ
rank UnknownFunction = 0
rank DefinedTwice = 1
rank BreakOutside = 2
rank NotBuilt = 3

-- Tokens are numbered in order of text. No text has two problems at one token; in trees by hand the kind decides, then the line.
abbrev pub precedes : Problem → Problem → Bool
precedes q r =
    if q.token == r.token then (if rank q.kind == rank r.kind then nat_lt q.line r.line else nat_lt (rank q.kind) (rank r.kind))
    else nat_lt q.token r.token

-- no other precedes it
pub record IsFirst (p : Program) (q : Problem) : Type 0 where
  pub found : IsProblem p q
  pub first : (other : Problem) → IsProblem p other → precedes other q ≡ false

-- ---- the same of parts

pub record IsCleanExpr (e : Expr) : Type 0 where
  pub none : (q : Problem) → ExprProblem e q → ⊥

pub record AreCleanExprs (es : List Expr) : Type 0 where
  pub none : (q : Problem) → IsIn es q → ⊥

pub record IsCleanStatement (looped : Bool) (t : Statement) : Type 0 where
  pub none : (q : Problem) → StatementProblem looped t q → ⊥

pub record AreCleanStatements (looped : Bool) (ts : List Statement) : Type 0 where
  pub none : (q : Problem) → IsInStatements looped ts q → ⊥

-- ---- the search for the first

-- this problem, or one before it
abbrev pub IsBy : Option Problem → Problem → Type 0
IsBy None q = ⊥
IsBy (Some r) q = precedes q r ≡ false

-- whether a problem stands before the one that is kept
abbrev pub is_before : Problem → Option Problem → Bool
is_before q None = true
is_before q (Some r) = precedes q r

-- the first of what was found before and of these
pub record Adds (P : Problem → Type 0) (old new : Option Problem) : Type 0 where
  pub found : (q : Problem) → new ≡ Some q → (old ≡ Some q) ⊎ P q
  pub kept : (q : Problem) → IsBy old q → IsBy new q
  pub least : (q : Problem) → P q → IsBy new q
