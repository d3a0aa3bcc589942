-- How deep trees are nested, one case for each row of the table: what is within a construct has one level less.
use Rattle.std.specs.Prelude.{◌≡◌, ℕ, zero, suc, List, [], ◌∷◌, Option, Some, None, slice_get}
use Rattle.uq_value.specs.Data.{Bytes}
use Rattle.jx9_syntax.specs.Trees.{node_of, access_of, kind_of}
use Rattle.jx9_syntax.specs.declared.expression.Access.{Access}
use Rattle.jx9_syntax.specs.declared.expression.Access.TheOpen.{Node-F, Access-F}
use Rattle.jx9_syntax.specs.declared.expression.Change.{Change as Operation}
use Rattle.jx9_syntax.specs.declared.expression.Entry.{Entry}
use Rattle.jx9_syntax.specs.declared.expression.Expr.{Expr}
use Rattle.jx9_syntax.specs.declared.expression.Link.{Link}
use Rattle.jx9_syntax.specs.declared.expression.Literal.{Literal}
use Rattle.jx9_syntax.specs.declared.expression.Place.{Place}
use Rattle.jx9_syntax.specs.declared.expression.Step.{Step}
use Rattle.jx9_syntax.specs.declared.parts.Part.{Part}
use Rattle.jx9_syntax.specs.declared.program.Function.{Function}
use Rattle.jx9_syntax.specs.declared.program.Named.{Named}
use Rattle.jx9_syntax.specs.declared.statement.Branch.{Branch}
use Rattle.jx9_syntax.specs.declared.statement.Kind.TheOpen.{Kind-F}
use Rattle.jx9_syntax.specs.declared.statement.Statement.{Statement}

-- the limit of a program
abbrev pub most_nesting : ℕ
most_nesting = 200

-- the nesting is at most the number; the block of a lambda is found in the table
mutual
  pub data ExprFits (lambdas : List Function) : ℕ → Expr → Type 0 where
    literal : {k : ℕ} {e : Expr} (l : Literal) → node_of e ≡ Node-F.Literal l → ExprFits lambdas (suc k) e
    mixed : {k : ℕ} {e : Expr} (ps : List Part) → node_of e ≡ Node-F.Mixed ps → ExprFits lambdas (suc k) e
    var : {k : ℕ} {e : Expr} (name : Bytes) (steps : List Access) → node_of e ≡ Node-F.Var name steps → StepsFit lambdas (suc k) steps → ExprFits lambdas (suc k) e
    path : {k : ℕ} {e : Expr} (first : Expr) (steps : List Access) → node_of e ≡ Node-F.Path first steps → ExprFits lambdas (suc k) first → StepsFit lambdas (suc k) steps → ExprFits lambdas (suc k) e
    group : {k : ℕ} {e : Expr} (inner : Expr) → node_of e ≡ Node-F.Group inner → ExprFits lambdas k inner → ExprFits lambdas (suc k) e
    list : {k : ℕ} {e : Expr} (es : List Expr) → node_of e ≡ Node-F.List es → ExprsFit lambdas k es → ExprFits lambdas (suc k) e
    object : {k : ℕ} {e : Expr} (ms : List Entry) → node_of e ≡ Node-F.Object ms → EntriesFit lambdas k ms → ExprFits lambdas (suc k) e
    call : {k : ℕ} {e : Expr} (name : Bytes) (es : List Expr) → node_of e ≡ Node-F.Call name es → ExprsFit lambdas k es → ExprFits lambdas (suc k) e
    var_call : {k : ℕ} {e : Expr} (name : Bytes) (es : List Expr) → node_of e ≡ Node-F.VarCall name es → ExprsFit lambdas k es → ExprFits lambdas (suc k) e
    lambda : {k : ℕ} {e : Expr} (n : ℕ) (f : Function) → node_of e ≡ Node-F.Lambda (suc n) → slice_get lambdas n ≡ Some f → StatementFits lambdas k f.body → ExprFits lambdas (suc k) e
    negate : {k : ℕ} {e : Expr} (inner : Expr) → node_of e ≡ Node-F.Negate inner → ExprFits lambdas k inner → ExprFits lambdas (suc k) e
    not_of : {k : ℕ} {e : Expr} (inner : Expr) → node_of e ≡ Node-F.Not inner → ExprFits lambdas k inner → ExprFits lambdas (suc k) e
    step : {k : ℕ} {e : Expr} (s : Step) (p : Place) → node_of e ≡ Node-F.Step s p → StepsFit lambdas (suc k) p.steps → ExprFits lambdas (suc k) e
    either : {k : ℕ} {e : Expr} (first : Expr) (es : List Expr) → node_of e ≡ Node-F.Or first es → ExprFits lambdas (suc k) first → ExprsFit lambdas (suc k) es → ExprFits lambdas (suc k) e
    both : {k : ℕ} {e : Expr} (first : Expr) (es : List Expr) → node_of e ≡ Node-F.And first es → ExprFits lambdas (suc k) first → ExprsFit lambdas (suc k) es → ExprFits lambdas (suc k) e
    joined : {k : ℕ} {e : Expr} (es : List Expr) → node_of e ≡ Node-F.Join es → ExprsFit lambdas (suc k) es → ExprFits lambdas (suc k) e
    chain : {k : ℕ} {e : Expr} (first : Expr) (ls : List Link) → node_of e ≡ Node-F.Chain first ls → ExprFits lambdas (suc k) first → LinksFit lambdas (suc k) ls → ExprFits lambdas (suc k) e
    cond : {k : ℕ} {e : Expr} (test first second : Expr) → node_of e ≡ Node-F.Cond test first second → ExprFits lambdas (suc k) test → ExprFits lambdas k first → ExprFits lambdas k second → ExprFits lambdas (suc k) e
    assign : {k : ℕ} {e : Expr} (p : Place) (v : Expr) → node_of e ≡ Node-F.Assign p v → StepsFit lambdas (suc k) p.steps → ExprFits lambdas k v → ExprFits lambdas (suc k) e
    append : {k : ℕ} {e : Expr} (p : Place) (v : Expr) → node_of e ≡ Node-F.Append p v → StepsFit lambdas (suc k) p.steps → ExprFits lambdas k v → ExprFits lambdas (suc k) e
    change : {k : ℕ} {e : Expr} (p : Place) (c : Operation) (v : Expr) → node_of e ≡ Node-F.Change p c v → StepsFit lambdas (suc k) p.steps → ExprFits lambdas k v → ExprFits lambdas (suc k) e

  pub data ExprsFit (lambdas : List Function) : ℕ → List Expr → Type 0 where
    no_exprs : {k : ℕ} → ExprsFit lambdas k []
    expr : {k : ℕ} {e : Expr} {es : List Expr} → ExprFits lambdas k e → ExprsFit lambdas k es → ExprsFit lambdas k (e ∷ es)

  pub data StepsFit (lambdas : List Function) : ℕ → List Access → Type 0 where
    no_steps : {k : ℕ} → StepsFit lambdas k []
    member : {k : ℕ} {a : Access} {steps : List Access} (name : Bytes) → access_of a ≡ Access-F.Member name → StepsFit lambdas k steps → StepsFit lambdas k (a ∷ steps)
    index : {k : ℕ} {a : Access} {steps : List Access} (e : Expr) → access_of a ≡ Access-F.Index e → ExprFits lambdas k e → StepsFit lambdas (suc k) steps → StepsFit lambdas (suc k) (a ∷ steps)

  pub data EntriesFit (lambdas : List Function) : ℕ → List Entry → Type 0 where
    no_entries : {k : ℕ} → EntriesFit lambdas k []
    entry : {k : ℕ} {m : Entry} {ms : List Entry} → ExprFits lambdas k m.value → EntriesFit lambdas k ms → EntriesFit lambdas k (m ∷ ms)

  pub data LinksFit (lambdas : List Function) : ℕ → List Link → Type 0 where
    no_links : {k : ℕ} → LinksFit lambdas k []
    link : {k : ℕ} {l : Link} {ls : List Link} → ExprFits lambdas k l.operand → LinksFit lambdas k ls → LinksFit lambdas k (l ∷ ls)

  pub data StatementFits (lambdas : List Function) : ℕ → Statement → Type 0 where
    empty : {k : ℕ} {s : Statement} → kind_of s ≡ Kind-F.Empty → StatementFits lambdas (suc k) s
    block : {k : ℕ} {s : Statement} (ss : List Statement) → kind_of s ≡ Kind-F.Block ss → StatementsFit lambdas k ss → StatementFits lambdas (suc k) s
    print : {k : ℕ} {s : Statement} (es : List Expr) → kind_of s ≡ Kind-F.Print es → ExprsFit lambdas k es → StatementFits lambdas k s
    of_expr : {k : ℕ} {s : Statement} (e : Expr) → kind_of s ≡ Kind-F.Expr e → ExprFits lambdas k e → StatementFits lambdas k s
    if_else : {k : ℕ} {s : Statement} (bs : List Branch) (other : Statement) → kind_of s ≡ Kind-F.If bs (Some other) → BranchesFit lambdas k bs → StatementFits lambdas k other → StatementFits lambdas (suc k) s
    if_alone : {k : ℕ} {s : Statement} (bs : List Branch) → kind_of s ≡ Kind-F.If bs None → BranchesFit lambdas k bs → StatementFits lambdas (suc k) s
    while : {k : ℕ} {s : Statement} (e : Expr) (body : Statement) → kind_of s ≡ Kind-F.While e body → ExprFits lambdas k e → StatementFits lambdas k body → StatementFits lambdas (suc k) s
    for_test : {k : ℕ} {s : Statement} (first last : List Expr) (e : Expr) (body : Statement) → kind_of s ≡ Kind-F.For first (Some e) last body → ExprsFit lambdas k first → ExprFits lambdas k e → ExprsFit lambdas k last
        → StatementFits lambdas k body → StatementFits lambdas (suc k) s
    for_ever : {k : ℕ} {s : Statement} (first last : List Expr) (body : Statement) → kind_of s ≡ Kind-F.For first None last body → ExprsFit lambdas k first → ExprsFit lambdas k last → StatementFits lambdas k body
        → StatementFits lambdas (suc k) s
    foreach : {k : ℕ} {s : Statement} (e : Expr) (key : Option Bytes) (value : Bytes) (body : Statement) → kind_of s ≡ Kind-F.Foreach e key value body → ExprFits lambdas k e → StatementFits lambdas k body → StatementFits lambdas (suc k) s
    return : {k : ℕ} {s : Statement} → kind_of s ≡ Kind-F.Return None → StatementFits lambdas (suc k) s
    return_of : {k : ℕ} {s : Statement} (e : Expr) → kind_of s ≡ Kind-F.Return (Some e) → ExprFits lambdas k e → StatementFits lambdas k s
    break : {k : ℕ} {s : Statement} → kind_of s ≡ Kind-F.Break → StatementFits lambdas (suc k) s
    continue : {k : ℕ} {s : Statement} → kind_of s ≡ Kind-F.Continue → StatementFits lambdas (suc k) s

  pub data StatementsFit (lambdas : List Function) : ℕ → List Statement → Type 0 where
    no_statements : {k : ℕ} → StatementsFit lambdas k []
    statement : {k : ℕ} {s : Statement} {ss : List Statement} → StatementFits lambdas k s → StatementsFit lambdas k ss → StatementsFit lambdas k (s ∷ ss)

  pub data BranchesFit (lambdas : List Function) : ℕ → List Branch → Type 0 where
    no_branches : {k : ℕ} → BranchesFit lambdas k []
    branch : {k : ℕ} {b : Branch} {bs : List Branch} → ExprFits lambdas k b.test → StatementFits lambdas k b.body → BranchesFit lambdas k bs → BranchesFit lambdas k (b ∷ bs)

-- a definition has one level more than its block
abbrev pub FunctionsFit : List Function → ℕ → List Named → Type 0
FunctionsFit lambdas k [] = Unit {0}
FunctionsFit lambdas zero (f ∷ fs) = ⊥
FunctionsFit lambdas (suc k) (f ∷ fs) = StatementFits lambdas k f.function.body × FunctionsFit lambdas (suc k) fs

pub record ProgramFits (k : ℕ) (functions : List Named) (lambdas : List Function) (statements : List Statement) : Type 0 where
  pub functions_fit : FunctionsFit lambdas k functions
  pub statements_fit : StatementsFit lambdas k statements
