-- Trees by hand, of one line.
use Rattle.std.specs.Prelude.{ℕ, Bool, pos, List, [], ◌∷◌, map, Option, Some, None, option_map, codes}
use Prim.Native.String.{String}
use Rattle.jx9_syntax.specs.Trees.{ExprLayer, StatementLayer}
use Rattle.jx9_syntax.specs.declared.expression.Access.{Access, roll-Access}
use Rattle.jx9_syntax.specs.declared.expression.Access.TheOpen.{Node-F, Access-F}
use Rattle.jx9_syntax.specs.declared.expression.Binary.{Binary}
use Rattle.jx9_syntax.specs.declared.expression.Change.{Change}
use Rattle.jx9_syntax.specs.declared.expression.Entry.{Entry}
use Rattle.jx9_syntax.specs.declared.expression.Expr.{Expr}
use Rattle.jx9_syntax.specs.declared.expression.Link.{Link}
use Rattle.jx9_syntax.specs.declared.expression.Literal.TheVariants as literal
use Rattle.jx9_syntax.specs.declared.expression.Node.{roll-Node}
use Rattle.jx9_syntax.specs.declared.expression.Place.{Place}
use Rattle.jx9_syntax.specs.declared.expression.Step.{Step}
use Rattle.jx9_syntax.specs.declared.parts.Part.{Part}
use Rattle.jx9_syntax.specs.declared.program.Function.{Function}
use Rattle.jx9_syntax.specs.declared.program.Named.{Named}
use Rattle.jx9_syntax.specs.declared.statement.Branch.{Branch}
use Rattle.jx9_syntax.specs.declared.statement.Kind.{roll-Kind}
use Rattle.jx9_syntax.specs.declared.statement.Kind.TheOpen.{Kind-F}
use Rattle.jx9_syntax.specs.declared.statement.Statement.{Statement}

module _ (line : ℕ) where
  abbrev pub node : ExprLayer → Expr
  node layer = record { line = line; token = 0; node = roll-Node layer }

  abbrev pub statement : StatementLayer → Statement
  statement layer = record { line = line; token = 0; kind = roll-Kind layer }

  -- ---- expressions

  abbrev pub null : Expr
  null = node (Node-F.Literal literal.Null)

  abbrev pub boolean : Bool → Expr
  boolean b = node (Node-F.Literal (literal.Bool b))

  abbrev pub number : ℕ → Expr
  number n = node (Node-F.Literal (literal.Int (pos n)))

  abbrev pub text : String → Expr
  text s = node (Node-F.Literal (literal.Text (codes s)))

  abbrev pub mixed : List Part → Expr
  mixed parts = node (Node-F.Mixed parts)

  abbrev pub var : String → Expr
  var name = node (Node-F.Var (codes name) [])

  abbrev pub path : String → List Access → Expr
  path name steps = node (Node-F.Var (codes name) steps)

  abbrev pub path_of : Expr → List Access → Expr
  path_of e steps = node (Node-F.Path e steps)

  abbrev pub group : Expr → Expr
  group e = node (Node-F.Group e)

  abbrev pub list : List Expr → Expr
  list es = node (Node-F.List es)

  abbrev pub object : List Entry → Expr
  object es = node (Node-F.Object es)

  abbrev pub call : String → List Expr → Expr
  call name es = node (Node-F.Call (codes name) es)

  abbrev pub var_call : String → List Expr → Expr
  var_call name es = node (Node-F.VarCall (codes name) es)

  abbrev pub lambda : ℕ → Expr
  lambda n = node (Node-F.Lambda n)

  abbrev pub negate : Expr → Expr
  negate e = node (Node-F.Negate e)

  abbrev pub not_of : Expr → Expr
  not_of e = node (Node-F.Not e)

  abbrev pub step : Step → Place → Expr
  step s place = node (Node-F.Step s place)

  abbrev pub or_of : Expr → List Expr → Expr
  or_of e es = node (Node-F.Or e es)

  abbrev pub and_of : Expr → List Expr → Expr
  and_of e es = node (Node-F.And e es)

  abbrev pub join : List Expr → Expr
  join es = node (Node-F.Join es)

  abbrev pub chain : Expr → List Link → Expr
  chain e links = node (Node-F.Chain e links)

  -- one operator
  abbrev pub operation : Binary → Expr → Expr → Expr
  operation op a b = chain a (record { op = op; operand = b } ∷ [])

  abbrev pub cond : Expr → Expr → Expr → Expr
  cond test first second = node (Node-F.Cond test first second)

  abbrev pub assign : Place → Expr → Expr
  assign place e = node (Node-F.Assign place e)

  abbrev pub append : Place → Expr → Expr
  append place e = node (Node-F.Append place e)

  abbrev pub change : Place → Change → Expr → Expr
  change place how e = node (Node-F.Change place how e)

  -- ---- statements

  abbrev pub empty : Statement
  empty = statement Kind-F.Empty

  abbrev pub block : List Statement → Statement
  block ts = statement (Kind-F.Block ts)

  abbrev pub print : List Expr → Statement
  print es = statement (Kind-F.Print es)

  abbrev pub do_expr : Expr → Statement
  do_expr e = statement (Kind-F.Expr e)

  -- `$name = e;`
  abbrev pub set : String → Expr → Statement
  set name e = do_expr (assign (record { name = codes name; steps = [] }) e)

  abbrev pub if_of : List Branch → Option Statement → Statement
  if_of branches other = statement (Kind-F.If branches other)

  -- `if (test) then`
  abbrev pub when : Expr → Statement → Statement
  when test then = if_of (record { test = test; body = then } ∷ []) None

  abbrev pub while : Expr → Statement → Statement
  while e t = statement (Kind-F.While e t)

  abbrev pub for : List Expr → Option Expr → List Expr → Statement → Statement
  for first e last t = statement (Kind-F.For first e last t)

  abbrev pub foreach : Expr → Option String → String → Statement → Statement
  foreach e key name t = statement (Kind-F.Foreach e (option_map codes key) (codes name) t)

  abbrev pub return : Expr → Statement
  return e = statement (Kind-F.Return (Some e))

  abbrev pub return_null : Statement
  return_null = statement (Kind-F.Return None)

  abbrev pub break : Statement
  break = statement Kind-F.Break

  abbrev pub continue : Statement
  continue = statement Kind-F.Continue

  -- ---- functions

  abbrev pub function : List String → List Statement → Function
  function params ts = record { params = map codes params; body = block ts }

  abbrev pub named : String → List String → List Statement → Named
  named name params ts = record { line = line; token = 0; name = codes name; function = function params ts }

-- ---- places, steps and members

abbrev pub place : String → Place
place name = record { name = codes name; steps = [] }

abbrev pub place_at : String → List Access → Place
place_at name steps = record { name = codes name; steps = steps }

abbrev pub member : String → Access
member name = roll-Access (Access-F.Member (codes name))

abbrev pub index : Expr → Access
index e = roll-Access (Access-F.Index e)

abbrev pub entry : String → Expr → Entry
entry name e = record { name = codes name; value = e }

abbrev pub branch : Expr → Statement → Branch
branch test body = record { test = test; body = body }

abbrev pub link : Binary → Expr → Link
link op e = record { op = op; operand = e }
