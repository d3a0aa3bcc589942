-- A tree is deeper than what stands within it.
use Rattle.std.proofs.Common.{◌≡◌, ℕ, zero, suc, ◌<◌, ◌≤◌, List, [], ◌∷◌, ◌++◌, Some, None, ap, arith}
use Rattle.std.specs.Prelude.{max, slice_get}
use Rattle.std.proofs.lemmas.Option.{same_Some, slice_get_within}
use denote.Hole.Carrier.{Values}
use denote.Param.Weighed.{most}
use Rattle.jx9_syntax.specs.Trees.{ExprLayer, StatementLayer, node_of, kind_of}
use Rattle.jx9_syntax.specs.declared.expression.Access.TheBlock as expr_block
use Rattle.jx9_syntax.specs.declared.expression.Access.TheOpen.{Node-F}
use Rattle.jx9_syntax.specs.declared.expression.Expr.{Expr, size-Expr, size_is-Expr}
use Rattle.jx9_syntax.specs.declared.expression.Link.{Link, size-Link, size_is-Link}
use Rattle.jx9_syntax.specs.declared.expression.Node.{size-Node, size_is-Node}
use Rattle.jx9_syntax.specs.declared.statement.Branch.{Branch, size-Branch, size_is-Branch}
use Rattle.jx9_syntax.specs.declared.statement.Kind.{size-Kind, size_is-Kind}
use Rattle.jx9_syntax.specs.declared.statement.Kind.TheBlock as statement_block
use Rattle.jx9_syntax.specs.declared.statement.Kind.TheOpen.{Kind-F}
use Rattle.jx9_syntax.specs.declared.statement.Statement.{Statement, size-Statement, size_is-Statement}
use Rattle.jx9_compile.specs.Problems.{exprs_within, operands_of, statements_in, bodies_of}

none_there : {A : Type 0} {P : Type 0} (i : ℕ) (x : A) → slice_get [] i ≡ Some x → P
none_there i x h = absurd (omega (arith, slice_get_within [] i x h))

most_bounds : {A : Type 0} (μ : A → ℕ) (xs : List A) (i : ℕ) (x : A) → slice_get xs i ≡ Some x → μ x ≤ most μ xs
most_bounds μ [] i x h = none_there i x h
most_bounds μ (y ∷ ys) zero x h = let e : μ y ≡ μ x = ap μ (same_Some y x h) in omega (arith, e)
most_bounds μ (y ∷ ys) (suc i) x h = let more = most_bounds μ ys i x h in omega (arith, more)

-- ---- expressions

node_less : (e : Expr) → size-Node e.node < size-Expr e
node_less e = let s = size_is-Expr e in omega (arith, s)

operand_less : (l : Link) → size-Expr l.operand < size-Link l
operand_less l = let s = size_is-Link l in omega (arith, s)

abbrev layer_size : ExprLayer → ℕ
layer_size layer = expr_block.weighs-Node.weight (Values expr_block.the_members expr_block.the_sigs expr_block.the_carrier) expr_block.the_depth layer

in_one : (e : Expr) (i : ℕ) (inner : Expr) → slice_get (e ∷ []) i ≡ Some inner → size-Expr inner ≤ size-Expr e
in_one e i inner h = let most = most_bounds size-Expr (e ∷ []) i inner h in omega (arith, most)

in_operands : (links : List Link) (i : ℕ) (inner : Expr) → slice_get (operands_of links) i ≡ Some inner → size-Expr inner ≤ most size-Link links
in_operands [] i inner h = none_there i inner h
in_operands (l ∷ links) zero inner h = let e : size-Expr l.operand ≡ size-Expr inner = ap size-Expr (same_Some l.operand inner h) in let less = operand_less l in omega (arith, e, less)
in_operands (l ∷ links) (suc i) inner h = let more = in_operands links i inner h in omega (arith, more)

within_less : (layer : ExprLayer) (i : ℕ) (inner : Expr) → slice_get (exprs_within layer) i ≡ Some inner → size-Expr inner ≤ layer_size layer
within_less (Node-F.Literal l) i inner h = none_there i inner h
within_less (Node-F.Mixed parts) i inner h = none_there i inner h
within_less (Node-F.Var name steps) i inner h = none_there i inner h
within_less (Node-F.Path e steps) i inner h = none_there i inner h
within_less (Node-F.Group e) i inner h = let one = in_one e i inner h in omega (arith, one)
within_less (Node-F.List es) i inner h = none_there i inner h
within_less (Node-F.Object es) i inner h = none_there i inner h
within_less (Node-F.Call name es) i inner h = none_there i inner h
within_less (Node-F.VarCall name es) i inner h = none_there i inner h
within_less (Node-F.Lambda n) i inner h = none_there i inner h
within_less (Node-F.Negate e) i inner h = let one = in_one e i inner h in omega (arith, one)
within_less (Node-F.Not e) i inner h = let one = in_one e i inner h in omega (arith, one)
within_less (Node-F.Step s place) i inner h = none_there i inner h
within_less (Node-F.Or e es) i inner h = let all = most_bounds size-Expr (e ∷ es) i inner h in omega (arith, all)
within_less (Node-F.And e es) i inner h = let all = most_bounds size-Expr (e ∷ es) i inner h in omega (arith, all)
within_less (Node-F.Join es) i inner h = let all = most_bounds size-Expr es i inner h in omega (arith, all)
within_less (Node-F.Chain e links) zero inner h = let s : size-Expr e ≡ size-Expr inner = ap size-Expr (same_Some e inner h) in omega (arith, s)
within_less (Node-F.Chain e links) (suc i) inner h = let more = in_operands links i inner h in omega (arith, more)
within_less (Node-F.Cond test first second) i inner h = let all = most_bounds size-Expr (test ∷ first ∷ second ∷ []) i inner h in omega (arith, all)
within_less (Node-F.Assign place e) i inner h = let one = in_one e i inner h in omega (arith, one)
within_less (Node-F.Append place e) i inner h = none_there i inner h
within_less (Node-F.Change place how e) i inner h = let one = in_one e i inner h in omega (arith, one)

pub expr_less : (e : Expr) (i : ℕ) (inner : Expr) → slice_get (exprs_within (node_of e)) i ≡ Some inner → size-Expr inner < size-Expr e
expr_less e i inner h =
    let least = within_less (node_of e) i inner h in let layer = size_is-Node e.node in let node = node_less e in omega (arith, least, layer, node)

-- ---- statements

kind_less : (t : Statement) → size-Kind t.kind < size-Statement t
kind_less t = let s = size_is-Statement t in omega (arith, s)

body_less : (b : Branch) → size-Statement b.body < size-Branch b
body_less b = let s = size_is-Branch b in omega (arith, s)

abbrev kind_size : StatementLayer → ℕ
kind_size layer = statement_block.weighs-Kind.weight (Values statement_block.the_members statement_block.the_sigs statement_block.the_carrier) statement_block.the_depth layer

in_bodies : (bs : List Branch) (i : ℕ) (inner : Statement) → slice_get (bodies_of bs) i ≡ Some inner → size-Statement inner ≤ most size-Branch bs
in_bodies [] i inner h = none_there i inner h
in_bodies (b ∷ bs) zero inner h = let e : size-Statement b.body ≡ size-Statement inner = ap size-Statement (same_Some b.body inner h) in let less = body_less b in omega (arith, e, less)
in_bodies (b ∷ bs) (suc i) inner h = let more = in_bodies bs i inner h in omega (arith, more)

in_either : (bs : List Branch) (others : List Statement) (i : ℕ) (inner : Statement) → slice_get (bodies_of bs ++ others) i ≡ Some inner
    → size-Statement inner ≤ max (most size-Branch bs) (most size-Statement others)
in_either [] others i inner h = let all = most_bounds size-Statement others i inner h in omega (arith, all)
in_either (b ∷ bs) others zero inner h = let e : size-Statement b.body ≡ size-Statement inner = ap size-Statement (same_Some b.body inner h) in let less = body_less b in omega (arith, e, less)
in_either (b ∷ bs) others (suc i) inner h = let more = in_either bs others i inner h in omega (arith, more)

inside_less : (layer : StatementLayer) (i : ℕ) (inner : Statement) → slice_get (statements_in layer) i ≡ Some inner → size-Statement inner ≤ kind_size layer
inside_less Kind-F.Empty i inner h = none_there i inner h
inside_less (Kind-F.Block ts) i inner h = let all = most_bounds size-Statement ts i inner h in omega (arith, all)
inside_less (Kind-F.Print es) i inner h = none_there i inner h
inside_less (Kind-F.Expr e) i inner h = none_there i inner h
inside_less (Kind-F.If bs None) i inner h = let all = in_either bs [] i inner h in omega (arith, all)
inside_less (Kind-F.If bs (Some other)) i inner h = let all = in_either bs (other ∷ []) i inner h in omega (arith, all)
inside_less (Kind-F.While e t) i inner h = let all = most_bounds size-Statement (t ∷ []) i inner h in omega (arith, all)
inside_less (Kind-F.For first e last t) i inner h = let all = most_bounds size-Statement (t ∷ []) i inner h in omega (arith, all)
inside_less (Kind-F.Foreach e key name t) i inner h = none_there i inner h
inside_less (Kind-F.Return e) i inner h = none_there i inner h
inside_less Kind-F.Break i inner h = none_there i inner h
inside_less Kind-F.Continue i inner h = none_there i inner h

pub statement_less : (t : Statement) (i : ℕ) (inner : Statement) → slice_get (statements_in (kind_of t)) i ≡ Some inner → size-Statement inner < size-Statement t
statement_less t i inner h =
    let least = inside_less (kind_of t) i inner h in let layer = size_is-Kind t.kind in let kind = kind_less t in omega (arith, least, layer, kind)
