-- What a match leaves over.
use Rattle.std.proofs.Common.{◌≡◌, List, [], Option, refl, sym, ap, ◌∙◌}
use Rattle.std.specs.Prelude.{false}
use Rattle.uq_value.specs.Data.{Bytes}
use Rattle.jx9_syntax.specs.Trees.{ExprLayer, StatementLayer}
use Rattle.jx9_syntax.specs.declared.expression.Access.{Access}
use Rattle.jx9_syntax.specs.declared.expression.Access.TheOpen.{Node-F}
use Rattle.jx9_syntax.specs.declared.expression.Access.TheViews.{roll-out-Node, rolls-Literal, rolls-Mixed, rolls-Group, rolls-Negate, rolls-Not, rolls-Step, rolls-Or, rolls-And, rolls-Join, rolls-Chain, rolls-Cond, rolls-Var, rolls-Assign, rolls-Change}
use Rattle.jx9_syntax.specs.declared.expression.Change.{Change as How}
use Rattle.jx9_syntax.specs.declared.expression.Expr.{Expr}
use Rattle.jx9_syntax.specs.declared.expression.Link.{Link}
use Rattle.jx9_syntax.specs.declared.expression.Literal.{Literal}
use Rattle.jx9_syntax.specs.declared.expression.Node.{Node, out-Node, roll-Node}
use Rattle.jx9_syntax.specs.declared.expression.Node as node
use Rattle.jx9_syntax.specs.declared.expression.Place.{Place}
use Rattle.jx9_syntax.specs.declared.expression.Step.{Step}
use Rattle.jx9_syntax.specs.declared.parts.Part.{Part}
use Rattle.jx9_syntax.specs.declared.statement.Branch.{Branch}
use Rattle.jx9_syntax.specs.declared.statement.Kind.{Kind, out-Kind, roll-Kind}
use Rattle.jx9_syntax.specs.declared.statement.Kind as kind
use Rattle.jx9_syntax.specs.declared.statement.Kind.TheOpen.{Kind-F}
use Rattle.jx9_syntax.specs.declared.statement.Kind.TheViews.{roll-out-Kind, rolls-Block, rolls-Print, rolls-Expr, rolls-If, rolls-While, rolls-For, rolls-Return, rolls-Break, rolls-Continue}
use Rattle.jx9_syntax.specs.declared.statement.Statement.{Statement}
use Rattle.jx9_compile.specs.Problems.{is_built, exprs_within, is_built_statement, leaves_turn, exprs_in, statements_in}

node_is : (n : Node) (layer : ExprLayer) {m : Node} → out-Node n ≡ layer → roll-Node layer ≡ m → n ≡ m
node_is n layer h r = sym (roll-out-Node n) ∙ ap roll-Node h ∙ r

kind_is : (n : Kind) (layer : StatementLayer) {m : Kind} → out-Kind n ≡ layer → roll-Kind layer ≡ m → n ≡ m
kind_is n layer h r = sym (roll-out-Kind n) ∙ ap roll-Kind h ∙ r

-- a node that is not built has nothing within
module _ (n : Node) (not_literal : (l : Literal) → n ≡ node.Literal l → ⊥) (not_mixed : (ps : List Part) → n ≡ node.Mixed ps → ⊥)
    (not_variable : (name : Bytes) (steps : List Access) → n ≡ node.Var name steps → ⊥) (not_group : (e : Expr) → n ≡ node.Group e → ⊥)
    (not_negate : (e : Expr) → n ≡ node.Negate e → ⊥) (not_not : (e : Expr) → n ≡ node.Not e → ⊥) (not_step : (s : Step) (place : Place) → n ≡ node.Step s place → ⊥)
    (not_or : (e : Expr) (es : List Expr) → n ≡ node.Or e es → ⊥) (not_and : (e : Expr) (es : List Expr) → n ≡ node.And e es → ⊥) (not_join : (es : List Expr) → n ≡ node.Join es → ⊥)
    (not_chain : (e : Expr) (links : List Link) → n ≡ node.Chain e links → ⊥) (not_cond : (e f g : Expr) → n ≡ node.Cond e f g → ⊥)
    (not_assign : (place : Place) (e : Expr) → n ≡ node.Assign place e → ⊥)
    (not_change : (place : Place) (how : How) (e : Expr) → n ≡ node.Change place how e → ⊥) where
  by_layer : (layer : ExprLayer) → out-Node n ≡ layer → (is_built layer ≡ false) × (exprs_within layer ≡ [])
  by_layer (Node-F.Literal l) h = absurd (not_literal l (node_is n _ h (rolls-Literal l)))
  by_layer (Node-F.Mixed ps) h = absurd (not_mixed ps (node_is n _ h (rolls-Mixed ps)))
  by_layer (Node-F.Var name steps) h = absurd (not_variable name steps (node_is n _ h (rolls-Var name steps)))
  by_layer (Node-F.Path e steps) h = (refl, refl)
  by_layer (Node-F.Group e) h = absurd (not_group e (node_is n _ h (rolls-Group e)))
  by_layer (Node-F.List es) h = (refl, refl)
  by_layer (Node-F.Object es) h = (refl, refl)
  by_layer (Node-F.Call name es) h = (refl, refl)
  by_layer (Node-F.VarCall name es) h = (refl, refl)
  by_layer (Node-F.Lambda k) h = (refl, refl)
  by_layer (Node-F.Negate e) h = absurd (not_negate e (node_is n _ h (rolls-Negate e)))
  by_layer (Node-F.Not e) h = absurd (not_not e (node_is n _ h (rolls-Not e)))
  by_layer (Node-F.Step s place) h = absurd (not_step s place (node_is n _ h (rolls-Step s place)))
  by_layer (Node-F.Or e es) h = absurd (not_or e es (node_is n _ h (rolls-Or e es)))
  by_layer (Node-F.And e es) h = absurd (not_and e es (node_is n _ h (rolls-And e es)))
  by_layer (Node-F.Join es) h = absurd (not_join es (node_is n _ h (rolls-Join es)))
  by_layer (Node-F.Chain e links) h = absurd (not_chain e links (node_is n _ h (rolls-Chain e links)))
  by_layer (Node-F.Cond e f g) h = absurd (not_cond e f g (node_is n _ h (rolls-Cond e f g)))
  by_layer (Node-F.Assign place e) h = absurd (not_assign place e (node_is n _ h (rolls-Assign place e)))
  by_layer (Node-F.Append place e) h = (refl, refl)
  by_layer (Node-F.Change place how e) h = absurd (not_change place how e (node_is n _ h (rolls-Change place how e)))

  pub left_over : (is_built (out-Node n) ≡ false) × (exprs_within (out-Node n) ≡ [])
  left_over = by_layer (out-Node n) refl

-- the same of statements
module _ (n : Kind) (not_block : (ts : List Statement) → n ≡ kind.Block ts → ⊥) (not_print : (es : List Expr) → n ≡ kind.Print es → ⊥) (not_expr : (e : Expr) → n ≡ kind.Expr e → ⊥)
    (not_if : (bs : List Branch) (other : Option Statement) → n ≡ kind.If bs other → ⊥) (not_while : (e : Expr) (t : Statement) → n ≡ kind.While e t → ⊥)
    (not_for : (first : List Expr) (e : Option Expr) (last : List Expr) (t : Statement) → n ≡ kind.For first e last t → ⊥) (not_return : (o : Option Expr) → n ≡ kind.Return o → ⊥)
    (not_break : n ≡ kind.Break → ⊥) (not_continue : n ≡ kind.Continue → ⊥) where
  by_kind : (layer : StatementLayer) → out-Kind n ≡ layer
      → (is_built_statement layer ≡ false) × (leaves_turn layer ≡ false) × (exprs_in layer ≡ []) × (statements_in layer ≡ [])
  by_kind Kind-F.Empty h = (refl, refl, refl, refl)
  by_kind (Kind-F.Block ts) h = absurd (not_block ts (kind_is n _ h (rolls-Block ts)))
  by_kind (Kind-F.Print es) h = absurd (not_print es (kind_is n _ h (rolls-Print es)))
  by_kind (Kind-F.Expr e) h = absurd (not_expr e (kind_is n _ h (rolls-Expr e)))
  by_kind (Kind-F.If bs other) h = absurd (not_if bs other (kind_is n _ h (rolls-If bs other)))
  by_kind (Kind-F.While e t) h = absurd (not_while e t (kind_is n _ h (rolls-While e t)))
  by_kind (Kind-F.For first e last t) h = absurd (not_for first e last t (kind_is n _ h (rolls-For first e last t)))
  by_kind (Kind-F.Foreach e key name t) h = (refl, refl, refl, refl)
  by_kind (Kind-F.Return o) h = absurd (not_return o (kind_is n _ h (rolls-Return o)))
  by_kind Kind-F.Break h = absurd (not_break (kind_is n _ h rolls-Break))
  by_kind Kind-F.Continue h = absurd (not_continue (kind_is n _ h rolls-Continue))

  pub kind_left_over : (is_built_statement (out-Kind n) ≡ false) × (leaves_turn (out-Kind n) ≡ false) × (exprs_in (out-Kind n) ≡ []) × (statements_in (out-Kind n) ≡ [])
  kind_left_over = by_kind (out-Kind n) refl
