-- One level of a tree.
use Rattle.jx9_syntax.specs.declared.expression.Access.{Access, out-Access}
use Rattle.jx9_syntax.specs.declared.expression.Access.TheOpen.{Node-F, Access-F}
use Rattle.jx9_syntax.specs.declared.expression.Entry.{Entry}
use Rattle.jx9_syntax.specs.declared.expression.Expr.{Expr}
use Rattle.jx9_syntax.specs.declared.expression.Link.{Link}
use Rattle.jx9_syntax.specs.declared.expression.Node.{Node, out-Node}
use Rattle.jx9_syntax.specs.declared.expression.Place.{Place}
use Rattle.jx9_syntax.specs.declared.statement.Branch.{Branch}
use Rattle.jx9_syntax.specs.declared.statement.Kind.{Kind, out-Kind}
use Rattle.jx9_syntax.specs.declared.statement.Kind.TheOpen.{Kind-F}
use Rattle.jx9_syntax.specs.declared.statement.Statement.{Statement}

abbrev pub ExprLayer : Type 0
ExprLayer = Node-F Access Node Entry Expr Link Place

abbrev pub AccessLayer : Type 0
AccessLayer = Access-F Access Node Entry Expr Link Place

abbrev pub StatementLayer : Type 0
StatementLayer = Kind-F Kind Branch Statement

abbrev pub node_of : Expr → ExprLayer
node_of e = out-Node e.node

abbrev pub access_of : Access → AccessLayer
access_of a = out-Access a

abbrev pub kind_of : Statement → StatementLayer
kind_of s = out-Kind s.kind
