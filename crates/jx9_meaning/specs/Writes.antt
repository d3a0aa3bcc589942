-- Which variables an expression may write itself. What it calls has variables of its own.
use Rattle.std.specs.Prelude.{ℕ, zero, suc, Bool, true, false, ◌||◌, List, ◌∷◌}
use Rattle.std.specs.List.{list_any}
use Rattle.std.specs.Str.{bytes_eq}
use Rattle.uq_value.specs.Data.{Bytes}
use Rattle.jx9_syntax.specs.Trees.{ExprLayer, AccessLayer, node_of, access_of}
use Rattle.jx9_syntax.specs.declared.expression.Access.{Access}
use Rattle.jx9_syntax.specs.declared.expression.Access.TheOpen.{Node-F, Access-F}
use Rattle.jx9_syntax.specs.declared.expression.Expr.{Expr}
use Rattle.jx9_syntax.specs.declared.expression.Place.{Place}

-- where `writes` tells it of the expressions within
module _ (writes : Expr → Bool) (name : Bytes) where
  abbrev pub access_writes : AccessLayer → Bool
  access_writes (Access-F.Member other) = false
  access_writes (Access-F.Index e) = writes e

  abbrev pub steps_write : List Access → Bool
  steps_write steps = list_any (λ a. access_writes (access_of a)) steps

  abbrev pub place_writes : Place → Bool
  place_writes place = bytes_eq name place.name || steps_write place.steps

  abbrev pub node_writes : ExprLayer → Bool
  node_writes (Node-F.Literal l) = false
  node_writes (Node-F.Mixed parts) = false
  node_writes (Node-F.Var other steps) = steps_write steps
  node_writes (Node-F.Path e steps) = writes e || steps_write steps
  node_writes (Node-F.Group e) = writes e
  node_writes (Node-F.List es) = list_any writes es
  node_writes (Node-F.Object es) = list_any (λ e. writes e.value) es
  node_writes (Node-F.Call other es) = list_any writes es
  node_writes (Node-F.VarCall other es) = list_any writes es
  node_writes (Node-F.Lambda n) = false
  node_writes (Node-F.Negate e) = writes e
  node_writes (Node-F.Not e) = writes e
  node_writes (Node-F.Step s place) = place_writes place
  node_writes (Node-F.Or e es) = list_any writes (e ∷ es)
  node_writes (Node-F.And e es) = list_any writes (e ∷ es)
  node_writes (Node-F.Join es) = list_any writes es
  node_writes (Node-F.Chain e links) = writes e || list_any (λ l. writes l.operand) links
  node_writes (Node-F.Cond test first second) = writes test || (writes first || writes second)
  node_writes (Node-F.Assign place e) = place_writes place || writes e
  node_writes (Node-F.Append place e) = place_writes place || writes e
  node_writes (Node-F.Change place how e) = place_writes place || writes e

-- Some place within so many levels of the tree is in this variable. Further down any may be.
unfoldable pub may_write : ℕ → Bytes → Expr → Bool
may_write zero name e = true
may_write (suc k) name e = node_writes (may_write k name) name (node_of e)
