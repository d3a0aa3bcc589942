-- What each node of an expression does with more units.
use Rattle.std.proofs.Common.{ℕ, List, [], ◌∷◌}
use Rattle.std.specs.Prelude.{Bool, true, false, pos}
use Rattle.uq_value.specs.Number.{number}
use Rattle.uq_value.specs.Put.{put}
use Rattle.uq_value.specs.Same.{alike}
use Rattle.uq_value.specs.Truth.{truth}
use Rattle.uq_value.specs.declared.step.Step.{Step as ValueStep}
use Rattle.uq_value.specs.declared.value.Value.{Value}
use Rattle.jx9_syntax.specs.Trees.{ExprLayer, AccessLayer, node_of, access_of}
use Rattle.jx9_syntax.specs.declared.expression.Access.{Access}
use Rattle.jx9_syntax.specs.declared.expression.Access.TheOpen.{Node-F, Access-F}
use Rattle.jx9_syntax.specs.declared.expression.Change.{Change}
use Rattle.jx9_syntax.specs.declared.expression.Change.TheVariants.{By, Join}
use Rattle.jx9_syntax.specs.declared.expression.Entry.{Entry}
use Rattle.jx9_syntax.specs.declared.expression.Expr.{Expr}
use Rattle.jx9_syntax.specs.declared.expression.Link.{Link}
use Rattle.jx9_syntax.specs.declared.expression.Place.{Place}
use Rattle.jx9_syntax.specs.declared.expression.Step.{Step}
use Rattle.jx9_syntax.specs.declared.parts.Part.{Part}
use Rattle.jx9_syntax.specs.declared.parts.Part.TheVariants as part
use Rattle.jx9_meaning.specs.Expression.{part_value, read_place, write_place, operation, change_units, stepped, shown, value_at, access_step, place_steps, path_step, entry, link, deciding, step, assign, append_to, change, choice, value_of, evaluated}
use Rattle.jx9_meaning.specs.Meaning.{Meaning}
use Rattle.jx9_meaning.specs.Operators.{operate}
use Rattle.jx9_meaning.specs.declared.fault.FaultKind.TheVariants.{NotNumber}
use Rattle.jx9_meaning.proofs.Budgets.{Scales, scales_then, scales_pure, scales_some, scales_ok, scales_put, scales_read, scales_write, scales_take, scales_fits, scales_sized, scales_each, scales_through, scales_if}

module _ (k : ℕ) where
  scales_part : (x : Part) → Scales k (part_value x) (part_value x)
  scales_part (part.Text bs) = scales_pure k _
  scales_part (part.Var name) = scales_read k name

  scales_read_place : (place : Place) (ks : List ValueStep) → Scales k (read_place place ks) (read_place place ks)
  scales_read_place place ks = scales_then k _ _ _ _ (scales_read k place.name) (λ v. scales_pure k (value_at v ks))

  scales_write_place : (line : ℕ) (place : Place) (ks : List ValueStep) (v : Value) → Scales k (write_place line place ks v) (write_place line place ks v)
  unfolding write_place
  scales_write_place line place ks v =
      scales_then k _ _ _ _ (scales_read k place.name) (λ root. scales_then k _ _ _ _ (scales_put k line (put root ks v)) (λ c. scales_then k _ _ _ _ (scales_write k place.name c) (λ _. scales_pure k v)))

  scales_operation : (line : ℕ) (old : Value) (how : Change) (v : Value) → Scales k (operation line old how v) (operation line old how v)
  scales_operation line old (By op) v = scales_ok k line _
  scales_operation line old Join v = scales_fits k line _

module _ (k : ℕ) (expr expr_more : Expr → Meaning Value) (calls calls_more : ℕ → Value → List Value → Meaning Value) (he : (e : Expr) → Scales k (expr e) (expr_more e)) (hc : (line : ℕ) (f : Value) (vs : List Value) → Scales k (calls line f vs) (calls_more line f vs)) where
  scales_key : (a : AccessLayer) → Scales k (access_step expr calls a) (access_step expr_more calls_more a)
  scales_key (Access-F.Member name) = scales_pure k _
  scales_key (Access-F.Index e) = scales_then k _ _ _ _ (he e) (λ x. scales_pure k _)

  scales_keys : (place : Place) → Scales k (place_steps expr calls place) (place_steps expr_more calls_more place)
  unfolding place_steps
  scales_keys place = scales_each k _ _ (λ a. scales_key (access_of a)) place.steps

  scales_path : (v : Value) (a : Access) → Scales k (path_step expr calls v a) (path_step expr_more calls_more v a)
  unfolding path_step
  scales_path v a = scales_then k _ _ _ _ (scales_key (access_of a)) (λ step. scales_pure k _)

  scales_entry : (e : Entry) → Scales k (entry expr calls e) (entry expr_more calls_more e)
  unfolding entry
  scales_entry e = scales_then k _ _ _ _ (he e.value) (λ v. scales_pure k _)

  scales_link : (line : ℕ) (v : Value) (l : Link) → Scales k (link expr calls line v l) (link expr_more calls_more line v l)
  unfolding link
  scales_link line v l = scales_then k _ _ _ _ (he l.operand) (λ b. scales_ok k line _)

  scales_deciding : (b : Bool) (es : List Expr) → Scales k (deciding expr calls b es) (deciding expr_more calls_more b es)
  scales_deciding b [] = scales_pure k _
  scales_deciding b (e ∷ es) = scales_then k _ _ _ _ (he e) (λ v. scales_if k (alike (truth v) b) _ _ _ _ (scales_pure k _) (scales_deciding b es))

  scales_step : (line : ℕ) (s : Step) (place : Place) → Scales k (step expr calls line s place) (step expr_more calls_more line s place)
  unfolding step
  scales_step line s place =
      scales_then k _ _ _ _ (scales_keys place) (λ ks. scales_then k _ _ _ _ (scales_read_place k place ks) (λ v. scales_then k _ _ _ _ (scales_some k line NotNumber (number v)) (λ old.
      scales_then k _ _ _ _ (scales_ok k line (operate (stepped s) (Value.Int old) (Value.Int (pos 1)))) (λ new. scales_then k _ _ _ _ (scales_write_place k line place ks new) (λ _. scales_pure k (shown s (Value.Int old) new))))))

  scales_assign : (line : ℕ) (place : Place) (e : Expr) → Scales k (assign expr calls line place e) (assign expr_more calls_more line place e)
  unfolding assign
  scales_assign line place e = scales_then k _ _ _ _ (scales_keys place) (λ ks. scales_then k _ _ _ _ (he e) (λ v. scales_write_place k line place ks v))

  scales_append : (line : ℕ) (place : Place) (e : Expr) → Scales k (append_to expr calls line place e) (append_to expr_more calls_more line place e)
  unfolding append_to
  scales_append line place e = scales_then k _ _ _ _ (scales_keys place) (λ ks. scales_then k _ _ _ _ (he e) (λ v. scales_write_place k line place _ v))

  scales_change : (line : ℕ) (place : Place) (how : Change) (e : Expr) → Scales k (change expr calls line place how e) (change expr_more calls_more line place how e)
  unfolding change
  scales_change line place how e =
      scales_then k _ _ _ _ (scales_keys place) (λ ks. scales_then k _ _ _ _ (he e) (λ b. scales_then k _ _ _ _ (scales_read_place k place ks) (λ old.
      scales_then k _ _ _ _ (scales_operation k line old how b) (λ new. scales_then k _ _ _ _ (scales_write_place k line place ks new) (λ _. scales_then k _ _ _ _ (scales_take k (change_units how new)) (λ _. scales_pure k new))))))

  scales_choice : (a b c : Expr) → Scales k (choice expr calls a b c) (choice expr_more calls_more a b c)
  unfolding choice
  scales_choice a b c = scales_then k _ _ _ _ (he a) (λ v. scales_if k (truth v) _ _ _ _ (he b) (he c))

  -- only a call may owe an event
  scales_value : (line : ℕ) (layer : ExprLayer) → Scales k (value_of expr calls line layer) (value_of expr_more calls_more line layer)
  scales_value line (Node-F.Literal l) = (scales_pure k _)
  scales_value line (Node-F.Mixed parts) = (scales_then k _ _ _ _ (scales_each k _ _ (scales_part k) parts) (λ vs. scales_sized k line _))
  scales_value line (Node-F.Var name steps) = (scales_then k _ _ _ _ (scales_read k name) (λ v. scales_through k _ _ scales_path v steps))
  scales_value line (Node-F.Path e steps) = (scales_then k _ _ _ _ (he e) (λ v. scales_through k _ _ scales_path v steps))
  scales_value line (Node-F.Group e) = (he e)
  scales_value line (Node-F.List es) = (scales_then k _ _ _ _ (scales_each k _ _ he es) (λ vs. scales_sized k line _))
  scales_value line (Node-F.Object es) = (scales_then k _ _ _ _ (scales_each k _ _ scales_entry es) (λ ms. scales_sized k line _))
  scales_value line (Node-F.Call name es) = scales_then k _ _ _ _ (scales_each k _ _ he es) (λ vs. hc line _ vs)
  scales_value line (Node-F.VarCall name es) = scales_then k _ _ _ _ (scales_read k name) (λ f. scales_then k _ _ _ _ (scales_each k _ _ he es) (λ vs. hc line f vs))
  scales_value line (Node-F.Lambda lambda) = (scales_pure k _)
  scales_value line (Node-F.Negate e) = (scales_then k _ _ _ _ (he e) (λ v. scales_ok k line _))
  scales_value line (Node-F.Not e) = (scales_then k _ _ _ _ (he e) (λ v. scales_pure k _))
  scales_value line (Node-F.Step s place) = (scales_step line s place)
  scales_value line (Node-F.Or e es) = (scales_deciding true (e ∷ es))
  scales_value line (Node-F.And e es) = (scales_deciding false (e ∷ es))
  scales_value line (Node-F.Join es) = (scales_then k _ _ _ _ (scales_each k _ _ he es) (λ vs. scales_sized k line _))
  scales_value line (Node-F.Chain e links) = (scales_then k _ _ _ _ (he e) (λ v. scales_through k _ _ (scales_link line) v links))
  scales_value line (Node-F.Cond a b c) = (scales_choice a b c)
  scales_value line (Node-F.Assign place e) = (scales_assign line place e)
  scales_value line (Node-F.Append place e) = (scales_append line place e)
  scales_value line (Node-F.Change place how e) = (scales_change line place how e)

  pub scales_expr : (e : Expr) → Scales k (evaluated expr calls e) (evaluated expr_more calls_more e)
  unfolding evaluated
  scales_expr e = scales_then k _ _ _ _ (scales_take k 1) (λ _. scales_value e.line (node_of e))
