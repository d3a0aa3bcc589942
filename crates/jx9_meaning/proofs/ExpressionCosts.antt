-- What each node of an expression may cost.
use Rattle.std.proofs.Common.{ℕ, suc, List, [], ◌∷◌}
use Rattle.std.specs.Prelude.{Bool, true, false, pos}
use Rattle.uq_value.specs.Number.{number}
use Rattle.uq_value.specs.Put.{put}
use Rattle.uq_value.specs.Same.{alike}
use Rattle.uq_value.specs.Truth.{truth}
use Rattle.uq_value.specs.declared.step.Step.{Step as ValueStep}
use Rattle.uq_value.specs.declared.value.Value.{Value}
use Rattle.jx9_syntax.specs.Trees.{ExprLayer, AccessLayer, node_of, access_of}
use Rattle.jx9_syntax.specs.declared.expression.Access.{Access}
use Rattle.jx9_syntax.specs.declared.expression.Access.TheOpen.{Node-F, Access-F}
use Rattle.jx9_syntax.specs.declared.expression.Change.{Change}
use Rattle.jx9_syntax.specs.declared.expression.Change.TheVariants.{By, Join}
use Rattle.jx9_syntax.specs.declared.expression.Entry.{Entry}
use Rattle.jx9_syntax.specs.declared.expression.Expr.{Expr}
use Rattle.jx9_syntax.specs.declared.expression.Link.{Link}
use Rattle.jx9_syntax.specs.declared.expression.Place.{Place}
use Rattle.jx9_syntax.specs.declared.expression.Step.{Step}
use Rattle.jx9_syntax.specs.declared.parts.Part.{Part}
use Rattle.jx9_syntax.specs.declared.parts.Part.TheVariants as part
use Rattle.jx9_meaning.specs.Expression.{part_value, read_place, write_place, operation, change_units, stepped, shown, value_at, access_step, place_steps, path_step, entry, link, deciding, step, assign, append_to, change, choice, value_of, evaluated}
use Rattle.jx9_meaning.specs.Meaning.{Meaning}
use Rattle.jx9_meaning.specs.Operators.{operate}
use Rattle.jx9_meaning.specs.declared.fault.FaultKind.TheVariants.{NotNumber}
use Rattle.jx9_meaning.proofs.Steps.{Frugal, Owes, Spends, frugal_then, after_frugal, owes, frugal_pure, frugal_some, frugal_ok, frugal_put, frugal_read, frugal_write, frugal_take, frugal_fits, frugal_sized, frugal_each, frugal_through, frugal_if, spends_unit}

module _ (n : ℕ) where
  frugal_part : (x : Part) → Frugal n (part_value x)
  frugal_part (part.Text bs) = frugal_pure n _
  frugal_part (part.Var name) = frugal_read n name

  frugal_read_place : (place : Place) (ks : List ValueStep) → Frugal n (read_place place ks)
  frugal_read_place place ks = frugal_then n _ _ (frugal_read n place.name) (λ v. frugal_pure n (value_at v ks))

  frugal_write_place : (line : ℕ) (place : Place) (ks : List ValueStep) (v : Value) → Frugal n (write_place line place ks v)
  unfolding write_place
  frugal_write_place line place ks v =
      frugal_then n _ _ (frugal_read n place.name) (λ root. frugal_then n _ _ (frugal_put n line (put root ks v)) (λ c. frugal_then n _ _ (frugal_write n place.name c) (λ _. frugal_pure n v)))

  frugal_operation : (line : ℕ) (old : Value) (how : Change) (v : Value) → Frugal n (operation line old how v)
  frugal_operation line old (By op) v = frugal_ok n line _
  frugal_operation line old Join v = frugal_fits n line _

module _ (n : ℕ) (expr : Expr → Meaning Value) (calls : ℕ → Value → List Value → Meaning Value) (fe : (e : Expr) → Frugal n (expr e)) (fc : (line : ℕ) (f : Value) (vs : List Value) → Owes n (calls line f vs)) where
  frugal_key : (a : AccessLayer) → Frugal n (access_step expr calls a)
  frugal_key (Access-F.Member name) = frugal_pure n _
  frugal_key (Access-F.Index e) = frugal_then n _ _ (fe e) (λ x. frugal_pure n _)

  frugal_keys : (place : Place) → Frugal n (place_steps expr calls place)
  unfolding place_steps
  frugal_keys place = frugal_each n _ (λ a. frugal_key (access_of a)) place.steps

  frugal_path : (v : Value) (a : Access) → Frugal n (path_step expr calls v a)
  unfolding path_step
  frugal_path v a = frugal_then n _ _ (frugal_key (access_of a)) (λ k. frugal_pure n _)

  frugal_entry : (e : Entry) → Frugal n (entry expr calls e)
  unfolding entry
  frugal_entry e = frugal_then n _ _ (fe e.value) (λ v. frugal_pure n _)

  frugal_link : (line : ℕ) (v : Value) (l : Link) → Frugal n (link expr calls line v l)
  unfolding link
  frugal_link line v l = frugal_then n _ _ (fe l.operand) (λ b. frugal_ok n line _)

  frugal_deciding : (b : Bool) (es : List Expr) → Frugal n (deciding expr calls b es)
  frugal_deciding b [] = frugal_pure n _
  frugal_deciding b (e ∷ es) = frugal_then n _ _ (fe e) (λ v. frugal_if n (alike (truth v) b) _ _ (frugal_pure n _) (frugal_deciding b es))

  frugal_step : (line : ℕ) (s : Step) (place : Place) → Frugal n (step expr calls line s place)
  unfolding step
  frugal_step line s place =
      frugal_then n _ _ (frugal_keys place) (λ ks. frugal_then n _ _ (frugal_read_place n place ks) (λ v. frugal_then n _ _ (frugal_some n line NotNumber (number v)) (λ old.
      frugal_then n _ _ (frugal_ok n line (operate (stepped s) (Value.Int old) (Value.Int (pos 1)))) (λ new. frugal_then n _ _ (frugal_write_place n line place ks new) (λ _. frugal_pure n (shown s (Value.Int old) new))))))

  frugal_assign : (line : ℕ) (place : Place) (e : Expr) → Frugal n (assign expr calls line place e)
  unfolding assign
  frugal_assign line place e = frugal_then n _ _ (frugal_keys place) (λ ks. frugal_then n _ _ (fe e) (λ v. frugal_write_place n line place ks v))

  frugal_append : (line : ℕ) (place : Place) (e : Expr) → Frugal n (append_to expr calls line place e)
  unfolding append_to
  frugal_append line place e = frugal_then n _ _ (frugal_keys place) (λ ks. frugal_then n _ _ (fe e) (λ v. frugal_write_place n line place _ v))

  frugal_change : (line : ℕ) (place : Place) (how : Change) (e : Expr) → Frugal n (change expr calls line place how e)
  unfolding change
  frugal_change line place how e =
      frugal_then n _ _ (frugal_keys place) (λ ks. frugal_then n _ _ (fe e) (λ b. frugal_then n _ _ (frugal_read_place n place ks) (λ old.
      frugal_then n _ _ (frugal_operation n line old how b) (λ new. frugal_then n _ _ (frugal_write_place n line place ks new) (λ _. frugal_then n _ _ (frugal_take n (change_units how new)) (λ _. frugal_pure n new))))))

  frugal_choice : (a b c : Expr) → Frugal n (choice expr calls a b c)
  unfolding choice
  frugal_choice a b c = frugal_then n _ _ (fe a) (λ v. frugal_if n (truth v) _ _ (fe b) (fe c))

  -- only a call may owe an event
  owes_value : (line : ℕ) (layer : ExprLayer) → Owes n (value_of expr calls line layer)
  owes_value line (Node-F.Literal l) = owes n _ (frugal_pure n _)
  owes_value line (Node-F.Mixed parts) = owes n _ (frugal_then n _ _ (frugal_each n _ (frugal_part n) parts) (λ vs. frugal_sized n line _))
  owes_value line (Node-F.Var name steps) = owes n _ (frugal_then n _ _ (frugal_read n name) (λ v. frugal_through n _ frugal_path v steps))
  owes_value line (Node-F.Path e steps) = owes n _ (frugal_then n _ _ (fe e) (λ v. frugal_through n _ frugal_path v steps))
  owes_value line (Node-F.Group e) = owes n _ (fe e)
  owes_value line (Node-F.List es) = owes n _ (frugal_then n _ _ (frugal_each n _ fe es) (λ vs. frugal_sized n line _))
  owes_value line (Node-F.Object es) = owes n _ (frugal_then n _ _ (frugal_each n _ frugal_entry es) (λ ms. frugal_sized n line _))
  owes_value line (Node-F.Call name es) = after_frugal n 1 _ _ (frugal_each n _ fe es) (λ vs. fc line _ vs)
  owes_value line (Node-F.VarCall name es) = after_frugal n 1 _ _ (frugal_read n name) (λ f. after_frugal n 1 _ _ (frugal_each n _ fe es) (λ vs. fc line f vs))
  owes_value line (Node-F.Lambda k) = owes n _ (frugal_pure n _)
  owes_value line (Node-F.Negate e) = owes n _ (frugal_then n _ _ (fe e) (λ v. frugal_ok n line _))
  owes_value line (Node-F.Not e) = owes n _ (frugal_then n _ _ (fe e) (λ v. frugal_pure n _))
  owes_value line (Node-F.Step s place) = owes n _ (frugal_step line s place)
  owes_value line (Node-F.Or e es) = owes n _ (frugal_deciding true (e ∷ es))
  owes_value line (Node-F.And e es) = owes n _ (frugal_deciding false (e ∷ es))
  owes_value line (Node-F.Join es) = owes n _ (frugal_then n _ _ (frugal_each n _ fe es) (λ vs. frugal_sized n line _))
  owes_value line (Node-F.Chain e links) = owes n _ (frugal_then n _ _ (fe e) (λ v. frugal_through n _ (frugal_link line) v links))
  owes_value line (Node-F.Cond a b c) = owes n _ (frugal_choice a b c)
  owes_value line (Node-F.Assign place e) = owes n _ (frugal_assign line place e)
  owes_value line (Node-F.Append place e) = owes n _ (frugal_append line place e)
  owes_value line (Node-F.Change place how e) = owes n _ (frugal_change line place how e)

  pub spends_expr : (e : Expr) → Spends (suc n) (evaluated expr calls e)
  unfolding evaluated
  spends_expr e = spends_unit n _ (owes_value e.line (node_of e))
