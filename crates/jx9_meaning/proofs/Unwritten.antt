-- A variable that an expression does not write itself is as before.
use Rattle.std.proofs.Common.{◌≡◌, ℕ, zero, suc, List, [], ◌∷◌, refl, ap}
use Rattle.std.specs.Prelude.{Bool, true, false, ◌||◌, if◌then◌else◌, pos}
use Rattle.std.specs.List.{list_any}
use Rattle.std.specs.Str.{bytes_eq}
use Rattle.uq_value.specs.Data.{Bytes}
use Rattle.uq_value.specs.Number.{number}
use Rattle.uq_value.specs.Put.{put}
use Rattle.uq_value.specs.Same.{alike}
use Rattle.uq_value.specs.Truth.{truth}
use Rattle.uq_value.specs.declared.step.Step.{Step as ValueStep}
use Rattle.uq_value.specs.declared.value.Value.{Value}
use Rattle.jx9_syntax.specs.Trees.{ExprLayer, AccessLayer, node_of, access_of}
use Rattle.jx9_syntax.specs.declared.expression.Access.{Access}
use Rattle.jx9_syntax.specs.declared.expression.Access.TheOpen.{Node-F, Access-F}
use Rattle.jx9_syntax.specs.declared.expression.Change.{Change}
use Rattle.jx9_syntax.specs.declared.expression.Change.TheVariants.{By, Join}
use Rattle.jx9_syntax.specs.declared.expression.Entry.{Entry}
use Rattle.jx9_syntax.specs.declared.expression.Expr.{Expr}
use Rattle.jx9_syntax.specs.declared.expression.Link.{Link}
use Rattle.jx9_syntax.specs.declared.expression.Place.{Place}
use Rattle.jx9_syntax.specs.declared.expression.Step.{Step}
use Rattle.jx9_syntax.specs.declared.parts.Part.{Part}
use Rattle.jx9_syntax.specs.declared.parts.Part.TheVariants as part
use Rattle.jx9_meaning.specs.Expression.{part_value, read_place, write_place, operation, change_units, stepped, shown, value_at, access_step, place_steps, path_step, entry, link, deciding, step, assign, append_to, change, choice, value_of, evaluated}
use Rattle.jx9_meaning.specs.Laws.{KeepsUnwritten}
use Rattle.jx9_meaning.specs.Meaning.{Meaning, Outcome, Goes, Ends, Unfinished, write, each, through}
use Rattle.jx9_meaning.specs.Operators.{operate}
use Rattle.jx9_meaning.specs.Script.{Source, call, expr_within, run_within}
use Rattle.jx9_meaning.specs.World.{State, Named, with_variable}
use Rattle.jx9_meaning.specs.Writes.{access_writes, steps_write, place_writes, node_writes, may_write}
use Rattle.jx9_meaning.specs.declared.fault.FaultKind.TheVariants.{NotNumber}
use Rattle.jx9_meaning.proofs.Own.{Sees, Keeps, sees_so, keeps_then, keeps_pure, keeps_some, keeps_ok, keeps_put, keeps_read, keeps_take, keeps_fits, keeps_sized, keeps_if}
use Rattle.jx9_meaning.proofs.Variables.{leaves_variables}

-- ---- tests that are false

neither : (a b : Bool) → (a || b) ≡ false → (a ≡ false) × (b ≡ false)
neither true b e = absurd (let f : ⊥ = cc in f)
neither false b e = (refl, e)

-- ---- steps

module _ (x : Bytes) where
  abbrev at : Named Value → Value
  at own = own x

  it_write : (name : Bytes) (v : Value) → bytes_eq x name ≡ false → Keeps at (write name v)
  unfolding with_variable
  it_write name v e = record { by = λ s. other s (bytes_eq x name) e }
    where
      other : (s : State) (b : Bool) → b ≡ false → (if b then v else s.own x) ≡ s.own x
      other s true e = absurd (let f : ⊥ = cc in f)
      other s false e = refl

  it_each : {A B : Type 0} (f : A → Meaning B) (test : A → Bool) → ((a : A) → test a ≡ false → Keeps at (f a)) → (l : List A) → list_any test l ≡ false → Keeps at (each f l)
  it_each f test h [] e = keeps_pure at []
  it_each f test h (a ∷ l) e = keeps_then at _ _ (h a (neither (test a) (list_any test l) e).0) (λ b. keeps_then at _ _ (it_each f test h l (neither (test a) (list_any test l) e).1) (λ bs. keeps_pure at _))

  it_through : {A B : Type 0} (f : B → A → Meaning B) (test : A → Bool) → ((b : B) (a : A) → test a ≡ false → Keeps at (f b a)) → (b : B) (l : List A) → list_any test l ≡ false → Keeps at (through f b l)
  it_through f test h b [] e = keeps_pure at b
  it_through f test h b (a ∷ l) e = keeps_then at _ _ (h b a (neither (test a) (list_any test l) e).0) (λ c. it_through f test h c l (neither (test a) (list_any test l) e).1)

  it_part : (y : Part) → Keeps at (part_value y)
  it_part (part.Text bs) = keeps_pure at _
  it_part (part.Var name) = keeps_read at name

  it_parts : (ps : List Part) → Keeps at (each part_value ps)
  it_parts [] = keeps_pure at []
  it_parts (p ∷ ps) = keeps_then at _ _ (it_part p) (λ b. keeps_then at _ _ (it_parts ps) (λ bs. keeps_pure at _))

  it_read_place : (place : Place) (ks : List ValueStep) → Keeps at (read_place place ks)
  it_read_place place ks = keeps_then at _ _ (keeps_read at place.name) (λ v. keeps_pure at (value_at v ks))

  it_write_place : (line : ℕ) (place : Place) (ks : List ValueStep) (v : Value) → bytes_eq x place.name ≡ false → Keeps at (write_place line place ks v)
  unfolding write_place
  it_write_place line place ks v e = keeps_then at _ _ (keeps_read at place.name) (λ root. keeps_then at _ _ (keeps_put at line (put root ks v)) (λ c. keeps_then at _ _ (it_write place.name c e) (λ _. keeps_pure at v)))

  it_operation : (line : ℕ) (old : Value) (how : Change) (v : Value) → Keeps at (operation line old how v)
  it_operation line old (By op) v = keeps_ok at line _
  it_operation line old Join v = keeps_fits at line _

  -- ---- nodes

  module _ (expr : Expr → Meaning Value) (calls : ℕ → Value → List Value → Meaning Value) (writes : Expr → Bool) (he : (e : Expr) → writes e ≡ false → Keeps at (expr e)) (hc : (line : ℕ) (f : Value) (vs : List Value) → Keeps at (calls line f vs)) where
    it_key : (a : AccessLayer) → access_writes writes x a ≡ false → Keeps at (access_step expr calls a)
    it_key (Access-F.Member name) h = keeps_pure at _
    it_key (Access-F.Index e) h = keeps_then at _ _ (he e h) (λ y. keeps_pure at _)

    it_keys : (place : Place) → steps_write writes x place.steps ≡ false → Keeps at (place_steps expr calls place)
    unfolding place_steps
    it_keys place h = it_each _ (λ a. access_writes writes x (access_of a)) (λ a. it_key (access_of a)) place.steps h

    it_path : (v : Value) (a : Access) → access_writes writes x (access_of a) ≡ false → Keeps at (path_step expr calls v a)
    unfolding path_step
    it_path v a h = keeps_then at _ _ (it_key (access_of a) h) (λ k. keeps_pure at _)

    it_steps : (v : Value) (steps : List Access) → steps_write writes x steps ≡ false → Keeps at (through (path_step expr calls) v steps)
    it_steps v steps h = it_through _ (λ a. access_writes writes x (access_of a)) it_path v steps h

    it_entry : (e : Entry) → writes e.value ≡ false → Keeps at (entry expr calls e)
    unfolding entry
    it_entry e h = keeps_then at _ _ (he e.value h) (λ v. keeps_pure at _)

    it_link : (line : ℕ) (v : Value) (l : Link) → writes l.operand ≡ false → Keeps at (link expr calls line v l)
    unfolding link
    it_link line v l h = keeps_then at _ _ (he l.operand h) (λ b. keeps_ok at line _)

    it_deciding : (b : Bool) (es : List Expr) → list_any writes es ≡ false → Keeps at (deciding expr calls b es)
    it_deciding b [] h = keeps_pure at _
    it_deciding b (e ∷ es) h = keeps_then at _ _ (he e (neither (writes e) (list_any writes es) h).0) (λ v. keeps_if at (alike (truth v) b) _ _ (keeps_pure at _) (it_deciding b es (neither (writes e) (list_any writes es) h).1))

    it_exprs : (es : List Expr) → list_any writes es ≡ false → Keeps at (each expr es)
    it_exprs es h = it_each expr writes he es h

    it_step : (line : ℕ) (s : Step) (place : Place) → bytes_eq x place.name ≡ false → steps_write writes x place.steps ≡ false → Keeps at (step expr calls line s place)
    unfolding step
    it_step line s place n h =
        keeps_then at _ _ (it_keys place h) (λ ks. keeps_then at _ _ (it_read_place place ks) (λ v. keeps_then at _ _ (keeps_some at line NotNumber (number v)) (λ old.
        keeps_then at _ _ (keeps_ok at line (operate (stepped s) (Value.Int old) (Value.Int (pos 1)))) (λ new. keeps_then at _ _ (it_write_place line place ks new n) (λ _. keeps_pure at (shown s (Value.Int old) new))))))

    it_assign : (line : ℕ) (place : Place) (e : Expr) → bytes_eq x place.name ≡ false → steps_write writes x place.steps ≡ false → writes e ≡ false → Keeps at (assign expr calls line place e)
    unfolding assign
    it_assign line place e n h g = keeps_then at _ _ (it_keys place h) (λ ks. keeps_then at _ _ (he e g) (λ v. it_write_place line place ks v n))

    it_append : (line : ℕ) (place : Place) (e : Expr) → bytes_eq x place.name ≡ false → steps_write writes x place.steps ≡ false → writes e ≡ false → Keeps at (append_to expr calls line place e)
    unfolding append_to
    it_append line place e n h g = keeps_then at _ _ (it_keys place h) (λ ks. keeps_then at _ _ (he e g) (λ v. it_write_place line place _ v n))

    it_change : (line : ℕ) (place : Place) (how : Change) (e : Expr) → bytes_eq x place.name ≡ false → steps_write writes x place.steps ≡ false → writes e ≡ false → Keeps at (change expr calls line place how e)
    unfolding change
    it_change line place how e n h g =
        keeps_then at _ _ (it_keys place h) (λ ks. keeps_then at _ _ (he e g) (λ b. keeps_then at _ _ (it_read_place place ks) (λ old.
        keeps_then at _ _ (it_operation line old how b) (λ new. keeps_then at _ _ (it_write_place line place ks new n) (λ _. keeps_then at _ _ (keeps_take at (change_units how new)) (λ _. keeps_pure at new))))))

    it_choice : (a b c : Expr) → writes a ≡ false → writes b ≡ false → writes c ≡ false → Keeps at (choice expr calls a b c)
    unfolding choice
    it_choice a b c ha hb hd = keeps_then at _ _ (he a ha) (λ v. keeps_if at (truth v) _ _ (he b hb) (he c hd))

    -- the variable of a place is another one, and so are those within its steps
    of_place : (place : Place) → place_writes writes x place ≡ false → (bytes_eq x place.name ≡ false) × (steps_write writes x place.steps ≡ false)
    of_place place h = neither (bytes_eq x place.name) (steps_write writes x place.steps) h

    it_value : (line : ℕ) (layer : ExprLayer) → node_writes writes x layer ≡ false → Keeps at (value_of expr calls line layer)
    it_value line (Node-F.Literal l) h = keeps_pure at _
    it_value line (Node-F.Mixed parts) h = keeps_then at _ _ (it_parts parts) (λ vs. keeps_sized at line _)
    it_value line (Node-F.Var name steps) h = keeps_then at _ _ (keeps_read at name) (λ v. it_steps v steps h)
    it_value line (Node-F.Path e steps) h = keeps_then at _ _ (he e (neither (writes e) (steps_write writes x steps) h).0) (λ v. it_steps v steps (neither (writes e) (steps_write writes x steps) h).1)
    it_value line (Node-F.Group e) h = he e h
    it_value line (Node-F.List es) h = keeps_then at _ _ (it_exprs es h) (λ vs. keeps_sized at line _)
    it_value line (Node-F.Object es) h = keeps_then at _ _ (it_each _ (λ e. writes e.value) it_entry es h) (λ ms. keeps_sized at line _)
    it_value line (Node-F.Call name es) h = keeps_then at _ _ (it_exprs es h) (λ vs. hc line _ vs)
    it_value line (Node-F.VarCall name es) h = keeps_then at _ _ (keeps_read at name) (λ f. keeps_then at _ _ (it_exprs es h) (λ vs. hc line f vs))
    it_value line (Node-F.Lambda k) h = keeps_pure at _
    it_value line (Node-F.Negate e) h = keeps_then at _ _ (he e h) (λ v. keeps_ok at line _)
    it_value line (Node-F.Not e) h = keeps_then at _ _ (he e h) (λ v. keeps_pure at _)
    it_value line (Node-F.Step s place) h = it_step line s place (of_place place h).0 (of_place place h).1
    it_value line (Node-F.Or e es) h = it_deciding true (e ∷ es) h
    it_value line (Node-F.And e es) h = it_deciding false (e ∷ es) h
    it_value line (Node-F.Join es) h = keeps_then at _ _ (it_exprs es h) (λ vs. keeps_sized at line _)
    it_value line (Node-F.Chain e links) h = keeps_then at _ _ (he e (neither (writes e) (list_any (λ l. writes l.operand) links) h).0) (λ v. it_through _ (λ l. writes l.operand) (it_link line) v links (neither (writes e) (list_any (λ l. writes l.operand) links) h).1)
    it_value line (Node-F.Cond a b c) h =
        let first = neither (writes a) (writes b || writes c) h in
        let second = neither (writes b) (writes c) first.1 in it_choice a b c first.0 second.0 second.1
    it_value line (Node-F.Assign place e) h =
        let both = neither (place_writes writes x place) (writes e) h in it_assign line place e (of_place place both.0).0 (of_place place both.0).1 both.1
    it_value line (Node-F.Append place e) h =
        let both = neither (place_writes writes x place) (writes e) h in it_append line place e (of_place place both.0).0 (of_place place both.0).1 both.1
    it_value line (Node-F.Change place how e) h =
        let both = neither (place_writes writes x place) (writes e) h in it_change line place how e (of_place place both.0).0 (of_place place both.0).1 both.1

    it_evaluated : (e : Expr) → node_writes writes x (node_of e) ≡ false → Keeps at (evaluated expr calls e)
    unfolding evaluated
    it_evaluated e h = keeps_then at _ _ (keeps_take at 1) (λ _. it_value e.line (node_of e) h)

  -- ---- the levels

  it_call : (n : ℕ) (p : Source) (line : ℕ) (f : Value) (vs : List Value) → Keeps at (call p (run_within n p) line f vs)
  it_call n p line f vs = record { by = λ s. left s (call p (run_within n p) line f vs s) refl }
    where
      left : (s : State) (r : Outcome Value) → call p (run_within n p) line f vs s ≡ r → Sees at (s.own x) r
      left s (Goes v t) e = ap (λ own. own x) (leaves_variables p (run_within n p) line f vs s t v e)
      left s (Ends y t) e = tt
      left s Unfinished e = tt

  it_within : (n k : ℕ) (p : Source) (e : Expr) → may_write k x e ≡ false → Keeps at (expr_within n p e)
  unfolding expr_within may_write
  it_within zero k p e h = record { by = λ s. tt }
  it_within (suc n) zero p e h = absurd (let f : ⊥ = cc in f)
  it_within (suc n) (suc k) p e h = it_evaluated (expr_within n p) (call p (run_within n p)) (may_write k x) (λ e. it_within n k p e) (it_call n p) e h

pub keeps_unwritten : KeepsUnwritten
keeps_unwritten n k p e name s t v h is = sees_so (at name) (s.own name) (expr_within n p e s) v t ((it_within name n k p e h).by s) is
