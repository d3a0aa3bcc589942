-- An expression that is compiled makes no event, and takes a unit.
use Rattle.std.proofs.Common.{◌≡◌, ℕ, zero, suc, ◌+◌, ◌≤◌, List, [], ◌∷◌, Option, Some, None, refl, sym, ◌∙◌, subst, arith}
use Rattle.std.specs.Prelude.{Bool, true, false, not, if◌then◌else◌, nat_lt, length, pos, ◌++◌, Result, Ok, Err}
use Rattle.std.proofs.lemmas.Bool.{ltb-false}
use Rattle.uq_value.specs.Data.{Bytes}
use Rattle.uq_value.specs.Number.{number}
use Rattle.uq_value.specs.Put.{Put, limited}
use Rattle.uq_value.specs.Same.{alike}
use Rattle.uq_value.specs.Truth.{truth}
use Rattle.uq_value.specs.declared.value.Value.{Value}
use Rattle.uq_json.specs.Text.{text_of}
use Rattle.jx9_syntax.specs.Trees.{ExprLayer, node_of}
use Rattle.jx9_syntax.specs.declared.expression.Access.TheOpen.{Node-F}
use Rattle.jx9_syntax.specs.declared.expression.Binary.TheVariants.{Subtract}
use Rattle.jx9_syntax.specs.declared.expression.Change.{Change as How}
use Rattle.jx9_syntax.specs.declared.expression.Change.TheVariants as change
use Rattle.jx9_syntax.specs.declared.expression.Expr.{Expr}
use Rattle.jx9_syntax.specs.declared.expression.Link.{Link}
use Rattle.jx9_syntax.specs.declared.expression.Step.{Step}
use Rattle.jx9_syntax.specs.declared.parts.Part.{Part}
use Rattle.jx9_syntax.specs.declared.parts.Part.TheVariants as part
use Rattle.jx9_meaning.specs.Expression as meaning
use Rattle.jx9_meaning.specs.Expression.{joined, stepped, shown, part_value, deciding, choice, assign, link, value_of, evaluated, write_place, place_steps, operation, change_units}
use Rattle.jx9_meaning.specs.Meaning.{Meaning, Outcome, Goes, Ends, Unfinished, after, ◌>>=◌, ◌>>◌, pure, some_or, ok_or, put_or, take, write, fits, sized, units_of, each, through}
use Rattle.jx9_meaning.specs.Operators.{operate}
use Rattle.jx9_meaning.specs.Script.{Source, call, expr_within, run_within}
use Rattle.jx9_meaning.specs.World.{State, variable, with_variable}
use Rattle.jx9_meaning.specs.declared.fault.FaultKind.{FaultKind}
use Rattle.jx9_meaning.specs.declared.fault.FaultKind.TheVariants.{NotNumber}
use Rattle.jx9_compile.specs.Emitted.{variable_place, ExprCode, literal_code, mixed_code, variable_code, group_code, negate_code, not_code, step_code, or_code, and_code, join_code, chain_code, choice_code, assign_code, change_code, AllCode, no_values, value_code, DecidingCode, no_operands, operand_code, LinksCode, no_links, link_code, EffectCode, dropped_code, moved_code}
use Rattle.jx9_compile.specs.declared.op.Op.{Op}
use Rattle.jx9_compile.proofs.Steps.{taken}

-- No event is made, and where it goes on at least so many units are taken.
abbrev pub Quiet : {A : Type 0} → ℕ → State → Outcome A → Type 0
Quiet k s (Goes a t) = (length t.events ≡ length s.events) × (t.world.units + k ≤ s.world.units)
Quiet k s (Ends e t) = length t.events ≡ length s.events
Quiet k s Unfinished = Unit {0}

-- ---- steps

pub still : (s : State) → (length s.events ≡ length s.events) × (s.world.units + 0 ≤ s.world.units)
still s = (refl, omega arith)

quiet_from : {A : Type 0} (k : ℕ) (s t : State) (r : Outcome A) → length t.events ≡ length s.events → t.world.units + k ≤ s.world.units → Quiet 0 t r → Quiet k s r
quiet_from k s t (Goes a u) e l h = (h.0 ∙ e, omega (arith, l, h.1))
quiet_from k s t (Ends x u) e l h = h ∙ e
quiet_from k s t Unfinished e l h = tt

pub quiet_then : {A B : Type 0} (k : ℕ) (s : State) (r : Outcome A) (f : A → Meaning B) → Quiet k s r → ((a : A) (t : State) → Quiet 0 t (f a t)) → Quiet k s (after r f)
quiet_then k s (Goes a t) f h g = quiet_from k s t (f a t) h.0 h.1 (g a t)
quiet_then k s (Ends e t) f h g = h
quiet_then k s Unfinished f h g = tt

pub quiet_map : {A B : Type 0} (k : ℕ) (s : State) (r : Outcome A) (g : A → B) → Quiet k s r → Quiet k s (after r (λ a t. Goes (g a) t))
quiet_map k s (Goes a t) g h = h
quiet_map k s (Ends e t) g h = h
quiet_map k s Unfinished g h = tt

-- whatever it takes
pub at_least : {A : Type 0} (k : ℕ) (s : State) (r : Outcome A) → Quiet k s r → Quiet 0 s r
at_least k s (Goes a t) h = (h.0, omega (arith, h.1))
at_least k s (Ends e t) h = h
at_least k s Unfinished h = tt

quiet_some : {A : Type 0} (s : State) (line : ℕ) (kind : FaultKind) (o : Option A) → Quiet 0 s (some_or line kind o s)
quiet_some s line kind (Some a) = still s
quiet_some s line kind None = refl

quiet_ok : {A : Type 0} (s : State) (line : ℕ) (r : Result A FaultKind) → Quiet 0 s (ok_or line r s)
quiet_ok s line (Ok a) = still s
quiet_ok s line (Err e) = refl

quiet_put : {A : Type 0} (s : State) (line : ℕ) (r : Put A) → Quiet 0 s (put_or line r s)
quiet_put s line (Ok a) = still s
quiet_put s line (Err e) = refl

quiet_taken : (n : ℕ) (s : State) (b : Bool) → nat_lt s.world.units n ≡ b → Quiet n s (taken n s b)
quiet_taken n s true e = refl
quiet_taken n s false e = (refl, omega (arith, ltb-false s.world.units n e))

pub quiet_take : (n : ℕ) (s : State) → Quiet n s (take n s)
unfolding take
quiet_take n s = quiet_taken n s (nat_lt s.world.units n) refl

quiet_fits : (s : State) (line : ℕ) (v : Value) → Quiet 0 s (fits line v s)
unfolding fits
quiet_fits s line v = quiet_put s line (limited v)

quiet_sized : (s : State) (line : ℕ) (v : Value) → Quiet 0 s (sized line v s)
unfolding sized
quiet_sized s line v =
    quiet_then 0 s (fits line v s) (λ _. take (units_of v) >> pure v) (quiet_fits s line v)
    (λ a t. quiet_map 0 t (take (units_of v) t) (λ _. v) (at_least (units_of v) t (take (units_of v) t) (quiet_take (units_of v) t)))

quiet_write : (s : State) (line : ℕ) (name : Bytes) (v : Value) → Quiet 0 s (write_place line (variable_place name) [] v s)
unfolding write_place with_variable variable
quiet_write s line name v = quiet_then 0 s (put_or line (limited v) s) (λ root. write name root >> pure v) (quiet_put s line (limited v)) (λ root t. still t)

quiet_operation : (s : State) (line : ℕ) (old : Value) (how : How) (right : Value) → Quiet 0 s (operation line old how right s)
quiet_operation s line old (change.By operator) right = quiet_ok s line (operate operator old right)
quiet_operation s line old change.Join right = quiet_fits s line (Value.Text (text_of old ++ text_of right))

quiet_parts : (ps : List Part) (s : State) → Quiet 0 s (each part_value ps s)
quiet_parts [] s = still s
quiet_parts (part.Text bs ∷ ps) s = quiet_map 0 s (each part_value ps s) (λ vs. Value.Text bs ∷ vs) (quiet_parts ps s)
quiet_parts (part.Var name ∷ ps) s = quiet_map 0 s (each part_value ps s) (λ vs. variable name s ∷ vs) (quiet_parts ps s)

-- ---- nodes

module _ (p : Source) (ops : List Op) (names : List Bytes) where
  abbrev pub ExprsQuiet : ℕ → Type 0
  ExprsQuiet n = (at to : ℕ) (e : Expr) → ExprCode ops names at e to → (s : State) → Quiet 1 s (expr_within n p e s)

  module _ (n : ℕ) (quiet : ExprsQuiet n) where
    abbrev expr : Expr → Meaning Value
    expr = expr_within n p

    abbrev calls : ℕ → Value → List Value → Meaning Value
    calls = call p (run_within n p)

    -- behind its unit
    opened : (e : Expr) (layer : ExprLayer) (s : State) → node_of e ≡ layer → ((t : State) → Quiet 0 t (value_of expr calls e.line layer t)) → Quiet 1 s (expr_within (suc n) p e s)
    unfolding expr_within evaluated
    opened e layer s is h =
        subst (λ x. Quiet 1 s ((take 1 >> value_of expr calls e.line x) s)) (sym is)
        (quiet_then 1 s (take 1 s) (λ _. value_of expr calls e.line layer) (quiet_take 1 s) (λ _ t. h t))

    inner : (at to : ℕ) (e : Expr) → ExprCode ops names at e to → (s : State) → Quiet 0 s (expr e s)
    inner at to e d s = at_least 1 s (expr e s) (quiet at to e d s)

    quiet_all : (at to : ℕ) (es : List Expr) → AllCode ops names at es to → (s : State) → Quiet 0 s (each expr es s)
    quiet_all at to es no_values s = still s
    quiet_all at to es (value_code {mid = mid} e es' d ds) s =
        quiet_then 0 s (expr e s) (λ v. each expr es' >>= (λ vs. pure (v ∷ vs))) (inner at mid e d s)
        (λ v t. quiet_map 0 t (each expr es' t) (λ vs. v ∷ vs) (quiet_all mid to es' ds t))

    quiet_links : (line at : ℕ) (links : List Link) (to : ℕ) → LinksCode ops names line at links to → (v : Value) (s : State) → Quiet 0 s (through (link expr calls line) v links s)
    unfolding link
    quiet_links line at links to no_links v s = still s
    quiet_links line at links to (link_code {mid = mid} l ls d o ds) v s =
        quiet_then 0 s (link expr calls line v l s) (λ c. through (link expr calls line) c ls)
        (quiet_then 0 s (expr l.operand s) (λ b. ok_or line (operate l.op v b)) (inner at mid l.operand d s) (λ b t. quiet_ok t line (operate l.op v b)))
        (λ c t. quiet_links line (mid + 1) ls to ds c t)

    quiet_deciding : (decides : Bool) (end at : ℕ) (es : List Expr) (to : ℕ) → DecidingCode ops names decides end at es to → (s : State) → Quiet 0 s (deciding expr calls decides es s)
    quiet_deciding decides end at es to no_operands s = still s
    quiet_deciding decides end at es to (operand_code {mid = mid} e es' d h less ds) s =
        quiet_then 0 s (expr e s) (λ v. if alike (truth v) decides then pure (Value.Bool decides) else deciding expr calls decides es') (inner at mid e d s)
        (λ v t. by_truth t (alike (truth v) decides) (quiet_deciding decides end (mid + 1) es' to ds t))
      where
        by_truth : (t : State) (b : Bool) → Quiet 0 t (deciding expr calls decides es' t)
            → Quiet 0 t ((if b then pure (Value.Bool decides) else deciding expr calls decides es') t)
        by_truth t true h = still t
        by_truth t false h = h

    quiet_choice : (test first second : Expr) → ((s : State) → Quiet 0 s (expr test s)) → ((s : State) → Quiet 0 s (expr first s)) → ((s : State) → Quiet 0 s (expr second s))
        → (s : State) → Quiet 0 s (choice expr calls test first second s)
    unfolding choice
    quiet_choice test first second h f g s =
        quiet_then 0 s (expr test s) (λ v. if truth v then expr first else expr second) (h s) (λ v t. by_truth t (truth v))
      where
        by_truth : (t : State) (b : Bool) → Quiet 0 t ((if b then expr first else expr second) t)
        by_truth t true = f t
        by_truth t false = g t

    quiet_step : (line : ℕ) (st : Step) (name : Bytes) (s : State) → Quiet 0 s (meaning.step expr calls line st (variable_place name) s)
    unfolding meaning.step place_steps variable
    quiet_step line st name s =
        quiet_then 0 s (some_or line NotNumber (number (s.own name)) s)
        (λ old. ok_or line (operate (stepped st) (Value.Int old) (Value.Int (pos 1)))
        >>= (λ new. write_place line (variable_place name) [] new >> pure (shown st (Value.Int old) new)))
        (quiet_some s line NotNumber (number (s.own name)))
        (λ old t. quiet_then 0 t (ok_or line (operate (stepped st) (Value.Int old) (Value.Int (pos 1))) t)
        (λ new. write_place line (variable_place name) [] new >> pure (shown st (Value.Int old) new))
        (quiet_ok t line (operate (stepped st) (Value.Int old) (Value.Int (pos 1))))
        (λ new u. quiet_map 0 u (write_place line (variable_place name) [] new u) (λ _. shown st (Value.Int old) new) (quiet_write u line name new)))

    quiet_assign : (line : ℕ) (name : Bytes) (right : Expr) → ((s : State) → Quiet 0 s (expr right s)) → (s : State) → Quiet 0 s (assign expr calls line (variable_place name) right s)
    unfolding assign place_steps
    quiet_assign line name right h s =
        quiet_then 0 s (expr right s) (λ v. write_place line (variable_place name) [] v) (h s) (λ v t. quiet_write t line name v)

    quiet_change : (line : ℕ) (name : Bytes) (how : How) (right : Expr) → ((s : State) → Quiet 0 s (expr right s)) → (s : State)
        → Quiet 0 s (meaning.change expr calls line (variable_place name) how right s)
    unfolding meaning.change place_steps variable
    quiet_change line name how right h s =
        quiet_then 0 s (expr right s)
        (λ b t. after (operation line (t.own name) how b t) (λ new. write_place line (variable_place name) [] new >> (take (change_units how new) >> pure new)))
        (h s)
        (λ b t. quiet_then 0 t (operation line (t.own name) how b t) (λ new. write_place line (variable_place name) [] new >> (take (change_units how new) >> pure new))
        (quiet_operation t line (t.own name) how b)
        (λ new u. quiet_then 0 u (write_place line (variable_place name) [] new u) (λ _. take (change_units how new) >> pure new) (quiet_write u line name new)
        (λ _ w. quiet_map 0 w (take (change_units how new) w) (λ _. new)
        (at_least (change_units how new) w (take (change_units how new) w) (quiet_take (change_units how new) w)))))

    quiet_node : ExprsQuiet (suc n)
    quiet_node at to e (literal_code l is u h) s = opened e _ s is (λ t. still t)
    quiet_node at to e (mixed_code ps is u ds h) s =
        opened e _ s is (λ t. quiet_then 0 t (each part_value ps t) (λ vs. sized e.line (Value.Text (joined vs))) (quiet_parts ps t)
        (λ vs t'. quiet_sized t' e.line (Value.Text (joined vs))))
    quiet_node at to e (variable_code name slot is known u h) s = opened e _ s is (λ t. still t)
    quiet_node at to e (group_code g is u d) s = opened e _ s is (λ t. inner (at + 1) to g d t)
    quiet_node at to e (negate_code {to = mid} g is u z d h) s =
        opened e _ s is (λ t. quiet_then 0 t (expr g t) (λ v. ok_or e.line (operate Subtract (Value.Int (pos 0)) v)) (inner (at + 1 + 1) mid g d t)
        (λ v t'. quiet_ok t' e.line (operate Subtract (Value.Int (pos 0)) v)))
    quiet_node at to e (not_code {to = mid} g is u d h) s =
        opened e _ s is (λ t. quiet_map 0 t (expr g t) (λ v. Value.Bool (not (truth v))) (inner (at + 1) mid g d t))
    quiet_node at to e (step_code st name slot is known u h) s = opened e _ s is (λ t. quiet_step e.line st name t)
    quiet_node at to e (or_code {to = mid} f es is u ds a j b) s = opened e _ s is (λ t. quiet_deciding true (mid + 1 + 1) (at + 1) (f ∷ es) mid ds t)
    quiet_node at to e (and_code {to = mid} f es is u ds a j b) s = opened e _ s is (λ t. quiet_deciding false (mid + 1 + 1) (at + 1) (f ∷ es) mid ds t)
    quiet_node at to e (join_code {to = mid} es is u ds h) s =
        opened e _ s is (λ t. quiet_then 0 t (each expr es t) (λ vs. sized e.line (Value.Text (joined vs))) (quiet_all (at + 1) mid es ds t)
        (λ vs t'. quiet_sized t' e.line (Value.Text (joined vs))))
    quiet_node at to e (chain_code {mid = mid} f links is u d ds) s =
        opened e _ s is (λ t. quiet_then 0 t (expr f t) (λ v. through (link expr calls e.line) v links) (inner (at + 1) mid f d t)
        (λ v t'. quiet_links e.line mid links to ds v t'))
    quiet_node at to e (choice_code {mid = mid} {end = end} test f g is u dt h less df j over dg) s =
        opened e _ s is (λ t. quiet_choice test f g (inner (at + 1) mid test dt) (inner (mid + 1) end f df) (inner (end + 1) to g dg) t)
    quiet_node at to e (assign_code {to = mid} name slot right is known u d c w) s = opened e _ s is (λ t. quiet_assign e.line name right (inner (at + 1) mid right d) t)
    quiet_node at to e (change_code {to = mid} name slot how right is known u d h) s =
        opened e _ s is (λ t. quiet_change e.line name how right (inner (at + 1) mid right d) t)

    quiet_moved : (at mid : ℕ) (e right : Expr) (name : Bytes) → node_of e ≡ Node-F.Assign (variable_place name) right → ExprCode ops names at right mid → (s : State)
        → Quiet 1 s (expr_within (suc n) p e s)
    quiet_moved at mid e right name is d s = opened e _ s is (λ t. quiet_assign e.line name right (inner at mid right d) t)

  pub quiet_exprs : (n : ℕ) → ExprsQuiet n
  unfolding expr_within
  quiet_exprs zero at to e d s = tt
  quiet_exprs (suc n) at to e d s = quiet_node n (quiet_exprs n) at to e d s

  -- and where its value is not needed
  pub quiet_effect : (n at to : ℕ) (e : Expr) → EffectCode ops names at e to → (s : State) → Quiet 0 s (expr_within n p e s)
  unfolding expr_within
  quiet_effect n at to e (dropped_code {to = mid} e' d h) s = at_least 1 s (expr_within n p e s) (quiet_exprs n at mid e d s)
  quiet_effect zero at to e (moved_code name slot right is known u d w) s = tt
  quiet_effect (suc n) at to e (moved_code {to = mid} name slot right is known u d w) s =
      at_least 1 s (expr_within (suc n) p e s) (quiet_moved n (quiet_exprs n) (at + 1) mid e right name is d s)
