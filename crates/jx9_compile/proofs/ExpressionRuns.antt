-- The ops of an expression give its value.
use Rattle.std.proofs.Common.{◌≡◌, ℕ, zero, suc, ◌+◌, ◌<◌, List, [], ◌∷◌, Option, Some, None, refl, sym, ap, ◌∙◌, subst, arith}
use Rattle.std.specs.Prelude.{Bool, true, false, not, if◌then◌else◌, drop, length, map, nat_lt, ℤ, pos, ◌+ℤ◌, ◌-ℤ◌, slice_get, slice_set, Ok, Err}
use Rattle.uq_value.specs.Data.{Bytes}
use Rattle.uq_value.specs.Depth.{most_depth}
use Rattle.uq_value.specs.Number.{number}
use Rattle.uq_value.specs.Plain.{size, depth}
use Rattle.uq_value.specs.Put.{limited}
use Rattle.uq_value.specs.Same.{alike}
use Rattle.uq_value.specs.Size.{most_size}
use Rattle.uq_value.specs.Truth.{truth}
use Rattle.uq_value.specs.declared.error.ValueFault.TheVariants.{TooDeep, TooLarge}
use Rattle.uq_value.specs.declared.value.Value.{Value}
use Rattle.jx9_syntax.specs.Trees.{ExprLayer, node_of}
use Rattle.jx9_syntax.specs.declared.expression.Binary.{Binary}
use Rattle.jx9_syntax.specs.declared.expression.Binary.TheVariants as binary
use Rattle.jx9_syntax.specs.declared.expression.Change.{Change as How}
use Rattle.jx9_syntax.specs.declared.expression.Expr.{Expr}
use Rattle.jx9_syntax.specs.declared.expression.Link.{Link}
use Rattle.jx9_syntax.specs.declared.expression.Step.{Step}
use Rattle.jx9_syntax.specs.declared.expression.Step.TheVariants.{IncrementFirst, DecrementFirst, IncrementAfter, DecrementAfter}
use Rattle.jx9_syntax.specs.declared.parts.Part.{Part}
use Rattle.jx9_meaning.specs.Expression as meaning
use Rattle.jx9_meaning.specs.Expression.{literal_value, joined, stepped, shown, part_value, deciding, choice, assign, link, value_of, evaluated, write_place, place_steps, operation, change_units}
use Rattle.jx9_meaning.specs.Meaning.{Fault, Spent, Meaning, Outcome, Goes, Ends, Unfinished, after, ◌>>=◌, ◌>>◌, pure, some_or, ok_or, put_or, fault_of, spend, take, write, fits, sized, each, through}
use Rattle.jx9_meaning.specs.Operators.{Checked, operate, checked, in_range}
use Rattle.jx9_meaning.specs.Script.{Source, call, expr_within, run_within}
use Rattle.jx9_meaning.specs.Statement.{all}
use Rattle.jx9_meaning.specs.World.{State, variable, with_variable, changed}
use Rattle.jx9_meaning.specs.declared.fault.FaultKind.TheVariants.{NotNumber, Overflow}
use Rattle.jx9_compile.specs.Emitted.{jump_where, operator_op, variable_place, PartsCode, no_parts, text_part, variable_part, ExprCode, literal_code, mixed_code, variable_code, group_code, negate_code, not_code, step_code, or_code, and_code, join_code, chain_code, choice_code, assign_code, change_code, AllCode, no_values, value_code, DecidingCode, no_operands, operand_code, LinksCode, no_links, link_code, EffectCode, dropped_code, moved_code, EffectsCode, no_effects, effect_code}
use Rattle.jx9_compile.specs.Machine.{Frame, Machine, ops_of, slot_value}
use Rattle.jx9_compile.specs.Run.{Result', Next, gives, is_unit, operated, counting, changing, act, run}
use Rattle.jx9_compile.specs.Slots.{AreDistinct}
use Rattle.jx9_compile.specs.declared.code.Code.{Code}
use Rattle.jx9_compile.specs.declared.op.Op.{Op}
use Rattle.jx9_compile.specs.declared.op.Op.TheVariants.{Push, Pop, Copy, Load, Assign, Count, Change, Not, Join, Jump, JumpUnless}
use Rattle.jx9_compile.proofs.Above.{arguments_are, under, each_length}
use Rattle.jx9_compile.proofs.Jumps.{jump_ahead, jump_where_runs, jump_unless_runs}
use Rattle.jx9_compile.proofs.Leads.{above, Leads, bare, leads_at_once, leads_step, leads_end, leads_then, leads_on, leads_then_where, machine, step, unit_runs, checked_runs}
use Rattle.jx9_compile.proofs.Natural.{SameBare, natural_runs, natural_sized, natural_operation}
use Rattle.jx9_compile.proofs.Slots as slots
use Rattle.jx9_compile.proofs.Steps.{taken}
use Rattle.jx9_compile.proofs.Slots.{slots_written}

operator_acts : (code : Code) (next : Next) (m : Machine) (operator : Binary) (line : ℕ) → act code next (Some (operator_op operator line)) m ≡ operated next m operator line
operator_acts code next m binary.Add line = refl
operator_acts code next m binary.Subtract line = refl
operator_acts code next m binary.Multiply line = refl
operator_acts code next m binary.Divide line = refl
operator_acts code next m binary.Remainder line = refl
operator_acts code next m binary.Equal line = refl
operator_acts code next m binary.NotEqual line = refl
operator_acts code next m binary.Same line = refl
operator_acts code next m binary.NotSame line = refl
operator_acts code next m binary.Less line = refl
operator_acts code next m binary.LessOrEqual line = refl
operator_acts code next m binary.Greater line = refl
operator_acts code next m binary.GreaterOrEqual line = refl

-- what `++` and `--` give is a whole number, so it is within the limits
checked_fits : (z : ℤ) (v : Value) → checked z ≡ Ok v → limited v ≡ Ok v
checked_fits z v e = by_range (in_range z) e
  where
    by_range : (b : Bool) → (if b then Ok (Value.Int z) else Err Overflow) ≡ Ok v → limited v ≡ Ok v
    by_range true e = let same : Value.Int z ≡ v = cc in subst (λ w. limited w ≡ Ok w) same refl
    by_range false e = cc

stepped_fits : (s : Step) (old : ℤ) (v : Value) → operate (stepped s) (Value.Int old) (Value.Int (pos 1)) ≡ Ok v → limited v ≡ Ok v
unfolding operate
stepped_fits IncrementFirst old v e = checked_fits (old +ℤ pos 1) v e
stepped_fits DecrementFirst old v e = checked_fits (old -ℤ pos 1) v e
stepped_fits IncrementAfter old v e = checked_fits (old +ℤ pos 1) v e
stepped_fits DecrementAfter old v e = checked_fits (old -ℤ pos 1) v e

abbrev two_values : Value → Value → Meaning (Value × Value)
two_values old new = pure (old, new)

module _ (p : Source) (code : Code) (function : ℕ) (names : List Bytes) (distinct : AreDistinct names) where
  abbrev ops : List Op
  ops = ops_of code function

  -- at `to`, with the value on the stack
  abbrev pub With : ℕ → List Value → List Frame → ℕ → Value → State → Result'
  With to stack callers k v s = run code k (machine code function names to (v ∷ stack) callers s)

  -- at `to`, without it
  abbrev pub Without : {A : Type 0} → ℕ → List Value → List Frame → ℕ → A → State → Result'
  Without to stack callers k v s = run code k (machine code function names to stack callers s)

  -- the expressions of n levels do in code what they mean
  abbrev pub ExprsRun : ℕ → Type 0
  ExprsRun n = (at to : ℕ) (e : Expr) → ExprCode ops names at e to → (stack : List Value) (callers : List Frame) (s : State)
      → Leads code (machine code function names at stack callers s) (expr_within n p e s) (With to stack callers)

  -- and those whose values are not needed
  abbrev pub EffectsRun : ℕ → Type 0
  EffectsRun n = (at to : ℕ) (e : Expr) → EffectCode ops names at e to → (stack : List Value) (callers : List Frame) (s : State)
      → Leads code (machine code function names at stack callers s) (expr_within n p e s) (Without to stack callers)

  -- an expression by its layer
  opened : (n : ℕ) (e : Expr) (layer : ExprLayer) {m : Machine} {rest : ℕ → Value → State → Result'} (s : State) → node_of e ≡ layer
      → Leads code m ((take 1 >> value_of (expr_within n p) (call p (run_within n p)) e.line layer) s) rest → Leads code m (expr_within (suc n) p e s) rest
  unfolding expr_within evaluated
  opened n e layer {m = m} {rest = rest} s is l =
      subst (λ x. Leads code m ((take 1 >> value_of (expr_within n p) (call p (run_within n p)) e.line x) s) rest) (sym is) l

  -- ---- single ops

  push_runs : (at : ℕ) (v : Value) (stack : List Value) (callers : List Frame) (s : State) → slice_get ops at ≡ Some (Push v)
      → Leads code (machine code function names at stack callers s) (Goes v s) (With (at + 1) stack callers)
  push_runs at v stack callers s h = leads_step code (Goes v s) (λ k. step code function names at (Push v) stack callers s h k) (leads_at_once code (λ k. refl))

  load_runs : (at slot : ℕ) (name : Bytes) (stack : List Value) (callers : List Frame) (s : State) → slice_get names slot ≡ Some name → slice_get ops at ≡ Some (Load slot)
      → Leads code (machine code function names at stack callers s) (Goes (variable name s) s) (With (at + 1) stack callers)
  load_runs at slot name stack callers s known h =
      leads_step code (Goes (variable name s) s)
      (λ k. step code function names at (Load slot) stack callers s h k
      ∙ ap (λ v. run code k (machine code function names (at + 1) (v ∷ stack) callers s)) (slots.slot_value names (λ q. variable q s) slot name known))
      (leads_at_once code (λ k. refl))

  operator_runs : (at line : ℕ) (op : Binary) (a b : Value) (stack : List Value) (callers : List Frame) (s : State)
      → slice_get ops at ≡ Some (operator_op op line)
      → Leads code (machine code function names at (b ∷ a ∷ stack) callers s) (ok_or line (operate op a b) s) (With (at + 1) stack callers)
  unfolding variable
  operator_runs at line op a b stack callers s h =
      checked_runs code function names at line (operate op a b) _ stack callers s
      (λ k. step code function names at (operator_op op line) (b ∷ a ∷ stack) callers s h k
      ∙ operator_acts code (run code k) (machine code function names at (b ∷ a ∷ stack) callers s) op line)

  join_runs : (at line : ℕ) (vs stack : List Value) (callers : List Frame) (s : State) → slice_get ops at ≡ Some (Join (length vs) line)
      → Leads code (machine code function names at (above vs stack) callers s) (sized line (Value.Text (joined vs)) s) (With (at + 1) stack callers)
  unfolding variable
  join_runs at line vs stack callers s h =
      natural_runs code function names at (sized line (Value.Text (joined vs))) (natural_sized line (Value.Text (joined vs))) _ stack callers s
      (λ k. step code function names at (Join (length vs) line) (above vs stack) callers s h k
      ∙ ap (λ xs. gives (sized line (Value.Text (joined xs)) (bare s)) (λ v t. run code k (record (machine code function names (at + 1) (v ∷ drop (length vs) (above vs stack)) callers s) { outside = t }))) (arguments_are vs stack)
      ∙ ap (λ xs. gives (sized line (Value.Text (joined vs)) (bare s)) (λ v t. run code k (record (machine code function names (at + 1) (v ∷ xs) callers s) { outside = t }))) (under vs stack))

  -- a variable takes the value on the stack
  write_runs : (at line slot : ℕ) (name : Bytes) → slice_get names slot ≡ Some name → slice_get ops at ≡ Some (Assign slot line)
      → (v : Value) (stack : List Value) (callers : List Frame) (s : State) {rest : ℕ → Value → State → Result'}
      → ((k : ℕ) (t : State) → run code k (machine code function names (at + 1) stack callers t) ≡ rest k v t)
      → Leads code (machine code function names at (v ∷ stack) callers s) (write_place line (variable_place name) [] v s) rest
  unfolding write_place with_variable variable fits
  write_runs at line slot name known w v stack callers s {rest = rest} go =
      by_limits (nat_lt most_depth (depth v)) (nat_lt most_size (size v)) (step code function names at (Assign slot line) (v ∷ stack) callers s w)
    where
      in_slots : State → Machine
      in_slots t = record { frame = record { function = function; place = at + 1; stack = stack; slots = slice_set (map s.own names) slot v }; callers = callers; outside = t }

      by_limits : (b c : Bool)
          → ((k : ℕ) → run code (suc k) (machine code function names at (v ∷ stack) callers s)
          ≡ gives (put_or line (if b then Err TooDeep else (if c then Err TooLarge else Ok v)) (bare s)) (λ _ t. run code k (in_slots t)))
          → Leads code (machine code function names at (v ∷ stack) callers s)
          (after (put_or line (if b then Err TooDeep else (if c then Err TooLarge else Ok v)) s) (λ root. write name root >> pure v)) rest
      by_limits true c h = leads_end code (Ends (Fault (fault_of TooDeep) line) s) (λ k. h 0)
      by_limits false true h = leads_end code (Ends (Fault (fault_of TooLarge) line) s) (λ k. h 0)
      by_limits false false h =
          leads_step code (Goes v (with_variable name v s))
          (λ k. h k ∙ ap (λ vs. run code k (record { frame = record { function = function; place = at + 1; stack = stack; slots = vs }; callers = callers; outside = bare s })) (slots_written names s.own slot name v distinct known))
          (leads_at_once code (λ k. go k (with_variable name v s)))

  -- what `op=` writes, which the variable takes and the stack has then
  change_written : (at line slot : ℕ) (how : How) (name : Bytes) → slice_get names slot ≡ Some name → (m : Machine) (stack : List Value) (callers : List Frame) (s : State)
      → (r r' : Outcome Value) → SameBare s r r'
      → ((k : ℕ) → run code (suc k) m ≡ gives (after r' (λ new. fits line new >> (take (change_units how new) >> pure new)))
      (λ new t. run code k (record { frame = record { function = function; place = at + 1; stack = new ∷ stack; slots = slice_set (map s.own names) slot new }; callers = callers; outside = t })))
      → Leads code m (after r (λ new. write_place line (variable_place name) [] new >> (take (change_units how new) >> pure new))) (With (at + 1) stack callers)
  unfolding write_place with_variable variable fits take
  change_written at line slot how name known m stack callers s (Goes new t) r' e g =
      by_limits (nat_lt most_depth (depth new)) (nat_lt most_size (size new))
      (λ k. g k ∙ ap (λ x. gives (after x (λ v. fits line v >> (take (change_units how v) >> pure v))) (λ v u. run code k (in_slots v u))) e.0)
    where
      units : ℕ
      units = change_units how new

      in_slots : Value → State → Machine
      in_slots v u = record { frame = record { function = function; place = at + 1; stack = v ∷ stack; slots = slice_set (map s.own names) slot v }; callers = callers; outside = u }

      -- whether fewer units are left than it takes
      spent_or : State → Bool → Outcome Value
      spent_or u b = after (taken units u b) (λ _. pure new)

      limits : Bool → Bool → Meaning Value
      limits b c = put_or line (if b then Err TooDeep else (if c then Err TooLarge else Ok new))

      by_units : (b : Bool) → ((k : ℕ) → run code (suc k) m ≡ gives (spent_or (bare t) b) (λ v u. run code k (in_slots v u)))
          → Leads code m (spent_or (with_variable name new t) b) (With (at + 1) stack callers)
      by_units true h = leads_end code (Ends Spent (with_variable name new t)) (λ k. h 0)
      by_units false h =
          leads_step code (Goes new (spend units (with_variable name new t)))
          (λ k. h k ∙ ap (λ vs. run code k (record { frame = record { function = function; place = at + 1; stack = new ∷ stack; slots = vs }; callers = callers; outside = spend units (bare t) }))
          (slots_written names s.own slot name new distinct known ∙ ap (λ own. map (changed own name new) names) (sym e.1)))
          (leads_at_once code (λ k. refl))

      by_limits : (b c : Bool)
          → ((k : ℕ) → run code (suc k) m ≡ gives (after (limits b c (bare t)) (λ v u. spent_or u (nat_lt u.world.units units))) (λ v u. run code k (in_slots v u)))
          → Leads code m (after (after (limits b c t) (λ root. write name root >> pure new)) (λ v u. spent_or u (nat_lt u.world.units units))) (With (at + 1) stack callers)
      by_limits true c h = leads_end code (Ends (Fault (fault_of TooDeep) line) t) (λ k. h 0)
      by_limits false true h = leads_end code (Ends (Fault (fault_of TooLarge) line) t) (λ k. h 0)
      by_limits false false h = by_units (nat_lt t.world.units units) h
  change_written at line slot how name known m stack callers s (Ends x t) r' e g =
      leads_end code (Ends x t)
      (λ k. g 0 ∙ ap (λ y. gives (after y (λ v. fits line v >> (take (change_units how v) >> pure v)))
      (λ v u. run code 0 (record { frame = record { function = function; place = at + 1; stack = v ∷ stack; slots = slice_set (map s.own names) slot v }; callers = callers; outside = u }))) e)
  change_written at line slot how name known m stack callers s Unfinished r' e g = record { by = λ k. (0, tt) }

  -- ---- lists

  parts_run : (at to : ℕ) (ps : List Part) → PartsCode ops names at ps to → (stack : List Value) (callers : List Frame) (s : State)
      → Leads code (machine code function names at stack callers s) (each part_value ps s) (λ k vs t. run code k (machine code function names to (above vs stack) callers t))
  parts_run at to ps no_parts stack callers s = leads_at_once code (λ k. refl)
  parts_run at to ps (text_part bs qs h ds) stack callers s =
      leads_then code (Goes (Value.Text bs) s) (λ v. each part_value qs >>= (λ vs. pure (v ∷ vs))) (push_runs at (Value.Text bs) stack callers s h)
      (λ v t. (leads_then code (each part_value qs t) (λ vs. pure (v ∷ vs)) (parts_run (at + 1) to qs ds (v ∷ stack) callers t) (λ vs t' k. (k, refl))).by)
  parts_run at to ps (variable_part name slot qs known h ds) stack callers s =
      leads_then code (Goes (variable name s) s) (λ v. each part_value qs >>= (λ vs. pure (v ∷ vs))) (load_runs at slot name stack callers s known h)
      (λ v t. (leads_then code (each part_value qs t) (λ vs. pure (v ∷ vs)) (parts_run (at + 1) to qs ds (v ∷ stack) callers t) (λ vs t' k. (k, refl))).by)

  module _ (n : ℕ) (runs : ExprsRun n) where
    abbrev expr : Expr → Meaning Value
    expr = expr_within n p

    abbrev calls : ℕ → Value → List Value → Meaning Value
    calls = call p (run_within n p)

    all_run : (at to : ℕ) (es : List Expr) → AllCode ops names at es to → (stack : List Value) (callers : List Frame) (s : State)
        → Leads code (machine code function names at stack callers s) (each expr es s) (λ k vs t. run code k (machine code function names to (above vs stack) callers t))
    all_run at to es no_values stack callers s = leads_at_once code (λ k. refl)
    all_run at to es (value_code {mid = mid} e es' d ds) stack callers s =
        leads_then code (expr e s) (λ v. each expr es' >>= (λ vs. pure (v ∷ vs))) (runs at mid e d stack callers s)
        (λ v t. (leads_then code (each expr es' t) (λ vs. pure (v ∷ vs)) (all_run mid to es' ds (v ∷ stack) callers t) (λ vs t' k. (k, refl))).by)

    link_runs : (at mid line : ℕ) (l : Link) → ExprCode ops names at l.operand mid → slice_get ops mid ≡ Some (operator_op l.op line)
        → (v : Value) (stack : List Value) (callers : List Frame) (s : State)
        → Leads code (machine code function names at (v ∷ stack) callers s) (link expr calls line v l s) (With (mid + 1) stack callers)
    unfolding link
    link_runs at mid line l d o v stack callers s =
        leads_then code (expr l.operand s) (λ b. ok_or line (operate l.op v b)) (runs at mid l.operand d (v ∷ stack) callers s)
        (λ b t. (operator_runs mid line l.op v b stack callers t o).by)

    links_run : (line at : ℕ) (links : List Link) (to : ℕ) → LinksCode ops names line at links to
        → (v : Value) (stack : List Value) (callers : List Frame) (s : State)
        → Leads code (machine code function names at (v ∷ stack) callers s) (through (link expr calls line) v links s) (With to stack callers)
    links_run line at links to no_links v stack callers s = leads_at_once code (λ k. refl)
    links_run line at links to (link_code {mid = mid} l ls d o ds) v stack callers s =
        leads_then code (link expr calls line v l s) (λ c. through (link expr calls line) c ls) (link_runs at mid line l d o v stack callers s)
        (λ c t. (links_run line (mid + 1) ls to ds c stack callers t).by)

    -- ---- branches

    -- operands up to `to`, where two values stand: the first behind the last operand, the other at its end
    deciding_runs : (decides : Bool) (end at : ℕ) (es : List Expr) (to : ℕ) → DecidingCode ops names decides end at es to → end ≡ to + 1 + 1
        → slice_get ops to ≡ Some (Push (Value.Bool (not decides))) → slice_get ops (to + 1) ≡ Some (Jump (to + 1 + 1 + 1))
        → slice_get ops (to + 1 + 1) ≡ Some (Push (Value.Bool decides)) → (stack : List Value) (callers : List Frame) (s : State)
        → Leads code (machine code function names at stack callers s) (deciding expr calls decides es s) (With (to + 1 + 1 + 1) stack callers)
    deciding_runs decides end at es to no_operands is_end a j b stack callers s =
        leads_step code (Goes (Value.Bool (not decides)) s) (λ k. step code function names to (Push (Value.Bool (not decides))) stack callers s a k)
        (leads_step code (Goes (Value.Bool (not decides)) s) (jump_ahead code function names (to + 1) (to + 1 + 1 + 1) (Value.Bool (not decides) ∷ stack) callers s j (omega arith))
        (leads_at_once code (λ k. refl)))
    deciding_runs decides end at es to (operand_code {mid = mid} e es' d h less ds) is_end a j b stack callers s =
        leads_then code (expr e s) (λ v. if alike (truth v) decides then pure (Value.Bool decides) else deciding expr calls decides es') (runs at mid e d stack callers s)
        (λ v t. (by_truth v t (alike (truth v) decides) (jump_where_runs code function names decides mid (to + 1 + 1) v stack callers t (subst (λ k. slice_get ops mid ≡ Some (jump_where decides k)) is_end h) (omega (arith, less, is_end)))
        (deciding_runs decides end (mid + 1) es' to ds is_end a j b stack callers t)).by)
      where
        by_truth : (v : Value) (t : State) (b : Bool)
            → ((k : ℕ) → run code (suc k) (machine code function names mid (v ∷ stack) callers t)
            ≡ (if b then run code k (machine code function names (to + 1 + 1) stack callers t) else run code k (machine code function names (mid + 1) stack callers t)))
            → Leads code (machine code function names (mid + 1) stack callers t) (deciding expr calls decides es' t) (With (to + 1 + 1 + 1) stack callers)
            → Leads code (machine code function names mid (v ∷ stack) callers t) ((if b then pure (Value.Bool decides) else deciding expr calls decides es') t) (With (to + 1 + 1 + 1) stack callers)
        by_truth v t true is rest = leads_step code (Goes (Value.Bool decides) t) is (push_runs (to + 1 + 1) (Value.Bool decides) stack callers t b)
        by_truth v t false is rest = leads_step code (deciding expr calls decides es' t) is rest

    choice_runs : (at mid end to : ℕ) (test f g : Expr) → ExprCode ops names at test mid → slice_get ops mid ≡ Some (JumpUnless (end + 1)) → mid < end + 1
        → ExprCode ops names (mid + 1) f end → slice_get ops end ≡ Some (Jump to) → end < to → ExprCode ops names (end + 1) g to
        → (stack : List Value) (callers : List Frame) (s : State)
        → Leads code (machine code function names at stack callers s) (choice expr calls test f g s) (With to stack callers)
    unfolding choice
    choice_runs at mid end to test f g dt h less df j over dg stack callers s =
        leads_then code (expr test s) (λ v. if truth v then expr f else expr g) (runs at mid test dt stack callers s)
        (λ v t. (by_truth v t (truth v) (jump_unless_runs code function names mid (end + 1) v stack callers t h less)).by)
      where
        by_truth : (v : Value) (t : State) (b : Bool)
            → ((k : ℕ) → run code (suc k) (machine code function names mid (v ∷ stack) callers t)
            ≡ (if b then run code k (machine code function names (mid + 1) stack callers t) else run code k (machine code function names (end + 1) stack callers t)))
            → Leads code (machine code function names mid (v ∷ stack) callers t) ((if b then expr f else expr g) t) (With to stack callers)
        by_truth v t true is =
            leads_step code (expr f t) is (leads_on code (expr f t) (runs (mid + 1) end f df stack callers t)
            (λ k w u. (suc k, jump_ahead code function names end to (w ∷ stack) callers u j over k)))
        by_truth v t false is = leads_step code (expr g t) is (runs (end + 1) to g dg stack callers t)

    -- ---- variables

    assign_runs : (at mid : ℕ) (line : ℕ) (name : Bytes) (right : Expr) → ExprCode ops names at right mid
        → (stack : List Value) (callers : List Frame) (s : State) {rest : ℕ → Value → State → Result'}
        → ((v : Value) (t : State) → Leads code (machine code function names mid (v ∷ stack) callers t) (write_place line (variable_place name) [] v t) rest)
        → Leads code (machine code function names at stack callers s) (assign expr calls line (variable_place name) right s) rest
    unfolding assign place_steps
    assign_runs at mid line name right d stack callers s go =
        leads_then code (expr right s) (λ v. write_place line (variable_place name) [] v) (runs at mid right d stack callers s) (λ v t. (go v t).by)

    change_runs : (at mid line slot : ℕ) (how : How) (name : Bytes) (right : Expr) → slice_get names slot ≡ Some name → ExprCode ops names at right mid
        → slice_get ops mid ≡ Some (Change slot how line) → (stack : List Value) (callers : List Frame) (s : State)
        → Leads code (machine code function names at stack callers s) (meaning.change expr calls line (variable_place name) how right s) (With (mid + 1) stack callers)
    unfolding meaning.change place_steps variable
    change_runs at mid line slot how name right known d h stack callers s =
        leads_then code (expr right s)
        (λ b t. after (operation line (t.own name) how b t) (λ new. write_place line (variable_place name) [] new >> (take (change_units how new) >> pure new)))
        (runs at mid right d stack callers s)
        (λ b t. (change_written mid line slot how name known (machine code function names mid (b ∷ stack) callers t) stack callers t
        (operation line (t.own name) how b t) (operation line (t.own name) how b (bare t)) ((natural_operation line (t.own name) how b).at t)
        (λ k. step code function names mid (Change slot how line) (b ∷ stack) callers t h k
        ∙ ap (λ v. gives (changing line how v b (bare t))
        (λ new u. run code k (record { frame = record { function = function; place = mid + 1; stack = new ∷ stack; slots = slice_set (map t.own names) slot new }; callers = callers; outside = u })))
        (slots.slot_value names t.own slot name known))).by)

    step_runs : (at line slot : ℕ) (st : Step) (name : Bytes) → slice_get names slot ≡ Some name → slice_get ops at ≡ Some (Count slot st line)
        → (stack : List Value) (callers : List Frame) (s : State)
        → Leads code (machine code function names at stack callers s) (meaning.step expr calls line st (variable_place name) s) (With (at + 1) stack callers)
    unfolding meaning.step place_steps write_place with_variable variable
    step_runs at line slot st name known h stack callers s =
        by_number (number (s.own name))
        (λ k. step code function names at (Count slot st line) stack callers s h k
        ∙ ap (λ v. gives (counting line st v (bare s)) (λ two t. run code k (in_slots two.0 two.1 t))) (slots.slot_value names s.own slot name known))
      where
        in_slots : Value → Value → State → Machine
        in_slots old new t = record {
          frame = record { function = function; place = at + 1; stack = shown st old new ∷ stack; slots = slice_set (map s.own names) slot new };
          callers = callers;
          outside = t;
        }

        by_new : (old : ℤ) (r : Checked) → operate (stepped st) (Value.Int old) (Value.Int (pos 1)) ≡ r
            → ((k : ℕ) → run code (suc k) (machine code function names at stack callers s)
            ≡ gives (after (ok_or line r (bare s)) (λ new. two_values (Value.Int old) new)) (λ two t. run code k (in_slots two.0 two.1 t)))
            → Leads code (machine code function names at stack callers s)
            (after (ok_or line r s) (λ new. (put_or line (limited new) >>= (λ root. write name root >> pure new)) >>= (λ _. pure (shown st (Value.Int old) new))))
            (With (at + 1) stack callers)
        by_new old (Err kind) e h = leads_end code (Ends (Fault kind line) s) (λ k. h 0)
        by_new old (Ok new) e h =
            subst (λ r. Leads code (machine code function names at stack callers s)
            (after (after (put_or line r s) (λ root. write name root >> pure new)) (λ _. pure (shown st (Value.Int old) new))) (With (at + 1) stack callers)) (sym (stepped_fits st old new e))
            (leads_step code (Goes (shown st (Value.Int old) new) (with_variable name new s))
            (λ k. h k ∙ ap (λ vs. run code k (record { frame = record { function = function; place = at + 1; stack = shown st (Value.Int old) new ∷ stack; slots = vs }; callers = callers; outside = bare s })) (slots_written names s.own slot name new distinct known))
            (leads_at_once code (λ k. refl)))

        by_number : (o : Option ℤ)
            → ((k : ℕ) → run code (suc k) (machine code function names at stack callers s)
            ≡ gives (after (some_or line NotNumber o (bare s)) (λ old. ok_or line (operate (stepped st) (Value.Int old) (Value.Int (pos 1))) >>= (λ new. two_values (Value.Int old) new)))
            (λ two t. run code k (in_slots two.0 two.1 t)))
            → Leads code (machine code function names at stack callers s)
            (after (some_or line NotNumber o s) (λ old. ok_or line (operate (stepped st) (Value.Int old) (Value.Int (pos 1)))
            >>= (λ new. (put_or line (limited new) >>= (λ root. write name root >> pure new)) >>= (λ _. pure (shown st (Value.Int old) new)))))
            (With (at + 1) stack callers)
        by_number None h = leads_end code (Ends (Fault NotNumber line) s) (λ k. h 0)
        by_number (Some old) h = by_new old (operate (stepped st) (Value.Int old) (Value.Int (pos 1))) refl h

    -- ---- nodes

    pub node_runs : ExprsRun (suc n)
    node_runs at to e (literal_code l is u h) stack callers s =
        opened n e _ s is (unit_runs code function names at e.line _ stack callers s u (λ t. push_runs (at + 1) (literal_value l) stack callers t h))
    node_runs at to e (mixed_code {to = mid} ps is u ds h) stack callers s =
        opened n e _ s is (unit_runs code function names at e.line _ stack callers s u (λ t.
        leads_then_where code (λ vs. length vs ≡ length ps) (each part_value ps t) (λ vs. sized e.line (Value.Text (joined vs))) (each_length part_value ps t) (parts_run (at + 1) mid ps ds stack callers t)
        (λ vs same t'. (join_runs mid e.line vs stack callers t' (h ∙ ap (λ k. Some (Join k e.line)) (sym same))).by)))
    node_runs at to e (variable_code name slot is known u h) stack callers s =
        opened n e _ s is (unit_runs code function names at e.line _ stack callers s u (λ t. load_runs (at + 1) slot name stack callers t known h))
    node_runs at to e (group_code inner is u d) stack callers s =
        opened n e _ s is (unit_runs code function names at e.line _ stack callers s u (λ t. runs (at + 1) to inner d stack callers t))
    node_runs at to e (negate_code {to = mid} inner is u z d h) stack callers s =
        opened n e _ s is (unit_runs code function names at e.line _ stack callers s u (λ t.
        leads_step code _ (λ k. step code function names (at + 1) (Push (Value.Int (pos 0))) stack callers t z k)
        (leads_then code (expr inner t) (λ v. ok_or e.line (operate binary.Subtract (Value.Int (pos 0)) v)) (runs (at + 1 + 1) mid inner d (Value.Int (pos 0) ∷ stack) callers t)
        (λ v t'. (operator_runs mid e.line binary.Subtract (Value.Int (pos 0)) v stack callers t' h).by))))
    node_runs at to e (not_code {to = mid} inner is u d h) stack callers s =
        opened n e _ s is (unit_runs code function names at e.line _ stack callers s u (λ t.
        leads_then code (expr inner t) (λ v. pure (Value.Bool (not (truth v)))) (runs (at + 1) mid inner d stack callers t)
        (λ v t' k. (suc k, step code function names mid Not (v ∷ stack) callers t' h k))))
    node_runs at to e (step_code st name slot is known u h) stack callers s =
        opened n e _ s is (unit_runs code function names at e.line _ stack callers s u (λ t. step_runs (at + 1) e.line slot st name known h stack callers t))
    node_runs at to e (or_code {to = mid} f es is u ds a j b) stack callers s =
        opened n e _ s is (unit_runs code function names at e.line _ stack callers s u (λ t. deciding_runs true (mid + 1 + 1) (at + 1) (f ∷ es) mid ds refl a j b stack callers t))
    node_runs at to e (and_code {to = mid} f es is u ds a j b) stack callers s =
        opened n e _ s is (unit_runs code function names at e.line _ stack callers s u (λ t. deciding_runs false (mid + 1 + 1) (at + 1) (f ∷ es) mid ds refl a j b stack callers t))
    node_runs at to e (join_code {to = mid} es is u ds h) stack callers s =
        opened n e _ s is (unit_runs code function names at e.line _ stack callers s u (λ t.
        leads_then_where code (λ vs. length vs ≡ length es) (each expr es t) (λ vs. sized e.line (Value.Text (joined vs))) (each_length expr es t) (all_run (at + 1) mid es ds stack callers t)
        (λ vs same t'. (join_runs mid e.line vs stack callers t' (h ∙ ap (λ k. Some (Join k e.line)) (sym same))).by)))
    node_runs at to e (chain_code {mid = mid} f links is u d ds) stack callers s =
        opened n e _ s is (unit_runs code function names at e.line _ stack callers s u (λ t.
        leads_then code (expr f t) (λ v. through (link expr calls e.line) v links) (runs (at + 1) mid f d stack callers t)
        (λ v t'. (links_run e.line mid links to ds v stack callers t').by)))
    node_runs at to e (choice_code {mid = mid} {end = end} test f g is u dt h less df j over dg) stack callers s =
        opened n e _ s is (unit_runs code function names at e.line _ stack callers s u (λ t. choice_runs (at + 1) mid end to test f g dt h less df j over dg stack callers t))
    node_runs at to e (assign_code {to = mid} name slot right is known u d c w) stack callers s =
        opened n e _ s is (unit_runs code function names at e.line _ stack callers s u (λ t.
        assign_runs (at + 1) mid e.line name right d stack callers t (λ v t'.
        leads_step code (write_place e.line (variable_place name) [] v t') (λ k. step code function names mid Copy (v ∷ stack) callers t' c k)
        (write_runs (mid + 1) e.line slot name known w v (v ∷ stack) callers t' (λ k t''. refl)))))
    node_runs at to e (change_code {to = mid} name slot how right is known u d h) stack callers s =
        opened n e _ s is (unit_runs code function names at e.line _ stack callers s u (λ t. change_runs (at + 1) mid e.line slot how name right known d h stack callers t))

    -- an expression whose value is not needed, of one level more
    pub effect_runs : ExprsRun (suc n) → EffectsRun (suc n)
    effect_runs more at to e (dropped_code {to = mid} e' d h) stack callers s =
        leads_on code (expr_within (suc n) p e s) (more at mid e d stack callers s) (λ k v t. (suc k, step code function names mid Pop (v ∷ stack) callers t h k))
    effect_runs more at to e (moved_code {to = mid} name slot right is known u d w) stack callers s =
        opened n e _ s is (unit_runs code function names at e.line _ stack callers s u (λ t.
        assign_runs (at + 1) mid e.line name right d stack callers t (λ v t'. write_runs mid e.line slot name known w v stack callers t' (λ k t''. refl))))

    -- each leaves no value
    pub effects_run : EffectsRun n → (at to : ℕ) (es : List Expr) → EffectsCode ops names at es to → (stack : List Value) (callers : List Frame) (s : State)
        → Leads code (machine code function names at stack callers s) (all n expr (run_within n p) es s) (Without to stack callers)
    effects_run effects at to es no_effects stack callers s = leads_at_once code (λ k. refl)
    effects_run effects at to es (effect_code {mid = mid} e es' d ds) stack callers s =
        leads_then code (expr e s) (λ v. all n expr (run_within n p) es') (effects at mid e d stack callers s)
        (λ v t. (effects_run effects mid to es' ds stack callers t).by)

  pub unfinished : {rest : ℕ → Value → State → Result'} (e : Expr) (m : Machine) (s : State) → Leads code m (expr_within zero p e s) rest
  unfolding expr_within
  unfinished e m s = record { by = λ k. (0, tt) }

  -- the first op of an expression takes a unit
  pub expr_begins : {at to : ℕ} {e : Expr} → ExprCode ops names at e to → is_unit (slice_get ops at) ≡ true
  expr_begins (literal_code l is u h) = ap is_unit u
  expr_begins (mixed_code ps is u ds h) = ap is_unit u
  expr_begins (variable_code name slot is known u h) = ap is_unit u
  expr_begins (group_code inner is u d) = ap is_unit u
  expr_begins (negate_code inner is u z d h) = ap is_unit u
  expr_begins (not_code inner is u d h) = ap is_unit u
  expr_begins (step_code st name slot is known u h) = ap is_unit u
  expr_begins (or_code f es is u ds a j b) = ap is_unit u
  expr_begins (and_code f es is u ds a j b) = ap is_unit u
  expr_begins (join_code es is u ds h) = ap is_unit u
  expr_begins (chain_code f links is u d ds) = ap is_unit u
  expr_begins (choice_code test f g is u dt h less df j over dg) = ap is_unit u
  expr_begins (assign_code name slot right is known u d c w) = ap is_unit u
  expr_begins (change_code name slot how right is known u d h) = ap is_unit u

  pub effect_begins : {at to : ℕ} {e : Expr} → EffectCode ops names at e to → is_unit (slice_get ops at) ≡ true
  effect_begins (dropped_code e d h) = expr_begins d
  effect_begins (moved_code name slot right is known u d w) = ap is_unit u
