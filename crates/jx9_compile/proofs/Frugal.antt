-- A script that is compiled makes fewer events than it has units.
use Rattle.std.proofs.Common.{◌≡◌, ℕ, zero, suc, ◌+◌, ◌-◌, ◌≤◌, List, [], ◌∷◌, Option, Some, None, sym, subst, arith}
use Rattle.std.specs.Prelude.{Bool, true, false, if◌then◌else◌, nat_lt, length, ◌++◌}
use Rattle.std.proofs.lemmas.List.{length-append}
use Rattle.std.proofs.lemmas.Option.{none-some, same_Some}
use Rattle.uq_value.specs.Data.{Bytes}
use Rattle.uq_value.specs.Truth.{truth}
use Rattle.uq_value.specs.declared.value.Value.{Value}
use Rattle.uq_json.specs.Text.{text_of}
use Rattle.jx9_syntax.specs.Trees.{StatementLayer, kind_of}
use Rattle.jx9_syntax.specs.declared.expression.Expr.{Expr}
use Rattle.jx9_syntax.specs.declared.statement.Branch.{Branch}
use Rattle.jx9_syntax.specs.declared.statement.Statement.{Statement}
use Rattle.jx9_meaning.specs.Meaning.{Meaning, Outcome, Goes, Ends, Unfinished, after, ◌>>=◌, ◌>>◌, pure, take, tell, each, most_events}
use Rattle.jx9_meaning.specs.Script.{Source, Ended, closed, start, script, script_within, expr_within, run_within}
use Rattle.jx9_meaning.specs.Statement.{Signal, Next, Broke, Continued, Returned, then_next, then_turn, turns, sequence, printed, test, test_or_true, all, chosen, effect_of, executed}
use Rattle.jx9_meaning.specs.World.{World, State, Event, Out, with_event}
use Rattle.jx9_compile.specs.Emitted.{Loop, ExprCode, EffectsCode, no_effects, effect_code, PrintsCode, no_prints, print_code, TestCode, no_test, test_code, StatementCode, block_code, print_statement, expr_statement, if_code, while_code, for_code, break_code, continue_code, return_code, return_null_code, SequenceCode, no_statements, statement_code, BranchesCode, no_branch, other_branch, branch_code, LoopCode, loop_code}
use Rattle.jx9_compile.specs.declared.op.Op.{Op}
use Rattle.jx9_compile.proofs.Quiet.{Quiet, still, quiet_then, quiet_map, at_least, quiet_take, quiet_exprs, quiet_effect}
use Rattle.jx9_compile.proofs.Steps.{told}

-- the events so far and the units that are left
abbrev both : State → ℕ
both s = length s.events + s.world.units

-- Both together do not rise, and where an event is made there are fewer than units were left.
abbrev pub Frugal : {A : Type 0} → State → Outcome A → Type 0
Frugal s (Goes a t) = (length s.events ≤ length t.events) × (both t ≤ both s) × (length t.events ≤ length s.events + (s.world.units - 1))
Frugal s (Ends e t) = length t.events ≤ length s.events + (s.world.units - 1)
Frugal s Unfinished = Unit {0}

-- both together do not rise
abbrev Loose : {A : Type 0} → State → Outcome A → Type 0
Loose s (Goes a t) = (length s.events ≤ length t.events) × (both t ≤ both s)
Loose s (Ends e t) = length t.events ≤ both s
Loose s Unfinished = Unit {0}

-- ---- steps

at_rest : (s : State) → (length s.events ≤ length s.events) × (both s ≤ both s) × (length s.events ≤ length s.events + (s.world.units - 1))
at_rest s = (omega arith, omega arith, omega arith)

frugal_from : {A : Type 0} (s t : State) (r : Outcome A) → length s.events ≤ length t.events → both t ≤ both s → length t.events ≤ length s.events + (s.world.units - 1)
    → Frugal t r → Frugal s r
frugal_from s t (Goes a u) more less few h = (omega (arith, more, h.0), omega (arith, less, h.1), omega (arith, more, less, few, h.2))
frugal_from s t (Ends e u) more less few h = omega (arith, more, less, few, h)
frugal_from s t Unfinished more less few h = tt

frugal_then : {A B : Type 0} (s : State) (r : Outcome A) (f : A → Meaning B) → Frugal s r → ((a : A) (t : State) → Frugal t (f a t)) → Frugal s (after r f)
frugal_then s (Goes a t) f h g = frugal_from s t (f a t) h.0 h.1 h.2 (g a t)
frugal_then s (Ends e t) f h g = h
frugal_then s Unfinished f h g = tt

frugal_quiet : {A : Type 0} (s : State) (r : Outcome A) → Quiet 0 s r → Frugal s r
frugal_quiet s (Goes a t) h = (omega (arith, h.0), omega (arith, h.0, h.1), omega (arith, h.0))
frugal_quiet s (Ends e t) h = omega (arith, h)
frugal_quiet s Unfinished h = tt

loose_from : {A : Type 0} (s t : State) (r : Outcome A) → length s.events ≤ length t.events → both t ≤ both s → Loose t r → Loose s r
loose_from s t (Goes a u) more less h = (omega (arith, more, h.0), omega (arith, less, h.1))
loose_from s t (Ends e u) more less h = omega (arith, less, h)
loose_from s t Unfinished more less h = tt

loose_then : {A B : Type 0} (s : State) (r : Outcome A) (f : A → Meaning B) → Loose s r → ((a : A) (t : State) → Loose t (f a t)) → Loose s (after r f)
loose_then s (Goes a t) f h g = loose_from s t (f a t) h.0 h.1 (g a t)
loose_then s (Ends e t) f h g = h
loose_then s Unfinished f h g = tt

loose_map : {A B : Type 0} (s : State) (r : Outcome A) (g : A → B) → Loose s r → Loose s (after r (λ a t. Goes (g a) t))
loose_map s (Goes a t) g h = h
loose_map s (Ends e t) g h = h
loose_map s Unfinished g h = tt

-- behind a unit
from_loose : {A : Type 0} (s t : State) (r : Outcome A) → length t.events ≡ length s.events → t.world.units + 1 ≤ s.world.units → Loose t r → Frugal s r
from_loose s t (Goes a u) same less h = (omega (arith, same, h.0), omega (arith, same, less, h.1), omega (arith, same, less, h.1))
from_loose s t (Ends e u) same less h = omega (arith, same, less, h)
from_loose s t Unfinished same less h = tt

behind_unit : {A B : Type 0} (s : State) (r : Outcome A) (f : A → Meaning B) → Quiet 1 s r → ((a : A) (t : State) → Loose t (f a t)) → Frugal s (after r f)
behind_unit s (Goes a t) f h g = from_loose s t (f a t) h.0 h.1 (g a t)
behind_unit s (Ends e t) f h g = omega (arith, h)
behind_unit s Unfinished f h g = tt

one_more : (s : State) (e : Event) → length (s.events ++ e ∷ []) ≡ length s.events + 1
one_more s e = length-append s.events (e ∷ [])

loose_told : (s t : State) (e : Event) (b : Bool) → length t.events ≡ length s.events → t.world.units + 1 ≤ s.world.units → Loose s (told e t b)
unfolding with_event
loose_told s t e true same less = (omega (arith, same, one_more t e), omega (arith, same, less, one_more t e))
loose_told s t e false same less = omega (arith, same)

loose_tell : (s : State) (r : Outcome Value) → Quiet 1 s r → Loose s (after r (λ v. tell (Out (text_of v))))
unfolding tell
loose_tell s (Goes v t) h = loose_told s t (Out (text_of v)) (nat_lt (length t.events) most_events) h.0 h.1
loose_tell s (Ends e t) h = omega (arith, h)
loose_tell s Unfinished h = tt

-- ---- statements

next_frugal : (q : Meaning Signal) → ((s : State) → Frugal s (q s)) → (signal : Signal) (s : State) → Frugal s (then_next signal q s)
next_frugal q go Next s = go s
next_frugal q go Broke s = at_rest s
next_frugal q go Continued s = at_rest s
next_frugal q go (Returned v) s = at_rest s

turn_frugal : (q : Meaning Signal) → ((s : State) → Frugal s (q s)) → (signal : Signal) (s : State) → Frugal s (then_turn signal q s)
turn_frugal q go Next s = go s
turn_frugal q go Broke s = at_rest s
turn_frugal q go Continued s = go s
turn_frugal q go (Returned v) s = at_rest s

module _ (p : Source) (ops : List Op) (names : List Bytes) where
  abbrev pub StatementsFrugal : ℕ → Type 0
  StatementsFrugal n = (loop : Option Loop) (at to : ℕ) (t : Statement) → StatementCode ops names loop at t to → (s : State) → Frugal s (run_within n p t s)

  module _ (n : ℕ) (frugal : StatementsFrugal n) where
    abbrev expr : Expr → Meaning Value
    expr = expr_within n p

    abbrev body_of : Statement → Meaning Signal
    body_of = run_within n p

    inner : (at to : ℕ) (e : Expr) → ExprCode ops names at e to → (s : State) → Quiet 1 s (expr e s)
    inner at to e d s = quiet_exprs p ops names n at to e d s

    loose_printed : (at to : ℕ) (e : Expr) → ExprCode ops names at e to → (s : State) → Loose s (printed n expr body_of e s)
    unfolding printed
    loose_printed at to e d s = loose_tell s (expr e s) (inner at to e d s)

    loose_prints : (at : ℕ) (es : List Expr) (to : ℕ) → PrintsCode ops names at es to → (s : State) → Loose s (each (printed n expr body_of) es s)
    loose_prints at es to no_prints s = (omega arith, omega arith)
    loose_prints at es to (print_code {mid = mid} e es' d h ds) s =
        loose_then s (printed n expr body_of e s) (λ u. each (printed n expr body_of) es' >>= (λ us. pure (u ∷ us))) (loose_printed at mid e d s)
        (λ u t. loose_map t (each (printed n expr body_of) es' t) (λ us. u ∷ us) (loose_prints (mid + 1) es' to ds t))

    quiet_effects : (at : ℕ) (es : List Expr) (to : ℕ) → EffectsCode ops names at es to → (s : State) → Quiet 0 s (all n expr body_of es s)
    quiet_effects at es to no_effects s = still s
    quiet_effects at es to (effect_code {mid = mid} e es' d ds) s =
        quiet_then 0 s (expr e s) (λ v. all n expr body_of es') (quiet_effect p ops names n at mid e d s) (λ v t. quiet_effects mid es' to ds t)

    quiet_test : (at to after : ℕ) (e : Option Expr) → TestCode ops names at e to after → (s : State) → Quiet 0 s (test_or_true n expr body_of e s)
    unfolding test
    quiet_test at to after e no_test s = still s
    quiet_test at to after e' (test_code {mid = mid} e d h less) s = quiet_map 0 s (expr e s) truth (at_least 1 s (expr e s) (inner at mid e d s))

    pub sequence_frugal : (loop : Option Loop) (at : ℕ) (ts : List Statement) (to : ℕ) → SequenceCode ops names loop at ts to → (s : State) → Frugal s (sequence n expr body_of ts s)
    sequence_frugal loop at ts to no_statements s = at_rest s
    sequence_frugal loop at ts to (statement_code {mid = mid} t ts' d ds) s =
        frugal_then s (body_of t s) (λ signal. then_next signal (sequence n expr body_of ts')) (frugal loop at mid t d s)
        (next_frugal (sequence n expr body_of ts') (λ s'. sequence_frugal loop mid ts' to ds s'))

    chosen_frugal : (loop : Option Loop) (at : ℕ) (bs : List Branch) (other : Option Statement) (to : ℕ) → BranchesCode ops names loop at bs other to → (s : State)
        → Frugal s (chosen n expr body_of bs other s)
    chosen_frugal loop at bs other to no_branch s = at_rest s
    chosen_frugal loop at bs other to (other_branch t d) s = frugal loop at to t d s
    chosen_frugal loop at bs other to (branch_code {mid = mid} {end = end} b bs' other' dt d j less ds) s =
        frugal_then s (test n expr body_of b.test s) (λ is. if is then body_of b.body else chosen n expr body_of bs' other)
        (frugal_quiet s (test n expr body_of b.test s) (quiet_test at mid (end + 1) (Some b.test) dt s)) (λ is t. by_test is t (chosen_frugal loop (end + 1) bs' other to ds t))
      where
        by_test : (is : Bool) (t : State) → Frugal t (chosen n expr body_of bs' other t) → Frugal t ((if is then body_of b.body else chosen n expr body_of bs' other) t)
        by_test true t rest = frugal loop mid end b.body d t
        by_test false t rest = rest

    module _ (loop : Option Loop) (again at mid to after : ℕ) (last : List Expr) (e : Option Expr) (body : Statement)
        (ds : EffectsCode ops names again last at) (dt : TestCode ops names at e mid after) (d : StatementCode ops names loop mid body to) where
      abbrev loops : ℕ → Meaning Signal
      loops m = turns m (test_or_true n expr body_of e) (body_of body) (all n expr body_of last)

      next_turn : (m : ℕ) → ((s : State) → Frugal s (loops m s)) → (s : State) → Frugal s ((all n expr body_of last >> loops m) s)
      next_turn m go s =
          frugal_then s (all n expr body_of last s) (λ _. loops m) (frugal_quiet s (all n expr body_of last s) (quiet_effects again last at ds s)) (λ _ t. go t)

      turn_is : (m : ℕ) → ((s : State) → Frugal s (loops m s)) → (is : Bool) (s : State)
          → Frugal s ((if is then (body_of body >>= λ signal. then_turn signal (all n expr body_of last >> loops m)) else pure Next) s)
      turn_is m go true s =
          frugal_then s (body_of body s) (λ signal. then_turn signal (all n expr body_of last >> loops m)) (frugal loop mid to body d s)
          (turn_frugal (all n expr body_of last >> loops m) (next_turn m go))
      turn_is m go false s = at_rest s

      loop_frugal : (m : ℕ) (s : State) → Frugal s (loops m s)
      loop_frugal zero s = tt
      loop_frugal (suc m) s =
          frugal_then s (test_or_true n expr body_of e s) (λ is. if is then (body_of body >>= λ signal. then_turn signal (all n expr body_of last >> loops m)) else pure Next)
          (frugal_quiet s (test_or_true n expr body_of e s) (quiet_test at mid after e dt s)) (turn_is m (loop_frugal m))

    turns_frugal : (again at to : ℕ) (last : List Expr) (e : Option Expr) (body : Statement) → LoopCode ops names again last at e body to → (m : ℕ) (s : State)
        → Frugal s (turns m (test_or_true n expr body_of e) (body_of body) (all n expr body_of last) s)
    turns_frugal again at to last e body (loop_code {mid = mid} {to = end} last' e' body' ds dt d j) m s =
        loop_frugal (Some (record { after = end + 1; again = again })) again at mid end (end + 1) last e body ds dt d m s

    opened : (t : Statement) (layer : StatementLayer) (s : State) → kind_of t ≡ layer → ((s' : State) → Frugal s' (effect_of n expr body_of t.line layer s'))
        → Frugal s (run_within (suc n) p t s)
    unfolding run_within executed
    opened t layer s is h =
        subst (λ x. Frugal s ((take 1 >> effect_of n expr body_of t.line x) s)) (sym is)
        (frugal_then s (take 1 s) (λ _. effect_of n expr body_of t.line layer) (frugal_quiet s (take 1 s) (at_least 1 s (take 1 s) (quiet_take 1 s))) (λ _ s'. h s'))

    opened_behind : (t : Statement) (layer : StatementLayer) (s : State) → kind_of t ≡ layer → ((s' : State) → Loose s' (effect_of n expr body_of t.line layer s'))
        → Frugal s (run_within (suc n) p t s)
    unfolding run_within executed
    opened_behind t layer s is h =
        subst (λ x. Frugal s ((take 1 >> effect_of n expr body_of t.line x) s)) (sym is)
        (behind_unit s (take 1 s) (λ _. effect_of n expr body_of t.line layer) (quiet_take 1 s) (λ _ s'. h s'))

    quiet_value : (e : Expr) (signal : Value → Signal) (s : State) → Quiet 0 s (expr e s) → Frugal s (after (expr e s) (λ v t. Goes (signal v) t))
    quiet_value e signal s h = frugal_quiet s (after (expr e s) (λ v t. Goes (signal v) t)) (quiet_map 0 s (expr e s) signal h)

    frugal_node : StatementsFrugal (suc n)
    frugal_node loop at to t (block_code ts is u ds) s = opened t _ s is (λ s'. sequence_frugal loop (at + 1) ts to ds s')
    frugal_node loop at to t (print_statement es is u ds) s =
        opened_behind t _ s is (λ s'. loose_map s' (each (printed n expr body_of) es s') (λ _. Next) (loose_prints (at + 1) es to ds s'))
    frugal_node loop at to t (expr_statement e is u d) s = opened t _ s is (λ s'. quiet_value e (λ _. Next) s' (quiet_effect p ops names n (at + 1) to e d s'))
    frugal_node loop at to t (if_code bs other is u d) s = opened t _ s is (λ s'. chosen_frugal loop (at + 1) bs other to d s')
    frugal_node loop at to t (while_code e body is u d) s = opened t _ s is (λ s'. turns_frugal (at + 1) (at + 1) to [] (Some e) body d n s')
    frugal_node loop at to t (for_code {mid = mid} {test = first_test} first e last body is u ds j less d) s =
        opened t _ s is (λ s'. frugal_then s' (all n expr body_of first s') (λ _. turns n (test_or_true n expr body_of e) (body_of body) (all n expr body_of last))
        (frugal_quiet s' (all n expr body_of first s') (quiet_effects (at + 1) first mid ds s')) (λ _ s''. turns_frugal (mid + 1) first_test to last e body d n s''))
    frugal_node loop at to t (break_code is u h less) s = opened t _ s is (λ s'. at_rest s')
    frugal_node loop at to t (continue_code is u h) s = opened t _ s is (λ s'. at_rest s')
    frugal_node loop at to t (return_code {to = mid} e is u d h) s =
        opened t _ s is (λ s'. quiet_value e (λ v. Returned v) s' (at_least 1 s' (expr e s') (inner (at + 1) mid e d s')))
    frugal_node loop at to t (return_null_code is u h g) s = opened t _ s is (λ s'. at_rest s')

  frugal_statements : (n : ℕ) → StatementsFrugal n
  unfolding run_within
  frugal_statements zero loop at to t d s = tt
  frugal_statements (suc n) loop at to t d s = frugal_node n (frugal_statements n) loop at to t d s

  -- ---- scripts

  by_result : (w : World) (e : Ended) (r : Outcome Signal) → Frugal (start w) r → closed r ≡ Some e → length e.events ≤ length (start w).events + (w.units - 1)
  by_result w e (Goes a s) h is = subst (λ (x : Ended). length x.events ≤ length (start w).events + (w.units - 1)) (same_Some _ e is) h.2
  by_result w e (Ends x s) h is = subst (λ (x : Ended). length x.events ≤ length (start w).events + (w.units - 1)) (same_Some _ e is) h
  by_result w e Unfinished h is = absurd (none-some e is)

  pub few_events : (to : ℕ) → SequenceCode ops names None 0 p.statements to → (w : World) (e : Ended) → script p w ≡ Some e → length e.events ≤ w.units - 1
  unfolding script script_within
  few_events to d w e is =
      let n = suc w.units in
      let few = by_result w e (sequence n (expr_within n p) (run_within n p) p.statements (start w)) (sequence_frugal n (frugal_statements n) None 0 p.statements to d (start w)) is in
      omega (arith, few)
