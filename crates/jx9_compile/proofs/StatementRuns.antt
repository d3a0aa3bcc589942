-- The ops of a statement do what it means.
use Rattle.std.proofs.Common.{◌≡◌, ℕ, zero, suc, ◌+◌, ◌<◌, List, [], ◌∷◌, Option, Some, None, refl, sym, ap, ◌∙◌, subst}
use Rattle.std.specs.Prelude.{Bool, true, false, if◌then◌else◌, length, nat_lt, slice_get}
use Rattle.uq_value.specs.Data.{Bytes}
use Rattle.uq_value.specs.Truth.{truth}
use Rattle.uq_value.specs.declared.value.Value.{Value}
use Rattle.uq_json.specs.Text.{text_of}
use Rattle.jx9_syntax.specs.Trees.{StatementLayer, kind_of}
use Rattle.jx9_syntax.specs.declared.expression.Expr.{Expr}
use Rattle.jx9_syntax.specs.declared.statement.Branch.{Branch}
use Rattle.jx9_syntax.specs.declared.statement.Statement.{Statement}
use Rattle.jx9_meaning.specs.Meaning.{Spent, Meaning, Goes, Ends, ◌>>=◌, ◌>>◌, pure, take, tell, each, most_events}
use Rattle.jx9_meaning.specs.Script.{Source, expr_within, run_within}
use Rattle.jx9_meaning.specs.Statement.{Signal, Next, Broke, Continued, Returned, then_next, then_turn, turns, sequence, printed, test, test_or_true, all, chosen, effect_of, executed}
use Rattle.jx9_meaning.specs.World.{State, Out, variable, with_event}
use Rattle.jx9_compile.specs.Emitted.{ExprCode, Loop, EffectsCode, no_effects, effect_code, PrintsCode, no_prints, print_code, TestCode, no_test, test_code, StatementCode, block_code, print_statement, expr_statement, if_code, while_code, for_code, break_code, continue_code, return_code, return_null_code, SequenceCode, no_statements, statement_code, BranchesCode, no_branch, other_branch, branch_code, LoopCode, loop_code}
use Rattle.jx9_compile.specs.Machine.{Frame, Machine, ops_of}
use Rattle.jx9_compile.specs.Run.{Result', gives, is_unit, left, run}
use Rattle.jx9_compile.specs.Slots.{AreDistinct}
use Rattle.jx9_compile.specs.declared.code.Code.{Code}
use Rattle.jx9_compile.specs.declared.op.Op.{Op}
use Rattle.jx9_compile.specs.declared.op.Op.TheVariants.{Push, Print, Jump, End}
use Rattle.jx9_compile.proofs.ExpressionRuns.{ExprsRun, EffectsRun, effects_run, expr_begins, effect_begins}
use Rattle.jx9_compile.proofs.Jumps.{jump_ahead, jump_back, jump_unless_runs}
use Rattle.jx9_compile.proofs.Steps.{told}
use Rattle.jx9_compile.proofs.Leads.{Leads, Follows, bare, machine, step, leads_at_once, leads_step, leads_end, leads_then, leads_on, unit_runs}

-- what stands below a statement's own values, and the calls that wait
pub record Around : Type 0 where
  pub stack : List Value
  pub callers : List Frame

module _ (p : Source) (code : Code) (function : ℕ) (names : List Bytes) (distinct : AreDistinct names) where
  abbrev ops : List Op
  ops = ops_of code function

  abbrev ER : ℕ → Type 0
  ER n = ExprsRun p code function names distinct n

  abbrev FR : ℕ → Type 0
  FR n = EffectsRun p code function names distinct n

  abbrev here : ℕ → Around → State → Machine
  here n around s = machine code function names n around.stack around.callers s

  -- where a loop's signals lead, which outside a loop would end the function
  abbrev pub out_of : Option Loop → (Loop → ℕ) → ℕ → Around → State → Result'
  out_of None place k around s = left (run code k) around.callers Value.Null (bare s)
  out_of (Some loop) place k around s = run code k (here (place loop) around s)

  -- after a statement whose ops end before `to`
  abbrev pub Goes_on : Option Loop → ℕ → Around → ℕ → Signal → State → Result'
  Goes_on loop to around k Next s = run code k (here to around s)
  Goes_on loop to around k Broke s = out_of loop (λ l. l.after) k around s
  Goes_on loop to around k Continued s = out_of loop (λ l. l.again) k around s
  Goes_on loop to around k (Returned v) s = left (run code k) around.callers v (bare s)

  -- a loop's next turn begins with a unit
  abbrev pub IsLoop : Option Loop → Type 0
  IsLoop None = Unit {0}
  IsLoop (Some loop) = is_unit (slice_get ops loop.again) ≡ true

  abbrev pub StatementsRun : ℕ → Type 0
  StatementsRun n = (loop : Option Loop) (at to : ℕ) (t : Statement) → StatementCode ops names loop at t to → IsLoop loop → (around : Around) (s : State)
      → Leads code (here at around s) (run_within n p t s) (Goes_on loop to around)

  pub statement_begins : {loop : Option Loop} {at : ℕ} {t : Statement} {to : ℕ} → StatementCode ops names loop at t to → is_unit (slice_get ops at) ≡ true
  statement_begins (block_code ts is u ds) = ap is_unit u
  statement_begins (print_statement es is u ds) = ap is_unit u
  statement_begins (expr_statement e is u d) = ap is_unit u
  statement_begins (if_code bs other is u d) = ap is_unit u
  statement_begins (while_code e body is u d) = ap is_unit u
  statement_begins (for_code first e last body is u ds j less d) = ap is_unit u
  statement_begins (break_code is u h less) = ap is_unit u
  statement_begins (continue_code is u h) = ap is_unit u
  statement_begins (return_code e is u d h) = ap is_unit u
  statement_begins (return_null_code is u h g) = ap is_unit u

  -- a statement by its layer
  opened : (n : ℕ) (t : Statement) (layer : StatementLayer) {m : Machine} {rest : ℕ → Signal → State → Result'} (s : State) → kind_of t ≡ layer
      → Leads code m ((take 1 >> effect_of n (expr_within n p) (run_within n p) t.line layer) s) rest → Leads code m (run_within (suc n) p t s) rest
  unfolding run_within executed
  opened n t layer {m = m} {rest = rest} s is l =
      subst (λ x. Leads code m ((take 1 >> effect_of n (expr_within n p) (run_within n p) t.line x) s) rest) (sym is) l

  module _ (n : ℕ) (er : ER n) (fr : FR n) (runs : StatementsRun n) where
    abbrev expr : Expr → Meaning Value
    expr = expr_within n p

    abbrev body_of : Statement → Meaning Signal
    body_of = run_within n p

    -- ---- tests

    split : (b : Bool) (k x y : ℕ) (around : Around) (s : State)
        → (if b then run code k (here x around s) else run code k (here y around s)) ≡ run code k (here (if b then x else y) around s)
    split true k x y around s = refl
    split false k x y around s = refl

    test_runs : (at to after : ℕ) (e : Option Expr) → TestCode ops names at e to after → (around : Around) (s : State)
        → Leads code (here at around s) (test_or_true n expr body_of e s) (λ k b t. run code k (here (if b then to else after) around t))
    unfolding test
    test_runs at to after e no_test around s = leads_at_once code (λ k. refl)
    test_runs at to after e' (test_code {mid = mid} e d h less) around s =
        leads_then code (expr e s) (λ v. pure (truth v)) (er at mid e d around.stack around.callers s)
        (λ v t k. (suc k, jump_unless_runs code function names mid after v around.stack around.callers t h less k ∙ split (truth v) k (mid + 1) after around t))

    -- ---- lists

    print_runs : (at mid : ℕ) (e : Expr) → ExprCode ops names at e mid → slice_get ops mid ≡ Some Print → (around : Around) (s : State)
        → Leads code (here at around s) (printed n expr body_of e s) (λ k u t. run code k (here (mid + 1) around t))
    unfolding printed variable with_event tell
    print_runs at mid e d h around s =
        leads_then code (expr e s) (λ v. tell (Out (text_of v))) (er at mid e d around.stack around.callers s)
        (λ v t. (put_out v t (nat_lt (length t.events) most_events) (λ k. step code function names mid Print (v ∷ around.stack) around.callers t h k)).by)
      where
        put_out : (v : Value) (t : State) (b : Bool)
            → ((k : ℕ) → run code (suc k) (machine code function names mid (v ∷ around.stack) around.callers t)
            ≡ gives (told (Out (text_of v)) (bare t) b) (λ _ u. run code k (record (here (mid + 1) around t) { outside = u })))
            → Leads code (machine code function names mid (v ∷ around.stack) around.callers t)
            (told (Out (text_of v)) t b) (λ k _ u. run code k (here (mid + 1) around u))
        put_out v t true is = leads_step code (Goes tt (with_event (Out (text_of v)) t)) is (leads_at_once code (λ k. refl))
        put_out v t false is = leads_end code (Ends Spent t) (λ k. is 0)

    prints_run : (at : ℕ) (es : List Expr) (to : ℕ) → PrintsCode ops names at es to → (around : Around) (s : State)
        → Leads code (here at around s) (each (printed n expr body_of) es s) (λ k us t. run code k (here to around t))
    prints_run at es to no_prints around s = leads_at_once code (λ k. refl)
    prints_run at es to (print_code {mid = mid} e es' d h ds) around s =
        leads_then code (printed n expr body_of e s) (λ u. each (printed n expr body_of) es' >>= (λ us. pure (u ∷ us))) (print_runs at mid e d h around s)
        (λ u t. (leads_then code (each (printed n expr body_of) es' t) (λ us. pure (u ∷ us)) (prints_run (mid + 1) es' to ds around t) (λ us t' k. (k, refl))).by)

    -- what follows a statement in a sequence
    next_or_out : (q : Meaning Signal) (loop : Option Loop) (mid to : ℕ) (around : Around) → ((s : State) → Leads code (here mid around s) (q s) (Goes_on loop to around))
        → (signal : Signal) (s : State) (k : ℕ) → (j : ℕ) × Follows (then_next signal q s) (Goes_on loop to around k) (Goes_on loop mid around j signal s)
    next_or_out q loop mid to around go Next s k = (go s).by k
    next_or_out q loop mid to around go Broke s k = (k, refl)
    next_or_out q loop mid to around go Continued s k = (k, refl)
    next_or_out q loop mid to around go (Returned v) s k = (k, refl)

    pub sequence_runs : (loop : Option Loop) (at : ℕ) (ts : List Statement) (to : ℕ) → SequenceCode ops names loop at ts to → IsLoop loop → (around : Around) (s : State)
        → Leads code (here at around s) (sequence n expr body_of ts s) (Goes_on loop to around)
    sequence_runs loop at ts to no_statements is around s = leads_at_once code (λ k. refl)
    sequence_runs loop at ts to (statement_code {mid = mid} t ts' d ds) is around s =
        leads_then code (body_of t s) (λ signal. then_next signal (sequence n expr body_of ts')) (runs loop at mid t d is around s)
        (next_or_out (sequence n expr body_of ts') loop mid to around (λ s'. sequence_runs loop mid ts' to ds is around s'))

    -- ---- branches

    -- behind a branch, over those that are left
    over : (loop : Option Loop) (end to : ℕ) (around : Around) → slice_get ops end ≡ Some (Jump to) → end < to
        → (k : ℕ) (signal : Signal) (s : State) → (j : ℕ) × (Goes_on loop end around j signal s ≡ Goes_on loop to around k signal s)
    over loop end to around h less k Next s = (suc k, jump_ahead code function names end to around.stack around.callers s h less k)
    over loop end to around h less k Broke s = (k, refl)
    over loop end to around h less k Continued s = (k, refl)
    over loop end to around h less k (Returned v) s = (k, refl)

    chosen_runs : (loop : Option Loop) (at : ℕ) (bs : List Branch) (other : Option Statement) (to : ℕ) → BranchesCode ops names loop at bs other to → IsLoop loop → (around : Around) (s : State)
        → Leads code (here at around s) (chosen n expr body_of bs other s) (Goes_on loop to around)
    chosen_runs loop at bs other to no_branch is around s = leads_at_once code (λ k. refl)
    chosen_runs loop at bs other to (other_branch t d) is around s = runs loop at to t d is around s
    chosen_runs loop at bs other to (branch_code {mid = mid} {end = end} b bs' other' dt d j less ds) is around s =
        leads_then code (test n expr body_of b.test s) (λ true_of. if true_of then body_of b.body else chosen n expr body_of bs' other) (test_runs at mid (end + 1) (Some b.test) dt around s)
        (λ true_of t. (by_test true_of t (chosen_runs loop (end + 1) bs' other to ds is around t)).by)
      where
        by_test : (true_of : Bool) (t : State) → Leads code (here (end + 1) around t) (chosen n expr body_of bs' other t) (Goes_on loop to around)
            → Leads code (here (if true_of then mid else end + 1) around t) ((if true_of then body_of b.body else chosen n expr body_of bs' other) t) (Goes_on loop to around)
        by_test true t rest = leads_on code (body_of b.body t) (runs loop mid end b.body d is around t) (over loop end to around j less)
        by_test false t rest = rest

    -- ---- loops

    -- what follows a loop's body, whose ops end at `to`, before the jump back
    turn_or_out : (q : Meaning Signal) (loop : Option Loop) (again to : ℕ) (around : Around) → is_unit (slice_get ops again) ≡ true → slice_get ops to ≡ Some (Jump again)
        → ((s : State) → Leads code (here again around s) (q s) (Goes_on loop (to + 1) around))
        → (signal : Signal) (s : State) (k : ℕ) → (j : ℕ) × Follows (then_turn signal q s) (Goes_on loop (to + 1) around k) (Goes_on (Some (record { after = to + 1; again = again })) to around j signal s)
    turn_or_out q loop again to around unit h go Next s k =
        let a = (go s).by k in
        (suc a.0, subst (Follows (q s) (Goes_on loop (to + 1) around k)) (sym (jump_back code function names to again around.stack around.callers s h unit a.0)) a.1)
    turn_or_out q loop again to around unit h go Broke s k = (k, refl)
    turn_or_out q loop again to around unit h go Continued s k = (go s).by k
    turn_or_out q loop again to around unit h go (Returned v) s k = (k, refl)

    -- the first op of a loop's further turns
    turn_begins : {again test mid to after : ℕ} {last : List Expr} {e : Option Expr} {loop : Option Loop} {body : Statement}
        → EffectsCode ops names again last test → TestCode ops names test e mid after → StatementCode ops names loop mid body to → is_unit (slice_get ops again) ≡ true
    turn_begins (effect_code e es d ds) t b = effect_begins p code function names distinct d
    turn_begins no_effects (test_code e d h less) b = expr_begins p code function names distinct d
    turn_begins no_effects no_test b = statement_begins b

    module _ (loop : Option Loop) (again at mid to : ℕ) (last : List Expr) (e : Option Expr) (body : Statement)
        (ds : EffectsCode ops names again last at) (dt : TestCode ops names at e mid (to + 1))
        (d : StatementCode ops names (Some (record { after = to + 1; again = again })) mid body to) (j : slice_get ops to ≡ Some (Jump again)) where
      abbrev loops : ℕ → Meaning Signal
      loops m = turns m (test_or_true n expr body_of e) (body_of body) (all n expr body_of last)

      -- the last part, and then the next turns
      next_turn : (m : ℕ) (around : Around) → ((s : State) → Leads code (here at around s) (loops m s) (Goes_on loop (to + 1) around))
          → (s : State) → Leads code (here again around s) ((all n expr body_of last >> loops m) s) (Goes_on loop (to + 1) around)
      next_turn m around go s =
          leads_then code (all n expr body_of last s) (λ u. loops m) (effects_run p code function names distinct n er fr again at last ds around.stack around.callers s) (λ u t. (go t).by)

      turn_runs : (m : ℕ) (around : Around) → ((s : State) → Leads code (here at around s) (loops m s) (Goes_on loop (to + 1) around))
          → (is : Bool) (s : State) (k : ℕ)
          → (i : ℕ) × Follows ((if is then (body_of body >>= λ signal. then_turn signal (all n expr body_of last >> loops m)) else pure Next) s) (Goes_on loop (to + 1) around k)
          (run code i (here (if is then mid else to + 1) around s))
      turn_runs m around go true s =
          (leads_then code (body_of body s) (λ signal. then_turn signal (all n expr body_of last >> loops m))
          (runs (Some (record { after = to + 1; again = again })) mid to body d (turn_begins ds dt d) around s)
          (turn_or_out (all n expr body_of last >> loops m) loop again to around (turn_begins ds dt d) j (next_turn m around go))).by
      turn_runs m around go false s = λ k. (k, refl)

      loop_runs : (m : ℕ) (around : Around) (s : State) → Leads code (here at around s) (loops m s) (Goes_on loop (to + 1) around)
      loop_runs zero around s = record { by = λ k. (0, tt) }
      loop_runs (suc m) around s =
          leads_then code (test_or_true n expr body_of e s) (λ is. if is then (body_of body >>= λ signal. then_turn signal (all n expr body_of last >> loops m)) else pure Next)
          (test_runs at mid (to + 1) e dt around s) (turn_runs m around (loop_runs m around))

    turns_run : (loop : Option Loop) (again at to : ℕ) (last : List Expr) (e : Option Expr) (body : Statement) → LoopCode ops names again last at e body to → (m : ℕ) (around : Around) (s : State)
        → Leads code (here at around s) (turns m (test_or_true n expr body_of e) (body_of body) (all n expr body_of last) s) (Goes_on loop to around)
    turns_run loop again at to last e body (loop_code {mid = mid} {to = end} last' e' body' ds dt d j) m around s = loop_runs loop again at mid end last e body ds dt d j m around s

    -- ---- statements

    pub node_runs : StatementsRun (suc n)
    node_runs loop at to t (block_code ts is u ds) is_loop around s =
        opened n t _ s is (unit_runs code function names at t.line _ around.stack around.callers s u (λ s'. sequence_runs loop (at + 1) ts to ds is_loop around s'))
    node_runs loop at to t (print_statement es is u ds) is_loop around s =
        opened n t _ s is (unit_runs code function names at t.line _ around.stack around.callers s u (λ s'.
        leads_then code (each (printed n expr body_of) es s') (λ us. pure Next) (prints_run (at + 1) es to ds around s') (λ us s'' k. (k, refl))))
    node_runs loop at to t (expr_statement e is u d) is_loop around s =
        opened n t _ s is (unit_runs code function names at t.line _ around.stack around.callers s u (λ s'.
        leads_then code (expr e s') (λ v. pure Next) (fr (at + 1) to e d around.stack around.callers s') (λ v s'' k. (k, refl))))
    node_runs loop at to t (if_code bs other is u d) is_loop around s =
        opened n t _ s is (unit_runs code function names at t.line _ around.stack around.callers s u (λ s'. chosen_runs loop (at + 1) bs other to d is_loop around s'))
    node_runs loop at to t (while_code e body is u d) is_loop around s =
        opened n t _ s is (unit_runs code function names at t.line _ around.stack around.callers s u (λ s'. turns_run loop (at + 1) (at + 1) to [] (Some e) body d n around s'))
    node_runs loop at to t (for_code {mid = mid} {test = start} first e last body is u ds j less d) is_loop around s =
        opened n t _ s is (unit_runs code function names at t.line _ around.stack around.callers s u (λ s'.
        leads_then code (all n expr body_of first s') (λ _. turns n (test_or_true n expr body_of e) (body_of body) (all n expr body_of last))
        (effects_run p code function names distinct n er fr (at + 1) mid first ds around.stack around.callers s')
        (λ _ s''. (leads_step code _ (jump_ahead code function names mid start around.stack around.callers s'' j less) (turns_run loop (mid + 1) start to last e body d n around s'')).by)))
    node_runs loop at to t (break_code {loop = inner} is u h less) is_loop around s =
        opened n t _ s is (unit_runs code function names at t.line _ around.stack around.callers s u (λ s'.
        leads_step code (Goes Broke s') (jump_ahead code function names (at + 1) inner.after around.stack around.callers s' h less) (leads_at_once code (λ k. refl))))
    node_runs loop at to t (continue_code {loop = inner} is u h) is_loop around s =
        opened n t _ s is (unit_runs code function names at t.line _ around.stack around.callers s u (λ s'.
        leads_step code (Goes Continued s') (jump_back code function names (at + 1) inner.again around.stack around.callers s' h is_loop) (leads_at_once code (λ k. refl))))
    node_runs loop at to t (return_code {to = mid} e is u d h) is_loop around s =
        opened n t _ s is (unit_runs code function names at t.line _ around.stack around.callers s u (λ s'.
        leads_then code (expr e s') (λ v. pure (Returned v)) (er (at + 1) mid e d around.stack around.callers s')
        (λ v s'' k. (suc k, step code function names mid End (v ∷ around.stack) around.callers s'' h k))))
    node_runs loop at to t (return_null_code is u h g) is_loop around s =
        opened n t _ s is (unit_runs code function names at t.line _ around.stack around.callers s u (λ s'.
        leads_step code (Goes (Returned Value.Null) s') (λ k. step code function names (at + 1) (Push Value.Null) around.stack around.callers s' h k)
        (record { by = λ k. (suc k, step code function names (at + 1 + 1) End (Value.Null ∷ around.stack) around.callers s' g k) })))

  pub unfinished : {rest : ℕ → Signal → State → Result'} (t : Statement) (m : Machine) (s : State) → Leads code m (run_within zero p t s) rest
  unfolding run_within
  unfinished t m s = record { by = λ k. (0, tt) }
