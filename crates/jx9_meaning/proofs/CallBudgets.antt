-- What calls, and whole scripts, do with more units.
use Rattle.std.proofs.Common.{◌≡◌, ℕ, zero, suc, ◌+◌, ◌≤◌, List, [], ◌∷◌, length, Option, Some, None, refl, sym, ◌∙◌, ap, subst, arith}
use Rattle.std.specs.Prelude.{Bool, true, false, if◌then◌else◌, nat_lt}
use Rattle.uq_value.specs.Data.{Bytes}
use Rattle.uq_value.specs.declared.value.Value.{Value}
use Rattle.uq_model.specs.Session.{committed}
use Rattle.jx9_syntax.specs.declared.expression.Expr.{Expr}
use Rattle.jx9_syntax.specs.declared.program.Function.{Function}
use Rattle.jx9_syntax.specs.declared.statement.Statement.{Statement}
use Rattle.jx9_meaning.specs.Database.{Shelf, shelf_in, DatabaseFunction, Serves, Commits, stored, with_session, commit, serve}
use Rattle.jx9_meaning.specs.Laws.{IsNotSpent, raised, LargerBudget}
use Rattle.jx9_meaning.specs.Meaning.{Ending, Done, Fault, Spent, HostFailed, Unanswered, Meaning, Outcome, Goes, Ends, Unfinished, after, ◌>>=◌, fault, tell, most_events, units_of}
use Rattle.jx9_meaning.specs.Script.{Source, Ended, Callee, Written, BuiltIn, OfDatabase, OfHost, Nobody, callee, answer_of, enters, leaves, most_active, call_written, has_size, charged, result, with_answers, answered, call_host, call_of, call, expr_within, run_within, world_after, ended, closed, start, script, script_within}
use Rattle.jx9_meaning.specs.Statement.{Signal, sequence}
use Rattle.jx9_meaning.specs.World.{State, World, Commit, Host, Answer, Given, Failed, NoMemory}
use Rattle.jx9_meaning.specs.declared.fault.FaultKind.TheVariants.{CallDepth}
use Rattle.jx9_meaning.proofs.Budgets.{raise, Follows, Scales, follows_then, scales_then, scales_pure, scales_ends, scales_ok, scales_take, scales_tell, scales_fits}
use Rattle.jx9_meaning.proofs.ExpressionBudgets.{scales_expr}
use Rattle.jx9_meaning.proofs.StatementBudgets.{scales_run, scales_sequence}

module _ (k : ℕ) where
  scales_charged : (v : Value) → Scales k (charged v) (charged v)
  unfolding charged
  scales_charged v = scales_then k _ _ _ _ (scales_take k (if has_size v then units_of v else 0)) (λ _. scales_pure k v)

  scales_result : (line : ℕ) (v : Value) → Scales k (result line v) (result line v)
  unfolding result
  scales_result line v = scales_then k _ _ _ _ (scales_fits k line v) (λ _. scales_charged v)

  scales_answers : (rest : List Answer) → Scales k (with_answers rest) (with_answers rest)
  scales_answers rest = record { by = λ s. refl }

  scales_answered : (name : Bytes) (answers : List Answer) → Scales k (answered name answers) (answered name answers)
  scales_answered name [] = scales_ends k _
  scales_answered name (Given v ∷ rest) = scales_then k _ _ _ _ (scales_answers rest) (λ _. scales_charged v)
  scales_answered name (Failed ∷ rest) = scales_then k _ _ _ _ (scales_answers rest) (λ _. scales_ends k (HostFailed name))
  scales_answered name (NoMemory ∷ rest) = scales_then k _ _ _ _ (scales_answers rest) (λ _. scales_ends k Unanswered)

  scales_host : (name : Bytes) (vs : List Value) → Scales k (call_host name vs) (call_host name vs)
  unfolding call_host
  scales_host name vs = scales_then k _ _ _ _ (scales_tell k (Host name vs)) (λ _. record { by = λ s. (scales_answered name s.world.answers).by s })

  scales_stored : (done : Value × Shelf) → Scales k (stored done) (stored done)
  scales_stored done = record { by = λ s. refl }

  scales_commit : Scales k commit commit
  scales_commit = record { by = λ s. either s s.world.session.begun (nat_lt (length s.events) most_events) }
    where
      committing : State → Bool → Bool → Outcome Value
      committing s begun room =
          if begun then (tell (Commit s.world.session.present) >>= λ _. with_session (committed s.world.session)) s
          else (if room then Goes (Value.Bool true) s else Ends Spent s)

      either : (s : State) (begun room : Bool) → Follows k (committing s begun room) (committing (raise k s) begun room)
      either s true room = follows_then k _ _ _ _ ((scales_tell k (Commit s.world.session.present)).by s) (λ _. record { by = λ t. refl })
      either s false true = refl
      either s false false = λ x. absurd x

  scales_serve : (line : ℕ) (f : DatabaseFunction) (vs : List Value) → Scales k (serve line f vs) (serve line f vs)
  unfolding serve
  scales_serve line (Serves f) vs = record { by = λ s. (scales_then k _ _ _ _ (scales_ok k line (f vs s.world.limits (shelf_in s.world))) scales_stored).by s }
  scales_serve line Commits [] = scales_commit
  scales_serve line Commits (v ∷ vs) = scales_ends k _

module _ (k : ℕ) (run run_more : Statement → Meaning Signal) (hr : (t : Statement) → Scales k (run t) (run_more t)) where
  scales_written : (line : ℕ) (f : Function) (vs : List Value) → Scales k (call_written run line f vs) (call_written run_more line f vs)
  unfolding call_written enters leaves
  scales_written line f vs = record { by = λ s. by_depth s (nat_lt s.world.active most_active) }
    where
      entered : (Statement → Meaning Signal) → State → Outcome Value
      entered run s = after (run f.body (enters f vs s)) (λ signal t. Goes (answer_of signal) (leaves s t))

      left : (s : State) (r other : Outcome Signal) → Follows k r other → Follows k (after r (λ signal t. Goes (answer_of signal) (leaves s t))) (after other (λ signal t. Goes (answer_of signal) (leaves (raise k s) t)))
      left s (Goes signal t) other h = ap (λ o. after o (λ signal t. Goes (answer_of signal) (leaves (raise k s) t))) h
      left s (Ends e t) other h = λ n. ap (λ o. after o (λ signal t. Goes (answer_of signal) (leaves (raise k s) t))) (h n)
      left s Unfinished other h = tt

      by_depth : (s : State) (b : Bool) → Follows k (if b then entered run s else fault line CallDepth s) (if b then entered run_more (raise k s) else fault line CallDepth (raise k s))
      by_depth s true = left s (run f.body (enters f vs s)) (run_more f.body (enters f vs (raise k s))) ((hr f.body).by (enters f vs s))
      by_depth s false = λ n. refl

  scales_call_of : (line : ℕ) (c : Callee) (vs : List Value) → Scales k (call_of run line c vs) (call_of run_more line c vs)
  scales_call_of line (Written f) vs = scales_written line f vs
  scales_call_of line (BuiltIn f) vs = scales_then k _ _ _ _ (scales_ok k line (f vs)) (λ v. scales_result k line v)
  scales_call_of line (OfDatabase f) vs = scales_then k _ _ _ _ (scales_serve k line f vs) (λ v. scales_result k line v)
  scales_call_of line (OfHost name) vs = scales_host k name vs
  scales_call_of line Nobody vs = scales_ends k _

  scales_call : (p : Source) (line : ℕ) (f : Value) (vs : List Value) → Scales k (call p run line f vs) (call p run_more line f vs)
  unfolding call
  scales_call p line f vs = record { by = λ s. (scales_call_of line (callee p s.world.hosts f) vs).by s }

-- ---- the levels

scales_within : (k n m : ℕ) → n ≤ m → (p : Source) → ((e : Expr) → Scales k (expr_within n p e) (expr_within m p e)) × ((t : Statement) → Scales k (run_within n p t) (run_within m p t))
unfolding expr_within run_within
scales_within k zero m le p = (λ e. record { by = λ s. tt }, λ t. record { by = λ s. tt })
scales_within k (suc n) zero le p = absurd (omega (arith, le))
scales_within k (suc n) (suc m) le p =
    let h = scales_within k n m (omega (arith, le)) p in (
      scales_expr k (expr_within n p) (expr_within m p) (call p (run_within n p)) (call p (run_within m p)) h.0 (scales_call k (run_within n p) (run_within m p) h.1 p),
      scales_run k n m (omega (arith, le)) (expr_within n p) (expr_within m p) (run_within n p) (run_within m p) h.0 h.1,
    )

-- ---- a whole script

raised_after : (k : ℕ) (e : Ending) (w : World) → world_after e (raised k w) ≡ raised k (world_after e w)
raised_after k Done w = refl
raised_after k Unanswered w = refl
raised_after k (Fault kind line) w = refl
raised_after k Spent w = refl
raised_after k (HostFailed name) w = refl

with_more : (k : ℕ) (e : Ending) (s : State) → ended e (raise k s) ≡ record (ended e s) { world = raised k (ended e s).world }
with_more k e s = ap (λ w. record (ended e s) { world = w }) (raised_after k e s.world)

abbrev more_of : ℕ → Option Ended → Option Ended
more_of k None = None
more_of k (Some r) = Some (record r { world = raised k r.world })

abbrev IsWhole : Option Ended → Type 0
IsWhole None = ⊥
IsWhole (Some r) = IsNotSpent r.ending

closed_more : {A : Type 0} (k : ℕ) (r other : Outcome A) (before : Ended) → Follows k r other → closed r ≡ Some before → IsNotSpent before.ending
    → closed other ≡ Some (record before { world = raised k before.world })
closed_more k (Goes a s) other before h is n = ap closed h ∙ ap Some (with_more k Done s) ∙ ap (more_of k) is
closed_more k (Ends e s) other before h is n = ap closed (h (subst IsWhole (sym is) n)) ∙ ap Some (with_more k e s) ∙ ap (more_of k) is
closed_more k Unfinished other before h is n = absurd (subst IsWhole (sym is) n)

pub larger_budget : LargerBudget
unfolding script script_within
larger_budget p w k before is n =
    let h = scales_within k (suc w.units) (suc (w.units + k)) (omega arith) p in
    closed_more k (sequence (suc w.units) (expr_within (suc w.units) p) (run_within (suc w.units) p) p.statements (start w)) _ before
    ((scales_sequence k (suc w.units) (suc (w.units + k)) (omega arith) (expr_within (suc w.units) p) (expr_within (suc (w.units + k)) p) (run_within (suc w.units) p) (run_within (suc (w.units + k)) p) h.0 h.1 p.statements).by (start w)) is n
