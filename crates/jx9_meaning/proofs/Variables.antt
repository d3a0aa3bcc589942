-- A call leaves the variables of its caller.
use Rattle.std.proofs.Common.{ℕ, List, [], ◌∷◌, refl, length}
use Rattle.std.specs.Prelude.{Bool, true, false, if◌then◌else◌, nat_lt}
use Rattle.uq_value.specs.Data.{Bytes}
use Rattle.uq_value.specs.declared.value.Value.{Value}
use Rattle.jx9_syntax.specs.declared.program.Function.{Function}
use Rattle.jx9_syntax.specs.declared.statement.Statement.{Statement}
use Rattle.jx9_meaning.specs.Database.{Shelf, shelf_in, DatabaseFunction, Serves, Commits, stored, with_session, commit, serve}
use Rattle.uq_model.specs.Session.{committed}
use Rattle.jx9_meaning.specs.Laws.{LeavesVariables}
use Rattle.jx9_meaning.specs.Meaning.{Spent, HostFailed, Unanswered, Meaning, Outcome, Goes, Ends, Unfinished, after, ◌>>=◌, fault, tell, most_events, units_of}
use Rattle.jx9_meaning.specs.Script.{Callee, Written, BuiltIn, OfDatabase, OfHost, Nobody, callee, answer_of, enters, leaves, most_active, call_written, has_size, charged, result, with_answers, answered, call_host, call_of, call}
use Rattle.jx9_meaning.specs.Statement.{Signal}
use Rattle.jx9_meaning.specs.World.{State, Named, Commit, Host, Answer, Given, Failed, NoMemory}
use Rattle.jx9_meaning.proofs.Own.{Sees, Keeps, sees_then, sees_so, keeps_then, keeps_pure, keeps_ends, keeps_ok, keeps_take, keeps_tell, keeps_fits}
use Rattle.jx9_meaning.specs.declared.fault.FaultKind.TheVariants.{CallDepth}

abbrev all : Named Value → Named Value
all own = own

keeps_charged : (v : Value) → Keeps all (charged v)
unfolding charged
keeps_charged v = keeps_then all _ _ (keeps_take all (if has_size v then units_of v else 0)) (λ _. keeps_pure all v)

keeps_result : (line : ℕ) (v : Value) → Keeps all (result line v)
unfolding result
keeps_result line v = keeps_then all _ _ (keeps_fits all line v) (λ _. keeps_charged v)

keeps_answers : (rest : List Answer) → Keeps all (with_answers rest)
keeps_answers rest = record { by = λ s. refl }

keeps_answered : (name : Bytes) (answers : List Answer) → Keeps all (answered name answers)
keeps_answered name [] = keeps_ends all _
keeps_answered name (Given v ∷ rest) = keeps_then all _ _ (keeps_answers rest) (λ _. keeps_charged v)
keeps_answered name (Failed ∷ rest) = keeps_then all _ _ (keeps_answers rest) (λ _. keeps_ends all (HostFailed name))
keeps_answered name (NoMemory ∷ rest) = keeps_then all _ _ (keeps_answers rest) (λ _. keeps_ends all Unanswered)

keeps_host : (name : Bytes) (vs : List Value) → Keeps all (call_host name vs)
unfolding call_host
keeps_host name vs = keeps_then all _ _ (keeps_tell all (Host name vs)) (λ _. record { by = λ s. (keeps_answered name s.world.answers).by s })

keeps_stored : (done : Value × Shelf) → Keeps all (stored done)
keeps_stored done = record { by = λ s. refl }

keeps_commit : Keeps all commit
keeps_commit = record { by = λ s. either s s.world.session.begun (nat_lt (length s.events) most_events) }
  where
    either : (s : State) (b room : Bool) → Sees all s.own (
        if b then (tell (Commit s.world.session.present) >>= λ _. with_session (committed s.world.session)) s
        else (if room then Goes (Value.Bool true) s else Ends Spent s))
    either s true room = sees_then all s.own _ _ ((keeps_tell all (Commit s.world.session.present)).by s) (λ _. record { by = λ t. refl })
    either s false true = refl
    either s false false = tt

keeps_serve : (line : ℕ) (f : DatabaseFunction) (vs : List Value) → Keeps all (serve line f vs)
unfolding serve
keeps_serve line (Serves f) vs = record { by = λ s. (keeps_then all _ _ (keeps_ok all line (f vs s.world.limits (shelf_in s.world))) keeps_stored).by s }
keeps_serve line Commits [] = keeps_commit
keeps_serve line Commits (v ∷ vs) = keeps_ends all _

keeps_written : (run : Statement → Meaning Signal) (line : ℕ) (f : Function) (vs : List Value) → Keeps all (call_written run line f vs)
unfolding call_written leaves
keeps_written run line f vs = record { by = λ s. by_depth s (nat_lt s.world.active most_active) }
  where
    entered : State → Outcome Value
    entered s = after (run f.body (enters f vs s)) (λ signal t. Goes (answer_of signal) (leaves s t))

    left : (s : State) (r : Outcome Signal) → Sees all s.own (after r (λ signal t. Goes (answer_of signal) (leaves s t)))
    left s (Goes signal t) = refl
    left s (Ends e t) = tt
    left s Unfinished = tt

    by_depth : (s : State) (b : Bool) → Sees all s.own (if b then entered s else fault line CallDepth s)
    by_depth s true = left s (run f.body (enters f vs s))
    by_depth s false = tt

keeps_call_of : (run : Statement → Meaning Signal) (line : ℕ) (c : Callee) (vs : List Value) → Keeps all (call_of run line c vs)
keeps_call_of run line (Written f) vs = keeps_written run line f vs
keeps_call_of run line (BuiltIn f) vs = keeps_then all _ _ (keeps_ok all line (f vs)) (λ v. keeps_result line v)
keeps_call_of run line (OfDatabase f) vs = keeps_then all _ _ (keeps_serve line f vs) (λ v. keeps_result line v)
keeps_call_of run line (OfHost name) vs = keeps_host name vs
keeps_call_of run line Nobody vs = keeps_ends all _

pub leaves_variables : LeavesVariables
unfolding call
leaves_variables p run line f vs s t v e = sees_so all s.own _ v t ((keeps_call_of run line (callee p s.world.hosts f) vs).by s) e
