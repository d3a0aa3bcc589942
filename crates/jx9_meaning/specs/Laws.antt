-- Laws of the meaning: every script ends, what it may have changed then, and what a call leaves alone.
use Rattle.std.specs.Prelude.{◌≡◌, ℕ, ◌+◌, ◌*◌, ◌≤◌, false, List, [], ◌∷◌, length, Some}
use Rattle.uq_value.specs.Data.{Bytes}
use Rattle.uq_value.specs.declared.value.Value.{Value}
use Rattle.uq_model.specs.Session.{Session, opened}
use Rattle.uq_model.specs.Store.{Store}
use Rattle.jx9_syntax.specs.declared.expression.Expr.{Expr}
use Rattle.jx9_syntax.specs.declared.statement.Statement.{Statement}
use Rattle.jx9_meaning.specs.Meaning.{Ending, Done, Fault, Spent, HostFailed, Unanswered, Meaning, Goes}
use Rattle.jx9_meaning.specs.Script.{Source, Ended, script, call, expr_within}
use Rattle.jx9_meaning.specs.Statement.{Signal}
use Rattle.jx9_meaning.specs.Writes.{may_write}
use Rattle.jx9_meaning.specs.World.{World, State, Event, Out, Commit, Host}

-- the store of the last commit among some events, or this one where there is none
abbrev pub last_saved : Store → List Event → Store
last_saved store [] = store
last_saved store (Out bytes ∷ es) = last_saved store es
last_saved store (Commit saved ∷ es) = last_saved saved es
last_saved store (Host name vs ∷ es) = last_saved store es

-- with no transaction begun, what is there is what was saved
abbrev pub SavedUnlessBegun : Session Store → Type 0
SavedUnlessBegun s = s.begun ≡ false → s.saved ≡ s.present

abbrev pub IsAborted : Ending → Type 0
IsAborted Done = ⊥
IsAborted Unanswered = ⊥
IsAborted (Fault kind line) = Unit {0}
IsAborted Spent = Unit {0}
IsAborted (HostFailed name) = Unit {0}

-- From this world the script ends.
pub record EndsWell (p : Source) (w : World) : Type 0 where
  pub ended : Ended
  pub is_script : script p w ≡ Some ended
  -- no units come
  pub units : ended.world.units ≤ w.units
  -- for each unit that it took there are two events at most
  pub events : length ended.events + 2 * ended.world.units ≤ 2 * w.units
  -- these stay
  pub limits : ended.world.limits ≡ w.limits
  pub hosts : ended.world.hosts ≡ w.hosts
  -- nothing but a commit changes the saved store
  pub saved : ended.world.session.saved ≡ last_saved w.session.saved ended.events
  -- an aborted script leaves the saved store, and no transaction
  pub aborted : IsAborted ended.ending → SavedUnlessBegun w.session
      → ended.world.session ≡ opened (last_saved w.session.saved ended.events)

-- A call leaves the variables of its caller as they are, whatever it runs.
abbrev pub LeavesVariables : Type 0
LeavesVariables =
    (p : Source) (run : Statement → Meaning Signal) (line : ℕ) (f : Value) (vs : List Value) (s t : State) (v : Value)
    → call p run line f vs s ≡ Goes v t → t.own ≡ s.own

-- A variable that an expression does not write itself is as before, whatever it evaluates and calls.
abbrev pub KeepsUnwritten : Type 0
KeepsUnwritten =
    (n k : ℕ) (p : Source) (e : Expr) (name : Bytes) (s t : State) (v : Value) → may_write k name e ≡ false
    → expr_within n p e s ≡ Goes v t → t.own name ≡ s.own name

-- ---- budgets

abbrev pub IsNotSpent : Ending → Type 0
IsNotSpent Done = Unit {0}
IsNotSpent Unanswered = Unit {0}
IsNotSpent (Fault kind line) = Unit {0}
IsNotSpent Spent = ⊥
IsNotSpent (HostFailed name) = Unit {0}

-- with k units more
abbrev pub raised : ℕ → World → World
raised k w = record w { units = w.units + k }

-- With k units more, a script that is not spent has the same events and the same end, with k units more.
abbrev pub LargerBudget : Type 0
LargerBudget =
    (p : Source) (w : World) (k : ℕ) (before : Ended) → script p w ≡ Some before → IsNotSpent before.ending
    → script p (raised k w) ≡ Some (record before { world = raised k before.world })
