-- Scripts with host functions, commits, and what an ending leaves.
use Rattle.std.specs.Prelude.{◌≡◌, ℕ, ◌-◌, ◌^◌, true, pos, List, [], ◌∷◌, ◌++◌, length, Option, Some, None, Err, codes}
use Rattle.uq_value.specs.Data.{Bytes}
use Rattle.uq_value.specs.Put.{limited}
use Rattle.uq_value.specs.declared.error.ValueFault.TheVariants as value
use Rattle.uq_value.specs.declared.value.Value.{Value}
use Rattle.uq_model.specs.Session.{Session, opened}
use Rattle.uq_model.specs.Store.{Store, empty}
use Rattle.uq_model.specs.declared.limits.Limits.{Limits}
use Rattle.uq_json.specs.Text.{text_of}
use Rattle.jx9_syntax.specs.declared.expression.Binary.TheVariants.{Divide}
use Rattle.jx9_syntax.specs.declared.expression.Change.TheVariants.{Join}
use Rattle.jx9_meaning.specs.Expression.{operation as change_value}
use Rattle.jx9_meaning.specs.Building.{number, text, operation, call, print, do_expr, while, boolean, empty as nothing}
use Rattle.jx9_meaning.specs.Database.{Commits, serve}
use Rattle.jx9_meaning.specs.Meaning.{Ending, Done, Fault, Spent, HostFailed, Unanswered, Goes, Ends, tell, fits}
use Rattle.jx9_meaning.specs.Runs.{statements, seen}
use Rattle.jx9_meaning.specs.Script.{Source, Ended, script, start}
use Rattle.jx9_meaning.specs.World.{World, State, Event, Out, Commit, Host, Answer, Given, Failed, NoMemory, world_of, with_event}
use Rattle.jx9_meaning.specs.declared.fault.FaultKind.TheVariants.{ZeroDivisor, TooLarge, UnknownFunction, BadArgument}

abbrev limits : Limits
limits = record { entries = 0; bytes = 0 }

-- 100 units, and the host function `host_next` with its answers
abbrev over : Session Store → List Answer → World
over session answers = world_of session limits 100 (codes "host_next" ∷ []) answers

-- With these answers the script has these events, ends so, and leaves so many units.
abbrev pub Asks : Source → List Answer → List Event → Ending → ℕ → Type 0
Asks p answers events ending left = seen (script p (over (opened empty) answers)) ≡ Some (events, ending, left)

abbrev next : Event
next = Host (codes "host_next") []

-- 256 bytes: as a value of 259
abbrev twice : Bytes → Bytes
twice bs = bs ++ bs

abbrev long : Value
long = Value.Text (twice (twice (twice (twice (codes "abcdefghijklmnop")))))

-- a transaction is begun: one store is saved, another one is there
abbrev pub begun : Store → Store → Session Store
begun saved present = record { saved = saved; present = present; begun = true }

abbrev pub left_by : Option Ended → Option (Ending × Session Store)
left_by None = None
left_by (Some r) = Some (r.ending, r.world.session)

-- whatever store is saved and whatever is there, the script ends so, and leaves that session
abbrev pub Leaves : Source → List Answer → Ending → (Store → Store → Session Store) → Type 0
Leaves p answers ending after =
    (saved present : Store) → left_by (script p (over (begun saved present) answers)) ≡ Some (ending, after saved present)

-- a script that has had these events
abbrev pub having : Session Store → List Event → State
having session events = record (start (over session [])) { events = events }

pub record EndingRows : Type 0 where
  -- print host_next(), host_next();
  -- (1 statement and 2 nodes, and four events)
  pub two_answers : Asks (statements (print 1 (call 1 "host_next" [] ∷ call 1 "host_next" [] ∷ []) ∷ []))
      (Given (Value.Int (pos 5)) ∷ Given (Value.Int (pos 6)) ∷ [])
      (next ∷ Out (codes "5") ∷ next ∷ Out (codes "6") ∷ []) Done 97
  -- host_next();
  -- (a unit besides for the answer's size)
  pub long_answer : Asks (statements (do_expr 1 (call 1 "host_next" []) ∷ [])) (Given long ∷ []) (next ∷ []) Done 97
  -- print 1; host_next(1, 'a');
  pub host_failed : Asks
      (statements (print 1 (number 1 1 ∷ []) ∷ do_expr 1 (call 1 "host_next" (number 1 1 ∷ text 1 "a" ∷ [])) ∷ []))
      (Failed ∷ [])
      (Out (codes "1") ∷ Host (codes "host_next") (Value.Int (pos 1) ∷ Value.Text (codes "a") ∷ []) ∷ [])
      (HostFailed (codes "host_next")) 94
  -- print host_next();
  -- (its event is the last one)
  pub no_answer : Asks (statements (print 1 (call 1 "host_next" [] ∷ []) ∷ [])) [] (next ∷ []) Unanswered 98
  pub no_memory : Asks (statements (print 1 (call 1 "host_next" [] ∷ []) ∷ [])) (NoMemory ∷ []) (next ∷ [])
      Unanswered 98
  -- host_none();
  pub not_in_the_table : Asks (statements (do_expr 1 (call 1 "host_none" []) ∷ [])) [] [] (Fault UnknownFunction 1) 98
  -- print 1/0;
  pub fault_rolls_back : Leaves (statements (print 1 (operation 1 Divide (number 1 1) (number 1 0) ∷ []) ∷ [])) []
      (Fault ZeroDivisor 1) (λ saved present. opened saved)
  -- while (true) ;
  pub spent_rolls_back : Leaves (statements (while 1 (boolean 1 true) (nothing 1) ∷ [])) []
      Spent (λ saved present. opened saved)
  -- host_next();
  pub failure_rolls_back : Leaves (statements (do_expr 1 (call 1 "host_next" []) ∷ [])) (Failed ∷ [])
      (HostFailed (codes "host_next")) (λ saved present. opened saved)
  pub unanswered_leaves_it : Leaves (statements (do_expr 1 (call 1 "host_next" []) ∷ [])) [] Unanswered begun
  -- print 1;
  pub done_leaves_it : Leaves (statements (print 1 (number 1 1 ∷ []) ∷ [])) [] Done begun
  -- db_commit()
  pub commit_is_an_event : (saved present : Store) → serve 1 Commits [] (having (begun saved present) [])
      ≡ Goes (Value.Bool true) (having (opened present) (Commit present ∷ []))
  pub commit_of_nothing : (store : Store) → serve 1 Commits [] (having (opened store) [])
      ≡ Goes (Value.Bool true) (having (opened store) [])
  -- db_commit(1)
  pub commit_takes_nothing : (saved present : Store)
      → serve 1 Commits (Value.Int (pos 1) ∷ []) (having (begun saved present) [])
      ≡ Ends (Fault BadArgument 1) (having (begun saved present) [])
  -- the last event that there may be, and one more
  pub last_event : (s : State) (e : Event) → length s.events ≡ 2 ^ 64 - 2 → tell e s ≡ Goes tt (with_event e s)
  pub one_more : (s : State) (e : Event) → length s.events ≡ 2 ^ 64 - 1 → tell e s ≡ Ends Spent s
  -- db_commit() with no transaction begun, where no event may follow
  pub no_commit_at_the_end : (store : Store) (events : List Event) → length events ≡ 2 ^ 64 - 1
      → serve 1 Commits [] (having (opened store) events) ≡ Ends Spent (having (opened store) events)
  -- a result above the limit of size, on line 7
  pub too_large : (v : Value) (s : State) → limited v ≡ Err value.TooLarge → fits 7 v s ≡ Ends (Fault TooLarge 7) s
  -- so is what `..=` is to write, before it is written
  pub join_too_large : (old v : Value) (s : State) → limited (Value.Text (text_of old ++ text_of v)) ≡ Err value.TooLarge
      → change_value 7 old Join v s ≡ Ends (Fault TooLarge 7) s
