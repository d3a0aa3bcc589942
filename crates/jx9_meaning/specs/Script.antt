-- Calls, and what a whole script means.
use Rattle.std.specs.Prelude.{ℕ, zero, suc, ◌+◌, ◌-◌, Bool, true, false, if◌then◌else◌, nat_lt, List, [], ◌∷◌, ◌++◌, Option, Some, None}
use Rattle.std.specs.List.{list_any}
use Rattle.std.specs.Str.{bytes_eq}
use Rattle.uq_value.specs.Data.{Bytes}
use Rattle.uq_value.specs.declared.value.Value.{Value}
use Rattle.uq_model.specs.Session.{rolled_back}
use Rattle.jx9_syntax.specs.declared.expression.Expr.{Expr}
use Rattle.jx9_syntax.specs.declared.program.Function.{Function}
use Rattle.jx9_syntax.specs.declared.program.Named.{Named as Definition}
use Rattle.jx9_syntax.specs.declared.program.Program.{Program}
use Rattle.jx9_syntax.specs.declared.statement.Statement.{Statement}
use Rattle.jx9_meaning.specs.Builtins.{Builtin, row_named, builtins}
use Rattle.jx9_meaning.specs.Database.{DatabaseFunction, database, serve}
use Rattle.jx9_meaning.specs.Expression.{lambda_name, evaluated}
use Rattle.jx9_meaning.specs.Meaning.{Ending, Done, Fault, Spent, HostFailed, Unanswered, Meaning, Outcome, Goes, Ends, Unfinished, after, ◌>>=◌, ◌>>◌, pure, fault, ends, take, tell, ok_or, fits, units_of}
use Rattle.jx9_meaning.specs.Standard.{prelude}
use Rattle.jx9_meaning.specs.Statement.{Signal, Next, Broke, Continued, Returned, executed, sequence}
use Rattle.jx9_meaning.specs.World.{State, World, Event, Host, Answer, Given, Failed, NoMemory, Named, no_variables, changed, with_world}
use Rattle.jx9_meaning.specs.declared.fault.FaultKind.TheVariants.{UnknownFunction, CallDepth}

-- What a script is to its meaning: the functions of the prelude and of the text, the lambdas by their numbers from 1,
-- and the statements at the top.
pub record Source : Type 0 where
  pub functions : List Definition
  pub lambdas : List Function
  pub statements : List Statement

abbrev pub source_of : Program → Source
source_of p = record { functions = prelude ++ p.functions; lambdas = p.lambdas; statements = p.statements }

-- ---- what a name calls

abbrev pub function_named : List Definition → Bytes → Option Function
function_named [] name = None
function_named (f ∷ fs) name = if bytes_eq f.name name then Some f.function else function_named fs name

-- lambdas are numbered from n
abbrev pub lambda_named : ℕ → List Function → Bytes → Option Function
lambda_named n [] name = None
lambda_named n (f ∷ fs) name = if bytes_eq (lambda_name n) name then Some f else lambda_named (suc n) fs name

pub data Callee : Type 0 where
  -- a function of the prelude or of the text, or a lambda
  Written : Function → Callee
  BuiltIn : Builtin → Callee
  OfDatabase : DatabaseFunction → Callee
  OfHost : Bytes → Callee
  Nobody : Callee

-- the first that there is
abbrev pub or_else : Option Callee → Callee → Callee
or_else (Some c) other = c
or_else None other = other

abbrev pub as_callee : {A : Type 0} → (A → Callee) → Option A → Option Callee
as_callee f (Some a) = Some (f a)
as_callee f None = None

abbrev pub callee_named : Source → List Bytes → Bytes → Callee
callee_named p hosts name =
    or_else (as_callee Written (function_named p.functions name)) (
    or_else (as_callee Written (lambda_named 1 p.lambdas name)) (
    or_else (as_callee BuiltIn (row_named builtins name)) (
    or_else (as_callee OfDatabase (row_named database name)) (
    if list_any (bytes_eq name) hosts then OfHost name else Nobody))))

-- what is no text names nobody
abbrev pub callee : Source → List Bytes → Value → Callee
callee p hosts (Value.Text name) = callee_named p hosts name
callee p hosts _ = Nobody

-- ---- functions of the prelude and of the text, and lambdas

-- Missing arguments are null, further ones are dropped; where parameters have the same name, the last counts.
abbrev pub bound : Named Value → List Bytes → List Value → Named Value
bound own [] vs = own
bound own (p ∷ ps) [] = bound (changed own p Value.Null) ps []
bound own (p ∷ ps) (v ∷ vs) = bound (changed own p v) ps vs

-- without `return` it is null
abbrev pub answer_of : Signal → Value
answer_of Next = Value.Null
answer_of Broke = Value.Null
answer_of Continued = Value.Null
answer_of (Returned v) = v

abbrev pub with_active : ℕ → State → State
with_active n s = with_world (record s.world { active = n }) s

-- with variables of its own
unfoldable pub enters : Function → List Value → State → State
enters f vs s = with_active (s.world.active + 1) (record s { own = bound no_variables f.params vs })

-- the caller's variables are as before
unfoldable pub leaves : State → State → State
leaves before s = with_active (s.world.active - 1) (record s { own = before.own })

-- so many may be active
abbrev pub most_active : ℕ
most_active = 256

unfoldable pub call_written : (Statement → Meaning Signal) → ℕ → Function → List Value → Meaning Value
call_written run line f vs = λ s.
    if nat_lt s.world.active most_active
    then after (run f.body (enters f vs s)) (λ signal t. Goes (answer_of signal) (leaves s t))
    else fault line CallDepth s

-- ---- results that take units by their size

abbrev pub has_size : Value → Bool
has_size (Value.Text bs) = true
has_size (Value.List ds) = true
has_size (Value.Object ms) = true
has_size _ = false

-- only texts, lists and objects take units
unfoldable pub charged : Value → Meaning Value
charged v = take (if has_size v then units_of v else 0) >> pure v

-- within the limits besides
unfoldable pub result : ℕ → Value → Meaning Value
result line v = fits line v >> charged v

-- ---- host functions

abbrev pub with_answers : List Answer → Meaning (Unit {0})
with_answers rest = λ s. Goes tt (with_world (record s.world { answers = rest }) s)

-- the next answer
abbrev pub answered : Bytes → List Answer → Meaning Value
answered name [] = ends Unanswered
answered name (Given v ∷ rest) = with_answers rest >> charged v
answered name (Failed ∷ rest) = with_answers rest >> ends (HostFailed name)
answered name (NoMemory ∷ rest) = with_answers rest >> ends Unanswered

unfoldable pub call_host : Bytes → List Value → Meaning Value
call_host name vs = tell (Host name vs) >> (λ s. answered name s.world.answers s)

-- ---- all together

abbrev pub call_of : (Statement → Meaning Signal) → ℕ → Callee → List Value → Meaning Value
call_of run line (Written f) vs = call_written run line f vs
call_of run line (BuiltIn f) vs = ok_or line (f vs) >>= result line
call_of run line (OfDatabase f) vs = serve line f vs >>= result line
call_of run line (OfHost name) vs = call_host name vs
call_of run line Nobody vs = fault line UnknownFunction

unfoldable pub call : Source → (Statement → Meaning Signal) → ℕ → Value → List Value → Meaning Value
call p run line f vs = λ s. call_of run line (callee p s.world.hosts f) vs s

-- With a bound on the levels: each level of nodes and of calls and each turn of a loop takes a unit.
unfoldable mutual
  pub expr_within : ℕ → Source → Expr → Meaning Value
  expr_within zero p e = λ s. Unfinished
  expr_within (suc n) p e = evaluated (expr_within n p) (call p (run_within n p)) e

  pub run_within : ℕ → Source → Statement → Meaning Signal
  run_within zero p t = λ s. Unfinished
  run_within (suc n) p t = executed n (expr_within n p) (run_within n p) t

-- ---- a whole script

pub record Ended : Type 0 where
  pub events : List Event
  pub ending : Ending
  pub world : World

abbrev pub aborted : World → World
aborted w = record w { session = rolled_back w.session }

-- Each ending but done and unanswered rolls the session back. Done leaves a transaction as it is.
abbrev pub world_after : Ending → World → World
world_after Done w = w
world_after Unanswered w = w
world_after (Fault kind line) w = aborted w
world_after Spent w = aborted w
world_after (HostFailed name) w = aborted w

abbrev pub ended : Ending → State → Ended
ended e s = record { events = s.events; ending = e; world = world_after e s.world }

-- a `return` at the top ends the script as done
abbrev pub closed : {A : Type 0} → Outcome A → Option Ended
closed (Goes a s) = Some (ended Done s)
closed (Ends e s) = Some (ended e s)
closed Unfinished = None

abbrev pub start : World → State
start w = record { own = no_variables; world = w; events = [] }

-- what a script does within n levels
unfoldable pub script_within : ℕ → Source → World → Option Ended
script_within n p w = closed (sequence n (expr_within n p) (run_within n p) p.statements (start w))

-- From this world the script has these events, and ends so. A level more than the units left is always enough.
unfoldable pub script : Source → World → Option Ended
script p w = script_within (suc w.units) p w
