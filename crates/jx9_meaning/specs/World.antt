-- What a script sees and changes.
use Rattle.std.specs.Prelude.{ℕ, if◌then◌else◌, List, [], ◌∷◌, ◌++◌}
use Rattle.std.specs.Str.{bytes_eq}
use Rattle.uq_value.specs.Data.{Bytes}
use Rattle.uq_value.specs.declared.value.Value.{Value}
use Rattle.uq_model.specs.declared.limits.Limits.{Limits}
use Rattle.uq_model.specs.Session.{Session}
use Rattle.uq_model.specs.Store.{Store}

-- A map from names. A variable that is absent is null, and a record cursor 0.
abbrev pub Named : Type 0 → Type 0
Named A = Bytes → A

abbrev pub changed : {A : Type 0} → Named A → Bytes → A → Named A
changed m name a = λ other. if bytes_eq other name then a else m other

-- ---- events and answers

-- What the outside sees of a script, in order, numbered from 0.
pub data Event : Type 0 where
  -- a text is put out
  Out : Bytes → Event
  -- a commit saves this store
  Commit : Store → Event
  -- a host function is called with these arguments
  Host : Bytes → List Value → Event

-- what a host function answers
pub data Answer : Type 0 where
  Given : Value → Answer
  Failed : Answer
  -- memory was refused: the script goes no further
  NoMemory : Answer

-- ---- the world of a script

pub record World : Type 0 where
  pub session : Session Store
  -- the limits of the store
  pub limits : Limits
  -- the record cursor of each collection
  pub cursors : Named ℕ
  -- the text of the last failure of a function of the database
  pub errlog : Bytes
  -- the units that are left
  pub units : ℕ
  -- how many functions of the text or the prelude are active
  pub active : ℕ
  -- the names in the host table
  pub hosts : List Bytes
  -- the answers of host functions that are still to come, in order
  pub answers : List Answer

-- the world in which a script begins
abbrev pub world_of : Session Store → Limits → ℕ → List Bytes → List Answer → World
world_of session limits units hosts answers = record {
  session = session;
  limits = limits;
  cursors = λ name. 0;
  errlog = [];
  units = units;
  active = 0;
  hosts = hosts;
  answers = answers;
}

-- what a statement or an expression may change: the variables of the call, the world, and the events so far
pub record State : Type 0 where
  pub own : Named Value
  pub world : World
  pub events : List Event

abbrev pub no_variables : Named Value
no_variables name = Value.Null

-- The two functions that know where a variable lives.
unfoldable pub variable : Bytes → State → Value
variable name s = s.own name

unfoldable pub with_variable : Bytes → Value → State → State
with_variable name v s = record s { own = changed s.own name v }

abbrev pub with_world : World → State → State
with_world w s = record s { world = w }

unfoldable pub with_event : Event → State → State
with_event e s = record s { events = s.events ++ e ∷ [] }
