-- The functions of the database.
use Rattle.std.specs.Prelude.{ℕ, true, if◌then◌else◌, nat_lt, List, [], ◌∷◌, length, Result}
use Rattle.uq_value.specs.Data.{Bytes}
use Rattle.uq_value.specs.declared.value.Value.{Value}
use Rattle.uq_model.specs.declared.limits.Limits.{Limits}
use Rattle.uq_model.specs.Session.{Session, committed}
use Rattle.uq_model.specs.Store.{Store}
use Rattle.jx9_meaning.specs.Meaning.{Meaning, Goes, Ends, Spent, ◌>>=◌, fault, ok_or, tell, most_events}
use Rattle.jx9_meaning.specs.World.{World, Named, Commit, with_world}
use Rattle.jx9_meaning.specs.declared.fault.FaultKind.{FaultKind}
use Rattle.jx9_meaning.specs.declared.fault.FaultKind.TheVariants.{BadArgument}

-- what a function of the database may look at and change
pub record Shelf : Type 0 where
  pub session : Session Store
  pub cursors : Named ℕ
  pub errlog : Bytes

abbrev pub shelf_in : World → Shelf
shelf_in w = record { session = w.session; cursors = w.cursors; errlog = w.errlog }

abbrev pub with_shelf : Shelf → World → World
with_shelf f w = record w { session = f.session; cursors = f.cursors; errlog = f.errlog }

pub data DatabaseFunction : Type 0 where
  -- a value and a new shelf, by the arguments, the store's limits and the shelf; it never touches the saved store
  Serves : (List Value → Limits → Shelf → Result (Value × Shelf) FaultKind) → DatabaseFunction
  -- `db_commit`
  Commits : DatabaseFunction

-- The table: a row for each function. That it never touches the saved store is shown for each (`rows_are_safe`).
abbrev pub database : List (Bytes × DatabaseFunction)
database = []

abbrev pub stored : Value × Shelf → Meaning Value
stored done = λ s. Goes done.0 (with_world (with_shelf done.1 s.world) s)

abbrev pub with_session : Session Store → Meaning Value
with_session session = λ s. Goes (Value.Bool true) (with_world (record s.world { session = session }) s)

-- A commit saves what is there, and is an event, exactly where a transaction is begun. Where an event would have too
-- great a number it ends the script as spent, begun or not.
abbrev pub commit : Meaning Value
commit = λ s.
    if s.world.session.begun
    then (tell (Commit s.world.session.present) >>= λ _. with_session (committed s.world.session)) s
    else (if nat_lt (length s.events) most_events then Goes (Value.Bool true) s else Ends Spent s)

abbrev pub commits_with : ℕ → List Value → Meaning Value
commits_with line [] = commit
commits_with line (v ∷ vs) = fault line BadArgument

unfoldable pub serve : ℕ → DatabaseFunction → List Value → Meaning Value
serve line (Serves f) vs = λ s. (ok_or line (f vs s.world.limits (shelf_in s.world)) >>= stored) s
serve line Commits vs = commits_with line vs
