-- What a run is, and its end.
use Rattle.std.specs.Prelude.{ℕ, Bool, if◌then◌else◌, List, [], ◌∷◌, ◌++◌}
use Rattle.uq_model.specs.Session.{Session}
use Rattle.uq_kv.specs.Stored.{Stored}
use Rattle.uq_shell.specs.Events.{Event, Commit}
use Rattle.uq_shell.specs.Statuses.{status_of}
use Rattle.uq_shell.specs.declared.status.Status.{Status}

pub record Outcome : Type 0 where
  pub events : List Event
  pub status : Status
  -- what its scripts take together
  pub units : ℕ

-- what is begun is committed at the end
abbrev pub commit_at_end : Session Stored → List Event
commit_at_end s = if s.begun then Commit s.present ∷ [] else []

-- Behind these events the input ends, with this session, with a refusal among the replies or none, and with these units taken.
abbrev pub ended_with : List Event → Session Stored → Bool → ℕ → Outcome
ended_with before s is_refusal units = record { events = before ++ commit_at_end s; status = status_of is_refusal; units = units }
