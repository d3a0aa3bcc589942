-- What a script does in a run.
use Rattle.std.specs.Prelude.{ℕ, ◌-◌, List, [], map, Option, Some, None}
use Rattle.uq_model.specs.Session.{opened}
use Rattle.uq_model.specs.Store.{empty}
use Rattle.jx9_meaning.specs.Meaning.{Ending, Done, Fault, Spent, HostFailed, Unanswered}
use Rattle.jx9_meaning.specs.Script.{Ended, Source, script}
use Rattle.jx9_meaning.specs.World.{World, world_of}
use Rattle.jx9_meaning.specs.World as world
use Rattle.uq_shell.specs.Events.{Event, Out}
use Rattle.uq_shell.specs.Failures.{failure_of}
use Rattle.uq_shell.specs.Verdicts.{Verdict, Runs, Fails}
use Rattle.uq_shell.specs.declared.failure.Failure.{Failure}
use Rattle.uq_shell.specs.declared.terms.Terms.{Terms}

-- its events, how it fails where it is not done, and the units that it takes
pub record Played : Type 0 where
  pub events : List Event
  pub failure : Option Failure
  pub units : ℕ

-- An event of a script, as one of the run. What it commits is kept in its own base, in memory, and nothing is written for it.
abbrev pub shown : world.Event → Event
shown (world.Out bytes) = Out bytes
shown (world.Commit store) = Out []
shown (world.Host name vs) = Out []

-- it takes all of its budget where it is spent, and else what is not left
abbrev pub taken_by : Ending → ℕ → ℕ → ℕ
taken_by Done budget left = budget - left
taken_by (Fault kind line) budget left = budget - left
taken_by Spent budget left = budget
taken_by (HostFailed name) budget left = budget - left
taken_by Unanswered budget left = budget - left

-- Every script ends.
abbrev pub played : ℕ → Option Ended → Played
played budget None = record { events = []; failure = None; units = 0 }
played budget (Some ended) = record {
  events = map shown ended.events;
  failure = failure_of ended.ending;
  units = taken_by ended.ending budget ended.world.units;
}

-- the world of a script: a store with nothing in it, and the whole budget
abbrev pub fresh : Terms → World
fresh terms = world_of (opened empty) terms.limits terms.budget [] []

-- a script that runs
abbrev pub plays : Terms → Source → Played
plays terms source = played terms.budget (script source (fresh terms))

-- a script that is refused does nothing
abbrev pub played_by : Terms → Verdict → Played
played_by terms (Runs source) = plays terms source
played_by terms (Fails failure) = record { events = []; failure = Some failure; units = 0 }
