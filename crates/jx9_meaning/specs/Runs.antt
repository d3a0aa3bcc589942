-- Words for worked scripts.
use Rattle.std.specs.Prelude.{◌≡◌, ℕ, List, [], ◌++◌, map, Option, Some, None}
use Rattle.uq_value.specs.Data.{Bytes}
use Rattle.uq_model.specs.Session.{opened}
use Rattle.uq_model.specs.Store.{empty}
use Rattle.jx9_syntax.specs.declared.program.Function.{Function}
use Rattle.jx9_syntax.specs.declared.program.Named.{Named}
use Rattle.jx9_syntax.specs.declared.statement.Statement.{Statement}
use Rattle.jx9_meaning.specs.Meaning.{Ending}
use Rattle.jx9_meaning.specs.Script.{Source, Ended, script}
use Rattle.jx9_meaning.specs.Standard.{prelude}
use Rattle.jx9_meaning.specs.World.{World, Event, Out, world_of}

-- a script of functions, lambdas and statements
abbrev pub script_of : List Named → List Function → List Statement → Source
script_of functions lambdas ts = record { functions = prelude ++ functions; lambdas = lambdas; statements = ts }

-- of statements alone
abbrev pub statements : List Statement → Source
statements ts = script_of [] [] ts

-- with so many units, over an empty store that may hold nothing more
abbrev pub world_with : ℕ → World
world_with n = world_of (opened empty) (record { entries = 0; bytes = 0 }) n [] []

-- the events, the ending and the units that are left
abbrev pub seen : Option Ended → Option (List Event × Ending × ℕ)
seen None = None
seen (Some r) = Some (r.events, r.ending, r.world.units)

-- With so many units the script puts out these texts, ends so, and leaves so many units.
abbrev pub Runs : Source → ℕ → List Bytes → Ending → ℕ → Type 0
Runs p units texts ending left = seen (script p (world_with units)) ≡ Some (map Out texts, ending, left)
