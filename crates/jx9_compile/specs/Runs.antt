-- Words for worked codes.
use Rattle.std.specs.Prelude.{◌≡◌, ℕ, List, [], ◌∷◌, map, Some}
use Rattle.uq_value.specs.Data.{Bytes}
use Rattle.jx9_meaning.specs.Meaning.{Ending}
use Rattle.jx9_meaning.specs.Runs.{world_with, seen}
use Rattle.jx9_meaning.specs.World.{Out}
use Rattle.jx9_compile.specs.Machine.{first}
use Rattle.jx9_compile.specs.Run.{run}
use Rattle.jx9_compile.specs.declared.code.Code.{Code}
use Rattle.jx9_compile.specs.declared.function.Function.{Function}
use Rattle.jx9_compile.specs.declared.op.Op.{Op}

abbrev pub function : ℕ → ℕ → List Op → Function
function params slots ops = record { params = params; slots = slots; ops = ops }

abbrev pub code : List Function → Code
code functions = record { functions = functions }

-- of one function with so many slots
abbrev pub alone : ℕ → List Op → Code
alone slots ops = code (function 0 slots ops ∷ [])

-- With so many units, in at most 1,000 ops, the code puts out these texts, ends so, and leaves so many units.
abbrev pub Runs : Code → ℕ → List Bytes → Ending → ℕ → Type 0
Runs code units texts ending left = seen (run code 1000 (first code (world_with units))) ≡ Some (map Out texts, ending, left)
