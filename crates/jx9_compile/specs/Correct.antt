-- What the compiler promises.
use Rattle.std.specs.Prelude.{◌≡◌, ℕ, ◌+◌, ◌-◌, ◌^◌, ◌<◌, true, false, List, length, Some, None, ◌⊎◌, slice_get}
use Rattle.uq_value.specs.Data.{Bytes}
use Rattle.jx9_syntax.specs.declared.program.Program.{Program}
use Rattle.jx9_syntax.specs.declared.statement.Statement.{Statement}
use Rattle.jx9_meaning.specs.Script.{Source, Ended, script}
use Rattle.jx9_meaning.specs.World.{World}
use Rattle.jx9_compile.specs.Emitted.{SequenceCode}
use Rattle.jx9_compile.specs.Machine.{ops_of}
use Rattle.jx9_compile.specs.Problems.{problem, IsFirst, AreCleanStatements}
use Rattle.jx9_compile.specs.Run.{CodeRun, is_unit}
use Rattle.jx9_compile.specs.Shape.{jump_of, callee_of}
use Rattle.jx9_compile.specs.Slots.{AreDistinct}
use Rattle.jx9_compile.specs.declared.code.Code.{Code}
use Rattle.jx9_compile.specs.declared.error.CompileFault.{CompileFault}
use Rattle.jx9_compile.specs.declared.error.CompileFault.TheVariants.{Bad, Memory}
use Rattle.jx9_compile.specs.declared.function.Function.{Function}
use Rattle.jx9_compile.specs.declared.op.Op.{Op}
use Rattle.jx9_compile.specs.declared.op.Op.TheVariants.{End}

-- From every world the code's run has the events, the ending, the units left and the world of the script's meaning.
abbrev pub Behaves : Source → Code → Type 0
Behaves p code = (w : World) (ended : Ended) → script p w ≡ Some ended → CodeRun code w ended

-- No jump leads back, or to its own place, but to a `Unit`, and no call to a function that begins with none: so no run of
-- the code is cut off by the rules that make every code end.
pub record KeepsRules (code : Code) : Type 0 where
  pub jumps : (f at to : ℕ) (op : Op) → slice_get (ops_of code f) at ≡ Some op → jump_of op ≡ Some to
      → (at < to) ⊎ (is_unit (slice_get (ops_of code f) to) ≡ true)
  pub calls : (f at callee : ℕ) (op : Op) → slice_get (ops_of code f) at ≡ Some op → callee_of op ≡ Some callee
      → is_unit (slice_get (ops_of code callee) 0) ≡ true

-- From every world with fewer than 2^64 units the code makes fewer than 2^64 - 1 events: so no run of it is cut off by the
-- rule on their number.
abbrev pub KeepsNumber : Code → Type 0
KeepsNumber code = (w : World) (ended : Ended) → w.units < 2 ^ 64 → CodeRun code w ended → length ended.events < 2 ^ 64 - 1

-- A function that runs these statements and ends. Its slots hold variables with different names.
pub record IsStart (ts : List Statement) (f : Function) : Type 0 where
  pub names : List Bytes
  pub distinct : AreDistinct names
  pub slots : f.slots ≡ length names
  pub to : ℕ
  pub runs : AreCleanStatements false ts → SequenceCode f.ops names None 0 ts to
  pub ends : slice_get f.ops to ≡ Some End
  pub whole : length f.ops ≡ to + 1

-- the first problem in order of text; nothing is said of want of memory
abbrev pub IsUncompiled : Program → CompileFault → Type 0
IsUncompiled p (Bad kind line) = (token : ℕ) × IsFirst p (problem token kind line)
IsUncompiled p Memory = Unit {0}
