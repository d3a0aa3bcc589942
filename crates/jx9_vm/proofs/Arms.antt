-- From an arm's op to the op that is made.
use Rattle.std.proofs.Common.{◌≡◌, ℕ, ◌+◌, ◌<◌, List, Option, Some, sym, subst, length}
use Rattle.std.specs.Prelude.{slice_get}
use Rattle.uq_value.specs.Data.{Bytes}
use Rattle.jx9_compile.specs.Machine.{ops_of}
use Rattle.jx9_compile.specs.declared.code.Code.{Code}
use Rattle.jx9_compile.specs.declared.op.Op.{Op}
use Rattle.jx9_compile.specs.declared.op.Op.TheVariants.{Pop}
use Rattle.jx9_vm.specs.declared.stop.StopCause.{StopCause}
use Rattle.jx9_vm.specs.declared.work.Flow.{Flow}
use Rattle.jx9_vm.specs.declared.work.Work.{Work}
use Rattle.jx9_vm.specs.Step.{Acts, DoesSome, Fails}

pub arm : (code : Code) (o o' : Op) (flow : Flow) (old new : Work) (w w' : Option Bytes) → o ≡ o'
    → DoesSome code (Acts code o') flow old new w w' → DoesSome code (Acts code o) flow old new w w'
arm code o o' flow old new w w' is did = subst (λ (x : Op). DoesSome code (Acts code x) flow old new w w') (sym is) did

pub arm_fails : (code : Code) (o o' : Op) (old new : Work) (w w' : Option Bytes) (f f' : ℕ) (cause : StopCause) → o ≡ o'
    → Fails (Acts code o') old new w w' f f' cause → Fails (Acts code o) old new w w' f f' cause
arm_fails code o o' old new w w' f f' cause is fails = subst (λ (x : Op). Fails (Acts code x) old new w w' f f' cause) (sym is) fails

pub within_code : (code : Code) (ops : List Op) (old : Work) → ops ≡ ops_of code old.function → old.place < length ops
    → old.place < length (ops_of code old.function)
within_code code ops old is there = subst (λ (os : List Op). old.place < length os) is there

pub dropped_in_code : (code : Code) (ops : List Op) (old : Work) → ops ≡ ops_of code old.function → slice_get ops (old.place + 1) ≡ Some Pop
    → slice_get (ops_of code old.function) (old.place + 1) ≡ Some Pop
dropped_in_code code ops old is pops = subst (λ (os : List Op). slice_get os (old.place + 1) ≡ Some Pop) is pops
