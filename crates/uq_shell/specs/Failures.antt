-- Scripts that are not run, or do not end as done: how that reads, and what it leaves.
use Rattle.std.specs.Prelude.{ℕ, Bool, true, false, if◌then◌else◌, List, ◌++◌, Option, Some, None, codes, decimal}
use Rattle.uq_model.specs.Session.{Call, rolled_back}
use Rattle.uq_kv.specs.Stored.{Stored}
use Rattle.jx9_meaning.specs.Meaning.{Ending, Done, Fault, Spent, HostFailed, Unanswered}
use Rattle.jx9_meaning.specs.declared.fault.FaultKind.{FaultKind}
use Rattle.jx9_meaning.specs.declared.fault.FaultKind.TheVariants.{Overflow, ZeroDivisor, NotNumber, TooLarge, TooDeep, IndexRange, NotContainer, UnknownFunction, CallDepth, BadArgument}
use Rattle.jx9_compile.specs.declared.error.CompileKind.{CompileKind}
use Rattle.jx9_compile.specs.declared.error.CompileKind.TheVariants as compile
use Rattle.uq_shell.specs.Replies.{Said}
use Rattle.uq_shell.specs.declared.failure.Failure.{Failure}
use Rattle.uq_shell.specs.declared.failure.Failure.TheVariants as failure

abbrev pub compile_text : CompileKind → List ℕ
compile_text compile.UnknownFunction = codes "compile error: unknown function"
compile_text compile.DefinedTwice = codes "compile error: function defined twice"
compile_text compile.BreakOutside = codes "compile error: break outside a loop"
compile_text compile.NotBuilt = codes "compile error: not built"

abbrev pub fault_text : FaultKind → List ℕ
fault_text Overflow = codes "fault: overflow"
fault_text ZeroDivisor = codes "fault: zero divisor"
fault_text NotNumber = codes "fault: not a number"
fault_text TooLarge = codes "fault: too large"
fault_text TooDeep = codes "fault: too deep"
fault_text IndexRange = codes "fault: index range"
fault_text NotContainer = codes "fault: not a container"
fault_text UnknownFunction = codes "fault: unknown function"
fault_text CallDepth = codes "fault: call depth"
fault_text BadArgument = codes "fault: bad argument"

-- what is wrong, and the number of the line
abbrev pub at_line : List ℕ → ℕ → List ℕ
at_line what line = what ++ codes ", line " ++ decimal line

abbrev pub failure_text : Failure → List ℕ
failure_text (failure.Lexical line) = at_line (codes "lexical error") line
failure_text (failure.Syntax line) = at_line (codes "syntax error") line
failure_text (failure.Compile kind line) = at_line (compile_text kind) line
failure_text (failure.Fault kind line) = at_line (fault_text kind) line
failure_text failure.Spent = codes "budget spent"

-- What was not committed is rolled back where the script was run.
abbrev pub aborts : Failure → Bool
aborts (failure.Lexical line) = false
aborts (failure.Syntax line) = false
aborts (failure.Compile kind line) = false
aborts (failure.Fault kind line) = true
aborts failure.Spent = true

-- its reply
abbrev pub fails_as : Failure → Said
fails_as failure = record { commits = false; text = failure_text failure; is_refusal = true }

-- what it replies and leaves of a session
abbrev pub fails : Failure → Call Stored Said
fails failure s = (fails_as failure, if aborts failure then rolled_back s else s)

-- How an ending fails. No host function is there to be called, so the last two never come.
abbrev pub failure_of : Ending → Option Failure
failure_of Done = None
failure_of (Fault kind line) = Some (failure.Fault kind line)
failure_of Spent = Some failure.Spent
failure_of (HostFailed name) = None
failure_of Unanswered = None
