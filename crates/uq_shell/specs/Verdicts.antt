-- What a text is as a script: it runs, or why not. Lexer, parser and compiler say it, each by its public definitions.
use Rattle.std.specs.Prelude.{◌≡◌, ◌≤◌, ◌^◌, ℕ, List, length}
use Rattle.uq_value.specs.Data.{Bytes}
use Rattle.jx9_syntax.specs.Program.{IsProgram}
use Rattle.jx9_syntax.specs.Tokens.{Lexes, Stuck}
use Rattle.jx9_syntax.specs.declared.program.Program.{Program}
use Rattle.jx9_syntax.specs.declared.token.Token.{Token}
use Rattle.jx9_parse.specs.Blames.{IsDeadIn}
use Rattle.jx9_meaning.specs.Script.{Source, source_of}
use Rattle.jx9_compile.specs.Correct.{Behaves}
use Rattle.jx9_compile.specs.Problems.{IsClean, IsFirst, problem}
use Rattle.jx9_compile.specs.declared.code.Code.{Code}
use Rattle.uq_shell.specs.declared.failure.Failure.{Failure}
use Rattle.uq_shell.specs.declared.failure.Failure.TheVariants.{Lexical, Syntax, Compile, Fault, Spent}
use Rattle.uq_shell.specs.declared.judging.NoCode.{NoCode}
use Rattle.uq_shell.specs.declared.judging.NoCode.TheVariants as none

pub data Verdict : Type 0 where
  -- it runs as this source
  Runs : Source → Verdict
  -- it is not run
  Fails : Failure → Verdict

-- P of the tokens of a text
abbrev pub OfTokens : Bytes → (List Token → Type 0) → Type 0
OfTokens text P = (tokens : List Token) × Lexes 1 text tokens × P tokens

-- P of the program of a text
abbrev pub OfProgram : Bytes → (Program → Type 0) → Type 0
OfProgram text P = OfTokens text (λ tokens. (p : Program) × IsProgram tokens p × P p)

-- The lexer comes first, then the parser, then the compiler. Only a script that is run faults or is spent.
abbrev pub IsVerdict : Bytes → Verdict → Type 0
IsVerdict text (Runs source) = OfProgram text (λ p. IsClean p × (source ≡ source_of p))
IsVerdict text (Fails (Lexical line)) = Stuck 1 text line
IsVerdict text (Fails (Syntax line)) = OfTokens text (λ tokens. (n : ℕ) × IsDeadIn tokens n line)
IsVerdict text (Fails (Compile kind line)) = OfProgram text (λ p. (token : ℕ) × IsFirst p (problem token kind line))
IsVerdict text (Fails (Fault kind line)) = ⊥
IsVerdict text (Fails Spent) = ⊥

-- how many bytes a script has at most
abbrev pub most_text : ℕ
most_text = 2 ^ 24

-- ---- judges

abbrev pub Judge : Type 0
Judge = Bytes → Verdict

-- It gives each text that is no longer than a script may be its verdict.
abbrev pub IsRight : Judge → Type 0
IsRight judge = (text : Bytes) → length text ≤ most_text → IsVerdict text (judge text)

-- each text has one verdict, and no text has two
pub record HasOneVerdict (text : Bytes) : Type 0 where
  pub verdict : Verdict
  pub is_verdict : IsVerdict text verdict
  pub only : (other : Verdict) → IsVerdict text other → other ≡ verdict

-- so there is a right judge
abbrev pub HasRightJudge : Type 0
HasRightJudge = (judge : Judge) × IsRight judge

-- ---- the code of a text

-- It runs, and as this code.
abbrev pub RunsAs : Bytes → Code → Type 0
RunsAs text code = (source : Source) × IsVerdict text (Runs source) × Behaves source code

-- It does not run; want of memory may always be the answer.
abbrev pub HasNoCode : Bytes → NoCode → Type 0
HasNoCode text (none.Failed failure) = IsVerdict text (Fails failure)
HasNoCode text none.Memory = Unit {0}
