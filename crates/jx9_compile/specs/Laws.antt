-- Laws of what code does.
use Rattle.std.specs.Prelude.{◌≡◌, ◌⊎◌}
use Rattle.jx9_syntax.specs.declared.program.Program.{Program}
use Rattle.jx9_meaning.specs.Script.{Ended}
use Rattle.jx9_meaning.specs.World.{World}
use Rattle.jx9_compile.specs.Problems.{IsClean, IsFirst}
use Rattle.jx9_compile.specs.Run.{CodeRun}
use Rattle.jx9_compile.specs.declared.code.Code.{Code}
use Rattle.jx9_compile.specs.declared.problems.Problem.{Problem}

-- from a world the code ends in one way
abbrev pub EndsOnce : Code → Type 0
EndsOnce code = (w : World) (a b : Ended) → CodeRun code w a → CodeRun code w b → a ≡ b

-- from every world the code ends
abbrev pub EndsAlways : Code → Type 0
EndsAlways code = (w : World) → (e : Ended) × CodeRun code w e

-- a program is clean, or it has one first problem
pub record HasOneOutcome (p : Program) : Type 0 where
  pub one_first : (q r : Problem) → IsFirst p q → IsFirst p r → q ≡ r
  pub not_both : (q : Problem) → IsClean p → IsFirst p q → ⊥
  pub one_of_both : IsClean p ⊎ ((q : Problem) × IsFirst p q)
