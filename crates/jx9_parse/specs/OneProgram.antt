-- A list of tokens has one program, or one token of it is dead.
use Rattle.std.specs.Prelude.{◌≡◌, ℕ, ◌⊎◌, List}
use Rattle.jx9_syntax.specs.Program.{IsProgram, IsProgramOf, IsTokens, Trees}
use Rattle.jx9_syntax.specs.declared.program.Program.{Program}
use Rattle.jx9_syntax.specs.declared.token.Token.{Token}
use Rattle.jx9_parse.specs.Blames.{IsDeadIn}

-- at most one of both, and where the one end stands last, one
pub record HasOneProgram (tokens : List Token) : Type 0 where
  pub one_program : (p q : Program) → IsProgram tokens p → IsProgram tokens q → p ≡ q
  pub same_trees : (found others : Trees) → IsProgramOf tokens found → IsProgramOf tokens others → found ≡ others
  pub one_dead : (m n line at : ℕ) → IsDeadIn tokens m line → IsDeadIn tokens n at → (m ≡ n) × (line ≡ at)
  pub not_both : (found : Trees) (n line : ℕ) → IsProgramOf tokens found → IsDeadIn tokens n line → ⊥
  pub one_of_both : IsTokens tokens → ((p : Program) × IsProgram tokens p) ⊎ ((n line : ℕ) × IsDeadIn tokens n line)
