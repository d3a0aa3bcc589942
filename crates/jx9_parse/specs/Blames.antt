-- Why a list of tokens is refused.
use Rattle.std.specs.Prelude.{◌≡◌, ℕ, List, Some, slice_get}
use Rattle.jx9_syntax.specs.Program.{IsDead}
use Rattle.jx9_syntax.specs.declared.token.Token.{Token}
use Rattle.jx9_parse.specs.declared.error.SyntaxFault.{SyntaxFault}
use Rattle.jx9_parse.specs.declared.error.SyntaxFault.TheVariants as fault

-- the token is dead, and the line is its line
pub record IsDeadIn (tokens : List Token) (n line : ℕ) : Type 0 where
  pub is_dead : IsDead tokens n
  pub token : Token
  pub stands : slice_get tokens n ≡ Some token
  pub is_line : line ≡ token.line

-- want of memory may always be the answer
abbrev pub Blames : List Token → SyntaxFault → Type 0
Blames tokens (fault.Dead n line) = IsDeadIn tokens n line
Blames tokens fault.Memory = Unit {0}

-- the token n and its line
abbrev pub IsFaultAt : List Token → ℕ → SyntaxFault → Type 0
IsFaultAt tokens n (fault.Dead m line) = (m ≡ n) × ((t : Token) → slice_get tokens n ≡ Some t → line ≡ t.line)
IsFaultAt tokens n fault.Memory = ⊥
