-- What cutting a text into tokens answers.
use Rattle.std.specs.Prelude.{◌≡◌, ℕ, List, [], ◌∷◌, Option, Some, None}
use Rattle.uq_value.specs.Data.{Bytes}
use Rattle.jx9_syntax.specs.Tokens.{Stuck, token_at}
use Rattle.jx9_syntax.specs.declared.token.Token.{Token}
use Rattle.jx9_syntax.specs.declared.token.TokenKind.{TokenKind}
use Rattle.jx9_lex.specs.declared.error.LexFault.{LexFault}
use Rattle.jx9_lex.specs.declared.error.LexFault.TheVariants as fault
use Rattle.jx9_lex.specs.declared.stop.Stop.{Stop}
use Rattle.jx9_lex.specs.declared.stop.Stop.TheVariants as stop

-- the line is that of the first byte at which no token begins; want of memory may always be the answer
abbrev pub IsLexFault : Bytes → LexFault → Type 0
IsLexFault text (fault.Bad line) = Stuck 1 text line
IsLexFault text fault.Memory = Unit {0}

-- where nothing is cut off in this line
abbrev pub FaultAt : ℕ → Stop → LexFault → Type 0
FaultAt line stop.Bad found = found ≡ fault.Bad line
FaultAt line stop.Memory found = found ≡ fault.Memory

-- a token that is there
abbrev pub tokens_of : ℕ → Option TokenKind → List Token
tokens_of line None = []
tokens_of line (Some k) = token_at line k ∷ []
