-- A token's number is that of its kind.
use Rattle.std.proofs.Common.{◌≡◌, ap, sym}
use Rattle.jx9_syntax.specs.Grammar.{code, kind_code}
use Rattle.jx9_syntax.specs.declared.token.Token.{Token}
use Rattle.jx9_syntax.specs.declared.token.TokenKind.{TokenKind}

pub number_is : (t : Token) (k : TokenKind) → t.kind ≡ k → kind_code k ≡ code t
unfolding code
number_is t k e = sym (ap kind_code e)
