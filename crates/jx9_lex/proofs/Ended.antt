-- A list of tokens has one end, which is the last.
use Rattle.std.proofs.Common.{◌≡◌, ℕ, ◌<◌, Bool, true, false, List, [], ◌∷◌, codes, refl, ap, arith}
use Rattle.std.specs.Prelude.{if◌then◌else◌}
use Rattle.std.specs.Str.{bytes_eq}
use Rattle.uq_value.specs.Data.{Bytes}
use Rattle.jx9_syntax.specs.Grammar.{code, kind_code, sign_code, word_code}
use Rattle.jx9_syntax.specs.Program.{IsTokens}
use Rattle.jx9_syntax.specs.Tokens.{InLimit, Lexes, token_at}
use Rattle.jx9_syntax.specs.Tokens as at
use Rattle.jx9_syntax.specs.declared.sign.Sign.{Sign}
use Rattle.jx9_syntax.specs.declared.sign.Sign.TheVariants as sign
use Rattle.jx9_syntax.specs.declared.token.Token.{Token}
use Rattle.jx9_syntax.specs.declared.token.TokenKind.{TokenKind}
use Rattle.jx9_syntax.specs.declared.token.TokenKind.TheVariants as kind

-- ---- no other token has the number of the end

sign_some : (s : Sign) → 0 < sign_code s
sign_some sign.OpenParen = omega arith
sign_some sign.OpenBracket = omega arith
sign_some sign.OpenBrace = omega arith
sign_some sign.Minus = omega arith
sign_some sign.Not = omega arith
sign_some sign.Increment = omega arith
sign_some sign.Decrement = omega arith
sign_some sign.Semicolon = omega arith
sign_some sign.CloseParen = omega arith
sign_some sign.CloseBracket = omega arith
sign_some sign.CloseBrace = omega arith
sign_some sign.Comma = omega arith
sign_some sign.Colon = omega arith
sign_some sign.Question = omega arith
sign_some sign.Dot = omega arith
sign_some sign.Assign = omega arith
sign_some sign.PlusAssign = omega arith
sign_some sign.MinusAssign = omega arith
sign_some sign.TimesAssign = omega arith
sign_some sign.DivideAssign = omega arith
sign_some sign.RemainderAssign = omega arith
sign_some sign.JoinAssign = omega arith
sign_some sign.Times = omega arith
sign_some sign.Divide = omega arith
sign_some sign.Remainder = omega arith
sign_some sign.Plus = omega arith
sign_some sign.Join = omega arith
sign_some sign.Less = omega arith
sign_some sign.LessOrEqual = omega arith
sign_some sign.Greater = omega arith
sign_some sign.GreaterOrEqual = omega arith
sign_some sign.Equal = omega arith
sign_some sign.NotEqual = omega arith
sign_some sign.Same = omega arith
sign_some sign.NotSame = omega arith
sign_some sign.And = omega arith
sign_some sign.Or = omega arith

word_or : (name word : Bytes) (n m : ℕ) → 0 < n → 0 < m → 0 < (if bytes_eq name word then n else m)
word_or name word n m h g = by (bytes_eq name word)
  where
    by : (b : Bool) → 0 < (if b then n else m)
    by true = h
    by false = g

no_reserved : 0 < 8
no_reserved = omega arith

word_some : (name : Bytes) → 0 < word_code name
word_some name =
    word_or name (codes "null") 4 _ (omega arith) (
    word_or name (codes "NULL") 4 _ (omega arith) (
    word_or name (codes "true") 5 _ (omega arith) (
    word_or name (codes "TRUE") 5 _ (omega arith) (
    word_or name (codes "false") 6 _ (omega arith) (
    word_or name (codes "FALSE") 6 _ (omega arith) (
    word_or name (codes "JX9_EOL") 7 _ (omega arith) (
    word_or name (codes "function") 9 _ (omega arith) (
    word_or name (codes "print") 21 _ (omega arith) (
    word_or name (codes "if") 22 _ (omega arith) (
    word_or name (codes "while") 23 _ (omega arith) (
    word_or name (codes "for") 24 _ (omega arith) (
    word_or name (codes "foreach") 25 _ (omega arith) (
    word_or name (codes "return") 26 _ (omega arith) (
    word_or name (codes "break") 27 _ (omega arith) (
    word_or name (codes "continue") 28 _ (omega arith) (
    word_or name (codes "as") 37 _ (omega arith) (
    word_or name (codes "else") 38 _ (omega arith) (
    word_or name (codes "elseif") 39 _ (omega arith) (
    word_or name (codes "switch") 70 _ (omega arith) (
    word_or name (codes "case") 71 _ (omega arith) (
    word_or name (codes "default") 72 _ (omega arith) (
    word_or name (codes "uplink") 73 _ (omega arith) no_reserved))))))))))))))))))))))

kind_some : (k : TokenKind) → InLimit k → 0 < kind_code k
kind_some (kind.Name name) fits = word_some name
kind_some (kind.Var name) fits = omega arith
kind_some (kind.Int z) fits = omega arith
kind_some (kind.Text bs) fits = omega arith
kind_some (kind.Mixed ps) fits = omega arith
kind_some (kind.Sign s) fits = sign_some s
kind_some kind.End fits = absurd fits

code_some : (line : ℕ) (k : TokenKind) → InLimit k → code (token_at line k) ≡ 0 → ⊥
unfolding code
code_some line k fits e = let h = kind_some k fits in omega (arith, h, e)

code_end : (line : ℕ) → code (token_at line kind.End) ≡ 0
unfolding code
code_end line = refl

one_more : (t : Token) (tokens : List Token) → (code t ≡ 0 → ⊥) → IsTokens tokens → IsTokens (t ∷ tokens)
one_more t tokens other is = record {
  body = t ∷ is.body;
  last = is.last;
  split = ap (λ (ts : List Token). t ∷ ts) is.split;
  is_end = is.is_end;
  others = (other, is.others);
}

pub one_end : {line : ℕ} {text : Bytes} {tokens : List Token} → Lexes line text tokens → IsTokens tokens
one_end {line = line} at.end = record { body = []; last = token_at line kind.End; split = refl; is_end = code_end line; others = tt }
one_end (at.gap word rest split longest more) = one_end more
one_end {line = line} (at.token {ts = tokens} word rest k split longest fits more) =
    one_more (token_at line k) tokens (code_some line k fits) (one_end more)
