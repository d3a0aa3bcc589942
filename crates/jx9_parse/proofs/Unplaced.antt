-- Reading for the laws, which do not care where a word stands: what is read and the tokens behind it.
use Rattle.std.proofs.Common.{ℕ, zero, suc, Bool, cond, List, [], ◌∷◌, Option, Some, None, Result, Ok, Err}
use Rattle.jx9_syntax.specs.declared.token.Token.{Token}
use Rattle.jx9_parse.specs.Reading.{Tokens, ◌>>=◌, is_next}

abbrev pub Found : Type 0 → Type 0
Found A = Result (A × Tokens) Tokens

abbrev pub at_option : {A : Type 0} → Option A → Token → Tokens → Found A
at_option (Some a) t ts = Ok (a, ts)
at_option None t ts = Err (t ∷ ts)

abbrev pub one : {A : Type 0} → (Token → Option A) → Tokens → Found A
one test [] = Err []
one test (t ∷ ts) = at_option (test t) t ts

-- as long as the next token is one of these, at most n times
abbrev pub many_within : {A : Type 0} → (Token → Bool) → (Tokens → Found A) → ℕ → Tokens → Found (List A)
many_within ready r zero ts = Ok ([], ts)
many_within ready r (suc n) ts = cond (is_next ready ts) (r ts >>= λ x. many_within ready r n x.1 >>= λ y. Ok (x.0 ∷ y.0, y.1)) (Ok ([], ts))
