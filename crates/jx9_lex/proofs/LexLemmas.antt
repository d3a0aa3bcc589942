-- One token, or blanks or a comment, and all that follow.
use Rattle.std.proofs.Common.{◌≡◌, ◌≢◌, ◌<◌, ◌≤◌, ◌+◌, ◌-◌, ℕ, zero, suc, List, [], ◌∷◌, ◌++◌, length, take, Option, Some, None, refl, sym, ap, subst, ◌∙◌, append_assoc, append-nil, arith}
use Rattle.std.proofs.lemmas.List.{length-append}
use Rattle.uq_value.specs.Data.{Bytes}
use Rattle.jx9_syntax.specs.Bytes.{breaks}
use Rattle.jx9_syntax.specs.Tokens.{Lexeme, Of, Gap, Unclosed, Begins, InLimit, Lexes, Stuck, token_at}
use Rattle.jx9_syntax.specs.Tokens as at
use Rattle.jx9_syntax.specs.Front.{Taken, TakesLongest, front, IsFront}
use Rattle.jx9_syntax.specs.declared.token.Token.{Token}
use Rattle.jx9_syntax.specs.declared.token.TokenKind.{TokenKind}
use Rattle.jx9_syntax.specs.declared.token.TokenKind.TheVariants as kind
use Rattle.jx9_lex.specs.Answer.{tokens_of, IsLexFault, FaultAt}
use Rattle.jx9_lex.specs.Cuts.{IsBad, Fails, TakesFront}
use Rattle.jx9_lex.specs.declared.error.LexFault.{LexFault}
use Rattle.jx9_lex.specs.declared.stop.Stop.{Stop}
use Rattle.jx9_lex.specs.declared.stop.Stop.TheVariants as stop

abbrev pub FrontIsRight : Type 0
FrontIsRight = (text : Bytes) → IsFront text (front text)

-- whatever the rest of a text is cut into, the whole is cut into these and that
pub record LeadsOn (text : Bytes) (tokens : List Token) (line : ℕ) (rest : Bytes) : Type 0 where
  pub goes : (us : List Token) → Lexes line rest us → Lexes 1 text (tokens ++ us)
  pub stops : (at' : ℕ) → Stuck line rest at' → Stuck 1 text at'

pub leads_all : (text : Bytes) (tokens : List Token) → tokens ≡ [] → LeadsOn text tokens 1 text
leads_all text tokens e = record {
  goes = λ us a. subst (λ (ts : List Token). Lexes 1 text (ts ++ us)) (sym e) a;
  stops = λ at' a. a;
}

-- what is cut off
pub word_of : (rest after : Bytes) (k : Option TokenKind) → FrontIsRight → TakesFront k after (front rest) → (word : Bytes) × (rest ≡ word ++ after) × (length after < length rest)
word_of rest after None right e = let t : TakesLongest rest after Gap = subst (IsFront rest) e (right rest) in (t.word, t.split, t.shorter)
word_of rest after (Some k) right e = let t : TakesLongest rest after (Of k) = subst (IsFront rest) e.0 (right rest) in (t.word, t.split, t.shorter)

pub leads_further : (text : Bytes) (tokens longer : List Token) (line : ℕ) (rest after : Bytes) (k : Option TokenKind) → FrontIsRight → TakesFront k after (front rest) → (word : Bytes) → rest ≡ word ++ after
    → longer ≡ tokens ++ tokens_of line k → LeadsOn text tokens line rest → LeadsOn text longer (line + breaks word) after
leads_further text tokens longer line rest after None right e word split f so_far =
    let t : TakesLongest rest after Gap = subst (IsFront rest) e (right rest) in
    record {
      goes = λ us a. subst (λ (ts : List Token). Lexes 1 text (ts ++ us)) (sym (f ∙ append-nil tokens)) (so_far.goes us (at.gap word after split t.longest a));
      stops = λ at' a. so_far.stops at' (at.behind_gap word after split t.longest a);
    }
leads_further text tokens longer line rest after (Some k) right e word split f so_far =
    let t : TakesLongest rest after (Of k) = subst (IsFront rest) e.0 (right rest) in
    record {
      goes = λ us a. subst (λ (ts : List Token). Lexes 1 text ts) (sym (ap (λ (ts : List Token). ts ++ us) f ∙ append_assoc tokens (token_at line k ∷ []) us))
          (so_far.goes (token_at line k ∷ us) (at.token word after k split t.longest e.1 a));
      stops = λ at' a. so_far.stops at' (at.behind_token word after k split t.longest e.1 a);
    }

stuck_here : (line : ℕ) (rest : Bytes) (found : Taken) → length rest ≢ 0 → IsFront rest found → IsBad found → Stuck line rest line
stuck_here line [] found some' is bad = absurd (some' refl)
stuck_here line (b ∷ bs) None some' is bad = at.nothing b bs is
stuck_here line (b ∷ bs) (Some (Of k, after)) some' is bad = at.too_large after k is.longest bad
stuck_here line (b ∷ bs) (Some (Gap, after)) some' is bad = absurd bad
stuck_here line (b ∷ bs) (Some (Unclosed, after)) some' is bad = at.unclosed after is.longest

pub stops_here : (text : Bytes) (tokens : List Token) (line : ℕ) (rest : Bytes) (s : Stop) (found : LexFault) → FrontIsRight → length rest ≢ 0 → Fails s (front rest) → FaultAt line s found → LeadsOn text tokens line rest → IsLexFault text found
stops_here text tokens line rest stop.Bad found right some' bad e so_far = subst (IsLexFault text) (sym e) (so_far.stops line (stuck_here line rest (front rest) some' (right rest) bad))
stops_here text tokens line rest stop.Memory found right some' bad e so_far = subst (IsLexFault text) (sym e) tt

-- the bytes that are cut off
pub taken_is : (rest word after : Bytes) → rest ≡ word ++ after → take (length rest - length after) rest ≡ word
taken_is rest word after e =
    let n : length rest ≡ length (word ++ after) = ap length e in
    let m : length rest - length after ≡ length word = omega (arith, n, length-append word after) in
    ap (λ (k : ℕ). take k rest) m ∙ ap (λ (w : Bytes). take (length word) w) e ∙ front_of word
  where
    front_of : (w : Bytes) → take (length w) (w ++ after) ≡ w
    front_of [] = refl
    front_of (b ∷ w) = ap (λ (v : Bytes). b ∷ v) (front_of w)

pub taken_short : (n : ℕ) (rest : Bytes) → length (take n rest) ≤ length rest
taken_short zero rest = omega arith
taken_short (suc n) [] = omega arith
taken_short (suc n) (b ∷ bs) = let h = taken_short n bs in omega (arith, h)

-- the end
pub leads_end : (text : Bytes) (tokens all : List Token) (line : ℕ) (rest : Bytes) → length rest ≡ 0 → all ≡ tokens ++ token_at line kind.End ∷ [] → LeadsOn text tokens line rest → Lexes 1 text all
leads_end text tokens all line [] n e so_far = subst (λ (ts : List Token). Lexes 1 text ts) (sym e) (so_far.goes (token_at line kind.End ∷ []) at.end)
leads_end text tokens all line (b ∷ bs) n e so_far = absurd (omega (arith, n))

-- each token takes a byte at least
pub one_more_counted : (tokens longer : List Token) (line : ℕ) (rest after : Bytes) (k : Option TokenKind) (n : ℕ) → longer ≡ tokens ++ tokens_of line k → length after < length rest
    → length tokens + length rest ≤ n → length longer + length after ≤ n
one_more_counted tokens longer line rest after k n e shorter h =
    let all : length longer ≡ length (tokens ++ tokens_of line k) = ap length e in
    let one = at_most_one k in
    omega (arith, all, length-append tokens (tokens_of line k), one, shorter, h)
  where
    at_most_one : (k : Option TokenKind) → length (tokens_of line k) ≤ 1
    at_most_one None = omega arith
    at_most_one (Some k) = omega arith
