-- A text has one list of tokens, or it is stuck at one line.
use Rattle.std.proofs.Common.{◌≡◌, ℕ, zero, suc, ◌+◌, ◌<◌, ◌≤◌, ◌^◌, Bool, true, false, leb, ◌⊎◌, inl, inr, pos, negsuc, List, [], ◌∷◌, ◌++◌, length, Some, None, refl, sym, ap, subst, ◌∙◌, arith}
use Rattle.std.proofs.lemmas.Bool.{leb-true}
use Rattle.uq_value.specs.Data.{Bytes}
use Rattle.uq_value.specs.Size.{text_size, most_size}
use Rattle.jx9_syntax.specs.Bytes.{breaks}
use Rattle.jx9_syntax.specs.Tokens.{Lexeme, Of, Gap, Unclosed, Begins, Longest, FitsText, PartsFit, InLimit, token_at, Lexes, Stuck, HasOneAnswer}
use Rattle.jx9_syntax.specs.Tokens as at
use Rattle.jx9_syntax.specs.Front.{Taken, front, IsFront}
use Rattle.jx9_syntax.specs.declared.parts.Part.{Part}
use Rattle.jx9_syntax.specs.declared.parts.Part.TheVariants as part
use Rattle.jx9_syntax.specs.declared.token.Token.{Token}
use Rattle.jx9_syntax.specs.declared.token.TokenKind.{TokenKind}
use Rattle.jx9_syntax.specs.declared.token.TokenKind.TheVariants as kind
use Rattle.jx9_syntax.proofs.Runs.{same_cut}
use Rattle.jx9_syntax.proofs.FrontLemmas.{some_pair, front_of, front_right}

-- ---- one step

same_step : (text r s : Bytes) (x y : Lexeme) → Longest text r x → Longest text s y → (x ≡ y) × (r ≡ s)
same_step text r s x y a b = some_pair x y r s (sym (front_of text r x a) ∙ front_of text s y b)

same_word : (w v r s : Bytes) → w ++ r ≡ v ++ s → r ≡ s → w ≡ v
same_word w v r s e f = (same_cut w v r s e (ap length f)).0

moved : (D : ℕ → Bytes → Type 0) (line : ℕ) (text w v r s : Bytes) → text ≡ w ++ r → text ≡ v ++ s → r ≡ s → D (line + breaks v) s → D (line + breaks w) r
moved D line text w v r s e f g d =
    subst (λ (u : Bytes). D (line + breaks u) r) (sym (same_word w v r s (sym e ∙ f) g)) (subst (λ (u : Bytes). D (line + breaks v) u) (sym g) d)

nothing_empty : (rest : Bytes) (x : Lexeme) → Longest [] rest x → ⊥
unfolding front
nothing_empty rest x long = let e : ◌≡◌ {A = Taken} None (Some (x, rest)) = front_of [] rest x long in cc

gap_is_no_token : (k : TokenKind) → Gap ≡ Of k → ⊥
gap_is_no_token k e = cc

gap_is_closed : Gap ≡ Unclosed → ⊥
gap_is_closed e = cc

token_is_closed : (k : TokenKind) → Of k ≡ Unclosed → ⊥
token_is_closed k e = cc

same_kind : (k l : TokenKind) → Of k ≡ Of l → k ≡ l
same_kind k l e = cc

nothing_no_longest : (text rest : Bytes) (x : Lexeme) → ((r : Bytes) (y : Lexeme) → Begins text r y → ⊥) → Longest text rest x → ⊥
nothing_no_longest text rest x no' long = no' rest x long.begins

both_or_not : {A B : Type 0} → A ⊎ (A → ⊥) → B ⊎ (B → ⊥) → (A × B) ⊎ (A × B → ⊥)
both_or_not (inl a) (inl b) = inl (a, b)
both_or_not (inl a) (inr b) = inr (λ h. b h.1)
both_or_not (inr a) b = inr (λ h. a h.0)

-- ---- one list

pub same_list : {line : ℕ} {text : Bytes} {ts us : List Token} → Lexes line text ts → Lexes line text us → ts ≡ us
same_list at.end at.end = refl
same_list at.end (at.gap w r e long more) = absurd (nothing_empty r Gap long)
same_list at.end (at.token w r k e long fits more) = absurd (nothing_empty r (Of k) long)
same_list (at.gap w r e long more) at.end = absurd (nothing_empty r Gap long)
same_list {line = line} {text = text} {us = us} (at.gap w r e long more) (at.gap v s f other rest) =
    same_list more (moved (λ (l : ℕ) (u : Bytes). Lexes l u us) line text w v r s e f (same_step text r s Gap Gap long other).1 rest)
same_list {text = text} (at.gap w r e long more) (at.token v s k f other fits rest) = absurd (gap_is_no_token k (same_step text r s Gap (Of k) long other).0)
same_list (at.token w r k e long fits more) at.end = absurd (nothing_empty r (Of k) long)
same_list {text = text} (at.token w r k e long fits more) (at.gap v s f other rest) = absurd (gap_is_no_token k (sym (same_step text r s (Of k) Gap long other).0))
same_list {line = line} {text = text} (at.token {ts = ts} w r k e long fits more) (at.token {ts = us} v s l f other fits' rest) =
    let step = same_step text r s (Of k) (Of l) long other in
    let others : ts ≡ us = same_list more (moved (λ (n : ℕ) (u : Bytes). Lexes n u us) line text w v r s e f step.1 rest) in
    ap (λ (q : TokenKind). token_at line q ∷ ts) (same_kind k l step.0) ∙ ap (λ (vs : List Token). token_at line l ∷ vs) others

-- ---- one line

pub same_line : {line m n : ℕ} {text : Bytes} → Stuck line text m → Stuck line text n → m ≡ n
same_line (at.nothing b bs no') (at.nothing c cs no'') = refl
same_line {text = text} (at.nothing b bs no') (at.unclosed r long) = refl
same_line {text = text} (at.nothing b bs no') (at.too_large r k long big) = refl
same_line {text = text} (at.nothing b bs no') (at.behind_gap w r e long more) = absurd (nothing_no_longest text r Gap no' long)
same_line {text = text} (at.nothing b bs no') (at.behind_token w r k e long fits more) = absurd (nothing_no_longest text r (Of k) no' long)
same_line (at.unclosed r long) (at.nothing c cs no') = refl
same_line (at.unclosed r long) (at.unclosed s other) = refl
same_line (at.unclosed r long) (at.too_large s k other big) = refl
same_line {text = text} (at.unclosed r long) (at.behind_gap v s e other more) = absurd (gap_is_closed (same_step text s r Gap Unclosed other long).0)
same_line {text = text} (at.unclosed r long) (at.behind_token v s k e other fits more) = absurd (token_is_closed k (same_step text s r (Of k) Unclosed other long).0)
same_line (at.too_large r k long big) (at.nothing c cs no') = refl
same_line (at.too_large r k long big) (at.unclosed s other) = refl
same_line (at.too_large r k long big) (at.too_large s l other big') = refl
same_line {text = text} (at.too_large r k long big) (at.behind_gap v s e other more) = absurd (gap_is_no_token k (same_step text s r Gap (Of k) other long).0)
same_line {text = text} (at.too_large r k long big) (at.behind_token v s l e other fits more) =
    absurd (big (subst InLimit (same_kind l k (same_step text s r (Of l) (Of k) other long).0) fits))
same_line {text = text} (at.behind_gap w r e long more) (at.nothing c cs no') = absurd (nothing_no_longest text r Gap no' long)
same_line {text = text} (at.behind_gap w r e long more) (at.unclosed s other) = absurd (gap_is_closed (same_step text r s Gap Unclosed long other).0)
same_line {text = text} (at.behind_gap w r e long more) (at.too_large s k other big) = absurd (gap_is_no_token k (same_step text r s Gap (Of k) long other).0)
same_line {line = line} {n = n} {text = text} (at.behind_gap w r e long more) (at.behind_gap v s f other rest) =
    same_line more (moved (λ (l : ℕ) (u : Bytes). Stuck l u n) line text w v r s e f (same_step text r s Gap Gap long other).1 rest)
same_line {text = text} (at.behind_gap w r e long more) (at.behind_token v s k f other fits rest) = absurd (gap_is_no_token k (same_step text r s Gap (Of k) long other).0)
same_line {text = text} (at.behind_token w r k e long fits more) (at.nothing c cs no') = absurd (nothing_no_longest text r (Of k) no' long)
same_line {text = text} (at.behind_token w r k e long fits more) (at.unclosed s other) = absurd (token_is_closed k (same_step text r s (Of k) Unclosed long other).0)
same_line {text = text} (at.behind_token w r k e long fits more) (at.too_large s l other big) =
    absurd (big (subst InLimit (same_kind k l (same_step text r s (Of k) (Of l) long other).0) fits))
same_line {text = text} (at.behind_token w r k e long fits more) (at.behind_gap v s f other rest) = absurd (gap_is_no_token k (same_step text s r Gap (Of k) other long).0)
same_line {line = line} {n = n} {text = text} (at.behind_token w r k e long fits more) (at.behind_token v s l f other fits' rest) =
    same_line more (moved (λ (q : ℕ) (u : Bytes). Stuck q u n) line text w v r s e f (same_step text r s (Of k) (Of l) long other).1 rest)

-- ---- not both

pub never_both : {line at' : ℕ} {text : Bytes} {ts : List Token} → Lexes line text ts → Stuck line text at' → ⊥
never_both at.end (at.unclosed r long) = nothing_empty r Unclosed long
never_both at.end (at.too_large r k long big) = nothing_empty r (Of k) long
never_both at.end (at.behind_gap w r e long more) = nothing_empty r Gap long
never_both at.end (at.behind_token w r k e long fits more) = nothing_empty r (Of k) long
never_both {text = text} (at.gap w r e long more) (at.nothing b bs no') = nothing_no_longest text r Gap no' long
never_both {text = text} (at.gap w r e long more) (at.unclosed s other) = gap_is_closed (same_step text r s Gap Unclosed long other).0
never_both {text = text} (at.gap w r e long more) (at.too_large s k other big) = gap_is_no_token k (same_step text r s Gap (Of k) long other).0
never_both {line = line} {at' = at'} {text = text} (at.gap w r e long more) (at.behind_gap v s f other rest) =
    never_both more (moved (λ (l : ℕ) (u : Bytes). Stuck l u at') line text w v r s e f (same_step text r s Gap Gap long other).1 rest)
never_both {text = text} (at.gap w r e long more) (at.behind_token v s k f other fits rest) = gap_is_no_token k (same_step text r s Gap (Of k) long other).0
never_both {text = text} (at.token w r k e long fits more) (at.nothing b bs no') = nothing_no_longest text r (Of k) no' long
never_both {text = text} (at.token w r k e long fits more) (at.unclosed s other) = token_is_closed k (same_step text r s (Of k) Unclosed long other).0
never_both {text = text} (at.token w r k e long fits more) (at.too_large s l other big) = big (subst InLimit (same_kind k l (same_step text r s (Of k) (Of l) long other).0) fits)
never_both {text = text} (at.token w r k e long fits more) (at.behind_gap v s f other rest) = gap_is_no_token k (same_step text s r Gap (Of k) other long).0
never_both {line = line} {at' = at'} {text = text} (at.token w r k e long fits more) (at.behind_token v s l f other fits' rest) =
    never_both more (moved (λ (q : ℕ) (u : Bytes). Stuck q u at') line text w v r s e f (same_step text r s (Of k) (Of l) long other).1 rest)

-- ---- one of both

at_most_or_not : (m n : ℕ) → (m ≤ n) ⊎ (m ≤ n → ⊥)
at_most_or_not m n = by (leb m n) refl
  where
    by : (t : Bool) → leb m n ≡ t → (m ≤ n) ⊎ (m ≤ n → ⊥)
    by true e = inl (leb-true m n e)
    by false e = inr (λ h. let f : n < m = grind arith in omega (arith, f, h))

parts_fit_or_not : (ps : List Part) → PartsFit ps ⊎ (PartsFit ps → ⊥)
parts_fit_or_not [] = inl tt
parts_fit_or_not (part.Text bs ∷ ps) = both_or_not (at_most_or_not (text_size bs) most_size) (parts_fit_or_not ps)
parts_fit_or_not (part.Var bs ∷ ps) = both_or_not (at_most_or_not (text_size bs) most_size) (parts_fit_or_not ps)

in_limit_or_not : (k : TokenKind) → InLimit k ⊎ (InLimit k → ⊥)
in_limit_or_not (kind.Name bs) = at_most_or_not (text_size bs) most_size
in_limit_or_not (kind.Var bs) = at_most_or_not (text_size bs) most_size
in_limit_or_not (kind.Int (pos n)) = at_most_or_not (suc n) (2 ^ 63)
in_limit_or_not (kind.Int (negsuc n)) = inr (λ h. h)
in_limit_or_not (kind.Text bs) = at_most_or_not (text_size bs) most_size
in_limit_or_not (kind.Mixed ps) = parts_fit_or_not ps
in_limit_or_not (kind.Sign s) = inl tt
in_limit_or_not kind.End = inr (λ h. h)

abbrev Answer : ℕ → Bytes → Type 0
Answer line text = ((ts : List Token) × Lexes line text ts) ⊎ ((at' : ℕ) × Stuck line text at')

behind_gap : (line : ℕ) (text w r : Bytes) → text ≡ w ++ r → Longest text r Gap → Answer (line + breaks w) r → Answer line text
behind_gap line text w r e long (inl a) = inl (a.0, at.gap w r e long a.1)
behind_gap line text w r e long (inr a) = inr (a.0, at.behind_gap w r e long a.1)

behind_token : (line : ℕ) (text w r : Bytes) (k : TokenKind) → text ≡ w ++ r → Longest text r (Of k) → InLimit k → Answer (line + breaks w) r → Answer line text
behind_token line text w r k e long fits (inl a) = inl (token_at line k ∷ a.0, at.token w r k e long fits a.1)
behind_token line text w r k e long fits (inr a) = inr (a.0, at.behind_token w r k e long fits a.1)

pub answer : (n line : ℕ) (text : Bytes) → length text ≤ n → Answer line text
answer n line [] fits = inl (token_at line kind.End ∷ [], at.end)
answer zero line (b ∷ bs) fits = absurd (omega (arith, fits))
answer (suc n) line (b ∷ bs) fits = by (front (b ∷ bs)) (front_right (b ∷ bs)) (λ l r h. answer n l r h)
  where
    by : (t : Taken) → IsFront (b ∷ bs) t → ((l : ℕ) (r : Bytes) → length r ≤ n → Answer l r) → Answer line (b ∷ bs)
    by None is others = inr (line, at.nothing b bs is)
    by (Some (Unclosed, r)) is others = inr (line, at.unclosed r is.longest)
    by (Some (Gap, r)) is others = behind_gap line (b ∷ bs) is.word r is.split is.longest (others (line + breaks is.word) r (omega (arith, fits, is.shorter)))
    by (Some (Of k, r)) is others =
        elim (in_limit_or_not k) [
          | inl small ↦ behind_token line (b ∷ bs) is.word r k is.split is.longest small (others (line + breaks is.word) r (omega (arith, fits, is.shorter)))
          | inr large ↦ inr (line, at.too_large r k is.longest large)
        ]

pub one_answer : (text : Bytes) → HasOneAnswer text
one_answer text = record {
  one_list = λ ts us a b. same_list a b;
  one_line = λ m n a b. same_line a b;
  not_both = λ ts line a b. never_both a b;
  one_of_both = answer (length text) 1 text (omega arith);
}
