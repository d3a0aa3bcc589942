-- Lists of tokens whose end stands last, put together from the back.
use Rattle.std.proofs.Common.{◌≡◌, ℕ, ◌-◌, ◌≤◌, ◌==◌, Bool, true, false, List, [], ◌∷◌, length, take, drop, get_or, refl, sym, ap, subst, ◌∙◌, arith}
use Rattle.std.proofs.lemmas.Bool.{ne_eqb}
use Rattle.jx9_syntax.specs.Grammar.{code}
use Rattle.jx9_syntax.specs.Program.{IsTokens}
use Rattle.jx9_syntax.specs.declared.token.Token.{Token}

take_all : (xs : List Token) → take (length xs) xs ≡ xs
take_all [] = refl
take_all (x ∷ xs) = ap (λ (w : List Token). x ∷ w) (take_all xs)

-- what stands behind the first
behind : (t : Token) (rest : List Token) → take (length (t ∷ rest) - 1) (drop 1 (t ∷ rest)) ≡ rest
behind t rest = let n : length (t ∷ rest) - 1 ≡ length rest = omega arith in ap (λ (m : ℕ). take m rest) n ∙ take_all rest

none_behind : (xs : List Token) → (length xs == 0) ≡ true → xs ≡ []
none_behind [] e = refl
none_behind (x ∷ xs) e = absurd (different (sym (ne_eqb (length (x ∷ xs)) 0 some) ∙ e))
  where
    different : false ≡ true → ⊥
    different e = cc

    some : length (x ∷ xs) ≡ 0 → ⊥
    some h = omega (arith, h)

-- the end alone
pub only_end : (ts : List Token) (first : Token) (b : Bool) → 1 ≤ length ts → first ≡ get_or ts 0 first → code first ≡ 0 → b ≡ (length (take (length ts - 1) (drop 1 ts)) == 0) → b ≡ true → IsTokens ts
only_end [] first b h is is_end e so = absurd (omega (arith, h))
only_end (t ∷ rest) first b h is is_end e so =
    let none : rest ≡ [] = none_behind rest (sym (ap (λ (w : List Token). length w == 0) (behind t rest)) ∙ sym e ∙ so) in
    record { body = []; last = t; split = ap (λ (w : List Token). t ∷ w) none; is_end = sym (ap code is) ∙ is_end; others = tt }

-- another token before them
pub one_more : (ts : List Token) (first : Token) → 1 ≤ length ts → first ≡ get_or ts 0 first → (code first ≡ 0 → ⊥) → IsTokens (take (length ts - 1) (drop 1 ts)) → IsTokens ts
one_more [] first h is no_end others = absurd (omega (arith, h))
one_more (t ∷ rest) first h is no_end others =
    let r : IsTokens rest = subst (λ (w : List Token). IsTokens w) (behind t rest) others in
    record { body = t ∷ r.body; last = r.last; split = ap (λ (w : List Token). t ∷ w) r.split; is_end = r.is_end; others = ((λ (e : code t ≡ 0). no_end (ap code is ∙ e)), r.others) }
