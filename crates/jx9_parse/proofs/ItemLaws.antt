-- What is read of definitions and statements. A word `function` with a name behind it is a definition, and else a lambda.
use Rattle.std.proofs.Common.{◌≡◌, ℕ, Bool, true, IsTrue, cond, eqb, inl, inr, List, [], ◌∷◌, ◌++◌, Some, None, codes, refl, sym, ap, subst, ◌∙◌}
use Rattle.std.proofs.lemmas.Bool.{eq-eqb}
use Rattle.uq_value.specs.Data.{Bytes}
use Rattle.jx9_syntax.specs.Grammar.{code, Rule, Spot, spot, is_word, pair, function_of, at, with_steps, IsExpr}
use Rattle.jx9_syntax.specs.Making.{Making, nothing, then_made, lambda_made}
use Rattle.jx9_syntax.specs.Words.{One}
use Rattle.jx9_syntax.specs.declared.expression.Expr.{Expr}
use Rattle.jx9_syntax.specs.declared.expression.Node
use Rattle.jx9_syntax.specs.declared.expression.Step.TheVariants as step
use Rattle.jx9_syntax.specs.declared.sign.Sign.TheVariants as sign
use Rattle.jx9_syntax.specs.declared.statement.Statement.{Statement}
use Rattle.jx9_syntax.specs.declared.token.Token.{Token}
use Rattle.jx9_parse.specs.Reading.{Tokens, Reader}
use Rattle.jx9_parse.proofs.Sets.{In, Begin, apart, apart_no}
use Rattle.jx9_parse.proofs.Singles.{part_sign, part_step, part_literal, literals}
use Rattle.jx9_parse.proofs.Primaries.{Inner}
use Rattle.jx9_parse.proofs.Unaries.{Other, other, no_variable, Lambda, NoVariable, the_parameters, bracketed, braced, call_by_name}
use Rattle.jx9_parse.proofs.ExprLaws.{or_rest}
use Rattle.jx9_parse.proofs.Heads.{into_expr, back_expr, variable_first}

-- the second token is one of these
abbrev pub Second : List ℕ → Tokens → Type 0
Second cs w = (t u : Token) × (more : Tokens) × (w ≡ t ∷ (u ∷ more)) × In cs u

pub second_front : (cs : List ℕ) (w front back : Tokens) → w ≡ front ++ back → Second cs front → Second cs w
second_front cs w front back e s = (s.0, s.1, s.2 ++ back, e ∙ ap (λ (u : Tokens). u ++ back) s.3, s.4)

pub one_begin : (cs ds : List ℕ) → apart cs ds ≡ true → (w : Tokens) → Begin cs w → Begin ds w → ⊥
one_begin cs ds h w s t = apart_no cs ds h (code s.0) s.3 (subst (λ (u : Token). In ds u) (same s.0 t.0 s.1 t.1 (sym s.2 ∙ t.2)) t.3)
  where
    same : (a b : Token) (us vs : Tokens) → a ∷ us ≡ b ∷ vs → b ≡ a
    same a b us vs e = cc

-- what begins the whole begins the front, where that is not empty
pub front_begin : (cs ds : List ℕ) (w front back : Tokens) → w ≡ front ++ back → Begin cs front → Begin ds w → Begin ds front
front_begin cs ds w front back e s t = (s.0, s.1, s.2, subst (λ (u : Token). In ds u) (same s.0 t.0 (s.1 ++ back) t.1 (sym (e ∙ ap (λ (u : Tokens). u ++ back) s.2) ∙ t.2)) t.3)
  where
    same : (a b : Token) (us vs : Tokens) → a ∷ us ≡ b ∷ vs → b ≡ a
    same a b us vs e = cc

-- a word whose front begins otherwise does not begin with `function`
pub not_function : {A : Type 0} (cs : List ℕ) → apart cs (9 ∷ []) ≡ true → (w front back : Tokens) → w ≡ front ++ back → Begin cs front → Begin (9 ∷ []) w → A
not_function cs h w front back e s f = absurd (one_begin cs (9 ∷ []) h w (s.0, s.1 ++ back, e ∙ ap (λ (u : Tokens). u ++ back) s.2, s.3) f)

pub one_function : (t : Token) → code t ≡ 9 → One (is_word (codes "function")) (t ∷ []) (spot t)
one_function t e = record { token = t; is_word = refl; tells = ap (λ (b : Bool). cond b (Some (spot t)) None) (eq-eqb (code t) 9 e) }

module _ {inside : Bool} {U E : Rule Expr} {B : Rule Statement} {un expr : Reader Expr} {block : Reader Statement} (i : Inner inside U E B un expr block) where
  lambda_second : (w : Tokens) (m : Making Expr) → Lambda i w m → Second (10 ∷ []) w
  lambda_second w m is =
      let l = is.is_word in
      let f = l.is_left in
      let p = l.is_right in
      let s = (the_parameters i).starts p.front p.left p.is_left in
      (f.token, s.0, s.1 ++ p.back, l.parts ∙ ap (λ (u : Tokens). u ++ l.back) f.is_word ∙ ap (λ (u : Tokens). f.token ∷ u) (p.parts ∙ ap (λ (u : Tokens). u ++ p.back) s.2), s.3)

  other_second : (w : Tokens) (m : Making Expr) → Other i w m → Begin (9 ∷ []) w → Second (10 ∷ []) w
  other_second w m (inl is) f = not_function (10 ∷ []) refl w is.front is.back is.parts ((part_sign sign.OpenParen).starts is.front is.left is.is_left) f
  other_second w m (inr (inl is)) f = absurd (one_begin (11 ∷ []) (9 ∷ []) refl w ((bracketed i).starts w m is) f)
  other_second w m (inr (inr (inl is))) f = absurd (one_begin (12 ∷ []) (9 ∷ []) refl w ((braced i).starts w m is) f)
  other_second w m (inr (inr (inr (inl is)))) f = absurd (one_begin (8 ∷ []) (9 ∷ []) refl w ((call_by_name i).starts w m is) f)
  other_second w m (inr (inr (inr (inr (inl is))))) f = lambda_second w m is
  other_second w m (inr (inr (inr (inr (inr is))))) f = absurd (one_begin literals (9 ∷ []) refl w (part_literal.starts w m is) f)

  no_variable_second : (w : Tokens) (m : Making Expr) → NoVariable i w m → Begin (9 ∷ []) w → Second (10 ∷ []) w
  no_variable_second w m (inl is) f = not_function (13 ∷ []) refl w is.front is.back is.parts ((part_sign sign.Minus).starts is.front is.left is.is_left) f
  no_variable_second w m (inr (inl is)) f = not_function (14 ∷ []) refl w is.front is.back is.parts ((part_sign sign.Not).starts is.front is.left is.is_left) f
  no_variable_second w m (inr (inr (inl is))) f = not_function (15 ∷ 16 ∷ []) refl w is.front is.back is.parts ((part_step step.IncrementFirst step.DecrementFirst).starts is.front is.left is.is_left) f
  no_variable_second w m (inr (inr (inr is))) f =
      second_front (10 ∷ []) w is.front is.back is.parts (other_second is.front is.left is.is_left (front_begin (10 ∷ 11 ∷ 12 ∷ 8 ∷ 9 ∷ literals) (9 ∷ []) w is.front is.back is.parts ((other i).starts is.front is.left is.is_left) f))

  -- an expression that begins with `function` has `(` behind it
  pub expr_second : (w : Tokens) (m : Making Expr) → IsExpr U E B w m → Begin (9 ∷ []) w → Second (10 ∷ []) w
  expr_second w m is f = elim (back_expr i w m is) [
    | inl v ↦ absurd (one_begin (17 ∷ []) (9 ∷ []) refl w ((variable_first i).starts w m v) f)
    | inr o ↦ second_front (10 ∷ []) w o.front o.back o.parts (no_variable_second o.front o.left o.is_left
        (front_begin (13 ∷ 14 ∷ 15 ∷ 16 ∷ 10 ∷ 11 ∷ 12 ∷ 8 ∷ 9 ∷ literals) (9 ∷ []) w o.front o.back o.parts ((no_variable i).starts o.front o.left o.is_left) f))
  ]

  -- with room there is one that begins with this token
  pub some_lambda : (t : Token) → code t ≡ 9 → IsTrue inside → (w : Tokens) × (m : Making Expr) × IsExpr U E B (t ∷ w) m
  some_lambda t e room =
      let p = (the_parameters i).some in
      let b = (i.a_block.part room).some in
      let f : Making (Spot × (List Bytes × Statement)) = then_made pair (spot t) (then_made pair p.1 b.1) in
      let l : Making Expr = lambda_made (λ x n. at x.0 (Node.Lambda n)) (λ x. function_of x.1) f in
      let o : Making Expr = then_made with_steps l (nothing []) in
      let r = (or_rest i).some o in (
        (((p.0 ++ b.0) ++ []) ++ r.0),
        r.1,
        into_expr i (t ∷ (((p.0 ++ b.0) ++ []) ++ r.0)) r.1 (inr (record {
          front = t ∷ ((p.0 ++ b.0) ++ []);
          back = r.0;
          left = o;
          right = r.1;
          parts = refl;
          is_left = inr (inr (inr (record {
            front = t ∷ (p.0 ++ b.0);
            back = [];
            left = l;
            right = nothing [];
            parts = refl;
            is_right = record { value = []; is_word = refl; is_value = refl };
            is_value = refl;
            is_left = inr (inr (inr (inr (inl (record {
              value = f;
              is_value = refl;
              is_word = record {
                front = t ∷ [];
                back = p.0 ++ b.0;
                left = spot t;
                right = then_made pair p.1 b.1;
                parts = refl;
                is_left = one_function t e;
                is_value = refl;
                is_right = record { front = p.0; back = b.0; left = p.1; right = b.1; parts = refl; is_left = p.2; is_right = b.2; is_value = refl };
              };
            })))));
          })));
          is_right = r.2;
          is_value = refl;
        })),
      )
