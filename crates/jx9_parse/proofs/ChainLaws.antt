-- What is read of chains, from what is read of their operands.
use Rattle.std.proofs.Common.{◌≡◌, ℕ, zero, suc, ◌<◌, ◌≤◌, true, List, [], ◌++◌, refl, sym, ap, subst, ◌∙◌, append-nil, arith}
use Rattle.jx9_syntax.specs.Grammar.{Rule, Seq, Repeat, Operator, operator, chain, pair, Level}
use Rattle.jx9_syntax.specs.Making.{Making}
use Rattle.jx9_syntax.specs.Words.{One, Nothing}
use Rattle.jx9_syntax.specs.declared.expression.Expr.{Expr}
use Rattle.jx9_parse.specs.Reading.{Tokens, Reader}
use Rattle.jx9_parse.specs.Expressions.{expr_begins}
use Rattle.jx9_parse.specs.Chains.{operators, tail, level, link}
use Rattle.jx9_parse.proofs.Sets.{apart, within}
use Rattle.jx9_parse.proofs.Parts.{Part, part_then, part_as}
use Rattle.jx9_parse.proofs.Repeats.{tail_many}
use Rattle.jx9_parse.proofs.After.{After, after_nothing, after_tail, after_after, after_as, part_after}
use Rattle.jx9_parse.proofs.Binds.{Bind, Given, to_bind, from_bind, to_right, to_left, bind_left}
use Rattle.jx9_parse.proofs.Singles.{part_operator}
use Rattle.jx9_parse.proofs.Primaries.{unary_more}

-- with what an operand of level n may go on, and with what it goes on behind its first operand
abbrev pub level_more : ℕ → List ℕ
level_more zero = unary_more
level_more (suc n) = operators (suc n) ++ level_more n

abbrev pub tail_begins : ℕ → List ℕ
tail_begins zero = []
tail_begins (suc n) = operators (suc n) ++ tail_begins n

pub record Levels (n : ℕ) : Type 0 where
  pub next_apart : apart (level_more n) (operators (suc n)) ≡ true
  pub wider : within (level_more n ++ (level_more n ++ operators (suc n))) (level_more (suc n)) ≡ true
  pub begins : within (tail_begins n ++ operators (suc n)) (tail_begins (suc n)) ≡ true

pub levels : (n : ℕ) → n < 7 → Levels n
levels zero h = record { next_apart = refl; wider = refl; begins = refl }
levels (suc zero) h = record { next_apart = refl; wider = refl; begins = refl }
levels (suc (suc zero)) h = record { next_apart = refl; wider = refl; begins = refl }
levels (suc (suc (suc zero))) h = record { next_apart = refl; wider = refl; begins = refl }
levels (suc (suc (suc (suc zero)))) h = record { next_apart = refl; wider = refl; begins = refl }
levels (suc (suc (suc (suc (suc zero))))) h = record { next_apart = refl; wider = refl; begins = refl }
levels (suc (suc (suc (suc (suc (suc zero)))))) h = record { next_apart = refl; wider = refl; begins = refl }
levels (suc (suc (suc (suc (suc (suc (suc n))))))) h = absurd (omega (arith, h))

pub record Firsts (n : ℕ) : Type 0 where
  pub first_apart : apart unary_more (tail_begins n) ≡ true
  pub wider : within (unary_more ++ level_more n) (level_more n) ≡ true

pub firsts : (n : ℕ) → n ≤ 7 → Firsts n
firsts zero h = record { first_apart = refl; wider = refl }
firsts (suc zero) h = record { first_apart = refl; wider = refl }
firsts (suc (suc zero)) h = record { first_apart = refl; wider = refl }
firsts (suc (suc (suc zero))) h = record { first_apart = refl; wider = refl }
firsts (suc (suc (suc (suc zero)))) h = record { first_apart = refl; wider = refl }
firsts (suc (suc (suc (suc (suc zero))))) h = record { first_apart = refl; wider = refl }
firsts (suc (suc (suc (suc (suc (suc zero)))))) h = record { first_apart = refl; wider = refl }
firsts (suc (suc (suc (suc (suc (suc (suc zero))))))) h = record { first_apart = refl; wider = refl }
firsts (suc (suc (suc (suc (suc (suc (suc (suc n)))))))) h = absurd (omega (arith, h))

module _ (V : Rule Expr) where
  -- an operator of level n + 1 and its operand
  abbrev pub Link : ℕ → Rule (Operator × Expr)
  Link n = Seq pair (One (operator (suc n))) (Level V n)

  -- what stands behind a first operand, up to level n
  abbrev pub TailOf : ℕ → Making Expr → Rule Expr
  TailOf zero x = Nothing x
  TailOf (suc n) x = Bind (TailOf n x) (Given chain (Repeat (Link n)))

  pub into_tail : (n : ℕ) (w : Tokens) (m : Making Expr) → Level V n w m → Bind V (TailOf n) w m
  into_tail zero w m is = record { front = w; back = []; left = m; right = m; parts = sym (append-nil w); is_left = is; is_right = record { is_word = refl; is_value = refl }; is_value = refl }
  into_tail (suc n) w m is =
      to_right V (TailOf n) (Given chain (Repeat (Link n))) w m
      (bind_left (Level V n) (Bind V (TailOf n)) (Given chain (Repeat (Link n))) (λ u x h. into_tail n u x h) w m (to_bind chain (Level V n) (Repeat (Link n)) w m is))

  pub from_tail : (n : ℕ) (w : Tokens) (m : Making Expr) → Bind V (TailOf n) w m → Level V n w m
  from_tail zero w m is =
      let f : w ≡ is.front = is.parts ∙ ap (λ (u : Tokens). is.front ++ u) is.is_right.is_word ∙ append-nil is.front in
      let y : is.left ≡ m = sym is.is_right.is_value ∙ sym is.is_value in
      subst (λ (q : Making Expr). V w q) y (subst (λ (u : Tokens). V u is.left) (sym f) is.is_left)
  from_tail (suc n) w m is =
      from_bind chain (Level V n) (Repeat (Link n)) w m
      (bind_left (Bind V (TailOf n)) (Level V n) (Given chain (Repeat (Link n))) (λ u x h. from_tail n u x h) w m (to_left V (TailOf n) (Given chain (Repeat (Link n))) w m is))

module _ {V : Rule Expr} {un : Reader Expr} (v : Part V unary_more expr_begins un) where
  -- an operand of level n, where its tail is known
  level_by : (n : ℕ) → n ≤ 7 → After (TailOf V n) (level_more n) (tail_begins n) (tail un n) → Part (Level V n) (level_more n) expr_begins (level un n)
  level_by n h t = part_as (level_more n) expr_begins (firsts n h).wider refl (from_tail V n) (into_tail V n) (part_after v t (firsts n h).first_apart)

  pub the_tail : (n : ℕ) → n ≤ 7 → After (TailOf V n) (level_more n) (tail_begins n) (tail un n)
  unfolding tail
  the_tail zero h = after_as unary_more [] refl refl (λ x w m is. is) (λ x w m is. is) after_nothing
  the_tail (suc n) h =
      let t = the_tail n (omega (arith, h)) in
      let small : n < 7 = omega (arith, h) in
      let a = levels n small in
      after_as (level_more (suc n)) (tail_begins (suc n)) a.wider a.begins (λ x w m is. is) (λ x w m is. is)
      (after_after t (after_tail chain (tail_many (part_then pair (part_operator n small) (level_by n (omega (arith, h)) t) refl) a.next_apart)) a.next_apart)

  pub the_level : (n : ℕ) → n ≤ 7 → Part (Level V n) (level_more n) expr_begins (level un n)
  the_level n h = level_by n h (the_tail n h)

  pub the_link : (n : ℕ) → n < 7 → Part (Link V n) (level_more n) (operators (suc n)) (link un n)
  the_link n h = part_then pair (part_operator n h) (the_level n (omega (arith, h))) refl
