-- What is read behind the first operand of an expression: operators and operands, a condition's branches, an assignment.
use Rattle.std.proofs.Common.{◌≡◌, ℕ, Bool, true, inl, inr, List, [], ◌∷◌, ◌++◌, refl, sym, ap, subst, ◌∙◌, append-nil, arith}
use Rattle.jx9_syntax.specs.Grammar.{Rule, Seq, Before, Spot, is_sign, change_sign, second, pair, IsUnary, IsOr, IsExpr, of_or, chosen}
use Rattle.jx9_syntax.specs.Making.{Making}
use Rattle.jx9_syntax.specs.Words.{One, Nothing}
use Rattle.jx9_syntax.specs.declared.expression.Expr.{Expr}
use Rattle.jx9_syntax.specs.declared.expression.Place.{Place}
use Rattle.jx9_syntax.specs.declared.sign.Sign.TheVariants as sign
use Rattle.jx9_syntax.specs.declared.statement.Statement.{Statement}
use Rattle.jx9_parse.specs.Reading.{Tokens, Reader, then_read}
use Rattle.jx9_parse.specs.Expressions.{conditional, assignment, changed}
use Rattle.jx9_parse.specs.Expressions as reading
use Rattle.jx9_parse.proofs.Sets.{apart}
use Rattle.jx9_parse.proofs.Parts.{Guard, part_then, guard_right}
use Rattle.jx9_parse.proofs.After.{After, OrAfter, after_nothing, after_after, after_as, after_or, guard_after}
use Rattle.jx9_parse.proofs.Binds.{Bind, Given, to_bind, from_bind, to_right, to_left, bind_left, bind_cases, bind_inl, bind_inr}
use Rattle.jx9_parse.proofs.Singles.{part_sign, part_change}
use Rattle.jx9_parse.proofs.Primaries.{Inner, expr_more}
use Rattle.jx9_parse.proofs.Unaries.{Stepped, may_step, the_unary}
use Rattle.jx9_parse.proofs.ChainLaws.{TailOf, into_tail, from_tail, the_tail, tail_begins}

pub guard_both : {A B C : Type 0} {room : Bool} {L : Rule A} {M : Rule B} {ms ns bs cs : List ℕ} {r : Reader A} {q : Reader B} (f : A → B → C) → Guard room L ms bs r → Guard room M ns cs q → apart ms cs ≡ true
    → Guard room (Seq f L M) ns bs (then_read f r q)
guard_both f l m h = record { part = λ g. part_then f (l.part g) (m.part g) h; empty = λ g w c is. l.empty g is.front is.left is.is_left }

module _ {inside : Bool} {U E : Rule Expr} {B : Rule Statement} {un expr : Reader Expr} {block : Reader Statement} (i : Inner inside U E B un expr block) where
  abbrev pub Branch : Rule (Expr × Expr)
  Branch = Seq pair (Before (is_sign sign.Question) E) (Before (is_sign sign.Colon) E)

  abbrev pub MayChoose : Making Expr → Rule Expr
  MayChoose = OrAfter (Given conditional Branch) (λ e. Nothing e)

  abbrev pub OrRest : Making Expr → Rule Expr
  OrRest e = Bind (TailOf (IsUnary U E B) 7 e) MayChoose

  may_choose : After MayChoose expr_more (35 ∷ []) (reading.may_choose inside un expr block)
  may_choose = after_or inside
      (guard_after inside conditional (guard_both pair (guard_right second (part_sign sign.Question) i.an_expr refl) (guard_right second (part_sign sign.Colon) i.an_expr refl) refl))
      (after_as expr_more [] refl refl (λ x w m is. is) (λ x w m is. is) after_nothing) refl refl

  pub or_rest : After OrRest expr_more (tail_begins 7 ++ 35 ∷ []) (reading.or_rest inside un expr block)
  or_rest = after_as expr_more (tail_begins 7 ++ 35 ∷ []) refl refl (λ x w m is. is) (λ x w m is. is) (after_after (the_tail (the_unary i) 7 (omega arith)) may_choose refl)

  -- a first operand and what stands behind it is a chain or a condition
  pub into_or : (w : Tokens) (m : Making Expr) → Bind (IsUnary U E B) OrRest w m → IsExpr U E B w m
  into_or w m is = by w m (bind_left (Bind (IsUnary U E B) (TailOf (IsUnary U E B) 7)) (IsOr U E B) MayChoose (from_tail (IsUnary U E B) 7) w m (to_left (IsUnary U E B) (TailOf (IsUnary U E B) 7) MayChoose w m is))
    where
      alone : (w : Tokens) (m : Making Expr) → Bind (IsOr U E B) (λ e. Nothing e) w m → IsOr U E B w m
      alone w m is =
          let f : w ≡ is.front = is.parts ∙ ap (λ (u : Tokens). is.front ++ u) is.is_right.is_word ∙ append-nil is.front in
          let y : is.left ≡ m = sym is.is_right.is_value ∙ sym is.is_value in
          subst (λ (q : Making Expr). IsOr U E B w q) y (subst (λ (u : Tokens). IsOr U E B u is.left) (sym f) is.is_left)

      by : (w : Tokens) (m : Making Expr) → Bind (IsOr U E B) MayChoose w m → IsExpr U E B w m
      by w m is = elim (bind_cases (IsOr U E B) (Given conditional Branch) (λ e. Nothing e) w m is) [
        | inl c ↦ chosen (from_bind conditional (IsOr U E B) Branch w m c)
        | inr c ↦ of_or (alone w m c)
      ]

  or_with : (w : Tokens) (m : Making Expr) → Bind (IsOr U E B) MayChoose w m → Bind (IsUnary U E B) OrRest w m
  or_with w m is = to_right (IsUnary U E B) (TailOf (IsUnary U E B) 7) MayChoose w m (bind_left (IsOr U E B) (Bind (IsUnary U E B) (TailOf (IsUnary U E B) 7)) MayChoose (into_tail (IsUnary U E B) 7) w m is)

  pub from_or : (w : Tokens) (m : Making Expr) → IsOr U E B w m → Bind (IsUnary U E B) OrRest w m
  from_or w m is = or_with w m (bind_inr (IsOr U E B) (Given conditional Branch) (λ e. Nothing e) w m
      (record { front = w; back = []; left = m; right = m; parts = sym (append-nil w); is_left = is; is_right = record { is_word = refl; is_value = refl }; is_value = refl }))

  pub from_chosen : (w : Tokens) (m : Making Expr) → Seq conditional (IsOr U E B) Branch w m → Bind (IsUnary U E B) OrRest w m
  from_chosen w m is = or_with w m (bind_inl (IsOr U E B) (Given conditional Branch) (λ e. Nothing e) w m (to_bind conditional (IsOr U E B) Branch w m is))

  -- ---- behind a place

  abbrev pub Assigned : Making (Place × Spot) → Rule Expr
  Assigned = Given assignment (Before (is_sign sign.Assign) E)

  abbrev pub Changed : Making (Place × Spot) → Rule Expr
  Changed = Given changed (Seq pair (One change_sign) E)

  abbrev pub Operated : Making (Place × Spot) → Rule Expr
  Operated p = Bind (Stepped i p) OrRest

  abbrev pub BehindPlace : Making (Place × Spot) → Rule Expr
  BehindPlace = OrAfter Assigned (OrAfter Changed Operated)

  pub behind_place : After BehindPlace expr_more (40 ∷ 41 ∷ 42 ∷ 43 ∷ 44 ∷ 45 ∷ 46 ∷ 15 ∷ 16 ∷ (tail_begins 7 ++ 35 ∷ [])) (reading.behind_place inside un expr block)
  behind_place = after_or inside (guard_after inside assignment (guard_right second (part_sign sign.Assign) i.an_expr refl))
      (after_or inside (guard_after inside changed (guard_right pair part_change i.an_expr refl))
      (after_as expr_more (15 ∷ 16 ∷ (tail_begins 7 ++ 35 ∷ [])) refl refl (λ x w m is. is) (λ x w m is. is) (after_after (may_step i) or_rest refl)) refl refl) refl refl
