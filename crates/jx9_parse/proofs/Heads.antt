-- Expressions: an assignment, an appending, a condition, or a chain.
use Rattle.std.proofs.Common.{◌≡◌, ℕ, Bool, true, inl, inr, List, [], ◌∷◌, ◌++◌, refl, sym, ap, subst, ◌∙◌, append_assoc}
use Rattle.uq_value.specs.Data.{Bytes}
use Rattle.jx9_syntax.specs.Grammar.{Rule, Seq, Before, Ending, Spot, is_sign, var, first, second, pair, change_sign, place_of, IsAccess, member, index, IsPlace, IsUnary, IsExpr, assigned, changed, appended, of_or, chosen}
use Rattle.jx9_syntax.specs.Making.{Making, mapped, then_made, all_made}
use Rattle.jx9_syntax.specs.Words.{One, Many}
use Rattle.jx9_syntax.specs.declared.expression.Access
use Rattle.jx9_syntax.specs.declared.expression.Access.{Access as AccessTree}
use Rattle.jx9_syntax.specs.declared.expression.Expr.{Expr}
use Rattle.jx9_syntax.specs.declared.expression.Place.{Place}
use Rattle.jx9_syntax.specs.declared.sign.Sign.TheVariants as sign
use Rattle.jx9_syntax.specs.declared.statement.Statement.{Statement}
use Rattle.jx9_parse.specs.Reading.{Tokens, Reader, ◌>>=◌, one, bind, bind_on, choose_on}
use Rattle.jx9_parse.specs.Expressions.{expr_begins, appending, assignment, with_access, with_index, expression as read_expression}
use Rattle.jx9_parse.specs.Expressions as reading
use Rattle.jx9_parse.proofs.Sets.{Begin, false_true}
use Rattle.jx9_parse.proofs.Parts.{Part, Or, part_as, part_or, free}
use Rattle.jx9_parse.proofs.After.{After, OrAfter, after_after, after_as, after_or, part_after}
use Rattle.jx9_parse.proofs.Binds.{Bind, to_bind, from_bind, to_right, to_left, bind_left, bind_right, bind_cases, bind_inl, bind_inr}
use Rattle.jx9_parse.proofs.Makings.{regrouped, grown, bare, grown_is}
use Rattle.jx9_parse.proofs.Barred.{NoBrace, no_block}
use Rattle.jx9_parse.proofs.Singles.{part_var, literals}
use Rattle.jx9_parse.proofs.Primaries.{Inner, expr_more}
use Rattle.jx9_parse.proofs.Unaries.{Called, Placed, Stepped, NoVariable, no_variable, called, called_begins, as_place, placed_is, at_variable_is, back_unary, into_unary}
use Rattle.jx9_parse.proofs.ChainLaws.{tail_begins}
use Rattle.jx9_parse.proofs.ExprLaws.{OrRest, or_rest, Assigned, Changed, Operated, BehindPlace, into_or, from_or, from_chosen}
use Rattle.jx9_parse.proofs.HeadLaws.{indexed, closed_at, Appended, Headed, no_step, dot, at_index, append, head_begins, the_head}

-- after something that is mapped first
after_mapped : {A B C : Type 0} {M : Making B → Rule C} {ms bs : List ℕ} {q : B → Reader C} (f : A → B) → After M ms bs q → After (λ x. M (mapped f x)) ms bs (λ a. q (f a))
after_mapped f m = record {
  reads = λ x ts. m.reads (mapped f x) ts;
  told = λ x ts. m.told (mapped f x) ts;
  runs = λ s x ts. m.runs s (mapped f x) ts;
  starts = λ x. m.starts (mapped f x);
  some = λ x. m.some (mapped f x);
}

-- an index, sign by sign, is a step
indexed_is : (p : Making (Place × Spot)) (o : Making Spot) (e : Making Expr) (c : Making Spot) → indexed p o e c ≡ then_made with_access p (mapped (λ x. Access.Index x) (then_made first (then_made second o e) c))
indexed_is p o e c = ap (λ (q : Making (Place × Spot)). then_made first q c) (regrouped with_index first with_index second (λ x y z. refl) p o e) ∙ regrouped first with_index with_index first (λ x y z. refl) p (then_made second o e) c

module _ {inside : Bool} {U E : Rule Expr} {B : Rule Statement} {un expr : Reader Expr} {block : Reader Statement} (i : Inner inside U E B un expr block) where
  abbrev AStep : Rule AccessTree
  AStep = IsAccess U E B

  -- `[ ] = expr`
  abbrev Appending : Making (Place × Spot) → Rule Expr
  Appending p = Bind (One (is_sign sign.OpenBracket)) (λ o. Bind (One (is_sign sign.CloseBracket)) (λ c. Appended i (closed_at p o c)))

  abbrev Ends : Making (Place × Spot) → Rule Expr
  Ends = OrAfter (BehindPlace i) Appending

  abbrev pub HeadOf : Making (Bytes × Spot) → Rule Expr
  HeadOf v = Headed i (mapped bare v)

  -- all steps, and what is behind them
  record HeadParts (p : Making (Place × Spot)) (w : Tokens) (m : Making Expr) : Type 0 where
    steps : List (Making AccessTree)
    front : Tokens
    back : Tokens
    parts : w ≡ front ++ back
    are_steps : Many AStep front steps
    ends : Ends (grown p steps) back m

  head_parts : (p : Making (Place × Spot)) (w : Tokens) (m : Making Expr) → Headed i p w m → HeadParts p w m
  head_parts p w m (no_step is) = record { steps = []; front = []; back = w; parts = refl; are_steps = refl; ends = inl is }
  head_parts p w m (dot front back a parts is_left is_right) = let r = head_parts (then_made with_access p a) back m is_right in record {
    steps = a ∷ r.steps;
    front = front ++ r.front;
    back = r.back;
    parts = parts ∙ ap (λ (u : Tokens). front ++ u) r.parts ∙ sym (append_assoc front r.front r.back);
    are_steps = (front, r.front, refl, member is_left, r.are_steps);
    ends = r.ends;
  }
  head_parts p w m (at_index opening inner closing back o e c parts is_open is_expr is_close is_right) =
      let r = head_parts (indexed p o e c) back m is_right in
      let front = (opening ++ inner) ++ closing in
      record {
        steps = mapped (λ x. Access.Index x) (then_made first (then_made second o e) c) ∷ r.steps;
        front = front ++ r.front;
        back = r.back;
        parts = parts ∙ sym (append_assoc opening inner (closing ++ back)) ∙ sym (append_assoc (opening ++ inner) closing back) ∙ ap (λ (u : Tokens). front ++ u) r.parts ∙ sym (append_assoc front r.front r.back);
        are_steps = (
          front,
          r.front,
          refl,
          index (record {
            value = then_made first (then_made second o e) c;
            is_value = refl;
            is_word = record {
              front = opening ++ inner;
              back = closing;
              left = then_made second o e;
              right = c;
              parts = refl;
              is_right = is_close;
              is_value = refl;
              is_left = record { front = opening; back = inner; left = o; right = e; parts = refl; is_left = is_open; is_right = is_expr; is_value = refl };
            };
          }),
          r.are_steps,
        );
        ends = subst (λ (q : Making (Place × Spot)). Ends (grown q r.steps) r.back m) (indexed_is p o e c) r.ends;
      }
  head_parts p w m (append opening closing back o c parts is_open is_close is_right) = record {
    steps = [];
    front = [];
    back = w;
    parts = refl;
    are_steps = refl;
    ends = inr (record {
      front = opening;
      back = closing ++ back;
      left = o;
      right = m;
      parts = parts;
      is_left = is_open;
      is_value = refl;
      is_right = record { front = closing; back = back; left = c; right = m; parts = refl; is_left = is_close; is_right = is_right; is_value = refl };
    });
  }

  head_of_ends : (p : Making (Place × Spot)) (w : Tokens) (m : Making Expr) → Ends p w m → Headed i p w m
  head_of_ends p w m (inl is) = no_step is
  head_of_ends p w m (inr is) = let r = is.is_right in
      append is.front r.front r.back is.left r.left (is.parts ∙ ap (λ (u : Tokens). is.front ++ u) r.parts) is.is_left r.is_left
      (subst (λ (x : Making Expr). Appended i (closed_at p is.left r.left) r.back x) (sym (is.is_value ∙ r.is_value)) r.is_right)

  one_step : (p : Making (Place × Spot)) (front back : Tokens) (a : Making AccessTree) (m : Making Expr) → AStep front a → Headed i (then_made with_access p a) back m → Headed i p (front ++ back) m
  one_step p front back a m (member is) rest = dot front back a refl is rest
  one_step p front back a m (index is) rest =
      let r = is.is_word in let l = r.is_left in
      at_index l.front l.back r.back back l.left l.right r.right
      (ap (λ (u : Tokens). u ++ back) (r.parts ∙ ap (λ (u : Tokens). u ++ r.back) l.parts) ∙ append_assoc (l.front ++ l.back) r.back back ∙ append_assoc l.front l.back (r.back ++ back))
      l.is_left l.is_right r.is_right
      (subst (λ (q : Making (Place × Spot)). Headed i q back m)
      (ap (λ (x : Making AccessTree). then_made with_access p x) (is.is_value ∙ ap (mapped (λ x. Access.Index x)) (r.is_value ∙ ap (λ (x : Making Expr). then_made first x r.right) l.is_value)) ∙ sym (indexed_is p l.left l.right r.right)) rest)

  head_of : (p : Making (Place × Spot)) (steps : List (Making AccessTree)) (front back : Tokens) (m : Making Expr) → Many AStep front steps → Ends (grown p steps) back m → Headed i p (front ++ back) m
  head_of p [] front back m is ends = subst (λ (u : Tokens). Headed i p (u ++ back) m) (sym is) (head_of_ends p back m ends)
  head_of p (a ∷ steps) front back m is ends =
      subst (λ (u : Tokens). Headed i p u m) (sym (ap (λ (u : Tokens). u ++ back) is.2 ∙ append_assoc is.0 is.1 back))
      (one_step p is.0 (is.1 ++ back) a m is.3 (head_of (then_made with_access p a) steps is.1 back m is.4 ends))

  -- ---- a variable and what is behind it is a place and what is behind that

  into_place : (w : Tokens) (m : Making Expr) → Bind (One var) HeadOf w m → Bind (IsPlace U E B) Ends w m
  into_place w m is =
      let r = head_parts (mapped bare is.left) is.back is.right is.is_right in
      record {
        front = is.front ++ r.front;
        back = r.back;
        left = then_made place_of is.left (all_made r.steps);
        right = is.right;
        parts = is.parts ∙ ap (λ (u : Tokens). is.front ++ u) r.parts ∙ sym (append_assoc is.front r.front r.back);
        is_left = record { front = is.front; back = r.front; left = is.left; right = all_made r.steps; parts = refl; is_left = is.is_left; is_right = record { value = r.steps; is_word = r.are_steps; is_value = refl }; is_value = refl };
        is_right = subst (λ (q : Making (Place × Spot)). Ends q r.back is.right) (grown_is is.left r.steps) r.ends;
        is_value = is.is_value;
      }

  from_place : (w : Tokens) (m : Making Expr) → Bind (IsPlace U E B) Ends w m → Bind (One var) HeadOf w m
  from_place w m is =
      let l = is.is_left in let r = l.is_right in
      record {
        front = l.front;
        back = l.back ++ is.back;
        left = l.left;
        right = is.right;
        parts = is.parts ∙ ap (λ (u : Tokens). u ++ is.back) l.parts ∙ append_assoc l.front l.back is.back;
        is_left = l.is_left;
        is_right = head_of (mapped bare l.left) r.value l.back is.back is.right r.is_word
            (subst (λ (q : Making (Place × Spot)). Ends q is.back is.right) (l.is_value ∙ ap (λ (x : Making (List AccessTree)). then_made place_of l.left x) r.is_value ∙ sym (grown_is l.left r.value)) is.is_right);
        is_value = is.is_value;
      }

  -- ---- the cases

  abbrev OfOperand : Rule Expr
  OfOperand = Bind (IsUnary U E B) (OrRest i)

  operated_is : (w : Tokens) (m : Making Expr) → Bind (IsPlace U E B) (Operated i) w m → IsExpr U E B w m
  operated_is w m is = into_or i w m (bind_left (Bind (IsPlace U E B) (Stepped i)) (IsUnary U E B) (OrRest i) (placed_is i) w m (to_left (IsPlace U E B) (Stepped i) (OrRest i) w m is))

  appending_is : (w : Tokens) (m : Making Expr) → Bind (IsPlace U E B) Appending w m → IsExpr U E B w m
  appending_is w m is = let o = is.is_right in let c = o.is_right in let v = c.is_right in
      appended (record {
        front = (is.front ++ o.front) ++ c.front;
        back = c.back;
        left = closed_at is.left o.left c.left;
        right = v.value;
        parts = is.parts ∙ ap (λ (u : Tokens). is.front ++ u) (o.parts ∙ ap (λ (u : Tokens). o.front ++ u) c.parts) ∙ sym (append_assoc is.front o.front (c.front ++ c.back)) ∙ sym (append_assoc (is.front ++ o.front) c.front c.back);
        is_left = record {
          front = is.front ++ o.front;
          back = c.front;
          left = then_made first is.left o.left;
          right = c.left;
          parts = refl;
          is_right = c.is_left;
          is_value = refl;
          is_left = record { front = is.front; back = o.front; left = is.left; right = o.left; parts = refl; is_left = is.is_left; is_right = o.is_left; is_value = refl };
        };
        is_right = v.is_word;
        is_value = is.is_value ∙ o.is_value ∙ c.is_value ∙ v.is_value;
      })

  ends_is : (w : Tokens) (m : Making Expr) → Bind (IsPlace U E B) Ends w m → IsExpr U E B w m
  ends_is w m is = elim (bind_cases (IsPlace U E B) (BehindPlace i) Appending w m is) [
    | inl b ↦ elim (bind_cases (IsPlace U E B) (Assigned i) (OrAfter (Changed i) (Operated i)) w m b) [
      | inl c ↦ assigned (from_bind assignment (IsPlace U E B) (Before (is_sign sign.Assign) E) w m c)
      | inr c ↦ elim (bind_cases (IsPlace U E B) (Changed i) (Operated i) w m c) [
        | inl d ↦ changed (from_bind reading.changed (IsPlace U E B) (Seq pair (One change_sign) E) w m d)
        | inr d ↦ operated_is w m d
      ]
    ]
    | inr b ↦ appending_is w m b
  ]

  place_ends : (M : Making (Place × Spot) → Rule Expr) → ((p : Making (Place × Spot)) (u : Tokens) (x : Making Expr) → M p u x → Ends p u x) → (w : Tokens) (m : Making Expr) → Bind (IsPlace U E B) M w m → Bind (One var) HeadOf w m
  place_ends M h w m is = from_place w m (bind_right (IsPlace U E B) M Ends h w m is)

  from_appended : (w : Tokens) (m : Making Expr) → Seq appending (Ending (Ending (IsPlace U E B) (is_sign sign.OpenBracket)) (is_sign sign.CloseBracket)) (Before (is_sign sign.Assign) E) w m → Bind (IsPlace U E B) Appending w m
  from_appended w m is = let c = is.is_left in let o = c.is_left in record {
    front = o.front;
    back = o.back ++ (c.back ++ is.back);
    left = o.left;
    right = m;
    parts = is.parts ∙ ap (λ (u : Tokens). u ++ is.back) (c.parts ∙ ap (λ (u : Tokens). u ++ c.back) o.parts) ∙ append_assoc (o.front ++ o.back) c.back is.back ∙ append_assoc o.front o.back (c.back ++ is.back);
    is_left = o.is_left;
    is_value = refl;
    is_right = record {
      front = o.back;
      back = c.back ++ is.back;
      left = o.right;
      right = m;
      parts = refl;
      is_left = o.is_right;
      is_value = refl;
      is_right = record {
        front = c.back;
        back = is.back;
        left = c.right;
        right = m;
        parts = refl;
        is_left = c.is_right;
        is_value = refl;
        is_right = record { value = is.right; is_word = is.is_right; is_value = is.is_value ∙ ap (λ (p : Making (Place × Spot)). then_made appending p is.right) (c.is_value ∙ ap (λ (p : Making (Place × Spot)). then_made first p c.right) o.is_value) };
      };
    };
  }

  -- ---- by the first token

  abbrev pub CalledThen : Making (Bytes × Spot) → Rule Expr
  CalledThen v = Bind (Called i v) (OrRest i)

  abbrev pub VariableFirst : Rule Expr
  VariableFirst = Bind (One var) (OrAfter CalledThen HeadOf)

  abbrev pub OtherFirst : Rule Expr
  OtherFirst = Bind (NoVariable i) (OrRest i)

  pub into_expr : (w : Tokens) (m : Making Expr) → Or VariableFirst OtherFirst w m → IsExpr U E B w m
  into_expr w m (inl is) = elim (bind_cases (One var) CalledThen HeadOf w m is) [
    | inl c ↦ into_or i w m (bind_left (Bind (One var) (Called i)) (IsUnary U E B) (OrRest i) (λ u x h. at_variable_is i u x (bind_inl (One var) (Called i) (Placed i) u x h)) w m (to_left (One var) (Called i) (OrRest i) w m c))
    | inr c ↦ ends_is w m (into_place w m c)
  ]
  into_expr w m (inr is) = into_or i w m (bind_left (NoVariable i) (IsUnary U E B) (OrRest i) (λ u x h. into_unary i u x (inr h)) w m is)

  placed_first : (w : Tokens) (m : Making Expr) → Bind (Bind (One var) (Placed i)) (OrRest i) w m → Bind (One var) HeadOf w m
  placed_first w m is = place_ends (Operated i) (λ p u x h. inl (inr (inr h))) w m
      (to_right (IsPlace U E B) (Stepped i) (OrRest i) w m (bind_left (Bind (One var) (Placed i)) (Bind (IsPlace U E B) (Stepped i)) (OrRest i) (as_place i) w m is))

  at_operand : (w : Tokens) (m : Making Expr) → OfOperand w m → Or VariableFirst OtherFirst w m
  at_operand w m is = elim (back_unary i is.front is.left is.is_left) [
    | inl v ↦ elim (bind_cases (One var) (Called i) (Placed i) is.front is.left v) [
      | inl c ↦ inl (bind_inl (One var) CalledThen HeadOf w m (to_right (One var) (Called i) (OrRest i) w m (record { front = is.front; back = is.back; left = is.left; right = is.right; parts = is.parts; is_left = c; is_right = is.is_right; is_value = is.is_value })))
      | inr c ↦ inl (bind_inr (One var) CalledThen HeadOf w m (placed_first w m (record { front = is.front; back = is.back; left = is.left; right = is.right; parts = is.parts; is_left = c; is_right = is.is_right; is_value = is.is_value })))
    ]
    | inr n ↦ inr (record { front = is.front; back = is.back; left = is.left; right = is.right; parts = is.parts; is_left = n; is_right = is.is_right; is_value = is.is_value })
  ]

  at_head : (M : Making (Place × Spot) → Rule Expr) → ((p : Making (Place × Spot)) (u : Tokens) (x : Making Expr) → M p u x → Ends p u x) → (w : Tokens) (m : Making Expr) → Bind (IsPlace U E B) M w m → Or VariableFirst OtherFirst w m
  at_head M h w m is = inl (bind_inr (One var) CalledThen HeadOf w m (place_ends M h w m is))

  pub back_expr : (w : Tokens) (m : Making Expr) → IsExpr U E B w m → Or VariableFirst OtherFirst w m
  back_expr w m (assigned is) = at_head (Assigned i) (λ p u x h. inl (inl h)) w m (to_bind assignment (IsPlace U E B) (Before (is_sign sign.Assign) E) w m is)
  back_expr w m (changed is) = at_head (Changed i) (λ p u x h. inl (inr (inl h))) w m (to_bind reading.changed (IsPlace U E B) (Seq pair (One change_sign) E) w m is)
  back_expr w m (appended is) = at_head Appending (λ p u x h. inr h) w m (from_appended w m is)
  back_expr w m (of_or is) = at_operand w m (from_or i w m is)
  back_expr w m (chosen is) = at_operand w m (from_chosen i w m is)

  -- ---- what reading tells

  called_then : After CalledThen expr_more (10 ∷ 11 ∷ 36 ∷ (tail_begins 7 ++ 35 ∷ [])) (λ v s. reading.called inside un expr block v s >>= λ e. reading.or_rest inside un expr block e.0 e.1)
  called_then = after_as expr_more (10 ∷ 11 ∷ 36 ∷ (tail_begins 7 ++ 35 ∷ [])) refl refl (λ x w m is. is) (λ x w m is. is) (after_after (called i) (or_rest i) refl)

  called_then_begins : (v : Making (Bytes × Spot)) (w : Tokens) (m : Making Expr) → CalledThen v w m → Begin (10 ∷ []) w
  called_then_begins v w m is = let s = called_begins i v is.front is.left is.is_left in (s.0, s.1 ++ is.back, is.parts ∙ ap (λ (u : Tokens). u ++ is.back) s.2, s.3)

  behind_variable : After (OrAfter CalledThen HeadOf) expr_more (10 ∷ head_begins i) (choose_on (10 ∷ []) (bind_on (reading.called inside un expr block) (reading.or_rest inside un expr block)) (reading.at_place inside un expr block))
  behind_variable = after_or {bs = 10 ∷ []} true (record { inner = 10 ∷ 11 ∷ 36 ∷ (tail_begins 7 ++ 35 ∷ []); after = λ h. called_then; empty = λ h. absurd (false_true (sym h)); full = called_then_begins })
      (after_mapped bare (the_head i)) refl refl

  pub variable_first : Part VariableFirst expr_more (17 ∷ []) (bind (one var) (choose_on (10 ∷ []) (bind_on (reading.called inside un expr block) (reading.or_rest inside un expr block)) (reading.at_place inside un expr block)))
  variable_first = part_as expr_more (17 ∷ []) refl refl (λ w m is. is) (λ w m is. is) (part_after part_var behind_variable refl)

  pub other_first : Part OtherFirst expr_more (13 ∷ 14 ∷ 15 ∷ 16 ∷ 10 ∷ 11 ∷ 12 ∷ 8 ∷ 9 ∷ literals) (bind (reading.no_variable inside un expr block) (reading.or_rest inside un expr block))
  other_first = part_as expr_more (13 ∷ 14 ∷ 15 ∷ 16 ∷ 10 ∷ 11 ∷ 12 ∷ 8 ∷ 9 ∷ literals) refl refl (λ w m is. is) (λ w m is. is) (part_after (no_variable i) (or_rest i) refl)

  pub the_expr : Part (IsExpr U E B) expr_more expr_begins (reading.expression inside un expr block)
  unfolding read_expression
  the_expr = part_as expr_more expr_begins refl refl into_expr back_expr (part_or true (free variable_first) other_first refl)

  -- one that begins with a variable, so with no `{`
  pub a_plain : (w : Tokens) × (m : Making Expr) × NoBrace (IsExpr U E B) w m
  a_plain = let a = variable_first.some in (a.0, a.1, (no_block (17 ∷ []) refl a.0 (variable_first.starts a.0 a.1 a.2), into_expr a.0 a.1 (inl a.2)))
