-- What is read behind the variable with which an expression begins: steps one by one, then `[ ]` and what is appended, or what stands behind a place.
use Rattle.std.proofs.Common.{◌≡◌, ℕ, zero, suc, ◌<◌, Bool, true, false, IsTrue, cond, ◌⊎◌, inl, inr, List, [], ◌∷◌, ◌++◌, length, Ok, Err, refl, sym, ap, subst, ◌∙◌, arith}
use Rattle.jx9_syntax.specs.Grammar.{Rule, Before, Spot, is_sign, any_name, first, second}
use Rattle.jx9_syntax.specs.Making.{Making, mapped, then_made}
use Rattle.jx9_syntax.specs.Words.{One, Map}
use Rattle.jx9_syntax.specs.declared.expression.Access
use Rattle.jx9_syntax.specs.declared.expression.Access.{Access as AccessTree}
use Rattle.jx9_syntax.specs.declared.expression.Expr.{Expr}
use Rattle.jx9_syntax.specs.declared.expression.Place.{Place}
use Rattle.jx9_syntax.specs.declared.sign.Sign.TheVariants as sign
use Rattle.jx9_syntax.specs.declared.statement.Statement.{Statement}
use Rattle.jx9_parse.specs.Reading.{Tokens, State, Read, Reader, ◌>>=◌, next_in, one, before, given}
use Rattle.jx9_parse.specs.Expressions.{expr_begins, appending, with_access, with_index}
use Rattle.jx9_parse.specs.Expressions as reading
use Rattle.jx9_parse.proofs.Unplaced.{Found}
use Rattle.jx9_parse.proofs.Laws.{Begins, Off, Told, told_then, told_chosen, told_stuck, told_map}
use Rattle.jx9_parse.proofs.Sets.{In, Begin, apart, within, begin_as, off, parted_by, begins_in, begins_as, within_in, next_no, next_not, false_true}
use Rattle.jx9_parse.proofs.Placed.{made_at, at_state, then_at, behind_runs}
use Rattle.jx9_parse.proofs.Parts.{Part, told_cond, cond_runs, part_then}
use Rattle.jx9_parse.proofs.After.{After, OrAfter, same_bind}
use Rattle.jx9_parse.proofs.Binds.{Bind, Given}
use Rattle.jx9_parse.proofs.Lists.{part_shorter}
use Rattle.jx9_parse.proofs.Singles.{part_sign}
use Rattle.jx9_parse.proofs.Primaries.{Inner, expr_more, a_member}
use Rattle.jx9_parse.proofs.ChainLaws.{tail_begins}
use Rattle.jx9_parse.proofs.ExprLaws.{BehindPlace, behind_place}

-- a part, and what stands behind it
pub told_bind : {A B : Type 0} (L : Rule A) (N : Making A → Rule B) (ms ns cs : List ℕ) → apart ms cs ≡ true → ((x : Making A) (w : Tokens) (b : Making B) → N x w b → Begin cs w) → ((x : Making A) → (w : Tokens) × (b : Making B) × N x w b)
    → (ts : Tokens) (r : Found (Making A)) (s : Making A × Tokens → Found (Making B)) → Told L (λ _. In ms) ts r → ((x : Making A × Tokens) → r ≡ Ok x → Told (N x.0) (λ _. In ns) x.1 (s x)) → Told (Bind L N) (λ _. In ns) ts (r >>= s)
told_bind {A} {B} L N ms ns cs h starts some ts r s l n = subst (λ (z : Found (Making B)). Told (Bind L N) (λ _. In ns) ts z) (same_bind r s)
    (told_then L N second (λ _. In ms) (λ _ _. In ns) (λ _. In ns) (λ a b w v is far. parted_by cs ms (In ns) h w v (starts a w b is) far) (λ _ _ t i. i) some ts r s l n)

-- one token, and what stands behind it
pub told_behind : {A B : Type 0} (L : Rule A) (N : Making A → Rule B) (ns : List ℕ) → ((x : Making A) → (w : Tokens) × (b : Making B) × N x w b)
    → (ts : Tokens) (r : Found (Making A)) (s : Making A × Tokens → Found (Making B)) → Told L (λ _. In []) ts r → ((x : Making A × Tokens) → r ≡ Ok x → Told (N x.0) (λ _. In ns) x.1 (s x)) → Told (Bind L N) (λ _. In ns) ts (r >>= s)
told_behind {A} {B} L N ns some ts r s l n = subst (λ (z : Found (Making B)). Told (Bind L N) (λ _. In ns) ts z) (same_bind r s)
    (told_then L N second (λ _. In []) (λ _ _. In ns) (λ _. In ns) (λ a b w v is far. absurd (nothing_more (w ++ v) far)) (λ _ _ t i. i) some ts r s l n)
  where
    nothing_more : (ts : Tokens) → Begins (In []) ts → ⊥
    nothing_more [] h = h
    nothing_more (t ∷ ts) h = false_true h

-- what is read behind something, and goes on with both
pub next_behind : {A B C D : Type 0} (f : A → B → C) (s : State) (x : Making A) (ts : Tokens) (k : C → Reader D) (p : Making C → Tokens → Found (Making D)) → ((y : Making C) (us : Tokens) → k (made_at s y us).0 (made_at s y us).1 ≡ at_state s (p y us))
    → (r : Read B) (z : Found (Making B)) → r ≡ at_state (made_at s x ts).1 z → (r >>= λ y. k (f (made_at s x ts).0 y.0) y.1) ≡ at_state s (z >>= λ y. p (then_made f x y.0) y.1)
next_behind {A} {B} {C} {D} f s x ts k p same r z e = ap (λ (q : Read B). q >>= λ y. k (f (made_at s x ts).0 y.0) y.1) e ∙ by z
  where
    by : (z : Found (Making B)) → (at_state (made_at s x ts).1 z >>= λ y. k (f (made_at s x ts).0 y.0) y.1) ≡ at_state s (z >>= λ y. p (then_made f x y.0) y.1)
    by (Ok y) = ap (λ (q : C × State). k q.0 q.1) (then_at f s x y.0 ts y.1) ∙ same (then_made f x y.0) y.1
    by (Err us) = refl

abbrev pub Dotted : Rule AccessTree
Dotted = Map (Before (is_sign sign.Dot) (One any_name)) (mapped (λ n. Access.Member n.0))

-- the place behind an index, as it is read sign by sign
abbrev pub indexed : Making (Place × Spot) → Making Spot → Making Expr → Making Spot → Making (Place × Spot)
indexed p o e c = then_made first (then_made with_index (then_made first p o) e) c

abbrev pub closed_at : Making (Place × Spot) → Making Spot → Making Spot → Making (Place × Spot)
closed_at p o c = then_made first (then_made first p o) c

opened : Part (One (is_sign sign.OpenBracket)) [] (11 ∷ []) (one (is_sign sign.OpenBracket))
opened = part_sign sign.OpenBracket

closed : Part (One (is_sign sign.CloseBracket)) [] (31 ∷ []) (one (is_sign sign.CloseBracket))
closed = part_sign sign.CloseBracket

begin_front : (cs : List ℕ) (w front back : Tokens) → w ≡ front ++ back → Begin cs front → Begin cs w
begin_front cs w front back e s = (s.0, s.1 ++ back, e ∙ ap (λ (u : Tokens). u ++ back) s.2, s.3)

-- what is empty or begins so is off where a token of `more` is next that is no such
off_or_empty : (cs ds ms : List ℕ) (ts w : Tokens) → apart cs ds ≡ true → within cs ms ≡ true → next_in cs ts ≡ true → (w ≡ []) ⊎ Begin ds w → Off (In ms) ts w
off_or_empty cs ds ms ts w h g e (inl f) = subst (λ (u : Tokens). Off (In ms) ts u) (sym f) (begins_as cs ms (within_in cs ms g) ts (begins_in cs ts e))
off_or_empty cs ds ms ts w h g e (inr s) = off ds (In ms) ts w (next_no cs ds h ts e) s

module _ {inside : Bool} {U E : Rule Expr} {B : Rule Statement} {un expr : Reader Expr} {block : Reader Statement} (i : Inner inside U E B un expr block) where
  -- `= expr`
  abbrev pub Appended : Making (Place × Spot) → Rule Expr
  Appended = Given appending (Before (is_sign sign.Assign) E)

  pub data Headed : Making (Place × Spot) → Tokens → Making Expr → Type 0 where
    no_step : {p : Making (Place × Spot)} {word : Tokens} {m : Making Expr} → BehindPlace i p word m → Headed p word m
    dot : {p : Making (Place × Spot)} {word : Tokens} {m : Making Expr} (front back : Tokens) (a : Making AccessTree) → word ≡ front ++ back → Dotted front a → Headed (then_made with_access p a) back m → Headed p word m
    at_index : {p : Making (Place × Spot)} {word : Tokens} {m : Making Expr} (opening inner closing back : Tokens) (o : Making Spot) (e : Making Expr) (c : Making Spot) → word ≡ opening ++ (inner ++ (closing ++ back))
        → One (is_sign sign.OpenBracket) opening o → E inner e → One (is_sign sign.CloseBracket) closing c → Headed (indexed p o e c) back m → Headed p word m
    append : {p : Making (Place × Spot)} {word : Tokens} {m : Making Expr} (opening closing back : Tokens) (o c : Making Spot) → word ≡ opening ++ (closing ++ back)
        → One (is_sign sign.OpenBracket) opening o → One (is_sign sign.CloseBracket) closing c → Appended (closed_at p o c) back m → Headed p word m

  abbrev pub behind_begins : List ℕ
  behind_begins = 40 ∷ 41 ∷ 42 ∷ 43 ∷ 44 ∷ 45 ∷ 46 ∷ 15 ∷ 16 ∷ (tail_begins 7 ++ 35 ∷ [])

  behind : After (BehindPlace i) expr_more behind_begins (reading.behind_place inside un expr block)
  behind = behind_place i

  dotted : Part Dotted [] (36 ∷ []) (reading.member_access inside un expr block)
  dotted = a_member i

  -- what a word is, by its first token
  abbrev Dot : Making (Place × Spot) → Rule Expr
  Dot p = Bind Dotted (λ a. Headed (then_made with_access p a))

  abbrev AtIndex : Making (Place × Spot) → Rule Expr
  AtIndex q = Bind E (λ e. Bind (One (is_sign sign.CloseBracket)) (λ c. Headed (then_made first (then_made with_index q e) c)))

  abbrev AtEnds : Making (Place × Spot) → Rule Expr
  AtEnds q = Bind (One (is_sign sign.CloseBracket)) (λ c. Appended (then_made first q c))

  abbrev InBrackets : Making (Place × Spot) → Rule Expr
  InBrackets = OrAfter AtEnds AtIndex

  abbrev Bracket : Making (Place × Spot) → Rule Expr
  Bracket p = Bind (One (is_sign sign.OpenBracket)) (λ o. InBrackets (then_made first p o))

  some_headed : (p : Making (Place × Spot)) → (w : Tokens) × (m : Making Expr) × Headed p w m
  some_headed p = let a = behind.some p in (a.0, a.1, no_step a.2)

  into_dot : (p : Making (Place × Spot)) (w : Tokens) (m : Making Expr) → Dot p w m → Headed p w m
  into_dot p w m is = subst (λ (x : Making Expr). Headed p w x) (sym is.is_value) (dot is.front is.back is.left is.parts is.is_left is.is_right)

  into_bracket : (p : Making (Place × Spot)) (w : Tokens) (m : Making Expr) → Bracket p w m → Headed p w m
  into_bracket p w m is = subst (λ (x : Making Expr). Headed p w x) (sym is.is_value) (by is.is_right)
    where
      by : InBrackets (then_made first p is.left) is.back is.right → Headed p w is.right
      by (inl r) = append is.front r.front r.back is.left r.left (is.parts ∙ ap (λ (u : Tokens). is.front ++ u) r.parts) is.is_left r.is_left
          (subst (λ (x : Making Expr). Appended (closed_at p is.left r.left) r.back x) (sym r.is_value) r.is_right)
      by (inr r) = let k = r.is_right in
          at_index is.front r.front k.front k.back is.left r.left k.left
          (is.parts ∙ ap (λ (u : Tokens). is.front ++ u) (r.parts ∙ ap (λ (u : Tokens). r.front ++ u) k.parts)) is.is_left r.is_left k.is_left
          (subst (λ (x : Making Expr). Headed (indexed p is.left r.left k.left) k.back x) (sym (r.is_value ∙ k.is_value)) k.is_right)

  -- one of the three
  headed_cases : (p : Making (Place × Spot)) (w : Tokens) (m : Making Expr) → Headed p w m → Dot p w m ⊎ (Bracket p w m ⊎ BehindPlace i p w m)
  headed_cases p w m (no_step is) = inr (inr is)
  headed_cases p w m (dot front back a parts is_left is_right) = inl (record { front = front; back = back; left = a; right = m; parts = parts; is_left = is_left; is_right = is_right; is_value = refl })
  headed_cases p w m (at_index opening inner closing back o e c parts is_open is_expr is_close is_right) = inr (inl (record {
    front = opening;
    back = inner ++ (closing ++ back);
    left = o;
    right = m;
    parts = parts;
    is_left = is_open;
    is_value = refl;
    is_right = inr (record {
      front = inner;
      back = closing ++ back;
      left = e;
      right = m;
      parts = refl;
      is_left = is_expr;
      is_value = refl;
      is_right = record { front = closing; back = back; left = c; right = m; parts = refl; is_left = is_close; is_right = is_right; is_value = refl };
    });
  }))
  headed_cases p w m (append opening closing back o c parts is_open is_close is_right) = inr (inl (record {
    front = opening;
    back = closing ++ back;
    left = o;
    right = m;
    parts = parts;
    is_left = is_open;
    is_value = refl;
    is_right = inl (record { front = closing; back = back; left = c; right = m; parts = refl; is_left = is_close; is_right = is_right; is_value = refl });
  }))

  dot_begins : (p : Making (Place × Spot)) (w : Tokens) (m : Making Expr) → Dot p w m → Begin (36 ∷ []) w
  dot_begins p w m is = begin_front (36 ∷ []) w is.front is.back is.parts (dotted.starts is.front is.left is.is_left)

  bracket_begins : (p : Making (Place × Spot)) (w : Tokens) (m : Making Expr) → Bracket p w m → Begin (11 ∷ []) w
  bracket_begins p w m is = begin_front (11 ∷ []) w is.front is.back is.parts (opened.starts is.front is.left is.is_left)

  -- ---- what reading tells

  as_dot : (p : Making (Place × Spot)) (ts : Tokens) → next_in (36 ∷ []) ts ≡ true → (w : Tokens) (m : Making Expr) → Headed p w m → Dot p w m ⊎ Off (In expr_more) ts w
  as_dot p ts e w m is = elim (headed_cases p w m is) [
    | inl c ↦ inl c
    | inr (inl c) ↦ inr (off (11 ∷ []) (In expr_more) ts w (next_no (36 ∷ []) (11 ∷ []) refl ts e) (bracket_begins p w m c))
    | inr (inr c) ↦ inr (off_or_empty (36 ∷ []) behind_begins expr_more ts w refl refl e (behind.starts p w m c))
  ]

  as_bracket : (p : Making (Place × Spot)) (ts : Tokens) → next_in (11 ∷ []) ts ≡ true → (w : Tokens) (m : Making Expr) → Headed p w m → Bracket p w m ⊎ Off (In expr_more) ts w
  as_bracket p ts e w m is = elim (headed_cases p w m is) [
    | inl c ↦ inr (off (36 ∷ []) (In expr_more) ts w (next_no (11 ∷ []) (36 ∷ []) refl ts e) (dot_begins p w m c))
    | inr (inl c) ↦ inl c
    | inr (inr c) ↦ inr (off_or_empty (11 ∷ []) behind_begins expr_more ts w refl refl e (behind.starts p w m c))
  ]

  as_behind : (p : Making (Place × Spot)) (ts : Tokens) → next_in (36 ∷ []) ts ≡ false → next_in (11 ∷ []) ts ≡ false → (w : Tokens) (m : Making Expr) → Headed p w m → BehindPlace i p w m ⊎ Off (In expr_more) ts w
  as_behind p ts e f w m is = elim (headed_cases p w m is) [
    | inl c ↦ inr (off (36 ∷ []) (In expr_more) ts w (next_not (36 ∷ []) ts e) (dot_begins p w m c))
    | inr (inl c) ↦ inr (off (11 ∷ []) (In expr_more) ts w (next_not (11 ∷ []) ts f) (bracket_begins p w m c))
    | inr (inr c) ↦ inl c
  ]

  abbrev Next : Type 0
  Next = Making (Place × Spot) → Tokens → Found (Making Expr)

  abbrev by_next : Next → (Making (Place × Spot) → Tokens → Found (Making Expr)) → Next
  by_next rest bracket p ts = cond (next_in (36 ∷ []) ts) (dotted.reads ts >>= λ a. rest (then_made with_access p a.0) a.1) (cond (next_in (11 ∷ []) ts) (bracket p ts) (behind.reads p ts))

  told_by : (rest bracket : Next) (p : Making (Place × Spot)) (ts : Tokens) → ((q : Making (Place × Spot)) (us : Tokens) → length us < length ts → Told (Headed q) (λ _. In expr_more) us (rest q us))
      → (next_in (11 ∷ []) ts ≡ true → Told (Headed p) (λ _. In expr_more) ts (bracket p ts)) → Told (Headed p) (λ _. In expr_more) ts (by_next rest bracket p ts)
  told_by rest bracket p ts more at_bracket = told_cond (Headed p) (λ _. In expr_more) ts (next_in (36 ∷ []) ts) (dotted.reads ts >>= λ a. rest (then_made with_access p a.0) a.1) (cond (next_in (11 ∷ []) ts) (bracket p ts) (behind.reads p ts))
      (λ e. told_chosen (Dot p) (Headed p) (λ _. In expr_more) (λ _. In expr_more) ts (dotted.reads ts >>= λ a. rest (then_made with_access p a.0) a.1) (into_dot p) (as_dot p ts e) (λ _ t j. j)
      (told_behind Dotted (λ a. Headed (then_made with_access p a)) expr_more (λ a. some_headed (then_made with_access p a)) ts (dotted.reads ts) (λ a. rest (then_made with_access p a.0) a.1) (dotted.told ts)
      (λ x is. more (then_made with_access p x.0) x.1 (part_shorter dotted ts x is))))
      (λ e. told_cond (Headed p) (λ _. In expr_more) ts (next_in (11 ∷ []) ts) (bracket p ts) (behind.reads p ts) at_bracket
      (λ f. told_chosen (BehindPlace i p) (Headed p) (λ _. In expr_more) (λ _. In expr_more) ts (behind.reads p ts) (λ w m is. no_step is) (as_behind p ts e f) (λ _ t j. j) (behind.told p ts)))

  module _ (room : IsTrue inside) where
    within_expr : Part E expr_more expr_begins expr
    within_expr = i.an_expr.part room

    assigned : Part (Before (is_sign sign.Assign) E) expr_more (40 ∷ []) (before (is_sign sign.Assign) expr)
    assigned = part_then second (part_sign sign.Assign) within_expr refl

    abbrev appended_reads : Next
    appended_reads q ts = assigned.reads ts >>= λ y. Ok (then_made appending q y.0, y.1)

    abbrev ends_reads : Next
    ends_reads q ts = closed.reads ts >>= λ c. appended_reads (then_made first q c.0) c.1

    abbrev close_reads : Next → Next
    close_reads rest q ts = closed.reads ts >>= λ c. rest (then_made first q c.0) c.1

    abbrev index_reads : Next → Next
    index_reads rest q ts = within_expr.reads ts >>= λ e. close_reads rest (then_made with_index q e.0) e.1

    abbrev inside_reads : Next → Next
    inside_reads rest q ts = cond (next_in (31 ∷ []) ts) (ends_reads q ts) (index_reads rest q ts)

    abbrev bracket_reads : Next → Next
    bracket_reads rest p ts = opened.reads ts >>= λ o. inside_reads rest (then_made first p o.0) o.1

    told_appended : (q : Making (Place × Spot)) (ts : Tokens) → Told (Appended q) (λ _. In expr_more) ts (appended_reads q ts)
    told_appended q ts = told_map (Before (is_sign sign.Assign) E) (then_made appending q) (λ _. In expr_more) (λ _. In expr_more) (λ _ t j. j) ts (assigned.reads ts) (assigned.told ts)

    some_appended : (q : Making (Place × Spot)) → (w : Tokens) × (m : Making Expr) × Appended q w m
    some_appended q = let a = assigned.some in (a.0, then_made appending q a.1, record { value = a.1; is_word = a.2; is_value = refl })

    some_closed : (q : Making (Place × Spot)) (e : Making Expr) → (w : Tokens) × (m : Making Expr) × Bind (One (is_sign sign.CloseBracket)) (λ c. Headed (then_made first (then_made with_index q e) c)) w m
    some_closed q e = let a = closed.some in let b = some_headed (then_made first (then_made with_index q e) a.1) in
        (a.0 ++ b.0, b.1, record { front = a.0; back = b.0; left = a.1; right = b.1; parts = refl; is_left = a.2; is_right = b.2; is_value = refl })

    some_inside : (q : Making (Place × Spot)) → (w : Tokens) × (m : Making Expr) × InBrackets q w m
    some_inside q = let a = closed.some in let b = some_appended (then_made first q a.1) in
        (a.0 ++ b.0, b.1, inl (record { front = a.0; back = b.0; left = a.1; right = b.1; parts = refl; is_left = a.2; is_right = b.2; is_value = refl }))

    ends_begin : (q : Making (Place × Spot)) (w : Tokens) (m : Making Expr) → AtEnds q w m → Begin (31 ∷ []) w
    ends_begin q w m is = begin_front (31 ∷ []) w is.front is.back is.parts (closed.starts is.front is.left is.is_left)

    index_begins : (q : Making (Place × Spot)) (w : Tokens) (m : Making Expr) → AtIndex q w m → Begin expr_begins w
    index_begins q w m is = begin_front expr_begins w is.front is.back is.parts (within_expr.starts is.front is.left is.is_left)

    as_ends : (q : Making (Place × Spot)) (ts : Tokens) → next_in (31 ∷ []) ts ≡ true → (w : Tokens) (m : Making Expr) → InBrackets q w m → AtEnds q w m ⊎ Off (In expr_more) ts w
    as_ends q ts e w m (inl is) = inl is
    as_ends q ts e w m (inr is) = inr (off expr_begins (In expr_more) ts w (next_no (31 ∷ []) expr_begins refl ts e) (index_begins q w m is))

    as_index : (q : Making (Place × Spot)) (ts : Tokens) → next_in (31 ∷ []) ts ≡ false → (w : Tokens) (m : Making Expr) → InBrackets q w m → AtIndex q w m ⊎ Off (In expr_more) ts w
    as_index q ts e w m (inl is) = inr (off (31 ∷ []) (In expr_more) ts w (next_not (31 ∷ []) ts e) (ends_begin q w m is))
    as_index q ts e w m (inr is) = inl is

    told_inside : (rest : Next) (q : Making (Place × Spot)) (ts : Tokens) → ((r : Making (Place × Spot)) (us : Tokens) → length us < length ts → Told (Headed r) (λ _. In expr_more) us (rest r us))
        → Told (InBrackets q) (λ _. In expr_more) ts (inside_reads rest q ts)
    told_inside rest q ts more = told_cond (InBrackets q) (λ _. In expr_more) ts (next_in (31 ∷ []) ts) (ends_reads q ts) (index_reads rest q ts)
        (λ e. told_chosen (AtEnds q) (InBrackets q) (λ _. In expr_more) (λ _. In expr_more) ts (ends_reads q ts) (λ w m is. inl is) (as_ends q ts e) (λ _ t j. j)
        (told_behind (One (is_sign sign.CloseBracket)) (λ c. Appended (then_made first q c)) expr_more (λ c. some_appended (then_made first q c)) ts (closed.reads ts) (λ c. appended_reads (then_made first q c.0) c.1) (closed.told ts)
        (λ c is. told_appended (then_made first q c.0) c.1)))
        (λ e. told_chosen (AtIndex q) (InBrackets q) (λ _. In expr_more) (λ _. In expr_more) ts (index_reads rest q ts) (λ w m is. inr is) (as_index q ts e) (λ _ t j. j)
        (told_bind E (λ e. Bind (One (is_sign sign.CloseBracket)) (λ c. Headed (then_made first (then_made with_index q e) c))) expr_more expr_more (31 ∷ []) refl
        (λ e w m is. begin_front (31 ∷ []) w is.front is.back is.parts (closed.starts is.front is.left is.is_left)) (some_closed q) ts (within_expr.reads ts) (λ e. close_reads rest (then_made with_index q e.0) e.1) (within_expr.told ts)
        (λ x is. told_behind (One (is_sign sign.CloseBracket)) (λ c. Headed (then_made first (then_made with_index q x.0) c)) expr_more (λ c. some_headed (then_made first (then_made with_index q x.0) c)) x.1 (closed.reads x.1)
        (λ c. rest (then_made first (then_made with_index q x.0) c.0) c.1) (closed.told x.1)
        (λ c at. let d : length x.1 < length ts = part_shorter within_expr ts x is in let f : length c.1 < length x.1 = part_shorter closed x.1 c at in
        more (then_made first (then_made with_index q x.0) c.0) c.1 (omega (arith, d, f))))))

    told_bracket : (rest : Next) (p : Making (Place × Spot)) (ts : Tokens) → ((r : Making (Place × Spot)) (us : Tokens) → length us < length ts → Told (Headed r) (λ _. In expr_more) us (rest r us)) → next_in (11 ∷ []) ts ≡ true
        → Told (Headed p) (λ _. In expr_more) ts (bracket_reads rest p ts)
    told_bracket rest p ts more e = told_chosen (Bracket p) (Headed p) (λ _. In expr_more) (λ _. In expr_more) ts (bracket_reads rest p ts) (into_bracket p) (as_bracket p ts e) (λ _ t j. j)
        (told_behind (One (is_sign sign.OpenBracket)) (λ o. InBrackets (then_made first p o)) expr_more (λ o. some_inside (then_made first p o)) ts (opened.reads ts) (λ o. inside_reads rest (then_made first p o.0) o.1) (opened.told ts)
        (λ o is. let d : length o.1 < length ts = part_shorter opened ts o is in told_inside rest (then_made first p o.0) o.1 (λ r us lt. more r us (omega (arith, d, lt)))))

    -- ---- reading at a place

    runs_inside : (back : Place × Spot → Reader Expr) (rest : Next) → ((s : State) (q : Making (Place × Spot)) (ts : Tokens) → back (made_at s q ts).0 (made_at s q ts).1 ≡ at_state s (rest q ts))
        → (s : State) (q : Making (Place × Spot)) (ts : Tokens) → reading.in_brackets inside un expr block back (made_at s q ts).0 (made_at s q ts).1 ≡ at_state s (inside_reads rest q ts)
    runs_inside back rest same s q ts = let at = made_at s q ts in
        cond_runs s (next_in (31 ∷ []) ts) (one (is_sign sign.CloseBracket) at.1 >>= λ c. given appending (before (is_sign sign.Assign) expr) at.0 c.1)
        (expr at.1 >>= λ e. one (is_sign sign.CloseBracket) e.1 >>= λ c. back (with_index at.0 e.0) c.1) (ends_reads q ts) (index_reads rest q ts)
        (next_behind first s q ts (given appending (before (is_sign sign.Assign) expr)) appended_reads appended_runs (one (is_sign sign.CloseBracket) at.1) (closed.reads ts) (closed.runs at.1))
        (next_behind with_index s q ts (λ r u. one (is_sign sign.CloseBracket) u >>= λ c. back r c.1) (close_reads rest)
        (λ r us. next_behind first s r us back rest (same s) (one (is_sign sign.CloseBracket) (made_at s r us).1) (closed.reads us) (closed.runs (made_at s r us).1)) (expr at.1) (within_expr.reads ts) (within_expr.runs at.1))
      where
        appended_runs : (r : Making (Place × Spot)) (us : Tokens) → given appending (before (is_sign sign.Assign) expr) (made_at s r us).0 (made_at s r us).1 ≡ at_state s (appended_reads r us)
        appended_runs r us = ap (λ (z : Read Expr). z >>= λ y. Ok (appending (made_at s r us).0 y.0, y.1)) (assigned.runs (made_at s r us).1) ∙ behind_runs appending s r us (assigned.reads us)

  runs_by : (back : Place × Spot → Reader Expr) (rest : Next) (opening : Place × Spot → Reader Expr) (bracket : Next) → ((s : State) (q : Making (Place × Spot)) (ts : Tokens) → back (made_at s q ts).0 (made_at s q ts).1 ≡ at_state s (rest q ts))
      → (s : State) (p : Making (Place × Spot)) (ts : Tokens) → opening (made_at s p ts).0 (made_at s p ts).1 ≡ at_state s (bracket p ts)
      → cond (next_in (36 ∷ []) ts) (reading.member_access inside un expr block (made_at s p ts).1 >>= λ a. back (with_access (made_at s p ts).0 a.0) a.1)
      (cond (next_in (11 ∷ []) ts) (opening (made_at s p ts).0 (made_at s p ts).1) (reading.behind_place inside un expr block (made_at s p ts).0 (made_at s p ts).1)) ≡ at_state s (by_next rest bracket p ts)
  runs_by back rest opening bracket same s p ts at_bracket = let at = made_at s p ts in
      cond_runs s (next_in (36 ∷ []) ts) (reading.member_access inside un expr block at.1 >>= λ a. back (with_access at.0 a.0) a.1)
      (cond (next_in (11 ∷ []) ts) (opening at.0 at.1) (reading.behind_place inside un expr block at.0 at.1))
      (dotted.reads ts >>= λ a. rest (then_made with_access p a.0) a.1) (cond (next_in (11 ∷ []) ts) (bracket p ts) (behind.reads p ts))
      (next_behind with_access s p ts back rest (same s) (reading.member_access inside un expr block at.1) (dotted.reads ts) (dotted.runs at.1))
      (cond_runs s (next_in (11 ∷ []) ts) (opening at.0 at.1) (reading.behind_place inside un expr block at.0 at.1) (bracket p ts) (behind.reads p ts) at_bracket (behind.runs s p ts))

  -- ---- with room, and with none

  module _ (room : IsTrue inside) where
    abbrev all_reads : ℕ → Next
    all_reads zero p ts = Err ts
    all_reads (suc n) p ts = by_next (all_reads n) (bracket_reads room (all_reads n)) p ts

    told_all : (n : ℕ) (p : Making (Place × Spot)) (ts : Tokens) → length ts < n → Told (Headed p) (λ _. In expr_more) ts (all_reads n p ts)
    told_all zero p ts fits = absurd (omega (arith, fits))
    told_all (suc n) p ts fits = step (λ q us lt. told_all n q us (omega (arith, lt, fits)))
      where
        step : ((q : Making (Place × Spot)) (us : Tokens) → length us < length ts → Told (Headed q) (λ _. In expr_more) us (all_reads n q us)) → Told (Headed p) (λ _. In expr_more) ts (all_reads (suc n) p ts)
        step more = told_by (all_reads n) (bracket_reads room (all_reads n)) p ts more (told_bracket room (all_reads n) p ts more)

    runs_all : (n : ℕ) (s : State) (p : Making (Place × Spot)) (ts : Tokens) → reading.head_within inside un expr block n (made_at s p ts).0 (made_at s p ts).1 ≡ at_state s (all_reads n p ts)
    runs_all zero s p ts = refl
    runs_all (suc n) s p ts = step (λ u q us. runs_all n u q us)
      where
        opening : Bool → Place × Spot → Reader Expr
        opening b q u = cond b (one (is_sign sign.OpenBracket) u >>= λ o. reading.in_brackets inside un expr block (reading.head_within inside un expr block n) q o.1) (Err u.tokens)

        step : ((u : State) (q : Making (Place × Spot)) (us : Tokens) → reading.head_within inside un expr block n (made_at u q us).0 (made_at u q us).1 ≡ at_state u (all_reads n q us))
            → reading.head_within inside un expr block (suc n) (made_at s p ts).0 (made_at s p ts).1 ≡ at_state s (all_reads (suc n) p ts)
        step same = runs_by (reading.head_within inside un expr block n) (all_reads n) (opening inside) (bracket_reads room (all_reads n)) same s p ts (at_bracket room same)
          where
            at_bracket : IsTrue inside → ((u : State) (q : Making (Place × Spot)) (us : Tokens) → reading.head_within inside un expr block n (made_at u q us).0 (made_at u q us).1 ≡ at_state u (all_reads n q us))
                → opening inside (made_at s p ts).0 (made_at s p ts).1 ≡ at_state s (bracket_reads room (all_reads n) p ts)
            at_bracket h same = ap (λ (b : Bool). opening b (made_at s p ts).0 (made_at s p ts).1) h
                ∙ next_behind first s p ts (reading.in_brackets inside un expr block (reading.head_within inside un expr block n)) (inside_reads room (all_reads n)) (runs_inside room (reading.head_within inside un expr block n) (all_reads n) same s)
                (one (is_sign sign.OpenBracket) (made_at s p ts).1) (opened.reads ts) (opened.runs (made_at s p ts).1)

  module _ (no_room : inside ≡ false) where
    abbrev few_reads : ℕ → Next
    few_reads zero p ts = Err ts
    few_reads (suc n) p ts = by_next (few_reads n) (λ q us. Err us) p ts

    no_bracket : (p : Making (Place × Spot)) (w : Tokens) (m : Making Expr) → Bracket p w m → ⊥
    no_bracket p w m is = by is.is_right
      where
        by : InBrackets (then_made first p is.left) is.back is.right → ⊥
        by (inl r) = let a = r.is_right.is_word in i.an_expr.empty no_room a.back a.right a.is_right
        by (inr r) = i.an_expr.empty no_room r.front r.left r.is_left

    told_few : (n : ℕ) (p : Making (Place × Spot)) (ts : Tokens) → length ts < n → Told (Headed p) (λ _. In expr_more) ts (few_reads n p ts)
    told_few zero p ts fits = absurd (omega (arith, fits))
    told_few (suc n) p ts fits = step (λ q us lt. told_few n q us (omega (arith, lt, fits)))
      where
        step : ((q : Making (Place × Spot)) (us : Tokens) → length us < length ts → Told (Headed q) (λ _. In expr_more) us (few_reads n q us)) → Told (Headed p) (λ _. In expr_more) ts (few_reads (suc n) p ts)
        step more = told_by (few_reads n) (λ q us. Err us) p ts more
            (λ e. let a = some_headed p in told_stuck (Headed p) (λ _. In expr_more) ts a.0 a.1 a.2
            (λ w m is. elim (as_bracket p ts e w m is) [ inl c ↦ absurd (no_bracket p w m c) | inr o ↦ o ]))

    runs_few : (n : ℕ) (s : State) (p : Making (Place × Spot)) (ts : Tokens) → reading.head_within inside un expr block n (made_at s p ts).0 (made_at s p ts).1 ≡ at_state s (few_reads n p ts)
    runs_few zero s p ts = refl
    runs_few (suc n) s p ts = step (λ u q us. runs_few n u q us)
      where
        opening : Bool → Place × Spot → Reader Expr
        opening b q u = cond b (one (is_sign sign.OpenBracket) u >>= λ o. reading.in_brackets inside un expr block (reading.head_within inside un expr block n) q o.1) (Err u.tokens)

        step : ((u : State) (q : Making (Place × Spot)) (us : Tokens) → reading.head_within inside un expr block n (made_at u q us).0 (made_at u q us).1 ≡ at_state u (few_reads n q us))
            → reading.head_within inside un expr block (suc n) (made_at s p ts).0 (made_at s p ts).1 ≡ at_state s (few_reads (suc n) p ts)
        step same = runs_by (reading.head_within inside un expr block n) (few_reads n) (opening inside) (λ q us. Err us) same s p ts (ap (λ (b : Bool). opening b (made_at s p ts).0 (made_at s p ts).1) no_room)

  abbrev pub head_begins : List ℕ
  head_begins = 36 ∷ 11 ∷ behind_begins

  headed_starts : (p : Making (Place × Spot)) (w : Tokens) (m : Making Expr) → Headed p w m → (w ≡ []) ⊎ Begin head_begins w
  headed_starts p w m is = elim (headed_cases p w m is) [
    | inl c ↦ inr (begin_as (36 ∷ []) head_begins (within_in (36 ∷ []) head_begins refl) w (dot_begins p w m c))
    | inr (inl c) ↦ inr (begin_as (11 ∷ []) head_begins (within_in (11 ∷ []) head_begins refl) w (bracket_begins p w m c))
    | inr (inr c) ↦ elim (behind.starts p w m c) [ inl e ↦ inl e | inr b ↦ inr (begin_as behind_begins head_begins (within_in behind_begins head_begins refl) w b) ]
  ]

  head_by : (b : Bool) → inside ≡ b → After Headed expr_more head_begins (reading.head inside un expr block)
  head_by true h = record {
    reads = λ p ts. all_reads h (suc (length ts)) p ts;
    told = λ p ts. told_all h (suc (length ts)) p ts (omega arith);
    runs = λ s p ts. runs_all h (suc (length ts)) s p ts;
    starts = headed_starts;
    some = some_headed;
  }
  head_by false h = record {
    reads = λ p ts. few_reads h (suc (length ts)) p ts;
    told = λ p ts. told_few h (suc (length ts)) p ts (omega arith);
    runs = λ s p ts. runs_few h (suc (length ts)) s p ts;
    starts = headed_starts;
    some = some_headed;
  }

  pub the_head : After Headed expr_more head_begins (reading.head inside un expr block)
  the_head = head_by inside refl
