-- Reading the steps behind a variable by a loop.
use Rattle.std.proofs.Common.{◌≡◌, ℕ, zero, suc, ◌≤◌, ◌<◌, eqb, Bool, true, false, cond, [], ◌∷◌, length, Option, Some, None, Ok, Err, refl, sym, ap, ◌∙◌, arith}
use Rattle.jx9_syntax.specs.Grammar.{code, Spot, is_sign, first, second}
use Rattle.jx9_syntax.specs.declared.expression.Access
use Rattle.jx9_syntax.specs.declared.expression.Access.{Access as AccessTree}
use Rattle.jx9_syntax.specs.declared.expression.Expr.{Expr}
use Rattle.jx9_syntax.specs.declared.expression.Place.{Place}
use Rattle.jx9_syntax.specs.declared.sign.Sign.TheVariants as sign
use Rattle.jx9_parse.specs.Expressions as expressions
use Rattle.jx9_parse.specs.Expressions.{with_access, with_index}
use Rattle.jx9_parse.specs.Levels as levels
use Rattle.jx9_parse.specs.Reading.{Tokens, State, Read, ◌>>=◌, next_in, one, map_read, guarded, ending, given, before}
use Rattle.jx9_parse.specs.Rooms.{unary_within, expr_within, block_within}
use Rattle.jx9_parse.specs.Answers.{Stops}
use Rattle.jx9_parse.specs.declared.parser.Parser.{Parser}
use Rattle.jx9_parse.specs.declared.stop.Stop.{Stop}
use Rattle.jx9_parse.specs.declared.stop.Stop.TheVariants as stop
use Rattle.jx9_parse.proofs.Loops.{Shrinks, part_shrinks, then_shrinks, map_shrinks}
use Rattle.jx9_parse.proofs.RoomLaws.{room}
use Rattle.jx9_parse.proofs.RoomSteps.{guarded_expr, expr_shrinks}
use Rattle.jx9_parse.proofs.Primaries.{a_member}
use Rattle.jx9_parse.proofs.Singles.{part_sign}

module _ (k : ℕ) where
  abbrev Rest : Type 0
  Rest = Place × Spot → State → Read Expr

  abbrev by_member : (Place × Spot) → Read AccessTree → Rest → Read Expr
  by_member p o rest = o >>= λ a. rest (with_access p a.0) a.1

  abbrev by_close : (Place × Spot) → Read Spot → Rest → Read Expr
  by_close p o rest = o >>= λ c. rest p c.1

  abbrev by_index : (Place × Spot) → Read Expr → Rest → Read Expr
  by_index p o rest = o >>= λ e. by_close (with_index p e.0) (one (is_sign sign.CloseBracket) e.1) rest

  abbrev brackets : Rest → Place × Spot → State → Read Expr
  brackets rest = expressions.in_brackets (levels.inside k) (unary_within k) (expr_within k) (block_within k) rest

  abbrev head_within : ℕ → Place × Spot → State → Read Expr
  head_within = expressions.head_within (levels.inside k) (unary_within k) (expr_within k) (block_within k)

  member_shrinks : Shrinks (levels.member k)
  member_shrinks = part_shrinks (a_member (room k).inner)

  close_shrinks : Shrinks (one (is_sign sign.CloseBracket))
  close_shrinks = part_shrinks (part_sign sign.CloseBracket)

  open_shrinks : Shrinks (one (is_sign sign.OpenBracket))
  open_shrinks = part_shrinks (part_sign sign.OpenBracket)

  within_shrinks : Shrinks (expr_within k)
  within_shrinks s x e = expr_shrinks k s x (guarded_expr k s ∙ e)

  abbrev Same : Rest → Rest → State → Type 0
  Same p q s = (place : Place × Spot) (u : State) → length u.tokens < length s.tokens → p place u ≡ q place u

  same_member : (p q : Rest) (place : Place × Spot) (s : State) → Same p q s → by_member place (levels.member k s) p ≡ by_member place (levels.member k s) q
  same_member p q place s same = by (levels.member k s) refl
    where
      by : (o : Read AccessTree) → levels.member k s ≡ o → by_member place o p ≡ by_member place o q
      by (Ok x) e = same (with_access place x.0) x.1 (member_shrinks s x e)
      by (Err ts) e = refl

  same_close : (p q : Rest) (place : Place × Spot) (s : State) → Same p q s → by_close place (one (is_sign sign.CloseBracket) s) p ≡ by_close place (one (is_sign sign.CloseBracket) s) q
  same_close p q place s same = by (one (is_sign sign.CloseBracket) s) refl
    where
      by : (o : Read Spot) → one (is_sign sign.CloseBracket) s ≡ o → by_close place o p ≡ by_close place o q
      by (Ok x) e = same place x.1 (close_shrinks s x e)
      by (Err ts) e = refl

  same_index : (p q : Rest) (place : Place × Spot) (s : State) → Same p q s → by_index place (expr_within k s) p ≡ by_index place (expr_within k s) q
  same_index p q place s same = by (expr_within k s) refl
    where
      by : (o : Read Expr) → expr_within k s ≡ o → by_index place o p ≡ by_index place o q
      by (Ok x) e = let d : length x.1.tokens < length s.tokens = within_shrinks s x e in same_close p q (with_index place x.0) x.1 (λ r u lt. same r u (omega (arith, d, lt)))
      by (Err ts) e = refl

  same_brackets : (p q : Rest) (place : Place × Spot) (s : State) → Same p q s → brackets p place s ≡ brackets q place s
  same_brackets p q place s same = ap (λ (z : Read Expr). cond (next_in (31 ∷ []) s.tokens) (one (is_sign sign.CloseBracket) s >>= λ c. given expressions.appending (before (is_sign sign.Assign) (expr_within k)) place c.1) z) (same_index p q place s same)

  abbrev by_open : (Place × Spot) → Read Spot → Rest → Read Expr
  by_open place o rest = o >>= λ x. brackets rest place x.1

  same_open : (p q : Rest) (place : Place × Spot) (s : State) → Same p q s → by_open place (one (is_sign sign.OpenBracket) s) p ≡ by_open place (one (is_sign sign.OpenBracket) s) q
  same_open p q place s same = by (one (is_sign sign.OpenBracket) s) refl
    where
      by : (o : Read Spot) → one (is_sign sign.OpenBracket) s ≡ o → by_open place o p ≡ by_open place o q
      by (Ok x) e = let d : length x.1.tokens < length s.tokens = open_shrinks s x e in same_brackets p q place x.1 (λ r u lt. same r u (omega (arith, d, lt)))
      by (Err ts) e = refl

  abbrev turn : Place × Spot → State → Read Expr → Read Expr → Read Expr
  turn place s a b = cond (next_in (36 ∷ []) s.tokens) a (cond (next_in (11 ∷ []) s.tokens) (cond (levels.inside k) b (Err s.tokens)) (levels.behind_place k place s))

  abbrev appended : Place × Spot → State → Read Expr
  appended place = given expressions.appending (before (is_sign sign.Assign) (expr_within k)) place

  head_fuel : (n m : ℕ) (place : Place × Spot) (s : State) → length s.tokens < n → length s.tokens < m → head_within n place s ≡ head_within m place s
  head_fuel zero m place s h g = absurd (omega (arith, h))
  head_fuel (suc n) zero place s h g = absurd (omega (arith, g))
  head_fuel (suc n) (suc m) place s h g = step (λ r u lt. head_fuel n m r u (omega (arith, lt, h)) (omega (arith, lt, g)))
    where
      step : Same (head_within n) (head_within m) s → head_within (suc n) place s ≡ head_within (suc m) place s
      step same = ap (λ (z : Read Expr). turn place s z (by_open place (one (is_sign sign.OpenBracket) s) (head_within n))) (same_member (head_within n) (head_within m) place s same)
          ∙ ap (λ (z : Read Expr). turn place s (by_member place (levels.member k s) (head_within m)) z) (same_open (head_within n) (head_within m) place s same)

  -- behind a step, or at the `]` of an appending
  abbrev behind_step : Place × Spot → Option AccessTree × State → Read Expr
  behind_step place (Some a, s) = levels.head k (with_access place a) s
  behind_step place (None, s) = levels.appended k place s

  abbrev by_step : Place × Spot → Read (Option AccessTree) → Read Expr
  by_step place o = o >>= behind_step place

  abbrev turn_at : Place × Spot → State → Bool → Bool → Read Expr
  turn_at place s dot bracket = cond dot (by_member place (levels.member k s) (levels.head k)) (cond bracket (cond (levels.inside k) (by_open place (one (is_sign sign.OpenBracket) s) (levels.head k)) (Err s.tokens)) (levels.behind_place k place s))

  head_is : (place : Place × Spot) (s : State) → levels.head k place s ≡ turn_at place s (next_in (36 ∷ []) s.tokens) (next_in (11 ∷ []) s.tokens)
  head_is place s =
      let same : Same (head_within (length s.tokens)) (levels.head k) s = λ r u lt. head_fuel (length s.tokens) (suc (length u.tokens)) r u (omega (arith, lt)) (omega arith) in
      ap (λ (z : Read Expr). turn place s z (by_open place (one (is_sign sign.OpenBracket) s) (head_within (length s.tokens)))) (same_member (head_within (length s.tokens)) (levels.head k) place s same)
      ∙ ap (λ (z : Read Expr). turn place s (by_member place (levels.member k s) (levels.head k)) z) (same_open (head_within (length s.tokens)) (levels.head k) place s same)

  step_next : (ts : Tokens) → (next_in (11 ∷ 36 ∷ []) ts ≡ true → next_in (36 ∷ []) ts ≡ false → next_in (11 ∷ []) ts ≡ true) × (next_in (11 ∷ 36 ∷ []) ts ≡ false → (next_in (36 ∷ []) ts ≡ false) × (next_in (11 ∷ []) ts ≡ false))
  step_next [] = (λ h g. h, λ h. (refl, refl))
  step_next (t ∷ ts) = by (eqb (code t) 11) (eqb (code t) 36)
    where
      different : false ≡ true → ⊥
      different e = cc

      by : (b c : Bool) → (cond b true (cond c true false) ≡ true → cond c true false ≡ false → cond b true false ≡ true) × (cond b true (cond c true false) ≡ false → (cond c true false ≡ false) × (cond b true false ≡ false))
      by true true = (λ h g. refl, λ h. absurd (different (sym h)))
      by true false = (λ h g. refl, λ h. absurd (different (sym h)))
      by false true = (λ h g. absurd (different (sym g)), λ h. absurd (different (sym h)))
      by false false = (λ h g. h, λ h. (refl, refl))

  -- no step is next
  head_ends : (place : Place × Spot) (s : State) → next_in (11 ∷ 36 ∷ []) s.tokens ≡ false → levels.head k place s ≡ levels.behind_place k place s
  head_ends place s e = let n = (step_next s.tokens).1 e in
      head_is place s ∙ ap (λ (b : Bool). turn_at place s b (next_in (11 ∷ []) s.tokens)) n.0 ∙ ap (turn_at place s false) n.1

  -- what a step is read from
  abbrev as_member : Read AccessTree → Read (Option AccessTree)
  as_member o = o >>= λ x. Ok (Some x.0, x.1)

  abbrev as_index : Read Expr → Read (Option AccessTree)
  as_index o = o >>= λ x. Ok (Some (Access.Index x.0), x.1)

  abbrev before_sign : Expr → Read Spot → Read Expr
  before_sign f o = o >>= λ y. Ok (first f y.0, y.1)

  abbrev behind_sign : Spot → Read (Option AccessTree) → Read (Option AccessTree)
  behind_sign p o = o >>= λ y. Ok (second p y.0, y.1)

  -- a step is next
  head_turn : (place : Place × Spot) (s : State) → next_in (11 ∷ 36 ∷ []) s.tokens ≡ true → levels.head k place s ≡ by_step place (levels.head_step k s)
  head_turn place s e = head_is place s ∙ by (next_in (36 ∷ []) s.tokens) refl
    where
      member_is : (o : Read AccessTree) → by_member place o (levels.head k) ≡ by_step place (as_member o)
      member_is (Ok x) = refl
      member_is (Err ts) = refl

      close_is : (f : Expr) (o : Read Spot) → by_close (with_index place f) o (levels.head k) ≡ by_step place (as_index (before_sign f o))
      close_is f (Ok x) = refl
      close_is f (Err ts) = refl

      index_is : (o : Read Expr) → by_index place o (levels.head k) ≡ by_step place (as_index (o >>= λ x. before_sign x.0 (one (is_sign sign.CloseBracket) x.1)))
      index_is (Ok x) = close_is x.0 (one (is_sign sign.CloseBracket) x.1)
      index_is (Err ts) = refl

      inside_is : (s : State) (b : Bool) → cond b (levels.appended k place s) (by_index place (expr_within k s) (levels.head k))
          ≡ by_step place (cond b (Ok (None, s)) (map_read (λ e. Some (Access.Index e)) (ending (expr_within k) (is_sign sign.CloseBracket)) s))
      inside_is s true = refl
      inside_is s false = index_is (expr_within k s)

      second_is : (p : Spot) (o : Read (Option AccessTree)) → by_step place o ≡ by_step place (behind_sign p o)
      second_is p (Ok x) = refl
      second_is p (Err ts) = refl

      open_is : (o : Read Spot) → by_open place o (levels.head k) ≡ by_step place (o >>= λ x. behind_sign x.0 (levels.index_or_none k x.1))
      open_is (Ok x) = inside_is x.1 (next_in (31 ∷ []) x.1.tokens) ∙ second_is x.0 (levels.index_or_none k x.1)
      open_is (Err ts) = refl

      room_is : (b : Bool) → cond b (by_open place (one (is_sign sign.OpenBracket) s) (levels.head k)) (Err s.tokens) ≡ by_step place (cond b (before (is_sign sign.OpenBracket) (levels.index_or_none k) s) (Err s.tokens))
      room_is true = open_is (one (is_sign sign.OpenBracket) s)
      room_is false = refl

      by : (b : Bool) → next_in (36 ∷ []) s.tokens ≡ b → turn_at place s b (next_in (11 ∷ []) s.tokens) ≡ by_step place (cond b (map_read Some (levels.member k) s) (guarded (levels.inside k) (before (is_sign sign.OpenBracket) (levels.index_or_none k)) s))
      by true is = member_is (levels.member k s)
      by false is = ap (turn_at place s false) ((step_next s.tokens).0 e is) ∙ room_is (levels.inside k)

  -- reading stops within a step
  pub step_stops : (place : Place × Spot) (s : State) (total : Read Expr) (e : Stop) (p : Parser) → next_in (11 ∷ 36 ∷ []) s.tokens ≡ true → Stops e p (levels.head_step k s) → levels.head k place s ≡ total → Stops e p total
  step_stops place s total stop.Memory p next h so_far = tt
  step_stops place s total stop.Dead p next h so_far = sym so_far ∙ head_turn place s next ∙ ap (by_step place) h

  pub step_taken : (place : Place × Spot) (s : State) (x : Option AccessTree × State) (total : Read Expr) → next_in (11 ∷ 36 ∷ []) s.tokens ≡ true → levels.head_step k s ≡ Ok x → levels.head k place s ≡ total → behind_step place x ≡ total
  step_taken place s x total next h so_far = sym (ap (by_step place) h) ∙ sym (head_turn place s next) ∙ so_far

  pub no_step : (place : Place × Spot) (s : State) (total : Read Expr) → next_in (11 ∷ 36 ∷ []) s.tokens ≡ false → levels.head k place s ≡ total → levels.behind_place k place s ≡ total
  no_step place s total next so_far = sym (head_ends place s next) ∙ so_far

  index_or_none_keeps : (s : State) (x : Option AccessTree × State) → levels.index_or_none k s ≡ Ok x → length x.1.tokens ≤ length s.tokens
  index_or_none_keeps s x e = by (next_in (31 ∷ []) s.tokens) e
    where
      rest_is : (y : Option AccessTree × State) → ◌≡◌ {A = Read (Option AccessTree)} (Ok y) (Ok x) → y ≡ x
      rest_is y e = cc

      by : (b : Bool) → cond b (Ok (None, s)) (map_read (λ e. Some (Access.Index e)) (ending (expr_within k) (is_sign sign.CloseBracket)) s) ≡ Ok x → length x.1.tokens ≤ length s.tokens
      by true h = let l : length s.tokens ≡ length x.1.tokens = ap (λ (z : Option AccessTree × State). length z.1.tokens) (rest_is (None, s) h) in omega (arith, l)
      by false h = let d : length x.1.tokens < length s.tokens = map_shrinks (λ e. Some (Access.Index e)) (ending (expr_within k) (is_sign sign.CloseBracket)) (then_shrinks first (expr_within k) (one (is_sign sign.CloseBracket)) within_shrinks close_shrinks) s x h in omega (arith, d)

  pub step_shrinks : Shrinks (levels.head_step k)
  step_shrinks s x e = by (next_in (36 ∷ []) s.tokens) e
    where
      not_ok : {ts : Tokens} → ◌≡◌ {A = Read (Option AccessTree)} (Err ts) (Ok x) → ⊥
      not_ok e = cc

      rest_is : (y : Option AccessTree × State) → ◌≡◌ {A = Read (Option AccessTree)} (Ok y) (Ok x) → y ≡ x
      rest_is y e = cc

      behind : (o : Spot × State) → one (is_sign sign.OpenBracket) s ≡ Ok o → (z : Read (Option AccessTree)) → levels.index_or_none k o.1 ≡ z → (z >>= λ y. Ok (second o.0 y.0, y.1)) ≡ Ok x → length x.1.tokens < length s.tokens
      behind o is (Err ts) has h = absurd (not_ok h)
      behind o is (Ok y) has h =
          let d : length o.1.tokens < length s.tokens = open_shrinks s o is in
          let g : length y.1.tokens ≤ length o.1.tokens = index_or_none_keeps o.1 y has in
          let l : length y.1.tokens ≡ length x.1.tokens = ap (λ (z : Option AccessTree × State). length z.1.tokens) (rest_is (second o.0 y.0, y.1) h) in omega (arith, d, g, l)

      bracket : (z : Read Spot) → one (is_sign sign.OpenBracket) s ≡ z → (z >>= λ o. levels.index_or_none k o.1 >>= λ y. Ok (second o.0 y.0, y.1)) ≡ Ok x → length x.1.tokens < length s.tokens
      bracket (Err ts) is h = absurd (not_ok h)
      bracket (Ok o) is h = behind o is (levels.index_or_none k o.1) refl h

      roomy : (b : Bool) → cond b (before (is_sign sign.OpenBracket) (levels.index_or_none k) s) (Err s.tokens) ≡ Ok x → length x.1.tokens < length s.tokens
      roomy true h = bracket (one (is_sign sign.OpenBracket) s) refl h
      roomy false h = absurd (not_ok h)

      by : (b : Bool) → cond b (map_read Some (levels.member k) s) (guarded (levels.inside k) (before (is_sign sign.OpenBracket) (levels.index_or_none k)) s) ≡ Ok x → length x.1.tokens < length s.tokens
      by true h = map_shrinks Some (levels.member k) member_shrinks s x h
      by false h = roomy (levels.inside k) h
