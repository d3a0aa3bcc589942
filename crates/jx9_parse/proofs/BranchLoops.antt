-- Reading the branches of an `if` by a loop.
use Rattle.std.proofs.Common.{◌≡◌, ℕ, zero, suc, ◌<◌, Bool, true, false, cond, eqb, List, [], ◌∷◌, ◌++◌, length, Option, Some, None, codes, Ok, Err, refl, sym, ap, subst, ◌∙◌, append_assoc, append-nil, arith}
use Rattle.std.proofs.lemmas.Bool.{eqb-true}
use Rattle.jx9_syntax.specs.Grammar.{code, Spot, is_word, second, with_branch, no_branch, otherwise}
use Rattle.jx9_syntax.specs.declared.statement.Branch.{Branch}
use Rattle.jx9_syntax.specs.declared.statement.Statement.{Statement}
use Rattle.jx9_parse.specs.Levels as levels
use Rattle.jx9_parse.specs.Reading.{Tokens, State, Read, ◌>>=◌, next_in, one, before, map_read}
use Rattle.jx9_parse.specs.Rooms.{expr_within, statement_within}
use Rattle.jx9_parse.specs.Statements as statements
use Rattle.jx9_parse.specs.Answers.{Stops}
use Rattle.jx9_parse.specs.declared.parser.Parser.{Parser}
use Rattle.jx9_parse.specs.declared.stop.Stop.{Stop}
use Rattle.jx9_parse.specs.declared.stop.Stop.TheVariants as stop
use Rattle.jx9_parse.proofs.Loops.{Shrinks, one_shrinks, then_shrinks}
use Rattle.jx9_parse.proofs.RoomSteps.{branch_shrinks}

module _ (k : ℕ) where
  shrinks : Shrinks (levels.branch k)
  shrinks = branch_shrinks k

  abbrev Found : Type 0
  Found = List Branch × Option Statement

  abbrev Rest : Type 0
  Rest = State → Read Found

  abbrev branches_within : ℕ → Rest
  branches_within = statements.branches_within (levels.inside k) (levels.expression k) (expr_within k) (statement_within k)

  abbrev behind : Rest → Rest
  behind = statements.behind_branch (levels.inside k) (levels.expression k) (expr_within k) (statement_within k)

  abbrev by_branch : Read Branch → Rest → Read Found
  by_branch o rest = o >>= λ x. behind rest x.1 >>= λ y. Ok (with_branch x.0 y.0, y.1)

  abbrev by_word : Read Spot → Rest → Read Found
  by_word o rest = o >>= λ x. rest x.1 >>= λ y. Ok (second x.0 y.0, y.1)

  abbrev elseif_next : State → Read Spot
  elseif_next s = one (is_word (codes "elseif")) s

  abbrev Same : Rest → Rest → State → Type 0
  Same p q s = (u : State) → length u.tokens < length s.tokens → p u ≡ q u

  same_word : (p q : Rest) (s : State) → Same p q s → by_word (elseif_next s) p ≡ by_word (elseif_next s) q
  same_word p q s same = by (elseif_next s) refl
    where
      by : (o : Read Spot) → elseif_next s ≡ o → by_word o p ≡ by_word o q
      by (Ok x) e = ap (λ (z : Read Found). z >>= λ y. Ok (second x.0 y.0, y.1)) (same x.1 (one_shrinks (is_word (codes "elseif")) s x e))
      by (Err ts) e = refl

  same_behind : (p q : Rest) (s : State) → Same p q s → behind p s ≡ behind q s
  same_behind p q s same = ap (λ (z : Read Found). cond (next_in (38 ∷ []) s.tokens) (map_read otherwise (before (is_word (codes "else")) (statement_within k)) s) (cond (next_in (39 ∷ []) s.tokens) z (Ok (no_branch, s)))) (same_word p q s same)

  same_branch : (p q : Rest) (s : State) → Same p q s → by_branch (levels.branch k s) p ≡ by_branch (levels.branch k s) q
  same_branch p q s same = by (levels.branch k s) refl
    where
      by : (o : Read Branch) → levels.branch k s ≡ o → by_branch o p ≡ by_branch o q
      by (Ok x) e = let d : length x.1.tokens < length s.tokens = shrinks s x e in
          ap (λ (z : Read Found). z >>= λ y. Ok (with_branch x.0 y.0, y.1)) (same_behind p q x.1 (λ u lt. same u (omega (arith, d, lt))))
      by (Err ts) e = refl

  branches_fuel : (n m : ℕ) (s : State) → length s.tokens < n → length s.tokens < m → branches_within n s ≡ branches_within m s
  branches_fuel zero m s h g = absurd (omega (arith, h))
  branches_fuel (suc n) zero s h g = absurd (omega (arith, g))
  branches_fuel (suc n) (suc m) s h g = same_branch (branches_within n) (branches_within m) s (λ u lt. branches_fuel n m u (omega (arith, lt, h)) (omega (arith, lt, g)))

  -- ---- what was read before, and what is still read

  abbrev pub with_branches : List Branch → Read Found → Read Found
  with_branches front o = o >>= λ x. Ok ((front ++ x.0.0, x.0.1), x.1)

  abbrev pub left : State → Read Found
  left = behind (levels.branches k)

  -- a branch is read, and what is behind it
  pub branches_are : (s : State) → levels.branches k s ≡ (levels.branch k s >>= λ b. with_branches (b.0 ∷ []) (left b.1))
  branches_are s = same_branch (branches_within (length s.tokens)) (levels.branches k) s (λ u lt. branches_fuel (length s.tokens) (suc (length u.tokens)) u (omega (arith, lt)) (omega arith)) ∙ by (levels.branch k s)
    where
      tree : (b : Branch) (o : Read Found) → (o >>= λ y. Ok (with_branch b y.0, y.1)) ≡ with_branches (b ∷ []) o
      tree b (Ok y) = refl
      tree b (Err ts) = refl

      by : (o : Read Branch) → by_branch o (levels.branches k) ≡ (o >>= λ b. with_branches (b.0 ∷ []) (left b.1))
      by (Ok x) = tree x.0 (left x.1)
      by (Err ts) = refl

  no_else : (ts : Tokens) → next_in (39 ∷ []) ts ≡ true → next_in (38 ∷ []) ts ≡ false
  no_else [] h = absurd (different h)
    where
      different : false ≡ true → ⊥
      different e = cc
  no_else (t ∷ ts) h = by (code t) h
    where
      different : false ≡ true → ⊥
      different e = cc

      step : (c : ℕ) (b : Bool) → eqb c 39 ≡ b → cond b true false ≡ true → cond (eqb c 38) true false ≡ false
      step c true is h = subst (λ (d : ℕ). cond (eqb d 38) true false ≡ false) (sym (eqb-true c 39 is)) refl
      step c false is h = absurd (different h)

      by : (c : ℕ) → cond (eqb c 39) true false ≡ true → cond (eqb c 38) true false ≡ false
      by c h = step c (eqb c 39) refl h

  regroup : (front : List Branch) (b : Branch) (o : Read Found) → with_branches front (with_branches (b ∷ []) o) ≡ with_branches (front ++ b ∷ []) o
  regroup front b (Ok x) = ap (λ (w : List Branch). Ok ((w, x.0.1), x.1)) (sym (append_assoc front (b ∷ []) x.0.0))
  regroup front b (Err ts) = refl

  same_id : (o : Read Found) (p : Spot) → (o >>= λ y. Ok (second p y.0, y.1)) ≡ o
  same_id (Ok y) p = refl
  same_id (Err ts) p = refl

  -- `elseif`, a branch, and what is behind it
  left_is : (s : State) → next_in (39 ∷ []) s.tokens ≡ true → left s ≡ (elseif_next s >>= λ x. levels.branch k x.1 >>= λ b. with_branches (b.0 ∷ []) (left b.1))
  left_is s e =
      ap (λ (b : Bool). cond b (map_read otherwise (before (is_word (codes "else")) (statement_within k)) s) (cond (next_in (39 ∷ []) s.tokens) (by_word (elseif_next s) (levels.branches k)) (Ok (no_branch, s)))) (no_else s.tokens e)
      ∙ ap (λ (b : Bool). cond b (by_word (elseif_next s) (levels.branches k)) (Ok (no_branch, s))) e
      ∙ by (elseif_next s)
    where
      by : (o : Read Spot) → by_word o (levels.branches k) ≡ (o >>= λ x. levels.branch k x.1 >>= λ b. with_branches (b.0 ∷ []) (left b.1))
      by (Ok x) = same_id (levels.branches k x.1) x.0 ∙ branches_are x.1
      by (Err ts) = refl

  -- the loop goes on
  pub branches_go_on : (front : List Branch) (s : State) (x : Branch × State) (total : Read Found) → next_in (39 ∷ []) s.tokens ≡ true → levels.other_branch k s ≡ Ok x → with_branches front (left s) ≡ total
      → with_branches (front ++ x.0 ∷ []) (left x.1) ≡ total
  branches_go_on front s x total e is so_far = sym (regroup front x.0 (left x.1)) ∙ ap (with_branches front) (sym (by (elseif_next s) refl is)) ∙ ap (with_branches front) (sym (left_is s e)) ∙ so_far
    where
      not_ok : {ts : Tokens} → ◌≡◌ {A = Read Branch} (Err ts) (Ok x) → ⊥
      not_ok e = cc

      rest_is : (y : Branch × State) → ◌≡◌ {A = Read Branch} (Ok y) (Ok x) → y ≡ x
      rest_is y e = cc

      inner : (p : Spot) (z : Read Branch) → (z >>= λ y. Ok (second p y.0, y.1)) ≡ Ok x → (z >>= λ b. with_branches (b.0 ∷ []) (left b.1)) ≡ with_branches (x.0 ∷ []) (left x.1)
      inner p (Ok y) h = ap (λ (b : Branch × State). with_branches (b.0 ∷ []) (left b.1)) (rest_is y h)
      inner p (Err ts) h = absurd (not_ok h)

      by : (o : Read Spot) → elseif_next s ≡ o → (o >>= λ w. levels.branch k w.1 >>= λ y. Ok (second w.0 y.0, y.1)) ≡ Ok x → (o >>= λ w. levels.branch k w.1 >>= λ b. with_branches (b.0 ∷ []) (left b.1)) ≡ with_branches (x.0 ∷ []) (left x.1)
      by (Ok w) is h = inner w.0 (levels.branch k w.1) h
      by (Err ts) is h = absurd (not_ok h)

  other_shrinks : Shrinks (levels.other_branch k)
  other_shrinks = then_shrinks second (one (is_word (codes "elseif"))) (levels.branch k) (one_shrinks (is_word (codes "elseif"))) shrinks

  pub branch_takes : (s : State) (x : Branch × State) → levels.other_branch k s ≡ Ok x → length x.1.tokens < length s.tokens
  branch_takes s x e = other_shrinks s x e

  abbrev as_other : Spot → Read Branch → Read Branch
  as_other p z = z >>= λ y. Ok (second p y.0, y.1)

  abbrev by_other : Read Spot → Read Branch
  by_other o = o >>= λ w. as_other w.0 (levels.branch k w.1)

  abbrev by_next : Read Spot → Read Found
  by_next o = o >>= λ w. levels.branch k w.1 >>= λ b. with_branches (b.0 ∷ []) (left b.1)

  -- it stops within a branch
  dead_branch : (front : List Branch) (s : State) (ts : Tokens) (total : Read Found) → next_in (39 ∷ []) s.tokens ≡ true → levels.other_branch k s ≡ Err ts → with_branches front (left s) ≡ total → total ≡ Err ts
  dead_branch front s ts total e is so_far = sym so_far ∙ ap (with_branches front) (left_is s e ∙ by (elseif_next s) is)
    where
      not_err : {y : Branch × State} → ◌≡◌ {A = Read Branch} (Ok y) (Err ts) → ⊥
      not_err e = cc

      rest_is : (us : Tokens) → ◌≡◌ {A = Read Branch} (Err us) (Err ts) → us ≡ ts
      rest_is us e = cc

      inner : (p : Spot) (z : Read Branch) → as_other p z ≡ Err ts → (z >>= λ b. with_branches (b.0 ∷ []) (left b.1)) ≡ Err ts
      inner p (Ok y) h = absurd (not_err h)
      inner p (Err us) h = ap Err (rest_is us h)

      by : (o : Read Spot) → by_other o ≡ Err ts → by_next o ≡ Err ts
      by (Ok w) h = inner w.0 (levels.branch k w.1) h
      by (Err us) h = ap Err (rest_is us h)

  pub branches_stop : (front : List Branch) (s : State) (total : Read Found) (e : Stop) (p : Parser) → next_in (39 ∷ []) s.tokens ≡ true → Stops e p (levels.other_branch k s) → with_branches front (left s) ≡ total → Stops e p total
  branches_stop front s total stop.Memory p next h so_far = tt
  branches_stop front s total stop.Dead p next h so_far = dead_branch front s p.tokens.now total next h so_far

  -- no `elseif` is next
  abbrev by_else : Read (Option Statement) → Read Found
  by_else o = o >>= λ y. Ok (([], y.0), y.1)

  left_ends : (s : State) → next_in (39 ∷ []) s.tokens ≡ false → left s ≡ by_else (levels.otherwise k s)
  left_ends s e = ap (λ (b : Bool). cond (next_in (38 ∷ []) s.tokens) (map_read otherwise (before (is_word (codes "else")) (statement_within k)) s) (cond b (by_word (elseif_next s) (levels.branches k)) (Ok (no_branch, s)))) e ∙ by (next_in (38 ∷ []) s.tokens)
    where
      tree : (o : Read Statement) → (o >>= λ y. Ok (otherwise y.0, y.1)) ≡ by_else (o >>= λ y. Ok (Some y.0, y.1))
      tree (Ok y) = refl
      tree (Err ts) = refl

      by : (b : Bool) → cond b (map_read otherwise (before (is_word (codes "else")) (statement_within k)) s) (Ok (no_branch, s)) ≡ by_else (cond b (map_read Some (before (is_word (codes "else")) (statement_within k)) s) (Ok (None, s)))
      by true = tree (before (is_word (codes "else")) (statement_within k) s)
      by false = refl

  pub else_stops : (front : List Branch) (s : State) (total : Read Found) (e : Stop) (p : Parser) → next_in (39 ∷ []) s.tokens ≡ false → Stops e p (levels.otherwise k s) → with_branches front (left s) ≡ total → Stops e p total
  else_stops front s total stop.Memory p next h so_far = tt
  else_stops front s total stop.Dead p next h so_far = sym so_far ∙ ap (with_branches front) (left_ends s next ∙ ap by_else h)

  pub branches_end : (front : List Branch) (s : State) (y : Option Statement × State) (total : Read Found) → next_in (39 ∷ []) s.tokens ≡ false → levels.otherwise k s ≡ Ok y → with_branches front (left s) ≡ total → total ≡ Ok ((front, y.0), y.1)
  branches_end front s y total next h so_far = sym so_far ∙ ap (with_branches front) (left_ends s next ∙ ap by_else h) ∙ ap (λ (w : List Branch). Ok ((w, y.0), y.1)) (append-nil front)

  -- the first branch is read
  pub branches_begin : (s : State) (x : Branch × State) → levels.branch k s ≡ Ok x → with_branches (x.0 ∷ []) (left x.1) ≡ levels.branches k s
  branches_begin s x e = sym (branches_are s ∙ ap (λ (o : Read Branch). o >>= λ b. with_branches (b.0 ∷ []) (left b.1)) e)
