-- One level of nesting: with no room reading stops, and else there is one level less within.
use Rattle.std.proofs.Common.{◌≡◌, ℕ, zero, suc, ◌-◌, ltb, lt-ltb, Bool, true, false, Err, refl, sym, ap, ◌∙◌, arith}
use Rattle.jx9_parse.specs.Levels as levels
use Rattle.jx9_parse.specs.Reading.{State, Reader, guarded}
use Rattle.jx9_parse.specs.Rooms.{unary_within, expr_within, block_within, statement_within}
use Rattle.jx9_parse.proofs.Loops.{Shrinks, part_shrinks, guard_shrinks, one_shrinks, then_shrinks, map_shrinks, guarded_shrinks}
use Rattle.jx9_syntax.specs.Grammar.{first, second, is_sign, member_name, branch_of, var}
use Rattle.jx9_syntax.specs.declared.sign.Sign.TheVariants as sign
use Rattle.jx9_parse.specs.Expressions.{parameter, other_parameter}
use Rattle.jx9_parse.proofs.Heads.{the_expr}
use Rattle.jx9_parse.proofs.Opens.{guard_any}
use Rattle.jx9_parse.specs.Reading.{one, before}
use Rattle.jx9_parse.proofs.RoomLaws.{room}
use Rattle.jx9_parse.proofs.Primaries.{an_access}

-- with no room
pub no_room : (k : ℕ) (s : State) → k ≡ 0 → (unary_within k s ≡ Err s.tokens) × (expr_within k s ≡ Err s.tokens) × (block_within k s ≡ Err s.tokens) × (statement_within k s ≡ Err s.tokens)
unfolding unary_within expr_within block_within statement_within
no_room zero s h = (refl, refl, refl, refl)
no_room (suc k) s h = absurd (omega (arith, h))

-- with room
pub one_less : (k : ℕ) (s : State) → (k ≡ 0 → ⊥)
    → (levels.unary (k - 1) s ≡ unary_within k s) × (levels.expression (k - 1) s ≡ expr_within k s) × (levels.block (k - 1) s ≡ block_within k s) × (levels.one_statement (k - 1) s ≡ statement_within k s)
unfolding unary_within expr_within block_within statement_within
one_less zero s h = absurd (h refl)
one_less (suc k) s h =
    let e : suc k - 1 ≡ k = omega arith in
    (ap (λ (j : ℕ). levels.unary j s) e, ap (λ (j : ℕ). levels.expression j s) e, ap (λ (j : ℕ). levels.block j s) e, ap (λ (j : ℕ). levels.one_statement j s) e)

-- a guard before what has its own changes nothing
guard_by : {A : Type 0} (b : Bool) (r : Reader A) (s : State) → (b ≡ false → r s ≡ Err s.tokens) → guarded b r s ≡ r s
guard_by true r s h = refl
guard_by false r s h = sym (h refl)

pub none_left : (k : ℕ) → ltb 0 k ≡ false → k ≡ 0
none_left zero h = refl
none_left (suc k) h = absurd (different (sym h ∙ lt-ltb 0 (suc k) (omega arith)))
  where
    different : false ≡ true → ⊥
    different e = cc

pub guarded_expr : (k : ℕ) (s : State) → guarded (ltb 0 k) (expr_within k) s ≡ expr_within k s
guarded_expr k s = guard_by (ltb 0 k) (expr_within k) s (λ h. (no_room k s (none_left k h)).1)

pub guarded_statement : (k : ℕ) (s : State) → guarded (ltb 0 k) (statement_within k) s ≡ statement_within k s
guarded_statement k s = guard_by (ltb 0 k) (statement_within k) s (λ h. (no_room k s (none_left k h)).3)

-- ---- each takes a token at least

pub access_shrinks : (k : ℕ) → Shrinks (levels.access k)
access_shrinks k = part_shrinks (an_access (room k).inner)

pub expr_shrinks : (k : ℕ) → Shrinks (guarded (ltb 0 k) (expr_within k))
expr_shrinks k = guard_shrinks (ltb 0 k) (room k).inner.an_expr

pub within_shrinks : (k : ℕ) → Shrinks (expr_within k)
within_shrinks k s x e = expr_shrinks k s x (guarded_expr k s ∙ e)

pub statement_shrinks : (k : ℕ) → Shrinks (guarded (ltb 0 k) (statement_within k))
statement_shrinks k = guard_shrinks (ltb 0 k) (guard_any (room k).a_statement)

pub body_shrinks : (k : ℕ) → Shrinks (statement_within k)
body_shrinks k s x e = statement_shrinks k s x (guarded_statement k s ∙ e)

pub expression_shrinks : (k : ℕ) → Shrinks (levels.expression k)
expression_shrinks k = part_shrinks (the_expr (room k).inner)

pub other_expr_shrinks : (k : ℕ) → Shrinks (levels.other_expr k)
other_expr_shrinks k = then_shrinks second (one (is_sign sign.Comma)) (guarded (ltb 0 k) (expr_within k)) (one_shrinks (is_sign sign.Comma)) (expr_shrinks k)

pub other_expression_shrinks : (k : ℕ) → Shrinks (levels.other_expression k)
other_expression_shrinks k = then_shrinks second (one (is_sign sign.Comma)) (levels.expression k) (one_shrinks (is_sign sign.Comma)) (expression_shrinks k)

pub entry_shrinks : (k : ℕ) → Shrinks (levels.entry k)
entry_shrinks k = guarded_shrinks (ltb 0 k) _ (then_shrinks _ (one member_name) (before (is_sign sign.Colon) (expr_within k)) (one_shrinks member_name)
    (then_shrinks second (one (is_sign sign.Colon)) (expr_within k) (one_shrinks (is_sign sign.Colon)) (within_shrinks k)))

pub branch_shrinks : (k : ℕ) → Shrinks (levels.branch k)
branch_shrinks k = then_shrinks branch_of (levels.in_parens k) (statement_within k)
    (then_shrinks first (before (is_sign sign.OpenParen) (expr_within k)) (one (is_sign sign.CloseParen))
    (then_shrinks second (one (is_sign sign.OpenParen)) (expr_within k) (one_shrinks (is_sign sign.OpenParen)) (within_shrinks k)) (one_shrinks (is_sign sign.CloseParen))) (body_shrinks k)

pub parameter_shrinks : Shrinks parameter
parameter_shrinks = map_shrinks (λ v. v.0) (one var) (one_shrinks var)

pub other_parameter_shrinks : Shrinks other_parameter
other_parameter_shrinks = then_shrinks second (one (is_sign sign.Comma)) parameter (one_shrinks (is_sign sign.Comma)) parameter_shrinks
