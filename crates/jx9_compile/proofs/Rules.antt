-- Compiled code jumps back to a `Unit` alone.
use Rattle.std.proofs.Common.{◌≡◌, ℕ, ◌+◌, ◌<◌, ◌≤◌, List, Option, Some, None, refl, sym, ap, ◌∙◌, subst, arith, inl, inr, ⊎_elim}
use Rattle.std.specs.Prelude.{Bool, true, false, nat_lt, ◌⊎◌, slice_get}
use Rattle.std.proofs.lemmas.Bool.{ltb-true, ltb-false}
use Rattle.std.proofs.lemmas.Option.{none-some, same_Some}
use Rattle.uq_value.specs.Data.{Bytes}
use Rattle.jx9_syntax.specs.declared.expression.Binary.{Binary}
use Rattle.jx9_syntax.specs.declared.expression.Binary.TheVariants as binary
use Rattle.jx9_syntax.specs.declared.expression.Expr.{Expr}
use Rattle.jx9_syntax.specs.declared.expression.Link.{Link}
use Rattle.jx9_syntax.specs.declared.parts.Part.{Part}
use Rattle.jx9_syntax.specs.declared.statement.Branch.{Branch}
use Rattle.jx9_syntax.specs.declared.statement.Statement.{Statement}
use Rattle.jx9_compile.specs.Emitted.{Loop, jump_where, operator_op, PartsCode, no_parts, text_part, variable_part, ExprCode, literal_code, mixed_code, variable_code, group_code, negate_code, not_code, step_code, or_code, and_code, join_code, chain_code, choice_code, assign_code, change_code, AllCode, no_values, value_code, DecidingCode, no_operands, operand_code, LinksCode, no_links, link_code, PrintsCode, no_prints, print_code, EffectCode, dropped_code, moved_code, EffectsCode, no_effects, effect_code, TestCode, no_test, test_code, StatementCode, block_code, print_statement, expr_statement, if_code, while_code, for_code, break_code, continue_code, return_code, return_null_code, SequenceCode, no_statements, statement_code, BranchesCode, no_branch, other_branch, branch_code, LoopCode, loop_code}
use Rattle.jx9_compile.specs.Run.{is_unit}
use Rattle.jx9_compile.specs.Shape.{jump_of, callee_of}
use Rattle.jx9_compile.specs.declared.op.Op.{Op}

-- From one place up to another every jump leads ahead or to a `Unit`, and nothing is called.
pub record IsTame (ops : List Op) (at to : ℕ) : Type 0 where
  pub jumps : (i n : ℕ) (op : Op) → at ≤ i → i < to → slice_get ops i ≡ Some op → jump_of op ≡ Some n → (i < n) ⊎ (is_unit (slice_get ops n) ≡ true)
  pub calls : (i : ℕ) (op : Op) → at ≤ i → i < to → slice_get ops i ≡ Some op → callee_of op ≡ None

before_or_not : (i mid : ℕ) → (i < mid) ⊎ (mid ≤ i)
before_or_not i mid = by (nat_lt i mid) refl
  where
    by : (b : Bool) → nat_lt i mid ≡ b → (i < mid) ⊎ (mid ≤ i)
    by true e = inl (ltb-true i mid e)
    by false e = inr (ltb-false i mid e)

module _ {ops : List Op} where
  tame_nothing : (at : ℕ) → IsTame ops at at
  tame_nothing at = record { jumps = λ i n op low less h j. absurd (omega (arith, low, less)); calls = λ i op low less h. absurd (omega (arith, low, less)) }

  pub tame_then : {at mid to : ℕ} → IsTame ops at mid → IsTame ops mid to → IsTame ops at to
  tame_then {mid = mid} p q = record {
    jumps = λ i n op low less h j. ⊎_elim (λ front. p.jumps i n op low front h j) (λ rest. q.jumps i n op rest less h j) (before_or_not i mid);
    calls = λ i op low less h. ⊎_elim (λ front. p.calls i op low front h) (λ rest. q.calls i op rest less h) (before_or_not i mid);
  }

  one_op : (at : ℕ) (op : Op) → slice_get ops at ≡ Some op → callee_of op ≡ None
      → ((n : ℕ) → jump_of op ≡ Some n → (at < n) ⊎ (is_unit (slice_get ops n) ≡ true)) → IsTame ops at (at + 1)
  one_op at op here no_call goes = record {
    jumps = λ i n o low less h j. let place : at ≡ i = omega (arith, low, less) in
        let same : op ≡ o = same_Some op o (sym here ∙ ap (λ k. slice_get ops k) place ∙ h) in
        subst (λ k. (k < n) ⊎ (is_unit (slice_get ops n) ≡ true)) place (goes n (ap jump_of same ∙ j));
    calls = λ i o low less h. let place : at ≡ i = omega (arith, low, less) in
        ap callee_of (sym (same_Some op o (sym here ∙ ap (λ k. slice_get ops k) place ∙ h))) ∙ no_call;
  }

  -- an op that neither jumps nor calls
  pub plain_op : (at : ℕ) (op : Op) → slice_get ops at ≡ Some op → jump_of op ≡ None → callee_of op ≡ None → IsTame ops at (at + 1)
  plain_op at op here no_jump no_call = one_op at op here no_call (λ n j. absurd (none-some n (sym no_jump ∙ j)))

  jump_op : (at to : ℕ) (op : Op) → slice_get ops at ≡ Some op → jump_of op ≡ Some to → callee_of op ≡ None → (at < to) ⊎ (is_unit (slice_get ops to) ≡ true) → IsTame ops at (at + 1)
  jump_op at to op here is no_call goes = one_op at op here no_call (λ n j. subst (λ k. (at < k) ⊎ (is_unit (slice_get ops k) ≡ true)) (same_Some to n (sym is ∙ j)) goes)

  deciding_op : (at to : ℕ) (decides : Bool) → slice_get ops at ≡ Some (jump_where decides to) → at < to → IsTame ops at (at + 1)
  deciding_op at to true here less = jump_op at to (jump_where true to) here refl refl (inl less)
  deciding_op at to false here less = jump_op at to (jump_where false to) here refl refl (inl less)

  operator_is_plain : (at line : ℕ) (operator : Binary) → slice_get ops at ≡ Some (operator_op operator line) → IsTame ops at (at + 1)
  operator_is_plain at line binary.Add here = plain_op at _ here refl refl
  operator_is_plain at line binary.Subtract here = plain_op at _ here refl refl
  operator_is_plain at line binary.Multiply here = plain_op at _ here refl refl
  operator_is_plain at line binary.Divide here = plain_op at _ here refl refl
  operator_is_plain at line binary.Remainder here = plain_op at _ here refl refl
  operator_is_plain at line binary.Equal here = plain_op at _ here refl refl
  operator_is_plain at line binary.NotEqual here = plain_op at _ here refl refl
  operator_is_plain at line binary.Same here = plain_op at _ here refl refl
  operator_is_plain at line binary.NotSame here = plain_op at _ here refl refl
  operator_is_plain at line binary.Less here = plain_op at _ here refl refl
  operator_is_plain at line binary.LessOrEqual here = plain_op at _ here refl refl
  operator_is_plain at line binary.Greater here = plain_op at _ here refl refl
  operator_is_plain at line binary.GreaterOrEqual here = plain_op at _ here refl refl

-- a loop's next turn begins with a unit
abbrev pub BeginsTurns : List Op → Option Loop → Type 0
BeginsTurns ops None = Unit {0}
BeginsTurns ops (Some loop) = is_unit (slice_get ops loop.again) ≡ true

module _ {ops : List Op} {names : List Bytes} where
  -- ---- what begins with a `Unit`

  expr_unit : {at to : ℕ} {e : Expr} → ExprCode ops names at e to → is_unit (slice_get ops at) ≡ true
  expr_unit (literal_code l is u h) = ap is_unit u
  expr_unit (mixed_code ps is u ds h) = ap is_unit u
  expr_unit (variable_code name slot is known u h) = ap is_unit u
  expr_unit (group_code inner is u d) = ap is_unit u
  expr_unit (negate_code inner is u z d h) = ap is_unit u
  expr_unit (not_code inner is u d h) = ap is_unit u
  expr_unit (step_code st name slot is known u h) = ap is_unit u
  expr_unit (or_code f es is u ds a j b) = ap is_unit u
  expr_unit (and_code f es is u ds a j b) = ap is_unit u
  expr_unit (join_code es is u ds h) = ap is_unit u
  expr_unit (chain_code f links is u d ds) = ap is_unit u
  expr_unit (choice_code test f g is u dt h less df j over dg) = ap is_unit u
  expr_unit (assign_code name slot right is known u d c w) = ap is_unit u
  expr_unit (change_code name slot how right is known u d h) = ap is_unit u

  effect_unit : {at to : ℕ} {e : Expr} → EffectCode ops names at e to → is_unit (slice_get ops at) ≡ true
  effect_unit (dropped_code e d h) = expr_unit d
  effect_unit (moved_code name slot right is known u d w) = ap is_unit u

  statement_unit : {loop : Option Loop} {at : ℕ} {t : Statement} {to : ℕ} → StatementCode ops names loop at t to → is_unit (slice_get ops at) ≡ true
  statement_unit (block_code ts is u ds) = ap is_unit u
  statement_unit (print_statement es is u ds) = ap is_unit u
  statement_unit (expr_statement e is u d) = ap is_unit u
  statement_unit (if_code bs other is u d) = ap is_unit u
  statement_unit (while_code e body is u d) = ap is_unit u
  statement_unit (for_code first e last body is u ds j less d) = ap is_unit u
  statement_unit (break_code is u h less) = ap is_unit u
  statement_unit (continue_code is u h) = ap is_unit u
  statement_unit (return_code e is u d h) = ap is_unit u
  statement_unit (return_null_code is u h g) = ap is_unit u

  turn_unit : {again test mid to after : ℕ} {last : List Expr} {e : Option Expr} {loop : Option Loop} {body : Statement}
      → EffectsCode ops names again last test → TestCode ops names test e mid after → StatementCode ops names loop mid body to → is_unit (slice_get ops again) ≡ true
  turn_unit (effect_code e es d ds) t b = effect_unit d
  turn_unit no_effects (test_code e d h less) b = expr_unit d
  turn_unit no_effects no_test b = statement_unit b

  -- ---- expressions

  parts_tame : {at : ℕ} {ps : List Part} {to : ℕ} → PartsCode ops names at ps to → IsTame ops at to
  parts_tame (no_parts {at = at}) = tame_nothing at
  parts_tame (text_part {at = at} bs ps h ds) = tame_then (plain_op at _ h refl refl) (parts_tame ds)
  parts_tame (variable_part {at = at} name slot ps known h ds) = tame_then (plain_op at _ h refl refl) (parts_tame ds)

  mutual
    expr_tame : {at : ℕ} {e : Expr} {to : ℕ} → ExprCode ops names at e to → IsTame ops at to
    expr_tame (literal_code {at = at} l is u h) = tame_then (plain_op at _ u refl refl) (plain_op (at + 1) _ h refl refl)
    expr_tame (mixed_code {at = at} {to = to} ps is u ds h) = tame_then (plain_op at _ u refl refl) (tame_then (parts_tame ds) (plain_op to _ h refl refl))
    expr_tame (variable_code {at = at} name slot is known u h) = tame_then (plain_op at _ u refl refl) (plain_op (at + 1) _ h refl refl)
    expr_tame (group_code {at = at} inner is u d) = tame_then (plain_op at _ u refl refl) (expr_tame d)
    expr_tame (negate_code {at = at} {to = to} inner is u z d h) =
        tame_then (plain_op at _ u refl refl) (tame_then (plain_op (at + 1) _ z refl refl) (tame_then (expr_tame d) (plain_op to _ h refl refl)))
    expr_tame (not_code {at = at} {to = to} inner is u d h) = tame_then (plain_op at _ u refl refl) (tame_then (expr_tame d) (plain_op to _ h refl refl))
    expr_tame (step_code {at = at} st name slot is known u h) = tame_then (plain_op at _ u refl refl) (plain_op (at + 1) _ h refl refl)
    expr_tame (or_code {at = at} {to = to} f es is u ds a j b) =
        tame_then (plain_op at _ u refl refl) (tame_then (operands_tame ds) (tame_then (plain_op to _ a refl refl)
        (tame_then (jump_op (to + 1) (to + 1 + 1 + 1) _ j refl refl (inl (omega arith))) (plain_op (to + 1 + 1) _ b refl refl))))
    expr_tame (and_code {at = at} {to = to} f es is u ds a j b) =
        tame_then (plain_op at _ u refl refl) (tame_then (operands_tame ds) (tame_then (plain_op to _ a refl refl)
        (tame_then (jump_op (to + 1) (to + 1 + 1 + 1) _ j refl refl (inl (omega arith))) (plain_op (to + 1 + 1) _ b refl refl))))
    expr_tame (join_code {at = at} {to = to} es is u ds h) = tame_then (plain_op at _ u refl refl) (tame_then (values_tame ds) (plain_op to _ h refl refl))
    expr_tame (chain_code {at = at} f links is u d ds) = tame_then (plain_op at _ u refl refl) (tame_then (expr_tame d) (links_tame ds))
    expr_tame (choice_code {at = at} {mid = mid} {end = end} {to = to} test f g is u dt h less df j over dg) =
        tame_then (plain_op at _ u refl refl) (tame_then (expr_tame dt) (tame_then (jump_op mid (end + 1) _ h refl refl (inl less))
        (tame_then (expr_tame df) (tame_then (jump_op end to _ j refl refl (inl over)) (expr_tame dg)))))
    expr_tame (assign_code {at = at} {to = to} name slot right is known u d c w) =
        tame_then (plain_op at _ u refl refl) (tame_then (expr_tame d) (tame_then (plain_op to _ c refl refl) (plain_op (to + 1) _ w refl refl)))
    expr_tame (change_code {at = at} {to = to} name slot how right is known u d h) =
        tame_then (plain_op at _ u refl refl) (tame_then (expr_tame d) (plain_op to _ h refl refl))

    values_tame : {at : ℕ} {es : List Expr} {to : ℕ} → AllCode ops names at es to → IsTame ops at to
    values_tame (no_values {at = at}) = tame_nothing at
    values_tame (value_code e es d ds) = tame_then (expr_tame d) (values_tame ds)

    operands_tame : {decides : Bool} {end at : ℕ} {es : List Expr} {to : ℕ} → DecidingCode ops names decides end at es to → IsTame ops at to
    operands_tame (no_operands {at = at}) = tame_nothing at
    operands_tame (operand_code {decides = decides} {end = end} {mid = mid} e es d h less ds) = tame_then (expr_tame d) (tame_then (deciding_op mid end decides h less) (operands_tame ds))

    links_tame : {line at : ℕ} {links : List Link} {to : ℕ} → LinksCode ops names line at links to → IsTame ops at to
    links_tame (no_links {at = at}) = tame_nothing at
    links_tame (link_code {line = line} {mid = mid} l ls d o ds) = tame_then (expr_tame d) (tame_then (operator_is_plain mid line l.op o) (links_tame ds))

  prints_tame : {at : ℕ} {es : List Expr} {to : ℕ} → PrintsCode ops names at es to → IsTame ops at to
  prints_tame (no_prints {at = at}) = tame_nothing at
  prints_tame (print_code {mid = mid} e es d h ds) = tame_then (expr_tame d) (tame_then (plain_op mid _ h refl refl) (prints_tame ds))

  effect_tame : {at : ℕ} {e : Expr} {to : ℕ} → EffectCode ops names at e to → IsTame ops at to
  effect_tame (dropped_code {to = to} e d h) = tame_then (expr_tame d) (plain_op to _ h refl refl)
  effect_tame (moved_code {at = at} {to = to} name slot right is known u d w) = tame_then (plain_op at _ u refl refl) (tame_then (expr_tame d) (plain_op to _ w refl refl))

  effects_tame : {at : ℕ} {es : List Expr} {to : ℕ} → EffectsCode ops names at es to → IsTame ops at to
  effects_tame (no_effects {at = at}) = tame_nothing at
  effects_tame (effect_code e es d ds) = tame_then (effect_tame d) (effects_tame ds)

  test_tame : {at : ℕ} {e : Option Expr} {to after : ℕ} → TestCode ops names at e to after → IsTame ops at to
  test_tame (no_test {at = at}) = tame_nothing at
  test_tame (test_code {mid = mid} {after = after} e d h less) = tame_then (expr_tame d) (jump_op mid after _ h refl refl (inl less))

  -- ---- statements

  mutual
    statement_tame : (loop : Option Loop) {at : ℕ} {t : Statement} {to : ℕ} → StatementCode ops names loop at t to → BeginsTurns ops loop → IsTame ops at to
    statement_tame loop (block_code {at = at} ts is u ds) turns = tame_then (plain_op at _ u refl refl) (sequence_tame loop ds turns)
    statement_tame loop (print_statement {at = at} es is u ds) turns = tame_then (plain_op at _ u refl refl) (prints_tame ds)
    statement_tame loop (expr_statement {at = at} e is u d) turns = tame_then (plain_op at _ u refl refl) (effect_tame d)
    statement_tame loop (if_code {at = at} bs other is u d) turns = tame_then (plain_op at _ u refl refl) (branches_tame loop d turns)
    statement_tame loop (while_code {at = at} e body is u d) turns = tame_then (plain_op at _ u refl refl) (loop_tame d)
    statement_tame loop (for_code {at = at} {mid = mid} {test = test} first e last body is u ds j less d) turns =
        tame_then (plain_op at _ u refl refl) (tame_then (effects_tame ds) (tame_then (jump_op mid test _ j refl refl (inl less)) (loop_tame d)))
    statement_tame loop (break_code {loop = inner} {at = at} is u h less) turns = tame_then (plain_op at _ u refl refl) (jump_op (at + 1) inner.after _ h refl refl (inl less))
    statement_tame loop (continue_code {loop = inner} {at = at} is u h) turns = tame_then (plain_op at _ u refl refl) (jump_op (at + 1) inner.again _ h refl refl (inr turns))
    statement_tame loop (return_code {at = at} {to = to} e is u d h) turns = tame_then (plain_op at _ u refl refl) (tame_then (expr_tame d) (plain_op to _ h refl refl))
    statement_tame loop (return_null_code {at = at} is u h g) turns =
        tame_then (plain_op at _ u refl refl) (tame_then (plain_op (at + 1) _ h refl refl) (plain_op (at + 1 + 1) _ g refl refl))

    pub sequence_tame : (loop : Option Loop) {at : ℕ} {ts : List Statement} {to : ℕ} → SequenceCode ops names loop at ts to → BeginsTurns ops loop → IsTame ops at to
    sequence_tame loop (no_statements {at = at}) turns = tame_nothing at
    sequence_tame loop (statement_code t ts d ds) turns = tame_then (statement_tame loop d turns) (sequence_tame loop ds turns)

    branches_tame : (loop : Option Loop) {at : ℕ} {bs : List Branch} {other : Option Statement} {to : ℕ} → BranchesCode ops names loop at bs other to → BeginsTurns ops loop → IsTame ops at to
    branches_tame loop (no_branch {at = at}) turns = tame_nothing at
    branches_tame loop (other_branch t d) turns = statement_tame loop d turns
    branches_tame loop (branch_code {end = end} {to = to} b bs other dt d j less ds) turns =
        tame_then (test_tame dt) (tame_then (statement_tame loop d turns) (tame_then (jump_op end to _ j refl refl (inl less)) (branches_tame loop ds turns)))

    loop_tame : {again : ℕ} {last : List Expr} {test : ℕ} {e : Option Expr} {body : Statement} {to : ℕ} → LoopCode ops names again last test e body to → IsTame ops again to
    loop_tame (loop_code {again = again} {to = to} last e body ds dt d j) =
        tame_then (effects_tame ds) (tame_then (test_tame dt)
        (tame_then (statement_tame (Some (record { after = to + 1; again = again })) d (turn_unit ds dt d)) (jump_op to again _ j refl refl (inr (turn_unit ds dt d)))))
