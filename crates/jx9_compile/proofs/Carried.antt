-- Ops stand for a tree wherever the same ops stand in the same places.
use Rattle.std.proofs.Common.{◌≡◌, ℕ, ◌+◌, ◌<◌, ◌≤◌, List, Option, Some, None, arith}
use Rattle.std.specs.Prelude.{Bool, true, false, slice_get}
use Rattle.uq_value.specs.Data.{Bytes}
use Rattle.jx9_syntax.specs.declared.expression.Binary.{Binary}
use Rattle.jx9_syntax.specs.declared.expression.Binary.TheVariants as binary
use Rattle.jx9_syntax.specs.declared.expression.Expr.{Expr}
use Rattle.jx9_syntax.specs.declared.expression.Link.{Link}
use Rattle.jx9_syntax.specs.declared.parts.Part.{Part}
use Rattle.jx9_syntax.specs.declared.statement.Branch.{Branch}
use Rattle.jx9_syntax.specs.declared.statement.Statement.{Statement}
use Rattle.jx9_compile.specs.Emitted.{Loop, jump_where, operator_op, PartsCode, no_parts, text_part, variable_part, ExprCode, literal_code, mixed_code, variable_code, group_code, negate_code, not_code, step_code, or_code, and_code, join_code, chain_code, choice_code, assign_code, change_code, AllCode, no_values, value_code, DecidingCode, no_operands, operand_code, LinksCode, no_links, link_code, PrintsCode, no_prints, print_code, EffectCode, dropped_code, moved_code, EffectsCode, no_effects, effect_code, TestCode, no_test, test_code, StatementCode, block_code, print_statement, expr_statement, if_code, while_code, for_code, break_code, continue_code, return_code, return_null_code, SequenceCode, no_statements, statement_code, BranchesCode, no_branch, other_branch, branch_code, LoopCode, loop_code}
use Rattle.jx9_compile.specs.Slots.{KeepsSlots}
use Rattle.jx9_compile.specs.declared.op.Op.{Op}
use Rattle.jx9_compile.specs.declared.op.Op.TheVariants.{Jump}

-- ---- what is put is some ops long

module _ {ops : List Op} {names : List Bytes} where
  pub parts_rise : {at : ℕ} {ps : List Part} {to : ℕ} → PartsCode ops names at ps to → at ≤ to
  parts_rise no_parts = omega arith
  parts_rise (text_part bs ps h ds) = omega (arith, parts_rise ds)
  parts_rise (variable_part name slot ps known h ds) = omega (arith, parts_rise ds)

  mutual
    pub expr_rises : {at : ℕ} {e : Expr} {to : ℕ} → ExprCode ops names at e to → at < to
    expr_rises (literal_code l is u h) = omega arith
    expr_rises (mixed_code ps is u ds h) = omega (arith, parts_rise ds)
    expr_rises (variable_code name slot is known u h) = omega arith
    expr_rises (group_code inner is u d) = omega (arith, expr_rises d)
    expr_rises (negate_code inner is u z d h) = omega (arith, expr_rises d)
    expr_rises (not_code inner is u d h) = omega (arith, expr_rises d)
    expr_rises (step_code s name slot is known u h) = omega arith
    expr_rises (or_code f es is u ds a j b) = omega (arith, operands_rise ds)
    expr_rises (and_code f es is u ds a j b) = omega (arith, operands_rise ds)
    expr_rises (join_code es is u ds h) = omega (arith, values_rise ds)
    expr_rises (chain_code f links is u d ds) = omega (arith, expr_rises d, links_rise ds)
    expr_rises (choice_code test f g is u dt h less df j over dg) = omega (arith, expr_rises dt, expr_rises df, expr_rises dg)
    expr_rises (assign_code name slot right is known u d c w) = omega (arith, expr_rises d)
    expr_rises (change_code name slot how right is known u d h) = omega (arith, expr_rises d)

    pub values_rise : {at : ℕ} {es : List Expr} {to : ℕ} → AllCode ops names at es to → at ≤ to
    values_rise no_values = omega arith
    values_rise (value_code e es d ds) = omega (arith, expr_rises d, values_rise ds)

    pub operands_rise : {decides : Bool} {end at : ℕ} {es : List Expr} {to : ℕ} → DecidingCode ops names decides end at es to → at ≤ to
    operands_rise no_operands = omega arith
    operands_rise (operand_code e es d h less ds) = omega (arith, expr_rises d, operands_rise ds)

    pub links_rise : {line at : ℕ} {links : List Link} {to : ℕ} → LinksCode ops names line at links to → at ≤ to
    links_rise no_links = omega arith
    links_rise (link_code l ls d o ds) = omega (arith, expr_rises d, links_rise ds)

  pub prints_rise : {at : ℕ} {es : List Expr} {to : ℕ} → PrintsCode ops names at es to → at ≤ to
  prints_rise no_prints = omega arith
  prints_rise (print_code e es d h ds) = omega (arith, expr_rises d, prints_rise ds)

  pub effect_rises : {at : ℕ} {e : Expr} {to : ℕ} → EffectCode ops names at e to → at < to
  effect_rises (dropped_code e d h) = omega (arith, expr_rises d)
  effect_rises (moved_code name slot right is known u d w) = omega (arith, expr_rises d)

  pub effects_rise : {at : ℕ} {es : List Expr} {to : ℕ} → EffectsCode ops names at es to → at ≤ to
  effects_rise no_effects = omega arith
  effects_rise (effect_code e es d ds) = omega (arith, effect_rises d, effects_rise ds)

  pub test_rises : {at : ℕ} {e : Option Expr} {to after : ℕ} → TestCode ops names at e to after → at ≤ to
  test_rises no_test = omega arith
  test_rises (test_code e d h less) = omega (arith, expr_rises d)

  mutual
    pub statement_rises : {loop : Option Loop} {at : ℕ} {t : Statement} {to : ℕ} → StatementCode ops names loop at t to → at < to
    statement_rises (block_code ts is u ds) = omega (arith, sequence_rises ds)
    statement_rises (print_statement es is u ds) = omega (arith, prints_rise ds)
    statement_rises (expr_statement e is u d) = omega (arith, effect_rises d)
    statement_rises (if_code bs other is u d) = omega (arith, branches_rise d)
    statement_rises (while_code e body is u d) = omega (arith, loop_rises d)
    statement_rises (for_code first e last body is u ds j less d) = omega (arith, effects_rise ds, loop_rises d)
    statement_rises (break_code is u h less) = omega arith
    statement_rises (continue_code is u h) = omega arith
    statement_rises (return_code e is u d h) = omega (arith, expr_rises d)
    statement_rises (return_null_code is u h g) = omega arith

    pub sequence_rises : {loop : Option Loop} {at : ℕ} {ts : List Statement} {to : ℕ} → SequenceCode ops names loop at ts to → at ≤ to
    sequence_rises no_statements = omega arith
    sequence_rises (statement_code t ts d ds) = omega (arith, statement_rises d, sequence_rises ds)

    pub branches_rise : {loop : Option Loop} {at : ℕ} {bs : List Branch} {other : Option Statement} {to : ℕ} → BranchesCode ops names loop at bs other to → at ≤ to
    branches_rise no_branch = omega arith
    branches_rise (other_branch t d) = omega (arith, statement_rises d)
    branches_rise (branch_code b bs other dt d j less ds) = omega (arith, test_rises dt, statement_rises d, branches_rise ds)

    pub loop_rises : {again : ℕ} {last : List Expr} {test : ℕ} {e : Option Expr} {body : Statement} {to : ℕ} → LoopCode ops names again last test e body to → again < to
    loop_rises (loop_code last e body ds dt d j) = omega (arith, effects_rise ds, test_rises dt, statement_rises d)

  test_within : {again : ℕ} {last : List Expr} {test : ℕ} {e : Option Expr} {body : Statement} {to : ℕ} → LoopCode ops names again last test e body to → test ≤ to
  test_within (loop_code last e body ds dt d j) = omega (arith, test_rises dt, statement_rises d)

-- ---- the same ops in the same places

-- every op but a jump
abbrev pub IsNoJump : Op → Type 0
IsNoJump (Jump to) = ⊥
IsNoJump _ = Unit {0}

no_jump_where : (decides : Bool) (to : ℕ) → IsNoJump (jump_where decides to)
no_jump_where true to = tt
no_jump_where false to = tt

no_jump_operator : (operator : Binary) (line : ℕ) → IsNoJump (operator_op operator line)
no_jump_operator binary.Add line = tt
no_jump_operator binary.Subtract line = tt
no_jump_operator binary.Multiply line = tt
no_jump_operator binary.Divide line = tt
no_jump_operator binary.Remainder line = tt
no_jump_operator binary.Equal line = tt
no_jump_operator binary.NotEqual line = tt
no_jump_operator binary.Same line = tt
no_jump_operator binary.NotSame line = tt
no_jump_operator binary.Less line = tt
no_jump_operator binary.LessOrEqual line = tt
no_jump_operator binary.Greater line = tt
no_jump_operator binary.GreaterOrEqual line = tt

-- from one place up to another every op stays, but for jumps beyond a place
pub record Carries (ops ops' : List Op) (most at to : ℕ) : Type 0 where
  pub other : (i : ℕ) (op : Op) → at ≤ i → i < to → slice_get ops i ≡ Some op → IsNoJump op → slice_get ops' i ≡ Some op
  pub jump : (i n : ℕ) → at ≤ i → i < to → slice_get ops i ≡ Some (Jump n) → n ≤ most → slice_get ops' i ≡ Some (Jump n)

pub part : {ops ops' : List Op} {most at to : ℕ} → Carries ops ops' most at to → (from end : ℕ) → at ≤ from → end ≤ to → Carries ops ops' most from end
part s from end a b = record {
  other = λ i op x y h k. s.other i op (omega (arith, a, x)) (omega (arith, b, y)) h k;
  jump = λ i n x y h k. s.jump i n (omega (arith, a, x)) (omega (arith, b, y)) h k;
}

-- the ways out of a loop lead to the same places, or are filled in
pub record Ways (ops ops' : List Op) (loop loop' : Loop) (at to : ℕ) : Type 0 where
  pub after : (i : ℕ) → at ≤ i → i < to → slice_get ops i ≡ Some (Jump loop.after) → slice_get ops' i ≡ Some (Jump loop'.after)
  pub again : (i : ℕ) → at ≤ i → i < to → slice_get ops i ≡ Some (Jump loop.again) → slice_get ops' i ≡ Some (Jump loop'.again)
  pub ahead : (i : ℕ) → i < to → i < loop.after → i < loop'.after

abbrev pub WaysOf : List Op → List Op → Option Loop → Option Loop → ℕ → ℕ → Type 0
WaysOf ops ops' None None at to = Unit {0}
WaysOf ops ops' None (Some l) at to = ⊥
WaysOf ops ops' (Some l) None at to = ⊥
WaysOf ops ops' (Some l) (Some l') at to = Ways ops ops' l l' at to

part_ways : (ops ops' : List Op) (loop loop' : Option Loop) (at to from end : ℕ) → WaysOf ops ops' loop loop' at to → at ≤ from → end ≤ to → WaysOf ops ops' loop loop' from end
part_ways ops ops' None None at to from end w a b = tt
part_ways ops ops' None (Some l) at to from end w a b = w
part_ways ops ops' (Some l) None at to from end w a b = w
part_ways ops ops' (Some l) (Some l') at to from end w a b = record {
  after = λ i x y h. w.after i (omega (arith, a, x)) (omega (arith, b, y)) h;
  again = λ i x y h. w.again i (omega (arith, a, x)) (omega (arith, b, y)) h;
  ahead = λ i y h. w.ahead i (omega (arith, b, y)) h;
}

module _ {ops ops' : List Op} {names names' : List Bytes} (most : ℕ) (keeps : KeepsSlots names names') where
  pub parts_carried : {at : ℕ} {ps : List Part} {to : ℕ} → PartsCode ops names at ps to → Carries ops ops' most at to → PartsCode ops' names' at ps to
  parts_carried no_parts s = no_parts
  parts_carried (text_part {at = at} {to = to} bs ps h ds) s =
      text_part bs ps (s.other at _ (omega arith) (omega (arith, parts_rise ds)) h tt) (parts_carried ds (part s (at + 1) to (omega arith) (omega arith)))
  parts_carried (variable_part {at = at} {to = to} name slot ps known h ds) s =
      variable_part name slot ps (keeps.slot slot name known) (s.other at _ (omega arith) (omega (arith, parts_rise ds)) h tt)
      (parts_carried ds (part s (at + 1) to (omega arith) (omega arith)))

  mutual
    pub expr_carried : {at : ℕ} {e : Expr} {to : ℕ} → ExprCode ops names at e to → Carries ops ops' most at to → to ≤ most → ExprCode ops' names' at e to
    expr_carried (literal_code {at = at} l is u h) s m =
        literal_code l is (s.other at _ (omega arith) (omega arith) u tt) (s.other (at + 1) _ (omega arith) (omega arith) h tt)
    expr_carried (mixed_code {at = at} {to = to} ps is u ds h) s m =
        mixed_code ps is (s.other at _ (omega arith) (omega (arith, parts_rise ds)) u tt) (parts_carried ds (part s (at + 1) to (omega arith) (omega arith)))
        (s.other to _ (omega (arith, parts_rise ds)) (omega arith) h tt)
    expr_carried (variable_code {at = at} name slot is known u h) s m =
        variable_code name slot is (keeps.slot slot name known) (s.other at _ (omega arith) (omega arith) u tt) (s.other (at + 1) _ (omega arith) (omega arith) h tt)
    expr_carried (group_code {at = at} {to = to} inner is u d) s m =
        group_code inner is (s.other at _ (omega arith) (omega (arith, expr_rises d)) u tt) (expr_carried d (part s (at + 1) to (omega arith) (omega arith)) m)
    expr_carried (negate_code {at = at} {to = to} inner is u z d h) s m =
        negate_code inner is (s.other at _ (omega arith) (omega (arith, expr_rises d)) u tt) (s.other (at + 1) _ (omega arith) (omega (arith, expr_rises d)) z tt)
        (expr_carried d (part s (at + 1 + 1) to (omega arith) (omega arith)) (omega (arith, m))) (s.other to _ (omega (arith, expr_rises d)) (omega arith) h tt)
    expr_carried (not_code {at = at} {to = to} inner is u d h) s m =
        not_code inner is (s.other at _ (omega arith) (omega (arith, expr_rises d)) u tt)
        (expr_carried d (part s (at + 1) to (omega arith) (omega arith)) (omega (arith, m))) (s.other to _ (omega (arith, expr_rises d)) (omega arith) h tt)
    expr_carried (step_code {at = at} st name slot is known u h) s m =
        step_code st name slot is (keeps.slot slot name known) (s.other at _ (omega arith) (omega arith) u tt) (s.other (at + 1) _ (omega arith) (omega arith) h tt)
    expr_carried (or_code {at = at} {to = to} f es is u ds a j b) s m =
        or_code f es is (s.other at _ (omega arith) (omega (arith, operands_rise ds)) u tt)
        (operands_carried ds (part s (at + 1) to (omega arith) (omega arith)) (omega (arith, m)))
        (s.other to _ (omega (arith, operands_rise ds)) (omega arith) a tt) (s.jump (to + 1) _ (omega (arith, operands_rise ds)) (omega arith) j m)
        (s.other (to + 1 + 1) _ (omega (arith, operands_rise ds)) (omega arith) b tt)
    expr_carried (and_code {at = at} {to = to} f es is u ds a j b) s m =
        and_code f es is (s.other at _ (omega arith) (omega (arith, operands_rise ds)) u tt)
        (operands_carried ds (part s (at + 1) to (omega arith) (omega arith)) (omega (arith, m)))
        (s.other to _ (omega (arith, operands_rise ds)) (omega arith) a tt) (s.jump (to + 1) _ (omega (arith, operands_rise ds)) (omega arith) j m)
        (s.other (to + 1 + 1) _ (omega (arith, operands_rise ds)) (omega arith) b tt)
    expr_carried (join_code {at = at} {to = to} es is u ds h) s m =
        join_code es is (s.other at _ (omega arith) (omega (arith, values_rise ds)) u tt)
        (values_carried ds (part s (at + 1) to (omega arith) (omega arith)) (omega (arith, m))) (s.other to _ (omega (arith, values_rise ds)) (omega arith) h tt)
    expr_carried (chain_code {at = at} {mid = mid} {to = to} f links is u d ds) s m =
        chain_code f links is (s.other at _ (omega arith) (omega (arith, expr_rises d, links_rise ds)) u tt)
        (expr_carried d (part s (at + 1) mid (omega arith) (links_rise ds)) (omega (arith, m, links_rise ds)))
        (links_carried ds (part s mid to (omega (arith, expr_rises d)) (omega arith)) m)
    expr_carried (choice_code {at = at} {mid = mid} {end = end} {to = to} test f g is u dt h less df j over dg) s m =
        choice_code test f g is (s.other at _ (omega arith) (omega (arith, expr_rises dt, expr_rises df, over)) u tt)
        (expr_carried dt (part s (at + 1) mid (omega arith) (omega (arith, expr_rises df, over))) (omega (arith, m, expr_rises df, over)))
        (s.other mid _ (omega (arith, expr_rises dt)) (omega (arith, expr_rises df, over)) h tt) less
        (expr_carried df (part s (mid + 1) end (omega (arith, expr_rises dt)) (omega (arith, over))) (omega (arith, m, over)))
        (s.jump end _ (omega (arith, expr_rises dt, expr_rises df)) over j m) over
        (expr_carried dg (part s (end + 1) to (omega (arith, expr_rises dt, expr_rises df)) (omega arith)) m)
    expr_carried (assign_code {at = at} {to = to} name slot right is known u d c w) s m =
        assign_code name slot right is (keeps.slot slot name known) (s.other at _ (omega arith) (omega (arith, expr_rises d)) u tt)
        (expr_carried d (part s (at + 1) to (omega arith) (omega arith)) (omega (arith, m)))
        (s.other to _ (omega (arith, expr_rises d)) (omega arith) c tt) (s.other (to + 1) _ (omega (arith, expr_rises d)) (omega arith) w tt)
    expr_carried (change_code {at = at} {to = to} name slot how right is known u d h) s m =
        change_code name slot how right is (keeps.slot slot name known) (s.other at _ (omega arith) (omega (arith, expr_rises d)) u tt)
        (expr_carried d (part s (at + 1) to (omega arith) (omega arith)) (omega (arith, m))) (s.other to _ (omega (arith, expr_rises d)) (omega arith) h tt)

    pub values_carried : {at : ℕ} {es : List Expr} {to : ℕ} → AllCode ops names at es to → Carries ops ops' most at to → to ≤ most → AllCode ops' names' at es to
    values_carried no_values s m = no_values
    values_carried (value_code {at = at} {mid = mid} {to = to} e es d ds) s m =
        value_code e es (expr_carried d (part s at mid (omega arith) (values_rise ds)) (omega (arith, m, values_rise ds)))
        (values_carried ds (part s mid to (omega (arith, expr_rises d)) (omega arith)) m)

    pub operands_carried : {decides : Bool} {end at : ℕ} {es : List Expr} {to : ℕ} → DecidingCode ops names decides end at es to → Carries ops ops' most at to → to ≤ most
        → DecidingCode ops' names' decides end at es to
    operands_carried no_operands s m = no_operands
    operands_carried (operand_code {decides = decides} {end = end} {at = at} {mid = mid} {to = to} e es d h less ds) s m =
        operand_code e es (expr_carried d (part s at mid (omega arith) (omega (arith, operands_rise ds))) (omega (arith, m, operands_rise ds)))
        (s.other mid _ (omega (arith, expr_rises d)) (omega (arith, operands_rise ds)) h (no_jump_where decides end)) less
        (operands_carried ds (part s (mid + 1) to (omega (arith, expr_rises d)) (omega arith)) m)

    pub links_carried : {line at : ℕ} {links : List Link} {to : ℕ} → LinksCode ops names line at links to → Carries ops ops' most at to → to ≤ most → LinksCode ops' names' line at links to
    links_carried no_links s m = no_links
    links_carried (link_code {line = line} {at = at} {mid = mid} {to = to} l ls d o ds) s m =
        link_code l ls (expr_carried d (part s at mid (omega arith) (omega (arith, links_rise ds))) (omega (arith, m, links_rise ds)))
        (s.other mid _ (omega (arith, expr_rises d)) (omega (arith, links_rise ds)) o (no_jump_operator l.op line))
        (links_carried ds (part s (mid + 1) to (omega (arith, expr_rises d)) (omega arith)) m)

  pub prints_carried : {at : ℕ} {es : List Expr} {to : ℕ} → PrintsCode ops names at es to → Carries ops ops' most at to → to ≤ most → PrintsCode ops' names' at es to
  prints_carried no_prints s m = no_prints
  prints_carried (print_code {at = at} {mid = mid} {to = to} e es d h ds) s m =
      print_code e es (expr_carried d (part s at mid (omega arith) (omega (arith, prints_rise ds))) (omega (arith, m, prints_rise ds)))
      (s.other mid _ (omega (arith, expr_rises d)) (omega (arith, prints_rise ds)) h tt)
      (prints_carried ds (part s (mid + 1) to (omega (arith, expr_rises d)) (omega arith)) m)

  pub effect_carried : {at : ℕ} {e : Expr} {to : ℕ} → EffectCode ops names at e to → Carries ops ops' most at to → to ≤ most → EffectCode ops' names' at e to
  effect_carried (dropped_code {at = at} {to = to} e d h) s m =
      dropped_code e (expr_carried d (part s at to (omega arith) (omega arith)) (omega (arith, m))) (s.other to _ (omega (arith, expr_rises d)) (omega arith) h tt)
  effect_carried (moved_code {at = at} {to = to} name slot right is known u d w) s m =
      moved_code name slot right is (keeps.slot slot name known) (s.other at _ (omega arith) (omega (arith, expr_rises d)) u tt)
      (expr_carried d (part s (at + 1) to (omega arith) (omega arith)) (omega (arith, m))) (s.other to _ (omega (arith, expr_rises d)) (omega arith) w tt)

  pub effects_carried : {at : ℕ} {es : List Expr} {to : ℕ} → EffectsCode ops names at es to → Carries ops ops' most at to → to ≤ most → EffectsCode ops' names' at es to
  effects_carried no_effects s m = no_effects
  effects_carried (effect_code {at = at} {mid = mid} {to = to} e es d ds) s m =
      effect_code e es (effect_carried d (part s at mid (omega arith) (effects_rise ds)) (omega (arith, m, effects_rise ds)))
      (effects_carried ds (part s mid to (omega (arith, effect_rises d)) (omega arith)) m)

  pub test_carried : {at : ℕ} {e : Option Expr} {to after : ℕ} → TestCode ops names at e to after → Carries ops ops' most at to → to ≤ most → TestCode ops' names' at e to after
  test_carried no_test s m = no_test
  test_carried (test_code {at = at} {mid = mid} e d h less) s m =
      test_code e (expr_carried d (part s at mid (omega arith) (omega arith)) (omega (arith, m))) (s.other mid _ (omega (arith, expr_rises d)) (omega arith) h tt) less

  -- a loop whose places are known keeps them
  same_ways : (after again at to : ℕ) → Carries ops ops' most at to → after ≤ most → again ≤ most
      → Ways ops ops' (record { after = after; again = again }) (record { after = after; again = again }) at to
  same_ways after again at to s a b = record {
    after = λ i x y h. s.jump i after x y h a;
    again = λ i x y h. s.jump i again x y h b;
    ahead = λ i y h. h;
  }

  mutual
    pub statement_carried : (loop' : Option Loop) {loop : Option Loop} {at : ℕ} {t : Statement} {to : ℕ} → StatementCode ops names loop at t to → WaysOf ops ops' loop loop' at to
        → Carries ops ops' most at to → to ≤ most → StatementCode ops' names' loop' at t to
    statement_carried loop' (block_code {loop = loop} {at = at} {to = to} ts is u ds) w s m =
        block_code ts is (s.other at _ (omega arith) (omega (arith, sequence_rises ds)) u tt)
        (sequence_carried loop' ds (part_ways ops ops' loop loop' at to (at + 1) to w (omega arith) (omega arith)) (part s (at + 1) to (omega arith) (omega arith)) m)
    statement_carried loop' (print_statement {at = at} {to = to} es is u ds) w s m =
        print_statement es is (s.other at _ (omega arith) (omega (arith, prints_rise ds)) u tt) (prints_carried ds (part s (at + 1) to (omega arith) (omega arith)) m)
    statement_carried loop' (expr_statement {at = at} {to = to} e is u d) w s m =
        expr_statement e is (s.other at _ (omega arith) (omega (arith, effect_rises d)) u tt) (effect_carried d (part s (at + 1) to (omega arith) (omega arith)) m)
    statement_carried loop' (if_code {loop = loop} {at = at} {to = to} bs other is u d) w s m =
        if_code bs other is (s.other at _ (omega arith) (omega (arith, branches_rise d)) u tt)
        (branches_carried loop' d (part_ways ops ops' loop loop' at to (at + 1) to w (omega arith) (omega arith)) (part s (at + 1) to (omega arith) (omega arith)) m)
    statement_carried loop' (while_code {at = at} {to = to} e body is u d) w s m =
        while_code e body is (s.other at _ (omega arith) (omega (arith, loop_rises d)) u tt) (loop_carried d (part s (at + 1) to (omega arith) (omega arith)) m)
    statement_carried loop' (for_code {at = at} {mid = mid} {test = test} {to = to} first e last body is u ds j less d) w s m =
        for_code first e last body is (s.other at _ (omega arith) (omega (arith, effects_rise ds, loop_rises d)) u tt)
        (effects_carried ds (part s (at + 1) mid (omega arith) (omega (arith, loop_rises d))) (omega (arith, m, loop_rises d)))
        (s.jump mid test (omega (arith, effects_rise ds)) (omega (arith, loop_rises d)) j (omega (arith, m, test_within d))) less
        (loop_carried d (part s (mid + 1) to (omega (arith, effects_rise ds)) (omega arith)) m)
    statement_carried None (break_code is u h less) w s m = absurd w
    statement_carried (Some l') (break_code {at = at} is u h less) w s m =
        break_code is (s.other at _ (omega arith) (omega arith) u tt) (w.after (at + 1) (omega arith) (omega arith) h) (w.ahead (at + 1) (omega arith) less)
    statement_carried None (continue_code is u h) w s m = absurd w
    statement_carried (Some l') (continue_code {at = at} is u h) w s m =
        continue_code is (s.other at _ (omega arith) (omega arith) u tt) (w.again (at + 1) (omega arith) (omega arith) h)
    statement_carried loop' (return_code {at = at} {to = to} e is u d h) w s m =
        return_code e is (s.other at _ (omega arith) (omega (arith, expr_rises d)) u tt)
        (expr_carried d (part s (at + 1) to (omega arith) (omega arith)) (omega (arith, m))) (s.other to _ (omega (arith, expr_rises d)) (omega arith) h tt)
    statement_carried loop' (return_null_code {at = at} is u h g) w s m =
        return_null_code is (s.other at _ (omega arith) (omega arith) u tt) (s.other (at + 1) _ (omega arith) (omega arith) h tt) (s.other (at + 1 + 1) _ (omega arith) (omega arith) g tt)

    pub sequence_carried : (loop' : Option Loop) {loop : Option Loop} {at : ℕ} {ts : List Statement} {to : ℕ} → SequenceCode ops names loop at ts to → WaysOf ops ops' loop loop' at to
        → Carries ops ops' most at to → to ≤ most → SequenceCode ops' names' loop' at ts to
    sequence_carried loop' no_statements w s m = no_statements
    sequence_carried loop' (statement_code {loop = loop} {at = at} {mid = mid} {to = to} t ts d ds) w s m =
        statement_code t ts
        (statement_carried loop' d (part_ways ops ops' loop loop' at to at mid w (omega arith) (sequence_rises ds)) (part s at mid (omega arith) (sequence_rises ds)) (omega (arith, m, sequence_rises ds)))
        (sequence_carried loop' ds (part_ways ops ops' loop loop' at to mid to w (omega (arith, statement_rises d)) (omega arith)) (part s mid to (omega (arith, statement_rises d)) (omega arith)) m)

    pub branches_carried : (loop' : Option Loop) {loop : Option Loop} {at : ℕ} {bs : List Branch} {other : Option Statement} {to : ℕ} → BranchesCode ops names loop at bs other to
        → WaysOf ops ops' loop loop' at to → Carries ops ops' most at to → to ≤ most → BranchesCode ops' names' loop' at bs other to
    branches_carried loop' no_branch w s m = no_branch
    branches_carried loop' (other_branch t d) w s m = other_branch t (statement_carried loop' d w s m)
    branches_carried loop' (branch_code {loop = loop} {at = at} {mid = mid} {end = end} {to = to} b bs other dt d j less ds) w s m =
        branch_code b bs other
        (test_carried dt (part s at mid (omega arith) (omega (arith, statement_rises d, less))) (omega (arith, m, statement_rises d, less)))
        (statement_carried loop' d (part_ways ops ops' loop loop' at to mid end w (test_rises dt) (omega (arith, less))) (part s mid end (test_rises dt) (omega (arith, less))) (omega (arith, m, less)))
        (s.jump end to (omega (arith, test_rises dt, statement_rises d)) less j m) less
        (branches_carried loop' ds (part_ways ops ops' loop loop' at to (end + 1) to w (omega (arith, test_rises dt, statement_rises d)) (omega arith))
        (part s (end + 1) to (omega (arith, test_rises dt, statement_rises d)) (omega arith)) m)

    pub loop_carried : {again : ℕ} {last : List Expr} {test : ℕ} {e : Option Expr} {body : Statement} {to : ℕ} → LoopCode ops names again last test e body to
        → Carries ops ops' most again to → to ≤ most → LoopCode ops' names' again last test e body to
    loop_carried (loop_code {again = again} {test = test} {mid = mid} {to = to} last e body ds dt d j) s m =
        loop_code last e body
        (effects_carried ds (part s again test (omega arith) (omega (arith, test_rises dt, statement_rises d))) (omega (arith, m, test_rises dt, statement_rises d)))
        (test_carried dt (part s test mid (effects_rise ds) (omega (arith, statement_rises d))) (omega (arith, m, statement_rises d)))
        (statement_carried (Some (record { after = to + 1; again = again })) d
        (same_ways (to + 1) again mid to (part s mid to (omega (arith, effects_rise ds, test_rises dt)) (omega arith)) m (omega (arith, m, effects_rise ds, test_rises dt, statement_rises d)))
        (part s mid to (omega (arith, effects_rise ds, test_rises dt)) (omega arith)) (omega (arith, m)))
        (s.jump to again (omega (arith, effects_rise ds, test_rises dt, statement_rises d)) (omega arith) j (omega (arith, m, effects_rise ds, test_rises dt, statement_rises d)))
