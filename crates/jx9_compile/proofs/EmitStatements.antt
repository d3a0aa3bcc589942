-- What each kind of statement adds.
use Rattle.std.proofs.Common.{◌≡◌, ℕ, suc, ◌+◌, ◌<◌, ◌≤◌, List, [], ◌∷◌, ◌++◌, length, get_or, take, Option, Some, None, refl, sym, ap, ◌∙◌, subst, arith, true≢false}
use Rattle.std.specs.Prelude.{Bool, true, false, is_some, slice_get}
use Rattle.uq_value.specs.Data.{Bytes}
use Rattle.uq_value.specs.declared.value.Value.{Value}
use Rattle.jx9_syntax.specs.Trees.{StatementLayer, kind_of}
use Rattle.jx9_syntax.specs.declared.expression.Expr.{Expr}
use Rattle.jx9_syntax.specs.declared.statement.Branch.{Branch}
use Rattle.jx9_syntax.specs.declared.statement.Kind.{Kind, out-Kind, roll-Kind}
use Rattle.jx9_syntax.specs.declared.statement.Kind as kind
use Rattle.jx9_syntax.specs.declared.statement.Kind.TheOpen.{Kind-F}
use Rattle.jx9_syntax.specs.declared.statement.Kind.TheViews.{out-roll-Kind, rolls-Block, rolls-Print, rolls-Expr, rolls-If, rolls-While, rolls-For, rolls-Return, rolls-Break, rolls-Continue}
use Rattle.jx9_syntax.specs.declared.statement.Statement.{Statement}
use Rattle.jx9_compile.specs.Emits.{IsOp, IsExpr, IsEffect, AreEffects, ArePrints, loop_of, IsStatement, IsSequence, IsBranch, IsOther, IsTurn, AreTurns, IsOpening, IsLeaving, IsGoingOn, Held, nothing_held, piece_held, AreHeld, Emits, IsHeld, IsElse, IsLanded, AreAllLanded}
use Rattle.jx9_compile.specs.Emitted.{Loop, ExprCode, EffectCode, EffectsCode, no_effects, PrintsCode, no_prints, print_code, TestCode, no_test, test_code, StatementCode, block_code, print_statement, expr_statement, if_code, while_code, for_code, break_code, continue_code, return_code, return_null_code, SequenceCode, no_statements, statement_code, BranchesCode, no_branch, other_branch, branch_code, LoopCode, loop_code}
use Rattle.jx9_compile.specs.Holes.{hole, IsKnown, IsFilled, Misses}
use Rattle.jx9_compile.specs.Problems.{exprs_of, statements_of, tests_of, bodies_of, is_built_statement, AreCleanExprs, IsCleanStatement, AreCleanStatements}
use Rattle.jx9_compile.specs.Slots.{KeepsSlots, AreDistinct}
use Rattle.jx9_compile.specs.declared.emitting.Emitter.{Emitter}
use Rattle.jx9_compile.specs.declared.op.Op.{Op}
use Rattle.jx9_compile.specs.declared.op.Op.TheVariants.{Unit as OneUnit, Push, Pop, Copy, Load, Store, Assign, Count, Change, Add, Operate, Not, Join, Jump, JumpUnless, JumpIf, Call, Print, End}
use Rattle.jx9_compile.proofs.Carried.{Carries, Ways, IsNoJump, test_carried, statement_carried, branches_carried, test_rises, statement_rises}
use Rattle.jx9_compile.proofs.Clean.{clean_head, clean_tail, clean_front, clean_rest, clean_last, clean_statements_head, clean_statements_tail, clean_statements_front, clean_statements_rest, clean_statements_last, clean_exprs_in, clean_statements_in, clean_statement_built, clean_looped}
use Rattle.jx9_compile.proofs.Places.{missed_above}
use Rattle.jx9_compile.proofs.EmitLemmas.{Stable, Then, Ahead, filled_in, emits_then, emits_as, emits_here, emits_nothing, one_more, narrow, carries_same, ways_same, op_stable, expr_stable, prints_stable, effects_stable, statement_stable, sequence_stable, turn_stable, held_stable, held_rises, held_between, held_misses, same_slots}

pub open_kind : {n m : Kind} (layer : StatementLayer) → n ≡ m → roll-Kind layer ≡ m → out-Kind n ≡ layer
open_kind layer h r = ap out-Kind (h ∙ sym r) ∙ out-roll-Kind layer

-- ---- lists

prints_snoc : {ops : List Op} {names : List Bytes} {at : ℕ} {es : List Expr} {mid : ℕ} → PrintsCode ops names at es mid → (e : Expr) (to : ℕ)
    → ExprCode ops names mid e to → slice_get ops to ≡ Some Print → PrintsCode ops names at (es ++ e ∷ []) (to + 1)
prints_snoc no_prints e to d h = print_code e [] d h no_prints
prints_snoc (print_code k ks p o ds) e to d h = print_code k (ks ++ e ∷ []) p o (prints_snoc ds e to d h)

pub no_prints_emitted : (a : Emitter) → Emits a a (ArePrints [])
no_prints_emitted a = emits_nothing a (ArePrints []) (λ clean. no_prints)

pub prints_go_on : (a b c d : Emitter) (all : List Expr) (i : ℕ) (e : Expr) → i < length all → e ≡ get_or all i e
    → Emits a b (ArePrints (take i all)) → Emits b c (IsExpr e) → Emits c d (IsOp Print) → Emits a d (ArePrints (take (i + 1) all))
prints_go_on a b c d all i e within is p q r =
    one_more (λ es. Emits a d (ArePrints es)) all i e within is
    (emits_as a d (Then (ArePrints (take i all)) (Then (IsExpr e) (IsOp Print))) (ArePrints (take i all ++ e ∷ []))
    (λ ops names at to h clean. subst (λ k. PrintsCode ops names at (take i all ++ e ∷ []) k) (sym h.2.2.1)
    (prints_snoc (h.1 (clean_front (take i all) (e ∷ []) clean)) e h.2.0 (h.2.1 (clean_last (take i all) e clean)) h.2.2.0))
    (emits_then a b d _ _ (prints_stable (take i all)) p (emits_then b c d _ _ (expr_stable e) q r)))

sequence_snoc : {ops : List Op} {names : List Bytes} {loop : Option Loop} {at : ℕ} {ts : List Statement} {mid : ℕ} → SequenceCode ops names loop at ts mid → (t : Statement) (to : ℕ)
    → StatementCode ops names loop mid t to → SequenceCode ops names loop at (ts ++ t ∷ []) to
sequence_snoc no_statements t to d = statement_code t [] d no_statements
sequence_snoc (statement_code k ks p ds) t to d = statement_code k (ks ++ t ∷ []) p (sequence_snoc ds t to d)

pub no_statements_emitted : (around : Option ℕ) (a : Emitter) → Emits a a (IsSequence around [])
no_statements_emitted around a = emits_nothing a (IsSequence around []) (λ clean. no_statements)

pub sequence_goes_on : (around : Option ℕ) (a b c : Emitter) (all : List Statement) (i : ℕ) (t : Statement) → i < length all → t ≡ get_or all i t
    → Emits a b (IsSequence around (take i all)) → Emits b c (IsStatement around t) → Emits a c (IsSequence around (take (i + 1) all))
sequence_goes_on around a b c all i t within is p q =
    one_more (λ ts. Emits a c (IsSequence around ts)) all i t within is
    (emits_as a c (Then (IsSequence around (take i all)) (IsStatement around t)) (IsSequence around (take i all ++ t ∷ []))
    (λ ops names at to h clean.
    sequence_snoc (h.1 (clean_statements_front (is_some around) (take i all) (t ∷ []) clean)) t to (h.2 (clean_statements_last (is_some around) (take i all) t clean)))
    (emits_then a b c _ _ (sequence_stable around (take i all)) p q))

-- ---- turns of a loop

-- any op but a jump is known
known_no_jump : (op : Op) → IsNoJump op → IsKnown op
known_no_jump (OneUnit line) h = tt
known_no_jump (Push v) h = tt
known_no_jump Pop h = tt
known_no_jump Copy h = tt
known_no_jump (Load slot) h = tt
known_no_jump (Store slot) h = tt
known_no_jump (Assign slot line) h = tt
known_no_jump (Count slot step line) h = tt
known_no_jump (Change slot how line) h = tt
known_no_jump (Add line) h = tt
known_no_jump (Operate operator line) h = tt
known_no_jump Not h = tt
known_no_jump (Join count line) h = tt
known_no_jump (Jump to) h = absurd h
known_no_jump (JumpUnless to) h = tt
known_no_jump (JumpIf to) h = tt
known_no_jump (Call function count line) h = tt
known_no_jump Print h = tt
known_no_jump End h = tt

-- The body in a loop whose end is not known, the jump back, and then the ways out filled in.
module _ (again start after : ℕ) (d f g x : Emitter) (body : Statement) (known : again < hole) (begin : start ≡ length d.ops) (end : after ≡ length g.ops) (small : after < hole)
    (s : Emits d f (IsStatement (Some again) body)) (u : Emits f g (IsOp (Jump again))) (fill : IsFilled after start (length g.ops) g.ops x.ops) (same_names : x.names ≡ g.names) where
  slots : KeepsSlots g.names x.names
  slots = subst (λ n. KeepsSlots g.names n) (sym same_names) (same_slots g.names)

  before : (i : ℕ) → i < length d.ops → slice_get x.ops i ≡ slice_get g.ops i
  before i less = fill.before i (omega (arith, begin, less))

  back_there : slice_get x.ops (length f.ops) ≡ Some (Jump again)
  back_there = fill.kept (length f.ops) (Jump again) u.added.0 known

  out : Loop
  out = record { after = length x.ops; again = again }

  end_there : after ≡ length x.ops
  end_there = end ∙ sym fill.long

  carries : Carries g.ops x.ops (length f.ops) (length d.ops) (length f.ops)
  carries = record {
    other = λ i op low less h plain. fill.kept i op h (known_no_jump op plain);
    jump = λ i n low less h most. fill.kept i (Jump n) h (omega (arith, most, small, end, u.added.1));
  }

  ways : Ways g.ops x.ops (record { after = hole; again = again }) (record { after = length x.ops; again = again }) (length d.ops) (length f.ops)
  ways = record {
    after = λ i low less h. fill.filled i (omega (arith, begin, low)) (omega (arith, less, u.longer)) h ∙ ap (λ n. Some (Jump n)) end_there;
    again = λ i low less h. fill.kept i (Jump again) h known;
    ahead = λ i less h. omega (arith, less, u.added.1, fill.long);
  }

  body_there : IsCleanStatement true body → StatementCode x.ops x.names (Some (record { after = length x.ops; again = again })) (length d.ops) body (length f.ops)
  body_there clean =
      statement_carried (length f.ops) slots (Some (record { after = length x.ops; again = again }))
      (statement_stable (Some again) body f.ops g.ops f.names g.names (length d.ops) (length f.ops) s.added (narrow u.ops (length d.ops) (length f.ops) (omega arith) (omega arith)) u.names clean)
      ways carries (omega arith)

  pub turn_emitted : Emits d x (IsTurn again body)
  turn_emitted = record {
    ops = record { same = λ i low less. before i less ∙ u.ops.same i low (omega (arith, less, s.longer)) ∙ s.ops.same i low less };
    longer = omega (arith, s.longer, u.longer, fill.long);
    names = record { slot = λ i n h. slots.slot i n (u.names.slot i n (s.names.slot i n h)) };
    distinct = λ y. subst AreDistinct (sym same_names) (u.distinct (s.distinct y));
    added = (length f.ops, s.longer, fill.long ∙ u.added.1, back_there, body_there);
  }

-- a test, whose place is held and leads behind the turns
pub turns_emitted : (again branch : ℕ) (a b c d m : Emitter) (test : Expr) (body : Statement) → Emits a b (IsExpr test) → IsHeld b c branch → Emits c d (IsTurn again body)
    → IsLanded branch (Some false) d m → Emits a m (AreTurns again (Some test) body)
turns_emitted again branch a b c d m test body p h q l =
    emits_as a m (Then (IsExpr test) (Ahead (λ n. JumpUnless n) (IsTurn again body))) (AreTurns again (Some test) body)
    (λ ops names at to t. (t.0 + 1, λ clean. test_code test (t.1 (clean_head test [] clean)) t.2.0 t.2.1, t.2.2))
    (emits_then a b m _ _ (expr_stable test) p
    (filled_in b c d m (λ n. JumpUnless n) branch (length d.ops) (IsTurn again body) (turn_stable again body) h q refl l.set))

pub endless_emitted : (again : ℕ) (a b : Emitter) (body : Statement) → Emits a b (IsTurn again body) → Emits a b (AreTurns again None body)
endless_emitted again a b body p = emits_as a b (IsTurn again body) (AreTurns again None body) (λ ops names at to t. (at, λ clean. no_test, t)) p

-- the first part of a `for`, and the last part, over which it jumps
pub opening_emitted : (again skip : ℕ) (a b c d m : Emitter) (first last : List Expr) → again ≡ length c.ops → Emits a b (AreEffects first) → IsHeld b c skip → Emits c d (AreEffects last)
    → IsLanded skip None d m → Emits a m (IsOpening first last again)
opening_emitted again skip a b c d m first last here p h q l =
    let bm = filled_in b c d m (λ n. Jump n) skip (length d.ops) (AreEffects last) (effects_stable last) h q refl l.set in
    let am = emits_then a b m _ _ (effects_stable first) p bm in
    record {
      ops = am.ops;
      longer = am.longer;
      names = am.names;
      distinct = am.distinct;
      added = (
        length b.ops,
        p.longer,
        effects_stable first b.ops m.ops b.names m.names (length a.ops) (length b.ops) p.added (narrow bm.ops (length a.ops) (length b.ops) (omega arith) (omega arith)) bm.names,
        bm.added.0,
        bm.added.1,
        here ∙ h.put.added.1,
        bm.added.2,
      );
    }

opening_stable : (first last : List Expr) (again : ℕ) → Stable (IsOpening first last again)
opening_stable first last again ops ops' names names' at to h s k = (
  h.0,
  h.1,
  effects_stable first ops ops' names names' at h.0 h.2 (narrow s at h.0 (omega arith) (omega (arith, h.4))) k,
  s.same h.0 h.1 h.4 ∙ h.3,
  h.4,
  h.5,
  effects_stable last ops ops' names names' (h.0 + 1) to h.6 (narrow s (h.0 + 1) to (omega (arith, h.1)) (omega arith)) k,
)

-- ---- branches of an `if`

pub branch_stable : (around : Option ℕ) (b : Branch) → Stable (IsBranch around b)
branch_stable around b ops ops' names names' at to h s k clean_test clean_body =
    let there = h clean_test clean_body in (
      there.0,
      test_carried to k there.1 (carries_same to (narrow s at there.0 (omega arith) (omega (arith, statement_rises there.2)))) (omega (arith, statement_rises there.2)),
      statement_carried to k (loop_of around) there.2 (ways_same ops ops' (loop_of around) there.0 to (narrow s there.0 to (test_rises there.1) (omega arith)))
          (carries_same to (narrow s there.0 to (test_rises there.1) (omega arith))) (omega arith),
    )

pub branch_emitted : (around : Option ℕ) (b : Branch) (branch over : ℕ) (a c d f g : Emitter) → Emits a c (IsExpr b.test) → (h : IsHeld c d branch) → Emits d f (IsStatement around b.body)
    → (o : IsElse branch over f g) → Emits a o.between (IsBranch around b)
branch_emitted around b branch over a c d f g p h q o =
    emits_as a o.between (Then (IsExpr b.test) (Ahead (λ n. JumpUnless (n + 1)) (IsStatement around b.body))) (IsBranch around b)
    (λ ops names at to t clean_test clean_body. (t.0 + 1, test_code b.test (t.1 clean_test) t.2.0 (omega (arith, t.2.1)), t.2.2 clean_body))
    (emits_then a c o.between _ _ (expr_stable b.test) p
    (filled_in c d f o.between (λ n. JumpUnless (n + 1)) branch (length f.ops) (IsStatement around b.body) (statement_stable around b.body) h q refl o.set))

-- the held places jump to the end, and all else stays
branches_done : {ops ops' : List Op} {names names' : List Bytes} (around : Option ℕ) (to : ℕ) → KeepsSlots names names' → {at : ℕ} {bs : List Branch} {ps : List ℕ} {mid : ℕ}
    → Held (IsBranch around) ops names at bs ps mid → AreCleanExprs (tests_of bs) → AreCleanStatements (is_some around) (bodies_of bs)
    → ((i : ℕ) → at ≤ i → i < mid → Misses i ps → slice_get ops' i ≡ slice_get ops i) → ((j p : ℕ) → slice_get ps j ≡ Some p → slice_get ops' p ≡ Some (Jump to))
    → mid ≤ to → (other : Option Statement) → BranchesCode ops' names' (loop_of around) mid [] other to → BranchesCode ops' names' (loop_of around) at bs other to
branches_done around to k nothing_held tests bodies same jumps less other rest = rest
branches_done {ops = ops} {ops' = ops'} {names = names} {names' = names'} around to k (piece_held {at = at} {p = p} {to = mid} b bs ps low d ds) tests bodies same jumps less other rest =
    let there = branch_stable around b ops ops' names names' at p d
    (record { same = λ i x y. same i x (omega (arith, y, held_rises (IsBranch around) ds)) ((λ e. absurd (omega (arith, e, y))), held_misses (IsBranch around) ds i (omega (arith, y))) }) k
    (clean_head b.test (tests_of bs) tests) (clean_statements_head (is_some around) b.body (bodies_of bs) bodies) in
    branch_code b bs other there.1 there.2 (jumps 0 p refl) (omega (arith, less, held_rises (IsBranch around) ds))
    (branches_done around to k ds (clean_tail b.test (tests_of bs) tests) (clean_statements_tail (is_some around) b.body (bodies_of bs) bodies)
    (λ i x y m. same i (omega (arith, x, low)) y ((λ e. absurd (omega (arith, e, x))), m)) (λ j q h. jumps (suc j) q h) less other rest)

pub other_stable : (around : Option ℕ) (other : Option Statement) → Stable (IsOther around other)
other_stable around other ops ops' names names' at to h s k clean =
    branches_carried to k (loop_of around) (h clean) (ways_same ops ops' (loop_of around) at to s) (carries_same to s) (omega arith)

-- ---- statements

module _ (around : Option ℕ) (t : Statement) where
  pub block_emitted : (a b c : Emitter) (ts these : List Statement) → t.kind ≡ kind.Block ts → these ≡ ts
      → Emits a b (IsOp (OneUnit t.line)) → Emits b c (IsSequence around these) → Emits a c (IsStatement around t)
  block_emitted a b c ts these is all p q =
      emits_as a c (Then (IsOp (OneUnit t.line)) (IsSequence around ts)) (IsStatement around t)
      (λ ops names at to h clean.
      let layer = open_kind (Kind-F.Block ts) is (rolls-Block ts) in
      block_code ts layer h.1.0 (subst (λ n. SequenceCode ops names (loop_of around) n ts to) h.1.1 (h.2 (clean_statements_in (is_some around) t (Kind-F.Block ts) layer clean))))
      (emits_then a b c _ _ (op_stable _) p (subst (λ x. Emits b c (IsSequence around x)) all q))

  pub print_emitted : (a b c : Emitter) (es these : List Expr) → t.kind ≡ kind.Print es → these ≡ es
      → Emits a b (IsOp (OneUnit t.line)) → Emits b c (ArePrints these) → Emits a c (IsStatement around t)
  print_emitted a b c es these is all p q =
      emits_as a c (Then (IsOp (OneUnit t.line)) (ArePrints es)) (IsStatement around t)
      (λ ops names at to h clean.
      let layer = open_kind (Kind-F.Print es) is (rolls-Print es) in
      print_statement es layer h.1.0 (subst (λ n. PrintsCode ops names n es to) h.1.1 (h.2 (clean_exprs_in (is_some around) t (Kind-F.Print es) layer clean))))
      (emits_then a b c _ _ (op_stable _) p (subst (λ x. Emits b c (ArePrints x)) all q))

  pub expr_emitted : (a b c : Emitter) (e : Expr) → t.kind ≡ kind.Expr e
      → Emits a b (IsOp (OneUnit t.line)) → Emits b c (IsEffect e) → Emits a c (IsStatement around t)
  expr_emitted a b c e is p q =
      emits_as a c (Then (IsOp (OneUnit t.line)) (IsEffect e)) (IsStatement around t)
      (λ ops names at to h clean.
      let layer = open_kind (Kind-F.Expr e) is (rolls-Expr e) in
      expr_statement e layer h.1.0 (subst (λ k. EffectCode ops names k e to) h.1.1 (h.2 (clean_head e [] (clean_exprs_in (is_some around) t (Kind-F.Expr e) layer clean)))))
      (emits_then a b c _ _ (op_stable _) p q)

  pub return_emitted : (a b c d : Emitter) (o : Option Expr) (e got : Expr) → t.kind ≡ kind.Return o → o ≡ Some e → got ≡ e
      → Emits a b (IsOp (OneUnit t.line)) → Emits b c (IsExpr got) → Emits c d (IsOp End) → Emits a d (IsStatement around t)
  return_emitted a b c d o e got is some same p q r =
      emits_as a d (Then (IsOp (OneUnit t.line)) (Then (IsExpr e) (IsOp End))) (IsStatement around t)
      (λ ops names at to h clean.
      let layer = open_kind (Kind-F.Return (Some e)) (is ∙ ap kind.Return some) (rolls-Return (Some e)) in
      subst (λ k. StatementCode ops names (loop_of around) at t k) (sym h.2.2.1)
      (return_code e layer h.1.0
      (subst (λ k. ExprCode ops names k e h.2.0) h.1.1 (h.2.1 (clean_head e [] (clean_exprs_in (is_some around) t (Kind-F.Return (Some e)) layer clean)))) h.2.2.0))
      (emits_then a b d _ _ (op_stable _) p (emits_then b c d _ _ (expr_stable e) (subst (λ x. Emits b c (IsExpr x)) same q) r))

  pub return_null_emitted : (a b c d : Emitter) (o : Option Expr) → t.kind ≡ kind.Return o → o ≡ None
      → Emits a b (IsOp (OneUnit t.line)) → Emits b c (IsOp (Push Value.Null)) → Emits c d (IsOp End) → Emits a d (IsStatement around t)
  return_null_emitted a b c d o is none p q r =
      emits_as a d (Then (IsOp (OneUnit t.line)) (Then (IsOp (Push Value.Null)) (IsOp End))) (IsStatement around t)
      (λ ops names at to h clean.
      let here : h.2.0 ≡ at + 1 + 1 = h.2.1.1 ∙ ap (λ n. n + 1) h.1.1 in
      subst (λ k. StatementCode ops names (loop_of around) at t k) (sym (h.2.2.1 ∙ ap (λ n. n + 1) here))
      (return_null_code (open_kind _ (is ∙ ap kind.Return none) (rolls-Return None)) h.1.0 (subst (λ k. slice_get ops k ≡ Some (Push Value.Null)) h.1.1 h.2.1.0) (subst (λ k. slice_get ops k ≡ Some End) here h.2.2.0)))
      (emits_then a b d _ _ (op_stable _) p (emits_then b c d _ _ (op_stable _) q r))

  pub while_emitted : (again : ℕ) (a b c : Emitter) (test : Expr) (body got : Statement) → t.kind ≡ kind.While test body → got ≡ body → again ≡ length b.ops
      → Emits a b (IsOp (OneUnit t.line)) → Emits b c (AreTurns again (Some test) got) → Emits a c (IsStatement around t)
  while_emitted again a b c test body got is same here p q =
      emits_here a c (Then (IsOp (OneUnit t.line)) (AreTurns again (Some test) body)) (IsStatement around t)
      (λ h clean.
      let layer = open_kind (Kind-F.While test body) is (rolls-While test body) in
      let place : again ≡ length a.ops + 1 = here ∙ p.added.1 in
      let turns = subst (λ n. AreTurns n (Some test) body c.ops c.names (length a.ops + 1) (length c.ops)) place (subst (λ k. AreTurns again (Some test) body c.ops c.names k (length c.ops)) h.1.1 h.2) in
      let turn = turns.2 in
      while_code test body layer h.1.0
      (subst (λ n. LoopCode c.ops c.names (length a.ops + 1) [] (length a.ops + 1) (Some test) body n) (sym turn.2)
      (loop_code [] (Some test) body no_effects
      (subst (λ n. TestCode c.ops c.names (length a.ops + 1) (Some test) turns.0 n) turn.2 (turns.1 (clean_exprs_in (is_some around) t (Kind-F.While test body) layer clean)))
      (subst (λ n. StatementCode c.ops c.names (Some (record { after = n; again = length a.ops + 1 })) turns.0 body turn.0) turn.2
      (turn.4 (clean_statements_head true body [] (clean_statements_in (is_some around) t (Kind-F.While test body) layer clean)))) turn.3)))
      (emits_then a b c _ _ (op_stable _) p (subst (λ x. Emits b c (AreTurns again (Some test) x)) same q))

  pub for_emitted : (again : ℕ) (a b c d : Emitter) (first last first' last' : List Expr) (e e' : Option Expr) (body got : Statement) → t.kind ≡ kind.For first e last body
      → first' ≡ first → last' ≡ last → e ≡ e' → got ≡ body
      → Emits a b (IsOp (OneUnit t.line)) → Emits b c (IsOpening first' last' again) → Emits c d (AreTurns again e' got) → Emits a d (IsStatement around t)
  for_emitted again a b c d first last first' last' e e' body got is same_first same_last same_e same p q r =
      emits_as a d (Then (IsOp (OneUnit t.line)) (Then (IsOpening first last again) (AreTurns again e body))) (IsStatement around t)
      (λ ops names at to h clean.
      let layer = open_kind (Kind-F.For first e last body) is (rolls-For first e last body) in
      let exprs = clean_exprs_in (is_some around) t (Kind-F.For first e last body) layer clean in
      let rest = clean_rest first (exprs_of e ++ last) exprs in
      let opening = h.2.1 in
      let turns = subst (λ n. AreTurns n e body ops names h.2.0 to) opening.5 h.2.2 in
      let turn = turns.2 in
      for_code first e last body layer h.1.0 (subst (λ k. EffectsCode ops names k first opening.0) h.1.1 (opening.2 (clean_front first (exprs_of e ++ last) exprs))) opening.3 opening.4
      (subst (λ n. LoopCode ops names (opening.0 + 1) last h.2.0 e body n) (sym turn.2)
      (loop_code last e body (opening.6 (clean_rest (exprs_of e) last rest))
      (subst (λ n. TestCode ops names h.2.0 e turns.0 n) turn.2 (turns.1 (clean_front (exprs_of e) last rest)))
      (subst (λ n. StatementCode ops names (Some (record { after = n; again = opening.0 + 1 })) turns.0 body turn.0) turn.2
      (turn.4 (clean_statements_head true body [] (clean_statements_in (is_some around) t (Kind-F.For first e last body) layer clean)))) turn.3)))
      (emits_then a b d _ _ (op_stable _) p (emits_then b c d _ _ (opening_stable first last again)
      (subst (λ xs. Emits b c (IsOpening xs last again)) same_first (subst (λ xs. Emits b c (IsOpening first' xs again)) same_last q))
      (subst (λ x. Emits c d (AreTurns again x body)) (sym same_e) (subst (λ x. Emits c d (AreTurns again e' x)) same r))))

  looped_at : (again : Option ℕ) → is_some again ≡ true → (n : ℕ) × (again ≡ Some n)
  looped_at None h = absurd (true≢false (sym h))
  looped_at (Some n) h = (n, refl)

  pub break_emitted : (a b c : Emitter) → t.kind ≡ kind.Break → Emits a b (IsOp (OneUnit t.line)) → Emits b c (IsLeaving around) → Emits a c (IsStatement around t)
  break_emitted a b c is p q =
      emits_as a c (Then (IsOp (OneUnit t.line)) (IsLeaving around)) (IsStatement around t)
      (λ ops names at to h clean.
      let layer = open_kind Kind-F.Break is rolls-Break in
      let inside = looped_at around (clean_looped (is_some around) t Kind-F.Break layer refl clean) in
      let leaves = subst (λ k. (slice_get ops k ≡ Some (Jump hole)) × (to ≡ k + 1) × (k < hole)) h.1.1 (h.2 inside.0 inside.1) in
      subst (λ l. StatementCode ops names (loop_of l) at t to) (sym inside.1)
      (subst (λ n. StatementCode ops names (loop_of (Some inside.0)) at t n) (sym leaves.1) (break_code layer h.1.0 leaves.0 leaves.2)))
      (emits_then a b c _ _ (op_stable _) p q)

  pub continue_emitted : (a b c : Emitter) → t.kind ≡ kind.Continue → Emits a b (IsOp (OneUnit t.line)) → Emits b c (IsGoingOn around) → Emits a c (IsStatement around t)
  continue_emitted a b c is p q =
      emits_as a c (Then (IsOp (OneUnit t.line)) (IsGoingOn around)) (IsStatement around t)
      (λ ops names at to h clean.
      let layer = open_kind Kind-F.Continue is rolls-Continue in
      let inside = looped_at around (clean_looped (is_some around) t Kind-F.Continue layer refl clean) in
      let goes = subst (λ k. (slice_get ops k ≡ Some (Jump inside.0)) × (to ≡ k + 1)) h.1.1 (h.2 inside.0 inside.1) in
      subst (λ l. StatementCode ops names (loop_of l) at t to) (sym inside.1)
      (subst (λ n. StatementCode ops names (loop_of (Some inside.0)) at t n) (sym goes.1) (continue_code layer h.1.0 goes.0)))
      (emits_then a b c _ _ (op_stable _) p q)

  both_ways : (b : Bool) → b ≡ true → b ≡ false → ⊥
  both_ways b holds fails = cc

  pub unbuilt_emitted : (a b : Emitter) → is_built_statement (kind_of t) ≡ false → Emits a b (IsOp (OneUnit t.line)) → Emits a b (IsStatement around t)
  unbuilt_emitted a b not_built p =
      emits_as a b (IsOp (OneUnit t.line)) (IsStatement around t)
      (λ ops names at to h clean. absurd (both_ways (is_built_statement (kind_of t)) (clean_statement_built (is_some around) t (kind_of t) refl clean) not_built)) p

  -- the branches from b to c, what runs where no test is true up to d, and then the jumps over it filled in
  module _ (a b c d m : Emitter) (bs : List Branch) (other : Option Statement) (overs : List ℕ) (is : t.kind ≡ kind.If bs other) (p : Emits a b (IsOp (OneUnit t.line)))
      (q : Emits b c (AreHeld (IsBranch around) bs overs)) (r : Emits c d (IsOther around other)) (l : AreAllLanded overs d m) where
    layer : kind_of t ≡ Kind-F.If bs other
    layer = open_kind (Kind-F.If bs other) is (rolls-If bs other)

    bd : Emits b d (Then (AreHeld (IsBranch around) bs overs) (IsOther around other))
    bd = emits_then b c d _ _ (held_stable (IsBranch around) (branch_stable around) bs overs) q r

    ad : Emits a d (Then (IsOp (OneUnit t.line)) (Then (AreHeld (IsBranch around) bs overs) (IsOther around other)))
    ad = emits_then a b d _ _ (op_stable _) p bd

    kept_before : (i : ℕ) → i < length b.ops → slice_get m.ops i ≡ slice_get d.ops i
    kept_before i less = l.ops.kept i (held_misses (IsBranch around) q.added i less)

    kept_behind : (i : ℕ) → length c.ops ≤ i → slice_get m.ops i ≡ slice_get d.ops i
    kept_behind i low = l.ops.kept i (missed_above overs (length c.ops) (λ j p h. (held_between (IsBranch around) q.added j p h).1) i low)

    kept_slots : KeepsSlots d.names m.names
    kept_slots = subst (λ n. KeepsSlots d.names n) (sym l.names) (same_slots d.names)

    other_there : AreCleanStatements (is_some around) (statements_of other) → BranchesCode m.ops m.names (loop_of around) (length c.ops) [] other (length m.ops)
    other_there clean =
        subst (λ n. BranchesCode m.ops m.names (loop_of around) (length c.ops) [] other n) (sym l.ops.long)
        (other_stable around other d.ops m.ops d.names m.names (length c.ops) (length d.ops) r.added (record { same = λ i x y. kept_behind i x }) kept_slots clean)

    all_there : IsCleanStatement (is_some around) t → StatementCode m.ops m.names (loop_of around) (length a.ops) t (length m.ops)
    all_there clean =
        let bodies = clean_statements_in (is_some around) t (Kind-F.If bs other) layer clean in
        if_code bs other layer
        (kept_before (length a.ops) (omega (arith, p.added.1)) ∙ bd.ops.same (length a.ops) (omega arith) (omega (arith, p.added.1)) ∙ p.added.0)
        (subst (λ k. BranchesCode m.ops m.names (loop_of around) k bs other (length m.ops)) p.added.1
        (branches_done around (length m.ops) (record { slot = λ i n h. kept_slots.slot i n (r.names.slot i n h) }) q.added
        (clean_exprs_in (is_some around) t (Kind-F.If bs other) layer clean) (clean_statements_front (is_some around) (bodies_of bs) (statements_of other) bodies)
        (λ i x y miss. l.ops.kept i miss ∙ r.ops.same i (omega arith) y)
        (λ j p h. l.ops.set j p h (omega (arith, (held_between (IsBranch around) q.added j p h).1, r.longer)) ∙ ap (λ n. Some (Jump n)) (sym l.ops.long))
        (omega (arith, r.longer, l.ops.long)) other (other_there (clean_statements_rest (is_some around) (bodies_of bs) (statements_of other) bodies))))

    pub if_emitted : Emits a m (IsStatement around t)
    if_emitted = record {
      ops = record { same = λ i x y. kept_before i (omega (arith, y, p.longer)) ∙ ad.ops.same i x y };
      longer = omega (arith, ad.longer, l.ops.long);
      names = record { slot = λ i n h. kept_slots.slot i n (ad.names.slot i n h) };
      distinct = λ y. subst AreDistinct (sym l.names) (ad.distinct y);
      added = all_there;
    }

  pub no_other : (c : Emitter) → Emits c c (IsOther around None)
  no_other c = emits_nothing c (IsOther around None) (λ clean. no_branch)

  pub other_emitted : (c d : Emitter) (other got : Statement) → got ≡ other → Emits c d (IsStatement around got) → Emits c d (IsOther around (Some other))
  other_emitted c d other got same p =
      emits_as c d (IsStatement around other) (IsOther around (Some other)) (λ ops names at to h clean. other_branch other (h (clean_statements_head (is_some around) other [] clean)))
      (subst (λ x. Emits c d (IsStatement around x)) same p)

  -- an `if` by what its match tells
  pub if_none_emitted : (a b c m : Emitter) (bs these : List Branch) (o : Option Statement) (overs overs' : List ℕ) → t.kind ≡ kind.If bs o → o ≡ None → these ≡ bs → overs' ≡ overs
      → Emits a b (IsOp (OneUnit t.line)) → Emits b c (AreHeld (IsBranch around) these overs) → AreAllLanded overs' c m → Emits a m (IsStatement around t)
  if_none_emitted a b c m bs these o overs overs' is none all slice p q l =
      if_emitted a b c c m bs None overs (is ∙ ap (λ x. kind.If bs x) none) p (subst (λ x. Emits b c (AreHeld (IsBranch around) x overs)) all q) (no_other c)
      (subst (λ x. AreAllLanded x c m) slice l)

  pub if_some_emitted : (a b c d m : Emitter) (bs these : List Branch) (o : Option Statement) (other got : Statement) (overs overs' : List ℕ) → t.kind ≡ kind.If bs o → o ≡ Some other → these ≡ bs
      → got ≡ other → overs' ≡ overs → Emits a b (IsOp (OneUnit t.line)) → Emits b c (AreHeld (IsBranch around) these overs) → Emits c d (IsStatement around got) → AreAllLanded overs' d m
      → Emits a m (IsStatement around t)
  if_some_emitted a b c d m bs these o other got overs overs' is some all same slice p q r l =
      if_emitted a b c d m bs (Some other) overs (is ∙ ap (λ x. kind.If bs x) some) p (subst (λ x. Emits b c (AreHeld (IsBranch around) x overs)) all q) (other_emitted c d other got same r)
      (subst (λ x. AreAllLanded x d m) slice l)
