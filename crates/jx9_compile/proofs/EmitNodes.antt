-- What each kind of expression adds.
use Rattle.std.proofs.Common.{◌≡◌, ℕ, zero, suc, ◌+◌, ◌<◌, ◌≤◌, List, [], ◌∷◌, ◌++◌, length, get_or, take, Some, None, refl, sym, ap, ◌∙◌, subst, arith, ⊎_elim, length-set}
use Rattle.std.specs.Prelude.{Bool, true, false, not, pos, slice_get}
use Rattle.std.proofs.lemmas.Option.{same_Some}
use Rattle.uq_value.specs.Data.{Bytes}
use Rattle.uq_value.specs.declared.value.Value.{Value}
use Rattle.jx9_syntax.specs.Trees.{ExprLayer, node_of}
use Rattle.jx9_syntax.specs.declared.expression.Access.{Access}
use Rattle.jx9_syntax.specs.declared.expression.Access.TheOpen.{Node-F}
use Rattle.jx9_syntax.specs.declared.expression.Access.TheViews.{out-roll-Node, rolls-Literal, rolls-Mixed, rolls-Group, rolls-Negate, rolls-Not, rolls-Step, rolls-Or, rolls-And, rolls-Join, rolls-Chain, rolls-Cond, rolls-Var, rolls-Assign, rolls-Change}
use Rattle.jx9_syntax.specs.declared.expression.Binary.TheVariants as binary
use Rattle.jx9_syntax.specs.declared.expression.Change.{Change as How}
use Rattle.jx9_syntax.specs.declared.expression.Expr.{Expr}
use Rattle.jx9_syntax.specs.declared.expression.Link.{Link}
use Rattle.jx9_syntax.specs.declared.expression.Literal.{Literal}
use Rattle.jx9_syntax.specs.declared.expression.Node.{Node, out-Node, roll-Node}
use Rattle.jx9_syntax.specs.declared.expression.Node as node
use Rattle.jx9_syntax.specs.declared.expression.Place.{Place}
use Rattle.jx9_syntax.specs.declared.expression.Step.{Step}
use Rattle.jx9_syntax.specs.declared.parts.Part.{Part}
use Rattle.jx9_syntax.specs.declared.parts.Part.TheVariants as part
use Rattle.jx9_meaning.specs.Expression.{literal_value}
use Rattle.jx9_compile.specs.Emits.{IsOp, IsSlot, IsOnSlot, IsMove, IsChange, AreParts, IsExpr, IsBehind, AreValues, AreLinks, IsEffect, AreEffects, AreHeld, Held, nothing_held, piece_held, Emits, IsHeld, IsSet, IsElse, IsLanded, IsDecided}
use Rattle.jx9_compile.specs.Emitted.{operator_op, jump_where, variable_place, PartsCode, no_parts, text_part, variable_part, ExprCode, literal_code, mixed_code, variable_code, group_code, negate_code, not_code, step_code, or_code, and_code, join_code, chain_code, choice_code, assign_code, change_code, AllCode, no_values, value_code, DecidingCode, no_operands, operand_code, LinksCode, no_links, link_code, EffectCode, dropped_code, moved_code, EffectsCode, no_effects, effect_code}
use Rattle.jx9_compile.specs.Holes.{hole, Misses, AreSet}
use Rattle.jx9_compile.specs.Problems.{is_built, operands_of, IsCleanExpr, AreCleanExprs}
use Rattle.jx9_compile.specs.Slots.{KeepsSlots, AreDistinct}
use Rattle.jx9_compile.specs.declared.emitting.Emitter.{Emitter}
use Rattle.jx9_compile.specs.declared.op.Op.{Op}
use Rattle.jx9_compile.specs.declared.op.Op.TheVariants.{Unit as OneUnit, Push, Pop, Copy, Load, Assign, Count, Change, Operate, Not, Join, Jump, JumpUnless}
use Rattle.jx9_compile.proofs.Clean.{clean_head, clean_tail, clean_front, clean_last, clean_within, clean_built, no_steps, operands_append}
use Rattle.jx9_compile.proofs.Places.{slice_get-set_other, slice_get-set_same, missed_above, found_or_missed}
use Rattle.jx9_compile.proofs.EmitLemmas.{Then, Ahead, ahead_stable, filled_in, emits_then, emits_as, emits_nothing, one_more, op_stable, slot_stable, parts_stable, expr_stable, values_stable, links_stable, effects_stable, held_rises, held_between, held_misses, same_slots}

-- a node by its layer, from what a match tells
pub open_node : {n m : Node} (layer : ExprLayer) → n ≡ m → roll-Node layer ≡ m → out-Node n ≡ layer
open_node layer h r = ap out-Node (h ∙ sym r) ∙ out-roll-Node layer

-- an op at a place that is known by another number
moved_op : (ops : List Op) (op : Op) (m n : ℕ) → slice_get ops m ≡ Some op → m ≡ n → slice_get ops n ≡ Some op
moved_op ops op m n h e = subst (λ k. slice_get ops k ≡ Some op) e h

moved_expr : {ops : List Op} {names : List Bytes} {e : Expr} {m n to : ℕ} → ExprCode ops names m e to → m ≡ n → ExprCode ops names n e to
moved_expr {ops = ops} {names = names} {e = e} {to = to} d same = subst (λ k. ExprCode ops names k e to) same d

ends_at : {ops : List Op} {names : List Bytes} {at : ℕ} {e : Expr} {m n : ℕ} → ExprCode ops names at e m → n ≡ m → ExprCode ops names at e n
ends_at {ops = ops} {names = names} {at = at} {e = e} d same = subst (λ k. ExprCode ops names at e k) (sym same) d

-- another name of an expression
renamed : {a b : Emitter} {got e : Expr} → got ≡ e → Emits a b (IsExpr got) → Emits a b (IsExpr e)
renamed {a = a} {b = b} same p = subst (λ x. Emits a b (IsExpr x)) same p

-- ---- nodes whose part behind the unit is emitted by a call of its own

pub behind_emitted : (e : Expr) (a b c : Emitter) (n m : Node) → e.node ≡ n → m ≡ n → Emits a b (IsOp (OneUnit e.line)) → Emits b c (IsBehind e.line m) → Emits a c (IsExpr e)
behind_emitted e a b c n m is same p q =
    emits_as a c (Then (IsOp (OneUnit e.line)) (IsBehind e.line m)) (IsExpr e)
    (λ ops names at to h clean. h.2 e at refl (is ∙ sym same) clean h.1.1 h.1.0)
    (emits_then a b c _ _ (op_stable _) p q)

module _ (line : ℕ) where
  pub literal_behind : (a b : Emitter) (l : Literal) (v : Value) → v ≡ literal_value l → Emits a b (IsOp (Push v)) → Emits a b (IsBehind line (node.Literal l))
  literal_behind a b l v value p =
      emits_as a b (IsOp (Push v)) (IsBehind line (node.Literal l))
      (λ ops names at to h e start same is clean place u.
      ends_at (literal_code l (open_node _ is (rolls-Literal l)) (u ∙ ap (λ n. Some (OneUnit n)) (sym same)) (moved_op ops _ _ _ h.0 place ∙ ap (λ x. Some (Push x)) value)) (h.1 ∙ ap (λ n. n + 1) place))
      p

  pub mixed_behind : (a b c : Emitter) (ps : List Part) (count : ℕ) → count ≡ length ps → Emits a b (AreParts ps) → Emits b c (IsOp (Join count line)) → Emits a c (IsBehind line (node.Mixed ps))
  mixed_behind a b c ps count many p q =
      emits_as a c (Then (AreParts ps) (IsOp (Join count line))) (IsBehind line (node.Mixed ps))
      (λ ops names at to h e start same is clean place u.
      ends_at (mixed_code ps (open_node _ is (rolls-Mixed ps)) (u ∙ ap (λ n. Some (OneUnit n)) (sym same)) (subst (λ k. PartsCode ops names k ps h.0) place h.1)
      (h.2.0 ∙ ap (λ n. Some (Join n line)) many ∙ ap (λ n. Some (Join (length ps) n)) (sym same))) h.2.1)
      (emits_then a b c _ _ (parts_stable ps) p q)

  pub variable_behind : (a b c : Emitter) (name : Bytes) (steps : List Access) (slot : ℕ) → Emits a b (IsSlot name slot) → Emits b c (IsOp (Load slot)) → Emits a c (IsBehind line (node.Var name steps))
  variable_behind a b c name steps slot p q =
      emits_as a c (Then (IsSlot name slot) (IsOp (Load slot))) (IsBehind line (node.Var name steps))
      (λ ops names at to h e start same is clean place u.
      let none : steps ≡ [] = no_steps steps (clean_built e (Node-F.Var name steps) (open_node _ is (rolls-Var name steps)) clean) in
      let here : h.0 ≡ start + 1 = h.1.1 ∙ place in
      ends_at (variable_code name slot (open_node _ (is ∙ ap (λ x. node.Var name x) none) (rolls-Var name [])) h.1.0 (u ∙ ap (λ n. Some (OneUnit n)) (sym same)) (moved_op ops _ _ _ h.2.0 here)) (h.2.1 ∙ ap (λ n. n + 1) here))
      (emits_then a b c _ _ (slot_stable name slot) p q)

  -- a variable with steps is not built
  pub steps_behind : (a : Emitter) (name : Bytes) (steps : List Access) → (steps ≡ [] → ⊥) → Emits a a (IsBehind line (node.Var name steps))
  steps_behind a name steps some =
      emits_nothing a (IsBehind line (node.Var name steps))
      (λ e start same is clean place u. absurd (some (no_steps steps (clean_built e (Node-F.Var name steps) (open_node _ is (rolls-Var name steps)) clean))))

  pub step_behind : (a b c : Emitter) (st : Step) (place : Place) (slot : ℕ) → Emits a b (IsSlot place.name slot) → Emits b c (IsOp (Count slot st line)) → Emits a c (IsBehind line (node.Step st place))
  step_behind a b c st place slot p q =
      emits_as a c (Then (IsSlot place.name slot) (IsOp (Count slot st line))) (IsBehind line (node.Step st place))
      (λ ops names at to h e start same is clean at_start u.
      let none : place.steps ≡ [] = no_steps place.steps (clean_built e (Node-F.Step st place) (open_node _ is (rolls-Step st place)) clean) in
      let here : h.0 ≡ start + 1 = h.1.1 ∙ at_start in
      ends_at (step_code st place.name slot (open_node _ (is ∙ ap (λ x. node.Step st (record { name = place.name; steps = x })) none) (rolls-Step st (variable_place place.name))) h.1.0
      (u ∙ ap (λ n. Some (OneUnit n)) (sym same)) (moved_op ops _ _ _ h.2.0 here ∙ ap (λ n. Some (Count slot st n)) (sym same))) (h.2.1 ∙ ap (λ n. n + 1) here))
      (emits_then a b c _ _ (slot_stable place.name slot) p q)

on_slot : (a b c : Emitter) (op : ℕ → Op) (name : Bytes) (slot : ℕ) → Emits a b (IsSlot name slot) → Emits b c (IsOp (op slot)) → Emits a c (IsOnSlot op name)
on_slot a b c op name slot p q =
    emits_as a c (Then (IsSlot name slot) (IsOp (op slot))) (IsOnSlot op name)
    (λ ops names at to h. (slot, h.1.0, moved_op ops _ _ _ h.2.0 h.1.1, h.2.1 ∙ ap (λ n. n + 1) h.1.1))
    (emits_then a b c _ _ (slot_stable name slot) p q)

pub move_emitted : (a b c : Emitter) (line : ℕ) (name : Bytes) (slot : ℕ) → Emits a b (IsSlot name slot) → Emits b c (IsOp (Assign slot line)) → Emits a c (IsMove line name)
move_emitted a b c line name slot p q = on_slot a b c (λ n. Assign n line) name slot p q

pub changed_by_top : (a b c : Emitter) (how : How) (line : ℕ) (name : Bytes) (slot : ℕ) → Emits a b (IsSlot name slot) → Emits b c (IsOp (Change slot how line))
    → Emits a c (IsChange how line name)
changed_by_top a b c how line name slot p q = on_slot a b c (λ n. Change n how line) name slot p q

-- ---- operands that decide

-- the held places jump to the end, and all else stays
decided : {ops ops' : List Op} {names names' : List Bytes} (decides : Bool) (end : ℕ) → KeepsSlots names names' → {at : ℕ} {es : List Expr} {ps : List ℕ} {to : ℕ} → Held IsExpr ops names at es ps to
    → AreCleanExprs es → ((i : ℕ) → at ≤ i → i < to → Misses i ps → slice_get ops' i ≡ slice_get ops i) → ((j p : ℕ) → slice_get ps j ≡ Some p → slice_get ops' p ≡ Some (jump_where decides end))
    → to < end → DecidingCode ops' names' decides end at es to
decided decides end k nothing_held clean same jumps less = no_operands
decided {ops = ops} {ops' = ops'} {names = names} {names' = names'} decides end k (piece_held {at = at} {p = p} {to = to} e es ps low d ds) clean same jumps less =
    operand_code e es
    (expr_stable e ops ops' names names' at p d
    (record { same = λ i x y. same i x (omega (arith, y, held_rises IsExpr ds)) ((λ e. absurd (omega (arith, e, y))), held_misses IsExpr ds i (omega (arith, y))) }) k (clean_head e es clean))
    (jumps 0 p refl) (omega (arith, less, held_rises IsExpr ds))
    (decided decides end k ds (clean_tail e es clean) (λ i x y m. same i (omega (arith, x, low)) y ((λ e. absurd (omega (arith, e, x))), m)) (λ j q h. jumps (suc j) q h) less)

module _ (decides : Bool) (a b c d f m : Emitter) (line head : ℕ) (held : List ℕ) (first : Expr) (more : List Expr)
    (p : Emits a b (IsOp (OneUnit line))) (q : Emits b c (IsExpr first)) (h : IsHeld c d head) (r : Emits d f (AreHeld IsExpr more held)) (w : IsDecided decides head held f m) where
  bf : Emits b f (Then (IsExpr first) (Then (IsOp (Jump hole)) (AreHeld IsExpr more held)))
  bf = emits_then b c f _ _ (expr_stable first) q (emits_then c d f _ _ (op_stable _) h.put r)

  af : Emits a f (Then (IsOp (OneUnit line)) (Then (IsExpr first) (Then (IsOp (Jump hole)) (AreHeld IsExpr more held))))
  af = emits_then a b f _ _ (op_stable _) p bf

  cf : Emits c f (Then (IsOp (Jump hole)) (AreHeld IsExpr more held))
  cf = emits_then c d f _ _ (op_stable _) h.put r

  before : (i : ℕ) → i < length c.ops → Misses i (head ∷ held)
  before i less = ((λ e. absurd (omega (arith, e, less, h.place))), held_misses IsExpr r.added i (omega (arith, less, h.put.added.1)))

  below : (j p : ℕ) → slice_get (head ∷ held) j ≡ Some p → p < length f.ops
  below zero p e = omega (arith, same_Some head p e, h.place, h.put.added.1, r.longer)
  below (suc j) p e = (held_between IsExpr r.added j p e).1

  unit_there : slice_get m.ops (length a.ops) ≡ Some (OneUnit line)
  unit_there = w.kept (length a.ops) (omega (arith, p.added.1, bf.longer)) (before (length a.ops) (omega (arith, p.added.1, q.longer)))
      ∙ bf.ops.same (length a.ops) (omega arith) (omega (arith, p.added.1)) ∙ p.added.0

  first_there : IsCleanExpr first → ExprCode m.ops m.names (length a.ops + 1) first (length c.ops)
  first_there clean =
      moved_expr (expr_stable first c.ops m.ops c.names m.names (length b.ops) (length c.ops) q.added
      (record { same = λ i x y. w.kept i (omega (arith, y, cf.longer)) (before i y) ∙ cf.ops.same i (omega arith) y })
      (record { slot = λ i n g. w.names.slot i n (cf.names.slot i n g) }) clean) p.added.1

  operands_there : IsCleanExpr first → AreCleanExprs more → DecidingCode m.ops m.names decides (length f.ops + 1 + 1) (length a.ops + 1) (first ∷ more) (length f.ops)
  operands_there one rest =
      operand_code first more (first_there one) (subst (λ k. slice_get m.ops k ≡ Some (jump_where decides (length f.ops + 1 + 1))) h.place (w.decided 0 head refl (below 0 head refl)))
      (omega (arith, cf.longer)) (
      subst (λ k. DecidingCode m.ops m.names decides (length f.ops + 1 + 1) k more (length f.ops)) h.put.added.1
      (decided decides (length f.ops + 1 + 1) w.names r.added rest (λ i x y miss. w.kept i y ((λ e. absurd (omega (arith, e, x, h.place, h.put.added.1))), miss))
      (λ j p e. w.decided (suc j) p e (below (suc j) p e)) (omega arith)))

  -- as all of a node, once it is known to stand there
  pub all_decided : (e : Expr) → (IsCleanExpr e → ExprCode m.ops m.names (length a.ops) e (length f.ops + 1 + 1 + 1)) → Emits a m (IsExpr e)
  all_decided e code = record {
    ops = record { same = λ i x y. w.kept i (omega (arith, y, af.longer)) (before i (omega (arith, y, p.longer, q.longer))) ∙ af.ops.same i x y };
    longer = omega (arith, af.longer, w.long);
    names = record { slot = λ i n g. w.names.slot i n (af.names.slot i n g) };
    distinct = λ y. w.distinct (af.distinct y);
    added = λ clean. ends_at (code clean) w.long;
  }

-- where the held places are filled in, and what comes behind the operands
module _ (decides : Bool) (head over end : ℕ) (held : List ℕ) (a b c d f g m : Emitter) (p : Emits a b (IsOp (Push (Value.Bool (not decides))))) (h : IsHeld b c over)
    (at_end : end ≡ length c.ops) (q : Emits c d (IsOp (Push (Value.Bool decides)))) (s : IsSet head (jump_where decides end) d f) (all : AreSet held (jump_where decides end) f.ops g.ops)
    (same : g.names ≡ f.names) (l : IsLanded over None g m) where
  is_over : over ≡ length a.ops + 1
  is_over = h.place ∙ p.added.1

  is_end : end ≡ length a.ops + 1 + 1
  is_end = at_end ∙ h.put.added.1 ∙ ap (λ n. n + 1) p.added.1

  long_g : length g.ops ≡ length a.ops + 1 + 1 + 1
  long_g = all.long ∙ ap length s.ops ∙ length-set d.ops head (jump_where decides end) ∙ q.added.1 ∙ ap (λ n. n + 1) (h.put.added.1 ∙ ap (λ n. n + 1) p.added.1)

  long_f : length f.ops ≡ length a.ops + 1 + 1 + 1
  long_f = sym all.long ∙ long_g

  long_d : length d.ops ≡ length a.ops + 1 + 1 + 1
  long_d = q.added.1 ∙ ap (λ n. n + 1) (h.put.added.1 ∙ ap (λ n. n + 1) p.added.1)

  in_m : (i : ℕ) → (over ≡ i → ⊥) → slice_get m.ops i ≡ slice_get g.ops i
  in_m i apart = ap (λ o. slice_get o i) l.set.ops ∙ slice_get-set_other g.ops over i (Jump (length g.ops)) apart

  in_f : (i : ℕ) → (head ≡ i → ⊥) → slice_get f.ops i ≡ slice_get d.ops i
  in_f i apart = ap (λ o. slice_get o i) s.ops ∙ slice_get-set_other d.ops head i (jump_where decides end) apart

  kept_so : (i : ℕ) → i < length a.ops → Misses i (head ∷ held) → slice_get m.ops i ≡ slice_get a.ops i
  kept_so i less miss =
      in_m i (λ e. absurd (omega (arith, e, less, is_over))) ∙ all.kept i miss.1 ∙ in_f i (λ e. miss.0 (sym e))
      ∙ q.ops.same i (omega arith) (omega (arith, less, p.longer, h.put.longer)) ∙ h.put.ops.same i (omega arith) (omega (arith, less, p.longer)) ∙ p.ops.same i (omega arith) less

  head_jumps : head < length a.ops → slice_get g.ops head ≡ Some (jump_where decides end)
  head_jumps less = ⊎_elim
      (λ there. all.set there.0 head there.1 (omega (arith, less, long_f)))
      (λ miss. all.kept head miss ∙ ap (λ o. slice_get o head) s.ops ∙ slice_get-set_same d.ops head (jump_where decides end) (omega (arith, less, long_d)))
      (found_or_missed head held)

  decided_so : (j r : ℕ) → slice_get (head ∷ held) j ≡ Some r → r < length a.ops → slice_get m.ops r ≡ Some (jump_where decides (length a.ops + 1 + 1))
  decided_so zero r e less =
      in_m r (λ x. absurd (omega (arith, x, less, is_over))) ∙ ap (λ k. slice_get g.ops k) (sym (same_Some head r e)) ∙ head_jumps (omega (arith, less, same_Some head r e))
      ∙ ap (λ n. Some (jump_where decides n)) is_end
  decided_so (suc j) r e less =
      in_m r (λ x. absurd (omega (arith, x, less, is_over))) ∙ all.set j r e (omega (arith, less, long_f)) ∙ ap (λ n. Some (jump_where decides n)) is_end

  module _ (below : (j r : ℕ) → slice_get (head ∷ held) j ≡ Some r → r < length a.ops) where
    past : (i : ℕ) → length a.ops ≤ i → (over ≡ i → ⊥) → slice_get m.ops i ≡ slice_get d.ops i
    past i low apart =
        in_m i apart ∙ all.kept i (missed_above held (length a.ops) (λ j r e. below (suc j) r e) i low) ∙ in_f i (λ e. absurd (omega (arith, e, low, below 0 head refl)))

    none_there : slice_get m.ops (length a.ops) ≡ Some (Push (Value.Bool (not decides)))
    none_there =
        past (length a.ops) (omega arith) (λ e. absurd (omega (arith, e, is_over))) ∙ q.ops.same (length a.ops) (omega arith) (omega (arith, p.added.1, h.put.longer))
        ∙ h.put.ops.same (length a.ops) (omega arith) (omega (arith, p.added.1)) ∙ p.added.0

    over_there : slice_get m.ops (length a.ops + 1) ≡ Some (Jump (length a.ops + 1 + 1 + 1))
    over_there =
        ap (λ k. slice_get m.ops k) (sym is_over) ∙ ap (λ o. slice_get o over) l.set.ops ∙ slice_get-set_same g.ops over (Jump (length g.ops)) (omega (arith, long_g, is_over))
        ∙ ap (λ n. Some (Jump n)) long_g

    end_there : slice_get m.ops (length a.ops + 1 + 1) ≡ Some (Push (Value.Bool decides))
    end_there =
        past (length a.ops + 1 + 1) (omega arith) (λ e. absurd (omega (arith, e, is_over))) ∙ ap (λ k. slice_get d.ops k) (sym (h.put.added.1 ∙ ap (λ n. n + 1) p.added.1)) ∙ q.added.0

  slots_m : KeepsSlots d.names m.names
  slots_m = subst (λ n. KeepsSlots d.names n) (sym (l.set.names ∙ same ∙ s.names)) (same_slots d.names)

  pub is_decided : IsDecided decides head held a m
  is_decided = record {
    long = ap length l.set.ops ∙ length-set g.ops over (Jump (length g.ops)) ∙ long_g;
    kept = kept_so;
    decided = decided_so;
    behind = λ below. (none_there below, over_there below, end_there below);
    names = record { slot = λ i n e. slots_m.slot i n (q.names.slot i n (h.put.names.slot i n (p.names.slot i n e))) };
    distinct = λ y. subst AreDistinct (sym (l.set.names ∙ same ∙ s.names)) (q.distinct (h.put.distinct (p.distinct y)));
  }

-- the count of values as a number of 32 bits
pub join_counted : (a b : Emitter) (count n line : ℕ) → n ≡ count → Emits a b (IsOp (Join n line)) → Emits a b (IsOp (Join count line))
join_counted a b count n line same p = subst (λ k. Emits a b (IsOp (Join k line))) same p

-- ---- all other nodes

module _ (e : Expr) where
  pub or_emitted : (a b c d f m : Emitter) (head : ℕ) (held held' : List ℕ) (first got : Expr) (more these : List Expr) → e.node ≡ node.Or first more → got ≡ first → these ≡ more
      → Emits a b (IsOp (OneUnit e.line)) → Emits b c (IsExpr got) → IsHeld c d head → Emits d f (AreHeld IsExpr these held) → held' ≡ held → IsDecided true head held' f m
      → Emits a m (IsExpr e)
  or_emitted a b c d f m head held held' first got more these is same all p q h r slice w' =
      let w = subst (λ x. IsDecided true head x f m) slice w' in
      let q' = renamed {a = b} {b = c} same q in
      let r' = subst (λ x. Emits d f (AreHeld IsExpr x held)) all r in
      let layer = open_node (Node-F.Or first more) is (rolls-Or first more) in
      all_decided true a b c d f m e.line head held first more p q' h r' w e
      (λ clean. let parts = clean_within e (Node-F.Or first more) layer clean in
      let three = w.behind (below true a b c d f m e.line head held first more p q' h r' w) in
      or_code first more layer (unit_there true a b c d f m e.line head held first more p q' h r' w)
      (operands_there true a b c d f m e.line head held first more p q' h r' w (clean_head first more parts) (clean_tail first more parts)) three.0 three.1 three.2)

  pub and_emitted : (a b c d f m : Emitter) (head : ℕ) (held held' : List ℕ) (first got : Expr) (more these : List Expr) → e.node ≡ node.And first more → got ≡ first → these ≡ more
      → Emits a b (IsOp (OneUnit e.line)) → Emits b c (IsExpr got) → IsHeld c d head → Emits d f (AreHeld IsExpr these held) → held' ≡ held → IsDecided false head held' f m
      → Emits a m (IsExpr e)
  and_emitted a b c d f m head held held' first got more these is same all p q h r slice w' =
      let w = subst (λ x. IsDecided false head x f m) slice w' in
      let q' = renamed {a = b} {b = c} same q in
      let r' = subst (λ x. Emits d f (AreHeld IsExpr x held)) all r in
      let layer = open_node (Node-F.And first more) is (rolls-And first more) in
      all_decided false a b c d f m e.line head held first more p q' h r' w e
      (λ clean. let parts = clean_within e (Node-F.And first more) layer clean in
      let three = w.behind (below false a b c d f m e.line head held first more p q' h r' w) in
      and_code first more layer (unit_there false a b c d f m e.line head held first more p q' h r' w)
      (operands_there false a b c d f m e.line head held first more p q' h r' w (clean_head first more parts) (clean_tail first more parts)) three.0 three.1 three.2)

  pub group_emitted : (a b c : Emitter) (inner got : Expr) → e.node ≡ node.Group inner → got ≡ inner
      → Emits a b (IsOp (OneUnit e.line)) → Emits b c (IsExpr got) → Emits a c (IsExpr e)
  group_emitted a b c inner got is same p q =
      emits_as a c (Then (IsOp (OneUnit e.line)) (IsExpr inner)) (IsExpr e)
      (λ ops names at to h clean.
      let layer = open_node (Node-F.Group inner) is (rolls-Group inner) in
      group_code inner layer h.1.0 (moved_expr (h.2 (clean_head inner [] (clean_within e (Node-F.Group inner) layer clean))) h.1.1))
      (emits_then a b c _ _ (op_stable _) p (renamed {a = b} {b = c} same q))

  pub not_emitted : (a b c d : Emitter) (inner got : Expr) → e.node ≡ node.Not inner → got ≡ inner
      → Emits a b (IsOp (OneUnit e.line)) → Emits b c (IsExpr got) → Emits c d (IsOp Not) → Emits a d (IsExpr e)
  not_emitted a b c d inner got is same p q r =
      emits_as a d (Then (IsOp (OneUnit e.line)) (Then (IsExpr inner) (IsOp Not))) (IsExpr e)
      (λ ops names at to h clean.
      let layer = open_node (Node-F.Not inner) is (rolls-Not inner) in
      ends_at (not_code inner layer h.1.0 (moved_expr (h.2.1 (clean_head inner [] (clean_within e (Node-F.Not inner) layer clean))) h.1.1) h.2.2.0) h.2.2.1)
      (emits_then a b d _ _ (op_stable _) p (emits_then b c d _ _ (expr_stable inner) (renamed {a = b} {b = c} same q) r))

  pub negate_emitted : (a b c d f : Emitter) (inner got : Expr) → e.node ≡ node.Negate inner → got ≡ inner
      → Emits a b (IsOp (OneUnit e.line)) → Emits b c (IsOp (Push (Value.Int (pos 0)))) → Emits c d (IsExpr got) → Emits d f (IsOp (Operate binary.Subtract e.line)) → Emits a f (IsExpr e)
  negate_emitted a b c d f inner got is same p q r s =
      emits_as a f (Then (IsOp (OneUnit e.line)) (Then (IsOp (Push (Value.Int (pos 0)))) (Then (IsExpr inner) (IsOp (Operate binary.Subtract e.line))))) (IsExpr e)
      (λ ops names at to h clean.
      let layer = open_node (Node-F.Negate inner) is (rolls-Negate inner) in
      ends_at (negate_code inner layer h.1.0 (moved_op ops _ _ _ h.2.1.0 h.1.1)
      (moved_expr (h.2.2.1 (clean_head inner [] (clean_within e (Node-F.Negate inner) layer clean))) (h.2.1.1 ∙ ap (λ n. n + 1) h.1.1)) h.2.2.2.0) h.2.2.2.1)
      (emits_then a b f _ _ (op_stable _) p (emits_then b c f _ _ (op_stable _) q (emits_then c d f _ _ (expr_stable inner) (renamed {a = c} {b = d} same r) s)))

  pub chain_emitted : (a b c d : Emitter) (first got : Expr) (links these : List Link) → e.node ≡ node.Chain first links → got ≡ first → these ≡ links
      → Emits a b (IsOp (OneUnit e.line)) → Emits b c (IsExpr got) → Emits c d (AreLinks e.line these) → Emits a d (IsExpr e)
  chain_emitted a b c d first got links these is same all p q r =
      emits_as a d (Then (IsOp (OneUnit e.line)) (Then (IsExpr first) (AreLinks e.line links))) (IsExpr e)
      (λ ops names at to h clean.
      let layer = open_node (Node-F.Chain first links) is (rolls-Chain first links) in
      let parts = clean_within e (Node-F.Chain first links) layer clean in
      chain_code first links layer h.1.0 (moved_expr (h.2.1 (clean_head first (operands_of links) parts)) h.1.1) (h.2.2 (clean_tail first (operands_of links) parts)))
      (emits_then a b d _ _ (op_stable _) p (emits_then b c d _ _ (expr_stable first) (renamed {a = b} {b = c} same q) (subst (λ x. Emits c d (AreLinks e.line x)) all r)))

  pub join_emitted : (a b c d : Emitter) (es these : List Expr) (count : ℕ) → e.node ≡ node.Join es → these ≡ es → count ≡ length es
      → Emits a b (IsOp (OneUnit e.line)) → Emits b c (AreValues these) → Emits c d (IsOp (Join count e.line)) → Emits a d (IsExpr e)
  join_emitted a b c d es these count is all many p q r =
      emits_as a d (Then (IsOp (OneUnit e.line)) (Then (AreValues es) (IsOp (Join count e.line)))) (IsExpr e)
      (λ ops names at to h clean.
      let layer = open_node (Node-F.Join es) is (rolls-Join es) in
      ends_at (join_code es layer h.1.0 (subst (λ k. AllCode ops names k es h.2.0) h.1.1 (h.2.1 (clean_within e (Node-F.Join es) layer clean)))
      (h.2.2.0 ∙ ap (λ n. Some (Join n e.line)) many)) h.2.2.1)
      (emits_then a b d _ _ (op_stable _) p (emits_then b c d _ _ (values_stable es) (subst (λ x. Emits b c (AreValues x)) all q) r))

  pub choice_emitted : (a b c d f g k m : Emitter) (branch over : ℕ) (test first second got_test got_first got_second : Expr) → e.node ≡ node.Cond test first second
      → got_test ≡ test → got_first ≡ first → got_second ≡ second
      → Emits a b (IsOp (OneUnit e.line)) → Emits b c (IsExpr got_test) → IsHeld c d branch → Emits d f (IsExpr got_first) → IsElse branch over f g → Emits g k (IsExpr got_second)
      → IsLanded over None k m → Emits a m (IsExpr e)
  choice_emitted a b c d f g k m branch over test first second got_test got_first got_second is same_test same_first same_second p q h r o s l =
      emits_as a m (Then (IsOp (OneUnit e.line)) (Then (IsExpr test) (Then (Ahead (λ n. JumpUnless (n + 1)) (IsExpr first)) (Ahead (λ n. Jump n) (IsExpr second))))) (IsExpr e)
      (λ ops names at to t clean.
      let layer = open_node (Node-F.Cond test first second) is (rolls-Cond test first second) in
      let parts = clean_within e (Node-F.Cond test first second) layer clean in
      let rest = clean_tail test (first ∷ second ∷ []) parts in
      let left = t.2.2.1 in
      let right = t.2.2.2 in
      choice_code test first second layer t.1.0 (moved_expr (t.2.1 (clean_head test (first ∷ second ∷ []) parts)) t.1.1) left.0 (omega (arith, left.1))
      (left.2 (clean_head first (second ∷ []) rest)) right.0 right.1 (right.2 (clean_head second [] (clean_tail first (second ∷ []) rest))))
      (emits_then a b m _ _ (op_stable _) p (emits_then b c m _ _ (expr_stable test) (renamed {a = b} {b = c} same_test q)
      (emits_then c o.between m _ _ (ahead_stable (λ n. JumpUnless (n + 1)) (IsExpr first) (expr_stable first))
      (filled_in c d f o.between (λ n. JumpUnless (n + 1)) branch (length f.ops) (IsExpr first) (expr_stable first) h (renamed {a = d} {b = f} same_first r) refl o.set)
      (filled_in o.between g k m (λ n. Jump n) over (length k.ops) (IsExpr second) (expr_stable second) o.held (renamed {a = g} {b = k} same_second s) refl l.set))))

  pub assign_emitted : (a b c d f : Emitter) (right got : Expr) (place : Place) → e.node ≡ node.Assign place right → got ≡ right
      → Emits a b (IsOp (OneUnit e.line)) → Emits b c (IsExpr got) → Emits c d (IsOp Copy) → Emits d f (IsMove e.line place.name) → Emits a f (IsExpr e)
  assign_emitted a b c d f right got place is same p q r s =
      emits_as a f (Then (IsOp (OneUnit e.line)) (Then (IsExpr right) (Then (IsOp Copy) (IsMove e.line place.name)))) (IsExpr e)
      (λ ops names at to h clean.
      let layer = open_node (Node-F.Assign place right) is (rolls-Assign place right) in
      let none : place.steps ≡ [] = no_steps place.steps (clean_built e (Node-F.Assign place right) layer clean) in
      let move = h.2.2.2 in
      ends_at (assign_code place.name move.0 right (open_node _ (is ∙ ap (λ x. node.Assign (record { name = place.name; steps = x }) right) none) (rolls-Assign (variable_place place.name) right))
      move.1 h.1.0 (moved_expr (h.2.1 (clean_head right [] (clean_within e (Node-F.Assign place right) layer clean))) h.1.1) h.2.2.1.0 (moved_op ops _ _ _ move.2 h.2.2.1.1))
      (move.3 ∙ ap (λ n. n + 1) h.2.2.1.1))
      (emits_then a b f _ _ (op_stable _) p (emits_then b c f _ _ (expr_stable right) (renamed {a = b} {b = c} same q) (emits_then c d f _ _ (op_stable _) r s)))

  pub change_emitted : (a b c d : Emitter) (how : How) (right got : Expr) (place : Place) → e.node ≡ node.Change place how right → got ≡ right
      → Emits a b (IsOp (OneUnit e.line)) → Emits b c (IsExpr got) → Emits c d (IsChange how e.line place.name) → Emits a d (IsExpr e)
  change_emitted a b c d how right got place is same p q r =
      emits_as a d (Then (IsOp (OneUnit e.line)) (Then (IsExpr right) (IsChange how e.line place.name))) (IsExpr e)
      (λ ops names at to h clean.
      let layer = open_node (Node-F.Change place how right) is (rolls-Change place how right) in
      let none : place.steps ≡ [] = no_steps place.steps (clean_built e (Node-F.Change place how right) layer clean) in
      let change = h.2.2 in
      ends_at (change_code place.name change.0 how right
      (open_node _ (is ∙ ap (λ x. node.Change (record { name = place.name; steps = x }) how right) none) (rolls-Change (variable_place place.name) how right))
      change.1 h.1.0 (moved_expr (h.2.1 (clean_head right [] (clean_within e (Node-F.Change place how right) layer clean))) h.1.1) change.2) change.3)
      (emits_then a b d _ _ (op_stable _) p (emits_then b c d _ _ (expr_stable right) (renamed {a = b} {b = c} same q) r))

  pub moved_emitted : (a b c d : Emitter) (right got : Expr) (place : Place) → e.node ≡ node.Assign place right → got ≡ right
      → Emits a b (IsOp (OneUnit e.line)) → Emits b c (IsExpr got) → Emits c d (IsMove e.line place.name) → Emits a d (IsEffect e)
  moved_emitted a b c d right got place is same p q r =
      emits_as a d (Then (IsOp (OneUnit e.line)) (Then (IsExpr right) (IsMove e.line place.name))) (IsEffect e)
      (λ ops names at to h clean.
      let layer = open_node (Node-F.Assign place right) is (rolls-Assign place right) in
      let none : place.steps ≡ [] = no_steps place.steps (clean_built e (Node-F.Assign place right) layer clean) in
      let move = h.2.2 in
      subst (λ k. EffectCode ops names at e k) (sym move.3)
      (moved_code place.name move.0 right (open_node _ (is ∙ ap (λ x. node.Assign (record { name = place.name; steps = x }) right) none) (rolls-Assign (variable_place place.name) right))
      move.1 h.1.0 (moved_expr (h.2.1 (clean_head right [] (clean_within e (Node-F.Assign place right) layer clean))) h.1.1) move.2))
      (emits_then a b d _ _ (op_stable _) p (emits_then b c d _ _ (expr_stable right) (renamed {a = b} {b = c} same q) r))

  pub dropped_emitted : (a b c : Emitter) → Emits a b (IsExpr e) → Emits b c (IsOp Pop) → Emits a c (IsEffect e)
  dropped_emitted a b c p q =
      emits_as a c (Then (IsExpr e) (IsOp Pop)) (IsEffect e)
      (λ ops names at to h clean. subst (λ k. EffectCode ops names at e k) (sym h.2.1) (dropped_code e (h.1 clean) h.2.0))
      (emits_then a b c _ _ (expr_stable e) p q)

  -- a node that is not built
  pub unbuilt_emitted : (a b : Emitter) → is_built (node_of e) ≡ false → Emits a b (IsOp (OneUnit e.line)) → Emits a b (IsExpr e)
  unbuilt_emitted a b not_built p = emits_as a b (IsOp (OneUnit e.line)) (IsExpr e) (λ ops names at to h clean. absurd (both (is_built (node_of e)) (clean_built e (node_of e) refl clean) not_built)) p
    where
      both : (b : Bool) → b ≡ true → b ≡ false → ⊥
      both b holds fails = cc

-- ---- lists

links_snoc : {ops : List Op} {names : List Bytes} {line at : ℕ} {links : List Link} {mid : ℕ} → LinksCode ops names line at links mid → (l : Link) (to : ℕ)
    → ExprCode ops names mid l.operand to → slice_get ops to ≡ Some (operator_op l.op line) → LinksCode ops names line at (links ++ l ∷ []) (to + 1)
links_snoc no_links l to d o = link_code l [] d o no_links
links_snoc (link_code k ks e p ds) l to d o = link_code k (ks ++ l ∷ []) e p (links_snoc ds l to d o)

pub no_links_emitted : (a : Emitter) (line : ℕ) → Emits a a (AreLinks line [])
no_links_emitted a line = emits_nothing a (AreLinks line []) (λ clean. no_links)

pub links_go_on : (a b c d : Emitter) (line : ℕ) (all : List Link) (i : ℕ) (l : Link) (op : Op) → i < length all → l ≡ get_or all i l → op ≡ operator_op l.op line
    → Emits a b (AreLinks line (take i all)) → Emits b c (IsExpr l.operand) → Emits c d (IsOp op) → Emits a d (AreLinks line (take (i + 1) all))
links_go_on a b c d line all i l op within is same p q r =
    one_more (λ ls. Emits a d (AreLinks line ls)) all i l within is
    (emits_as a d (Then (AreLinks line (take i all)) (Then (IsExpr l.operand) (IsOp op))) (AreLinks line (take i all ++ l ∷ []))
    (λ ops names at to h clean.
    let parts = subst AreCleanExprs (operands_append (take i all) l) clean in
    subst (λ k. LinksCode ops names line at (take i all ++ l ∷ []) k) (sym h.2.2.1)
    (links_snoc (h.1 (clean_front (operands_of (take i all)) (l.operand ∷ []) parts)) l h.2.0 (h.2.1 (clean_last (operands_of (take i all)) l.operand parts)) (h.2.2.0 ∙ ap Some same)))
    (emits_then a b d _ _ (links_stable line (take i all)) p (emits_then b c d _ _ (expr_stable l.operand) q r)))

values_snoc : {ops : List Op} {names : List Bytes} {at : ℕ} {es : List Expr} {mid : ℕ} → AllCode ops names at es mid → (e : Expr) (to : ℕ) → ExprCode ops names mid e to
    → AllCode ops names at (es ++ e ∷ []) to
values_snoc no_values e to d = value_code e [] d no_values
values_snoc (value_code k ks p ds) e to d = value_code k (ks ++ e ∷ []) p (values_snoc ds e to d)

pub no_values_emitted : (a : Emitter) → Emits a a (AreValues [])
no_values_emitted a = emits_nothing a (AreValues []) (λ clean. no_values)

pub values_go_on : (a b c : Emitter) (all : List Expr) (i : ℕ) (e : Expr) → i < length all → e ≡ get_or all i e
    → Emits a b (AreValues (take i all)) → Emits b c (IsExpr e) → Emits a c (AreValues (take (i + 1) all))
values_go_on a b c all i e within is p q =
    one_more (λ es. Emits a c (AreValues es)) all i e within is
    (emits_as a c (Then (AreValues (take i all)) (IsExpr e)) (AreValues (take i all ++ e ∷ []))
    (λ ops names at to h clean. values_snoc (h.1 (clean_front (take i all) (e ∷ []) clean)) e to (h.2 (clean_last (take i all) e clean)))
    (emits_then a b c _ _ (values_stable (take i all)) p q))

effects_snoc : {ops : List Op} {names : List Bytes} {at : ℕ} {es : List Expr} {mid : ℕ} → EffectsCode ops names at es mid → (e : Expr) (to : ℕ) → EffectCode ops names mid e to
    → EffectsCode ops names at (es ++ e ∷ []) to
effects_snoc no_effects e to d = effect_code e [] d no_effects
effects_snoc (effect_code k ks p ds) e to d = effect_code k (ks ++ e ∷ []) p (effects_snoc ds e to d)

pub no_effects_emitted : (a : Emitter) → Emits a a (AreEffects [])
no_effects_emitted a = emits_nothing a (AreEffects []) (λ clean. no_effects)

pub effects_go_on : (a b c : Emitter) (all : List Expr) (i : ℕ) (e : Expr) → i < length all → e ≡ get_or all i e
    → Emits a b (AreEffects (take i all)) → Emits b c (IsEffect e) → Emits a c (AreEffects (take (i + 1) all))
effects_go_on a b c all i e within is p q =
    one_more (λ es. Emits a c (AreEffects es)) all i e within is
    (emits_as a c (Then (AreEffects (take i all)) (IsEffect e)) (AreEffects (take i all ++ e ∷ []))
    (λ ops names at to h clean. effects_snoc (h.1 (clean_front (take i all) (e ∷ []) clean)) e to (h.2 (clean_last (take i all) e clean)))
    (emits_then a b c _ _ (effects_stable (take i all)) p q))

parts_snoc_text : {ops : List Op} {names : List Bytes} {at : ℕ} {ps : List Part} {mid : ℕ} → PartsCode ops names at ps mid → (bs : Bytes) → slice_get ops mid ≡ Some (Push (Value.Text bs))
    → PartsCode ops names at (ps ++ part.Text bs ∷ []) (mid + 1)
parts_snoc_text no_parts bs h = text_part bs [] h no_parts
parts_snoc_text (text_part cs ps g ds) bs h = text_part cs (ps ++ part.Text bs ∷ []) g (parts_snoc_text ds bs h)
parts_snoc_text (variable_part name slot ps known g ds) bs h = variable_part name slot (ps ++ part.Text bs ∷ []) known g (parts_snoc_text ds bs h)

parts_snoc_variable : {ops : List Op} {names : List Bytes} {at : ℕ} {ps : List Part} {mid : ℕ} → PartsCode ops names at ps mid → (name : Bytes) (slot : ℕ)
    → slice_get names slot ≡ Some name → slice_get ops mid ≡ Some (Load slot) → PartsCode ops names at (ps ++ part.Var name ∷ []) (mid + 1)
parts_snoc_variable no_parts name slot known h = variable_part name slot [] known h no_parts
parts_snoc_variable (text_part cs ps g ds) name slot known h = text_part cs (ps ++ part.Var name ∷ []) g (parts_snoc_variable ds name slot known h)
parts_snoc_variable (variable_part n s ps k g ds) name slot known h = variable_part n s (ps ++ part.Var name ∷ []) k g (parts_snoc_variable ds name slot known h)

pub no_parts_emitted : (a : Emitter) → Emits a a (AreParts [])
no_parts_emitted a = emits_nothing a (AreParts []) no_parts

pub text_goes_on : (a b c : Emitter) (all : List Part) (i : ℕ) (p : Part) (bs : Bytes) (v : Value) → i < length all → p ≡ get_or all i p → p ≡ part.Text bs → v ≡ Value.Text bs
    → Emits a b (AreParts (take i all)) → Emits b c (IsOp (Push v)) → Emits a c (AreParts (take (i + 1) all))
text_goes_on a b c all i p bs v within is is_text value q r =
    one_more (λ ps. Emits a c (AreParts ps)) all i p within is
    (subst (λ x. Emits a c (AreParts (take i all ++ x ∷ []))) (sym is_text)
    (emits_as a c (Then (AreParts (take i all)) (IsOp (Push v))) (AreParts (take i all ++ part.Text bs ∷ []))
    (λ ops names at to h. subst (λ k. PartsCode ops names at (take i all ++ part.Text bs ∷ []) k) (sym h.2.1) (parts_snoc_text h.1 bs (h.2.0 ∙ ap (λ x. Some (Push x)) value)))
    (emits_then a b c _ _ (parts_stable (take i all)) q r)))

pub variable_goes_on : (a b c d : Emitter) (all : List Part) (i : ℕ) (p : Part) (name : Bytes) (slot : ℕ) → i < length all → p ≡ get_or all i p → p ≡ part.Var name
    → Emits a b (AreParts (take i all)) → Emits b c (IsSlot name slot) → Emits c d (IsOp (Load slot)) → Emits a d (AreParts (take (i + 1) all))
variable_goes_on a b c d all i p name slot within is is_variable q r s =
    one_more (λ ps. Emits a d (AreParts ps)) all i p within is
    (subst (λ x. Emits a d (AreParts (take i all ++ x ∷ []))) (sym is_variable)
    (emits_as a d (Then (AreParts (take i all)) (Then (IsSlot name slot) (IsOp (Load slot)))) (AreParts (take i all ++ part.Var name ∷ []))
    (λ ops names at to h. subst (λ k. PartsCode ops names at (take i all ++ part.Var name ∷ []) k) (sym (h.2.2.1 ∙ ap (λ n. n + 1) h.2.1.1))
    (parts_snoc_variable h.1 name slot h.2.1.0 (moved_op ops _ _ _ h.2.2.0 h.2.1.1)))
    (emits_then a b d _ _ (parts_stable (take i all)) q (emits_then b c d _ _ (slot_stable name slot) r s))))
