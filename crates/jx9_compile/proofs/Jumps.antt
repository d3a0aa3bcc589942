-- Jumps.
use Rattle.std.proofs.Common.{◌≡◌, ℕ, suc, ◌+◌, ◌<◌, List, ◌∷◌, Some, refl, ap, ◌∙◌}
use Rattle.std.specs.Prelude.{Bool, true, false, not, if◌then◌else◌, slice_get}
use Rattle.std.proofs.lemmas.Bool.{lt-ltb}
use Rattle.uq_value.specs.Data.{Bytes}
use Rattle.uq_value.specs.Same.{alike}
use Rattle.uq_value.specs.Truth.{truth}
use Rattle.uq_value.specs.declared.value.Value.{Value}
use Rattle.jx9_meaning.specs.Meaning.{Spent}
use Rattle.jx9_meaning.specs.Script.{ended}
use Rattle.jx9_meaning.specs.World.{State}
use Rattle.jx9_compile.specs.Emitted.{jump_where}
use Rattle.jx9_compile.specs.Machine.{Frame, Machine, ops_of, at_place}
use Rattle.jx9_compile.specs.Run.{Result', is_unit, may_jump, jumped, jumped_if, run}
use Rattle.jx9_compile.specs.declared.code.Code.{Code}
use Rattle.jx9_compile.specs.declared.op.Op.TheVariants.{Jump, JumpUnless, JumpIf}
use Rattle.jx9_compile.proofs.Leads.{machine, step}

same_true : (t : Bool) → t ≡ alike t true
same_true true = refl
same_true false = refl

same_false : (t : Bool) → not t ≡ alike t false
same_false true = refl
same_false false = refl

may_if : (b u : Bool) → u ≡ true → (if b then true else u) ≡ true
may_if true u h = refl
may_if false u h = h

module _ (code : Code) (function : ℕ) (names : List Bytes) where
  jumps : (m : Machine) (to k : ℕ) → may_jump code m to ≡ true → jumped code (run code k) m to ≡ run code k (at_place to m)
  jumps m to k h = ap (λ b. if b then run code k (at_place to m) else Some (ended Spent m.outside)) h

  ahead : (at to : ℕ) (stack : List Value) (callers : List Frame) (s : State) → at < to → may_jump code (machine code function names at stack callers s) to ≡ true
  ahead at to stack callers s h = ap (λ b. if b then true else is_unit (slice_get (ops_of code function) to)) (lt-ltb at to h)

  back : (at to : ℕ) (stack : List Value) (callers : List Frame) (s : State) → is_unit (slice_get (ops_of code function) to) ≡ true
      → may_jump code (machine code function names at stack callers s) to ≡ true
  back at to stack callers s h = may_if _ (is_unit (slice_get (ops_of code function) to)) h

  jump_runs : (at to : ℕ) (stack : List Value) (callers : List Frame) (s : State) → slice_get (ops_of code function) at ≡ Some (Jump to)
      → may_jump code (machine code function names at stack callers s) to ≡ true
      → (k : ℕ) → run code (suc k) (machine code function names at stack callers s) ≡ run code k (machine code function names to stack callers s)
  jump_runs at to stack callers s h may k =
      step code function names at (Jump to) stack callers s h k ∙ jumps (machine code function names at stack callers s) to k may

  pub jump_ahead : (at to : ℕ) (stack : List Value) (callers : List Frame) (s : State) → slice_get (ops_of code function) at ≡ Some (Jump to) → at < to
      → (k : ℕ) → run code (suc k) (machine code function names at stack callers s) ≡ run code k (machine code function names to stack callers s)
  jump_ahead at to stack callers s h less k = jump_runs at to stack callers s h (ahead at to stack callers s less) k

  pub jump_back : (at to : ℕ) (stack : List Value) (callers : List Frame) (s : State) → slice_get (ops_of code function) at ≡ Some (Jump to)
      → is_unit (slice_get (ops_of code function) to) ≡ true
      → (k : ℕ) → run code (suc k) (machine code function names at stack callers s) ≡ run code k (machine code function names to stack callers s)
  jump_back at to stack callers s h unit k = jump_runs at to stack callers s h (back at to stack callers s unit) k

  -- drops the value, and jumps ahead or goes on
  branches : (t : Bool) (at to : ℕ) (v : Value) (stack : List Value) (callers : List Frame) (s : State) → at < to
      → (k : ℕ) → jumped_if t code (run code k) (machine code function names at (v ∷ stack) callers s) to
      ≡ (if t then run code k (machine code function names to stack callers s) else run code k (machine code function names (at + 1) stack callers s))
  branches true at to v stack callers s less k = jumps (machine code function names at stack callers s) to k (ahead at to stack callers s less)
  branches false at to v stack callers s less k = refl

  pub jump_where_runs : (decides : Bool) (at to : ℕ) (v : Value) (stack : List Value) (callers : List Frame) (s : State)
      → slice_get (ops_of code function) at ≡ Some (jump_where decides to) → at < to
      → (k : ℕ) → run code (suc k) (machine code function names at (v ∷ stack) callers s)
      ≡ (if alike (truth v) decides then run code k (machine code function names to stack callers s) else run code k (machine code function names (at + 1) stack callers s))
  jump_where_runs true at to v stack callers s h less k =
      step code function names at (JumpIf to) (v ∷ stack) callers s h k ∙ branches (truth v) at to v stack callers s less k
      ∙ ap (λ t. if t then run code k (machine code function names to stack callers s) else run code k (machine code function names (at + 1) stack callers s)) (same_true (truth v))
  jump_where_runs false at to v stack callers s h less k =
      step code function names at (JumpUnless to) (v ∷ stack) callers s h k ∙ branches (not (truth v)) at to v stack callers s less k
      ∙ ap (λ t. if t then run code k (machine code function names to stack callers s) else run code k (machine code function names (at + 1) stack callers s)) (same_false (truth v))

  opposite : (t : Bool) (x y : Result') → (if not t then x else y) ≡ (if t then y else x)
  opposite true x y = refl
  opposite false x y = refl

  pub jump_unless_runs : (at to : ℕ) (v : Value) (stack : List Value) (callers : List Frame) (s : State)
      → slice_get (ops_of code function) at ≡ Some (JumpUnless to) → at < to
      → (k : ℕ) → run code (suc k) (machine code function names at (v ∷ stack) callers s)
      ≡ (if truth v then run code k (machine code function names (at + 1) stack callers s) else run code k (machine code function names to stack callers s))
  jump_unless_runs at to v stack callers s h less k =
      step code function names at (JumpUnless to) (v ∷ stack) callers s h k ∙ branches (not (truth v)) at to v stack callers s less k
      ∙ opposite (truth v) (run code k (machine code function names to stack callers s)) (run code k (machine code function names (at + 1) stack callers s))
