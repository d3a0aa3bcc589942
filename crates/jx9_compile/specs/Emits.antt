-- What a part of the compiler adds to a function's ops.
use Rattle.std.specs.Prelude.{◌≡◌, ℕ, ◌+◌, ◌<◌, ◌≤◌, Bool, true, not, is_some, List, [], ◌∷◌, length, Option, Some, None, slice_get, slice_set}
use Rattle.uq_value.specs.Data.{Bytes}
use Rattle.uq_value.specs.declared.value.Value.{Value}
use Rattle.jx9_syntax.specs.declared.expression.Change.{Change as How}
use Rattle.jx9_syntax.specs.declared.expression.Expr.{Expr}
use Rattle.jx9_syntax.specs.declared.expression.Link.{Link}
use Rattle.jx9_syntax.specs.declared.expression.Node.{Node}
use Rattle.jx9_syntax.specs.declared.parts.Part.{Part}
use Rattle.jx9_syntax.specs.declared.statement.Branch.{Branch}
use Rattle.jx9_syntax.specs.declared.statement.Statement.{Statement}
use Rattle.jx9_compile.specs.Emitted.{Loop, jump_where, PartsCode, ExprCode, AllCode, LinksCode, PrintsCode, EffectCode, EffectsCode, TestCode, StatementCode, SequenceCode, BranchesCode}
use Rattle.jx9_compile.specs.Holes.{hole, Misses, AreSet}
use Rattle.jx9_compile.specs.Problems.{exprs_of, operands_of, statements_of, IsCleanExpr, AreCleanExprs, IsCleanStatement, AreCleanStatements}
use Rattle.jx9_compile.specs.Slots.{AreDistinct, KeepsSlots}
use Rattle.jx9_compile.specs.declared.emitting.Emitter.{Emitter}
use Rattle.jx9_compile.specs.declared.op.Op.{Op}
use Rattle.jx9_compile.specs.declared.op.Op.TheVariants.{Unit as OneUnit, Push, Assign, Change, Jump, JumpUnless}

-- the same ops from one place up to another
pub record IsSame (ops ops' : List Op) (at to : ℕ) : Type 0 where
  pub same : (i : ℕ) → at ≤ i → i < to → slice_get ops' i ≡ slice_get ops i

-- that ops, in a function with these names, stand for something from a place up to another
abbrev pub Stands : Type 1
Stands = List Op → List Bytes → ℕ → ℕ → Type 0

abbrev pub IsOp : Op → Stands
IsOp op ops names at to = (slice_get ops at ≡ Some op) × (to ≡ at + 1)

abbrev pub IsSlot : Bytes → ℕ → Stands
IsSlot name slot ops names at to = (slice_get names slot ≡ Some name) × (to ≡ at)

-- an op on the slot of a variable
abbrev pub IsOnSlot : (ℕ → Op) → Bytes → Stands
IsOnSlot op name ops names at to = (slot : ℕ) × (slice_get names slot ≡ Some name) × (slice_get ops at ≡ Some (op slot)) × (to ≡ at + 1)

-- the top is moved into a variable
abbrev pub IsMove : ℕ → Bytes → Stands
IsMove line name = IsOnSlot (λ slot. Assign slot line) name

-- a variable is changed by the top
abbrev pub IsChange : How → ℕ → Bytes → Stands
IsChange how line name = IsOnSlot (λ slot. Change slot how line) name

-- ---- expressions, where nothing in them keeps them from being compiled

abbrev pub AreParts : List Part → Stands
AreParts ps ops names at to = PartsCode ops names at ps to

abbrev pub IsExpr : Expr → Stands
IsExpr e ops names at to = IsCleanExpr e → ExprCode ops names at e to

-- behind its unit
abbrev pub IsBehind : ℕ → Node → Stands
IsBehind line node ops names at to = (e : Expr) (start : ℕ) → e.line ≡ line → e.node ≡ node → IsCleanExpr e → at ≡ start + 1
    → slice_get ops start ≡ Some (OneUnit line) → ExprCode ops names start e to

abbrev pub AreValues : List Expr → Stands
AreValues es ops names at to = AreCleanExprs es → AllCode ops names at es to

abbrev pub AreLinks : ℕ → List Link → Stands
AreLinks line links ops names at to = AreCleanExprs (operands_of links) → LinksCode ops names line at links to

abbrev pub IsEffect : Expr → Stands
IsEffect e ops names at to = IsCleanExpr e → EffectCode ops names at e to

abbrev pub AreEffects : List Expr → Stands
AreEffects es ops names at to = AreCleanExprs es → EffectsCode ops names at es to

abbrev pub ArePrints : List Expr → Stands
ArePrints es ops names at to = AreCleanExprs es → PrintsCode ops names at es to

-- ---- statements

-- the loop around, by the place of its next turn. The place behind it is not known yet.
abbrev pub loop_of : Option ℕ → Option Loop
loop_of None = None
loop_of (Some again) = Some (record { after = hole; again = again })

abbrev pub IsStatement : Option ℕ → Statement → Stands
IsStatement around t ops names at to = IsCleanStatement (is_some around) t → StatementCode ops names (loop_of around) at t to

abbrev pub IsSequence : Option ℕ → List Statement → Stands
IsSequence around ts ops names at to = AreCleanStatements (is_some around) ts → SequenceCode ops names (loop_of around) at ts to

-- a branch of an `if`, which goes on behind its last place where its test is false
abbrev pub IsBranch : Option ℕ → Branch → Stands
IsBranch around b ops names at to = IsCleanExpr b.test → IsCleanStatement (is_some around) b.body
    → (mid : ℕ) × TestCode ops names at (Some b.test) mid (to + 1) × StatementCode ops names (loop_of around) mid b.body to

-- what runs where no test of an `if` is true, if anything
abbrev pub IsOther : Option ℕ → Option Statement → Stands
IsOther around other ops names at to = AreCleanStatements (is_some around) (statements_of other) → BranchesCode ops names (loop_of around) at [] other to

-- a loop's body with the jump back
abbrev pub IsTurn : ℕ → Statement → Stands
IsTurn again body ops names at to = (end : ℕ) × (at ≤ end) × (to ≡ end + 1) × (slice_get ops end ≡ Some (Jump again))
    × (IsCleanStatement true body → StatementCode ops names (Some (record { after = to; again = again })) at body end)

-- the turns of a loop from its test on, if it has one
abbrev pub AreTurns : ℕ → Option Expr → Statement → Stands
AreTurns again e body ops names at to = (mid : ℕ) × (AreCleanExprs (exprs_of e) → TestCode ops names at e mid to) × IsTurn again body ops names mid to

-- the first part of a `for` and its last part, over which it jumps
abbrev pub IsOpening : List Expr → List Expr → ℕ → Stands
IsOpening first last again ops names at to = (mid : ℕ) × (at ≤ mid) × AreEffects first ops names at mid × (slice_get ops mid ≡ Some (Jump to)) × (mid < to)
    × (again ≡ mid + 1) × AreEffects last ops names (mid + 1) to

abbrev pub IsLeaving : Option ℕ → Stands
IsLeaving around ops names at to = (again : ℕ) → around ≡ Some again → (slice_get ops at ≡ Some (Jump hole)) × (to ≡ at + 1) × (at < hole)

abbrev pub IsGoingOn : Option ℕ → Stands
IsGoingOn around ops names at to = (again : ℕ) → around ≡ Some again → (slice_get ops at ≡ Some (Jump again)) × (to ≡ at + 1)

-- ---- pieces, each with a place behind it that is held

pub data Held {A : Type 0} (Is : A → Stands) (ops : List Op) (names : List Bytes) : ℕ → List A → List ℕ → ℕ → Type 0 where
  nothing_held : {at : ℕ} → Held Is ops names at [] [] at
  piece_held : {at p to : ℕ} (a : A) (xs : List A) (ps : List ℕ) → at ≤ p → Is a ops names at p → Held Is ops names (p + 1) xs ps to
      → Held Is ops names at (a ∷ xs) (p ∷ ps) to

abbrev pub AreHeld : {A : Type 0} → (A → Stands) → List A → List ℕ → Stands
AreHeld Is xs ps ops names at to = Held Is ops names at xs ps to

-- ---- steps of the compiler

-- what was there stays, and what is added stands for it
pub record Emits (old new : Emitter) (Is : Stands) : Type 0 where
  pub ops : IsSame old.ops new.ops 0 (length old.ops)
  pub longer : length old.ops ≤ length new.ops
  pub names : KeepsSlots old.names new.names
  pub distinct : AreDistinct old.names → AreDistinct new.names
  pub added : Is new.ops new.names (length old.ops) (length new.ops)

-- the jump where the top's truth is this, or the one that always jumps
abbrev pub jump_when : Option Bool → ℕ → Op
jump_when None to = Jump to
jump_when (Some truth) to = jump_where truth to

-- the next place is held
pub record IsHeld (old new : Emitter) (at : ℕ) : Type 0 where
  pub place : at ≡ length old.ops
  pub known : at < hole
  pub put : Emits old new (IsOp (Jump hole))

-- a place has this op
pub record IsSet (at : ℕ) (op : Op) (old new : Emitter) : Type 0 where
  pub ops : new.ops ≡ slice_set old.ops at op
  pub names : new.names ≡ old.names

-- a held place jumps to what comes next
pub record IsLanded (at : ℕ) (when : Option Bool) (old new : Emitter) : Type 0 where
  pub known : length old.ops < hole
  pub set : IsSet at (jump_when when (length old.ops)) old new

pub record AreAllLanded (places : List ℕ) (old new : Emitter) : Type 0 where
  pub known : length old.ops < hole
  pub ops : AreSet places (Jump (length old.ops)) old.ops new.ops
  pub names : new.names ≡ old.names

-- the end of what runs where a condition is true: its place is held, and the condition leads behind it
pub record IsElse (branch over : ℕ) (old new : Emitter) : Type 0 where
  pub between : Emitter
  pub set : IsSet branch (JumpUnless (length old.ops + 1)) old between
  pub held : IsHeld between new over

-- The held places lead to the one value, and behind the last operand comes the other.
pub record IsDecided (decides : Bool) (head : ℕ) (held : List ℕ) (old new : Emitter) : Type 0 where
  pub long : length new.ops ≡ length old.ops + 1 + 1 + 1
  pub kept : (i : ℕ) → i < length old.ops → Misses i (head ∷ held) → slice_get new.ops i ≡ slice_get old.ops i
  pub decided : (j p : ℕ) → slice_get (head ∷ held) j ≡ Some p → p < length old.ops
      → slice_get new.ops p ≡ Some (jump_where decides (length old.ops + 1 + 1))
  pub behind : ((j p : ℕ) → slice_get (head ∷ held) j ≡ Some p → p < length old.ops)
      → (slice_get new.ops (length old.ops) ≡ Some (Push (Value.Bool (not decides))))
      × (slice_get new.ops (length old.ops + 1) ≡ Some (Jump (length old.ops + 1 + 1 + 1)))
      × (slice_get new.ops (length old.ops + 1 + 1) ≡ Some (Push (Value.Bool decides)))
  pub names : KeepsSlots old.names new.names
  pub distinct : AreDistinct old.names → AreDistinct new.names
