-- Which ops stand for a tree. A place in the ops is a number, so a jump names the place to which it leads.
use Rattle.std.specs.Prelude.{◌≡◌, ℕ, ◌+◌, ◌<◌, Bool, true, false, pos, List, [], ◌∷◌, length, Option, Some, None, slice_get}
use Rattle.uq_value.specs.Data.{Bytes}
use Rattle.uq_value.specs.declared.value.Value.{Value}
use Rattle.jx9_syntax.specs.Trees.{node_of, kind_of}
use Rattle.jx9_syntax.specs.declared.expression.Access.TheOpen.{Node-F}
use Rattle.jx9_syntax.specs.declared.expression.Binary.{Binary}
use Rattle.jx9_syntax.specs.declared.expression.Binary.TheVariants as binary
use Rattle.jx9_syntax.specs.declared.expression.Change.{Change as How}
use Rattle.jx9_syntax.specs.declared.expression.Expr.{Expr}
use Rattle.jx9_syntax.specs.declared.expression.Link.{Link}
use Rattle.jx9_syntax.specs.declared.expression.Literal.{Literal}
use Rattle.jx9_syntax.specs.declared.expression.Place.{Place}
use Rattle.jx9_syntax.specs.declared.expression.Step.{Step}
use Rattle.jx9_syntax.specs.declared.parts.Part.{Part}
use Rattle.jx9_syntax.specs.declared.parts.Part.TheVariants as part
use Rattle.jx9_syntax.specs.declared.statement.Branch.{Branch}
use Rattle.jx9_syntax.specs.declared.statement.Kind.TheOpen.{Kind-F}
use Rattle.jx9_syntax.specs.declared.statement.Statement.{Statement}
use Rattle.jx9_meaning.specs.Expression.{literal_value}
use Rattle.jx9_compile.specs.declared.op.Op.{Op}
use Rattle.jx9_compile.specs.declared.op.Op.TheVariants.{Unit as OneUnit, Push, Pop, Copy, Load, Assign, Count, Change, Add, Operate, Not, Join, Jump, JumpUnless, JumpIf, Print, End}

-- a loop's places: behind it, and where its next turn begins
pub record Loop : Type 0 where
  pub after : ℕ
  pub again : ℕ

-- the op of an operator: a sum has one of its own
abbrev pub operator_op : Binary → ℕ → Op
operator_op binary.Add line = Add line
operator_op operator line = Operate operator line

-- the jump where a value's truth is this
abbrev pub jump_where : Bool → ℕ → Op
jump_where true to = JumpIf to
jump_where false to = JumpUnless to

-- a variable without steps
abbrev pub variable_place : Bytes → Place
variable_place name = record { name = name; steps = [] }

-- in a function with these ops, whose slots hold the variables of these names
module _ (ops : List Op) (names : List Bytes) where
  -- the op at a place
  abbrev pub HasOp : ℕ → Op → Type 0
  HasOp at op = slice_get ops at ≡ Some op

  abbrev pub HasSlot : ℕ → Bytes → Type 0
  HasSlot slot name = slice_get names slot ≡ Some name

  -- the values of the parts of a text, each put on the stack
  pub data PartsCode : ℕ → List Part → ℕ → Type 0 where
    no_parts : {at : ℕ} → PartsCode at [] at
    text_part : {at to : ℕ} (bs : Bytes) (ps : List Part)
        → HasOp at (Push (Value.Text bs)) → PartsCode (at + 1) ps to → PartsCode at (part.Text bs ∷ ps) to
    variable_part : {at to : ℕ} (name : Bytes) (slot : ℕ) (ps : List Part)
        → HasSlot slot name → HasOp at (Load slot) → PartsCode (at + 1) ps to → PartsCode at (part.Var name ∷ ps) to

  -- `ExprCode at e to`: the ops from `at` up to `to` put the value of e on the stack.
  mutual
    pub data ExprCode : ℕ → Expr → ℕ → Type 0 where
      literal_code : {at : ℕ} {e : Expr} (l : Literal) → node_of e ≡ Node-F.Literal l
          → HasOp at (OneUnit e.line) → HasOp (at + 1) (Push (literal_value l)) → ExprCode at e (at + 1 + 1)
      mixed_code : {at to : ℕ} {e : Expr} (ps : List Part) → node_of e ≡ Node-F.Mixed ps
          → HasOp at (OneUnit e.line) → PartsCode (at + 1) ps to → HasOp to (Join (length ps) e.line) → ExprCode at e (to + 1)
      variable_code : {at : ℕ} {e : Expr} (name : Bytes) (slot : ℕ) → node_of e ≡ Node-F.Var name []
          → HasSlot slot name → HasOp at (OneUnit e.line) → HasOp (at + 1) (Load slot) → ExprCode at e (at + 1 + 1)
      group_code : {at to : ℕ} {e : Expr} (inner : Expr) → node_of e ≡ Node-F.Group inner
          → HasOp at (OneUnit e.line) → ExprCode (at + 1) inner to → ExprCode at e to
      negate_code : {at to : ℕ} {e : Expr} (inner : Expr) → node_of e ≡ Node-F.Negate inner
          → HasOp at (OneUnit e.line) → HasOp (at + 1) (Push (Value.Int (pos 0))) → ExprCode (at + 1 + 1) inner to
          → HasOp to (Operate binary.Subtract e.line) → ExprCode at e (to + 1)
      not_code : {at to : ℕ} {e : Expr} (inner : Expr) → node_of e ≡ Node-F.Not inner
          → HasOp at (OneUnit e.line) → ExprCode (at + 1) inner to → HasOp to Not → ExprCode at e (to + 1)
      step_code : {at : ℕ} {e : Expr} (s : Step) (name : Bytes) (slot : ℕ) → node_of e ≡ Node-F.Step s (variable_place name)
          → HasSlot slot name → HasOp at (OneUnit e.line) → HasOp (at + 1) (Count slot s e.line) → ExprCode at e (at + 1 + 1)
      -- behind the last operand the one value, and at its end the other, to which an operand jumps that decides
      or_code : {at to : ℕ} {e : Expr} (f : Expr) (es : List Expr) → node_of e ≡ Node-F.Or f es
          → HasOp at (OneUnit e.line) → DecidingCode true (to + 1 + 1) (at + 1) (f ∷ es) to → HasOp to (Push (Value.Bool false))
          → HasOp (to + 1) (Jump (to + 1 + 1 + 1)) → HasOp (to + 1 + 1) (Push (Value.Bool true)) → ExprCode at e (to + 1 + 1 + 1)
      and_code : {at to : ℕ} {e : Expr} (f : Expr) (es : List Expr) → node_of e ≡ Node-F.And f es
          → HasOp at (OneUnit e.line) → DecidingCode false (to + 1 + 1) (at + 1) (f ∷ es) to → HasOp to (Push (Value.Bool true))
          → HasOp (to + 1) (Jump (to + 1 + 1 + 1)) → HasOp (to + 1 + 1) (Push (Value.Bool false)) → ExprCode at e (to + 1 + 1 + 1)
      join_code : {at to : ℕ} {e : Expr} (es : List Expr) → node_of e ≡ Node-F.Join es
          → HasOp at (OneUnit e.line) → AllCode (at + 1) es to → HasOp to (Join (length es) e.line) → ExprCode at e (to + 1)
      chain_code : {at mid to : ℕ} {e : Expr} (f : Expr) (links : List Link) → node_of e ≡ Node-F.Chain f links
          → HasOp at (OneUnit e.line) → ExprCode (at + 1) f mid → LinksCode e.line mid links to → ExprCode at e to
      choice_code : {at mid end to : ℕ} {e : Expr} (test f g : Expr) → node_of e ≡ Node-F.Cond test f g
          → HasOp at (OneUnit e.line) → ExprCode (at + 1) test mid → HasOp mid (JumpUnless (end + 1)) → mid < end + 1
          → ExprCode (mid + 1) f end → HasOp end (Jump to) → end < to → ExprCode (end + 1) g to → ExprCode at e to
      assign_code : {at to : ℕ} {e : Expr} (name : Bytes) (slot : ℕ) (right : Expr) → node_of e ≡ Node-F.Assign (variable_place name) right
          → HasSlot slot name → HasOp at (OneUnit e.line) → ExprCode (at + 1) right to → HasOp to Copy → HasOp (to + 1) (Assign slot e.line)
          → ExprCode at e (to + 1 + 1)
      change_code : {at to : ℕ} {e : Expr} (name : Bytes) (slot : ℕ) (how : How) (right : Expr) → node_of e ≡ Node-F.Change (variable_place name) how right
          → HasSlot slot name → HasOp at (OneUnit e.line) → ExprCode (at + 1) right to → HasOp to (Change slot how e.line) → ExprCode at e (to + 1)

    -- the values of some expressions, each put on the stack
    pub data AllCode : ℕ → List Expr → ℕ → Type 0 where
      no_values : {at : ℕ} → AllCode at [] at
      value_code : {at mid to : ℕ} (e : Expr) (es : List Expr) → ExprCode at e mid → AllCode mid es to → AllCode at (e ∷ es) to

    -- operands, each with a jump behind it where its truth is this
    pub data DecidingCode : Bool → ℕ → ℕ → List Expr → ℕ → Type 0 where
      no_operands : {decides : Bool} {end at : ℕ} → DecidingCode decides end at [] at
      operand_code : {decides : Bool} {end at mid to : ℕ} (e : Expr) (es : List Expr)
          → ExprCode at e mid → HasOp mid (jump_where decides end) → mid < end → DecidingCode decides end (mid + 1) es to
          → DecidingCode decides end at (e ∷ es) to

    -- the operators of a chain with their right operands
    pub data LinksCode : ℕ → ℕ → List Link → ℕ → Type 0 where
      no_links : {line at : ℕ} → LinksCode line at [] at
      link_code : {line at mid to : ℕ} (l : Link) (links : List Link)
          → ExprCode at l.operand mid → HasOp mid (operator_op l.op line) → LinksCode line (mid + 1) links to → LinksCode line at (l ∷ links) to

  -- the values of some expressions, each put out
  pub data PrintsCode : ℕ → List Expr → ℕ → Type 0 where
    no_prints : {at : ℕ} → PrintsCode at [] at
    print_code : {at mid to : ℕ} (e : Expr) (es : List Expr)
        → ExprCode at e mid → HasOp mid Print → PrintsCode (mid + 1) es to → PrintsCode at (e ∷ es) to

  -- `EffectCode at e to`: the ops do what e does, and leave no value.
  pub data EffectCode : ℕ → Expr → ℕ → Type 0 where
    dropped_code : {at to : ℕ} (e : Expr) → ExprCode at e to → HasOp to Pop → EffectCode at e (to + 1)
    -- an assignment moves its value
    moved_code : {at to : ℕ} {e : Expr} (name : Bytes) (slot : ℕ) (right : Expr) → node_of e ≡ Node-F.Assign (variable_place name) right
        → HasSlot slot name → HasOp at (OneUnit e.line) → ExprCode (at + 1) right to → HasOp to (Assign slot e.line) → EffectCode at e (to + 1)

  -- some expressions, which leave no values
  pub data EffectsCode : ℕ → List Expr → ℕ → Type 0 where
    no_effects : {at : ℕ} → EffectsCode at [] at
    effect_code : {at mid to : ℕ} (e : Expr) (es : List Expr) → EffectCode at e mid → EffectsCode mid es to → EffectsCode at (e ∷ es) to

  -- `TestCode at test to after`: goes on at `to` where the test is true or there is none, else at `after`.
  pub data TestCode : ℕ → Option Expr → ℕ → ℕ → Type 0 where
    no_test : {at after : ℕ} → TestCode at None at after
    test_code : {at mid after : ℕ} (e : Expr) → ExprCode at e mid → HasOp mid (JumpUnless after) → mid < after
        → TestCode at (Some e) (mid + 1) after

  -- `StatementCode loop at t to`: a statement in this loop, if it is in one
  mutual
    pub data StatementCode : Option Loop → ℕ → Statement → ℕ → Type 0 where
      block_code : {loop : Option Loop} {at to : ℕ} {t : Statement} (ts : List Statement) → kind_of t ≡ Kind-F.Block ts
          → HasOp at (OneUnit t.line) → SequenceCode loop (at + 1) ts to → StatementCode loop at t to
      print_statement : {loop : Option Loop} {at to : ℕ} {t : Statement} (es : List Expr) → kind_of t ≡ Kind-F.Print es
          → HasOp at (OneUnit t.line) → PrintsCode (at + 1) es to → StatementCode loop at t to
      expr_statement : {loop : Option Loop} {at to : ℕ} {t : Statement} (e : Expr) → kind_of t ≡ Kind-F.Expr e
          → HasOp at (OneUnit t.line) → EffectCode (at + 1) e to → StatementCode loop at t to
      if_code : {loop : Option Loop} {at to : ℕ} {t : Statement} (bs : List Branch) (other : Option Statement) → kind_of t ≡ Kind-F.If bs other
          → HasOp at (OneUnit t.line) → BranchesCode loop (at + 1) bs other to → StatementCode loop at t to
      while_code : {loop : Option Loop} {at to : ℕ} {t : Statement} (e : Expr) (body : Statement) → kind_of t ≡ Kind-F.While e body
          → HasOp at (OneUnit t.line) → LoopCode (at + 1) [] (at + 1) (Some e) body to → StatementCode loop at t to
      -- first the test, and in each further turn the last part before it
      for_code : {loop : Option Loop} {at mid test to : ℕ} {t : Statement} (first : List Expr) (e : Option Expr) (last : List Expr) (body : Statement)
          → kind_of t ≡ Kind-F.For first e last body
          → HasOp at (OneUnit t.line) → EffectsCode (at + 1) first mid → HasOp mid (Jump test) → mid < test
          → LoopCode (mid + 1) last test e body to → StatementCode loop at t to
      break_code : {loop : Loop} {at : ℕ} {t : Statement} → kind_of t ≡ Kind-F.Break
          → HasOp at (OneUnit t.line) → HasOp (at + 1) (Jump loop.after) → at + 1 < loop.after → StatementCode (Some loop) at t (at + 1 + 1)
      continue_code : {loop : Loop} {at : ℕ} {t : Statement} → kind_of t ≡ Kind-F.Continue
          → HasOp at (OneUnit t.line) → HasOp (at + 1) (Jump loop.again) → StatementCode (Some loop) at t (at + 1 + 1)
      return_code : {loop : Option Loop} {at to : ℕ} {t : Statement} (e : Expr) → kind_of t ≡ Kind-F.Return (Some e)
          → HasOp at (OneUnit t.line) → ExprCode (at + 1) e to → HasOp to End → StatementCode loop at t (to + 1)
      return_null_code : {loop : Option Loop} {at : ℕ} {t : Statement} → kind_of t ≡ Kind-F.Return None
          → HasOp at (OneUnit t.line) → HasOp (at + 1) (Push Value.Null) → HasOp (at + 1 + 1) End → StatementCode loop at t (at + 1 + 1 + 1)

    pub data SequenceCode : Option Loop → ℕ → List Statement → ℕ → Type 0 where
      no_statements : {loop : Option Loop} {at : ℕ} → SequenceCode loop at [] at
      statement_code : {loop : Option Loop} {at mid to : ℕ} (t : Statement) (ts : List Statement)
          → StatementCode loop at t mid → SequenceCode loop mid ts to → SequenceCode loop at (t ∷ ts) to

    -- the branches of an `if` and what runs where no test is true
    pub data BranchesCode : Option Loop → ℕ → List Branch → Option Statement → ℕ → Type 0 where
      no_branch : {loop : Option Loop} {at : ℕ} → BranchesCode loop at [] None at
      other_branch : {loop : Option Loop} {at to : ℕ} (t : Statement) → StatementCode loop at t to → BranchesCode loop at [] (Some t) to
      branch_code : {loop : Option Loop} {at mid end to : ℕ} (b : Branch) (bs : List Branch) (other : Option Statement)
          → TestCode at (Some b.test) mid (end + 1) → StatementCode loop mid b.body end → HasOp end (Jump to) → end < to
          → BranchesCode loop (end + 1) bs other to → BranchesCode loop at (b ∷ bs) other to

    -- `LoopCode again last test e body to`: the turns of a loop, from `test` on. Each further one begins with the last part, at `again`.
    pub data LoopCode : ℕ → List Expr → ℕ → Option Expr → Statement → ℕ → Type 0 where
      loop_code : {again test mid to : ℕ} (last : List Expr) (e : Option Expr) (body : Statement)
          → EffectsCode again last test → TestCode test e mid (to + 1)
          → StatementCode (Some (record { after = to + 1; again = again })) mid body to → HasOp to (Jump again)
          → LoopCode again last test e body (to + 1)
