-- What an expression means, where `expr` is the meaning of the expressions within, and `call` that of a call.
use Rattle.std.specs.Prelude.{ℕ, Bool, true, false, not, if◌then◌else◌, pos, List, [], ◌∷◌, ◌++◌, map, unwrap_or, codes}
use Rattle.std.specs.Fmt.{signed_decimal}
use Rattle.uq_value.specs.Data.{Bytes}
use Rattle.uq_value.specs.Number.{number}
use Rattle.uq_value.specs.Plain.{plain}
use Rattle.uq_value.specs.Put.{put}
use Rattle.uq_value.specs.Reading.{get_member, get_index}
use Rattle.uq_value.specs.Same.{alike}
use Rattle.uq_value.specs.Truth.{truth}
use Rattle.uq_value.specs.declared.step.Step.{Step as ValueStep}
use Rattle.uq_value.specs.declared.step.Step.TheVariants as value_step
use Rattle.uq_value.specs.declared.value.Value.{Value}
use Rattle.uq_json.specs.Grammar.{merged}
use Rattle.uq_json.specs.Text.{text_of}
use Rattle.jx9_syntax.specs.Trees.{ExprLayer, AccessLayer, node_of, access_of}
use Rattle.jx9_syntax.specs.declared.expression.Access.{Access}
use Rattle.jx9_syntax.specs.declared.expression.Access.TheOpen.{Node-F, Access-F}
use Rattle.jx9_syntax.specs.declared.expression.Binary.{Binary}
use Rattle.jx9_syntax.specs.declared.expression.Binary.TheVariants.{Add, Subtract}
use Rattle.jx9_syntax.specs.declared.expression.Change.{Change}
use Rattle.jx9_syntax.specs.declared.expression.Change.TheVariants.{By, Join}
use Rattle.jx9_syntax.specs.declared.expression.Entry.{Entry}
use Rattle.jx9_syntax.specs.declared.expression.Expr.{Expr}
use Rattle.jx9_syntax.specs.declared.expression.Link.{Link}
use Rattle.jx9_syntax.specs.declared.expression.Literal.{Literal}
use Rattle.jx9_syntax.specs.declared.expression.Literal.TheVariants as literal
use Rattle.jx9_syntax.specs.declared.expression.Place.{Place}
use Rattle.jx9_syntax.specs.declared.expression.Step.{Step}
use Rattle.jx9_syntax.specs.declared.expression.Step.TheVariants.{IncrementFirst, DecrementFirst, IncrementAfter, DecrementAfter}
use Rattle.jx9_syntax.specs.declared.parts.Part.{Part}
use Rattle.jx9_syntax.specs.declared.parts.Part.TheVariants as part
use Rattle.jx9_meaning.specs.Meaning.{Meaning, ◌>>=◌, ◌>>◌, pure, some_or, ok_or, put_or, take, read, write, fits, sized, units_of, each, through}
use Rattle.jx9_meaning.specs.Operators.{operate}
use Rattle.jx9_meaning.specs.declared.fault.FaultKind.TheVariants.{NotNumber}

-- ---- literals

abbrev pub literal_value : Literal → Value
literal_value literal.Null = Value.Null
literal_value (literal.Bool b) = Value.Bool b
literal_value (literal.Int z) = Value.Int z
literal_value (literal.Text bs) = Value.Text bs

-- the texts of values, joined
abbrev pub joined : List Value → Bytes
joined [] = []
joined (v ∷ vs) = text_of v ++ joined vs

-- the value of a lambda: `[lambda_N]`
abbrev pub lambda_name : ℕ → Bytes
lambda_name n = codes "[lambda_" ++ signed_decimal (pos n) ++ codes "]"

abbrev pub list_of : List Value → Value
list_of vs = Value.List (map plain vs)

-- a repeated member keeps its place and takes the last value
abbrev pub object_of : List (Bytes × Value) → Value
object_of ms = Value.Object (merged (map (λ m. (m.0, plain m.1)) ms))

-- ---- places

-- what stands at a step, null where nothing does
abbrev pub value_behind : Value → ValueStep → Value
value_behind v (value_step.Member name) = unwrap_or (get_member v name) Value.Null
value_behind v (value_step.Index at) = unwrap_or (get_index v at) Value.Null
value_behind v value_step.Append = Value.Null

-- what stands at these steps
abbrev pub value_at : Value → List ValueStep → Value
value_at v [] = v
value_at v (k ∷ ks) = value_at (value_behind v k) ks

-- the operator of `++` and `--`
abbrev pub stepped : Step → Binary
stepped IncrementFirst = Add
stepped DecrementFirst = Subtract
stepped IncrementAfter = Add
stepped DecrementAfter = Subtract

-- before its place it gives the new number, behind it the old one
abbrev pub shown : Step → Value → Value → Value
shown IncrementFirst old new = new
shown DecrementFirst old new = new
shown IncrementAfter old new = old
shown DecrementAfter old new = old

-- a variable in a text
abbrev pub part_value : Part → Meaning Value
part_value (part.Text bs) = pure (Value.Text bs)
part_value (part.Var name) = read name

abbrev pub read_place : Place → List ValueStep → Meaning Value
read_place place ks = do
  root ← read place.name
  pure (value_at root ks)

-- The root is read when it is written. The value is what was written.
unfoldable pub write_place : ℕ → Place → List ValueStep → Value → Meaning Value
write_place line place ks new = do
  root ← read place.name
  changed ← put_or line (put root ks new)
  write place.name changed
  pure new

-- the operation of `op=`
abbrev pub operation : ℕ → Value → Change → Value → Meaning Value
operation line old (By op) b = ok_or line (operate op old b)
operation line old Join b = fits line (Value.Text (text_of old ++ text_of b))

-- the units that `op=` takes by the size of its result
abbrev pub change_units : Change → Value → ℕ
change_units (By op) v = 0
change_units Join v = units_of v

-- ---- nodes

module _ (expr : Expr → Meaning Value) (call : ℕ → Value → List Value → Meaning Value) where
  abbrev pub access_step : AccessLayer → Meaning ValueStep
  access_step (Access-F.Member name) = pure (value_step.Member name)
  access_step (Access-F.Index e) = do
    at ← expr e
    pure (value_step.Index at)

  -- the index expressions of a place go from the left
  unfoldable pub place_steps : Place → Meaning (List ValueStep)
  place_steps place = each (λ a. access_step (access_of a)) place.steps

  -- one step of a path, whose index expression goes just before it
  unfoldable pub path_step : Value → Access → Meaning Value
  path_step v a = do
    k ← access_step (access_of a)
    pure (value_behind v k)

  unfoldable pub entry : Entry → Meaning (Bytes × Value)
  entry e = do
    v ← expr e.value
    pure (e.name, v)

  -- each operator goes before the next operand
  unfoldable pub link : ℕ → Value → Link → Meaning Value
  link line a l = do
    b ← expr l.operand
    ok_or line (operate l.op a b)

  -- The operands of `||`, where true decides, or of `&&`, where false does: those behind one that decides do not go.
  abbrev pub deciding : Bool → List Expr → Meaning Value
  deciding decides [] = pure (Value.Bool (not decides))
  deciding decides (e ∷ es) = do
    v ← expr e
    if alike (truth v) decides then pure (Value.Bool decides) else deciding decides es

  unfoldable pub step : ℕ → Step → Place → Meaning Value
  step line s place = do
    ks ← place_steps place
    v ← read_place place ks
    old ← some_or line NotNumber (number v)
    new ← ok_or line (operate (stepped s) (Value.Int old) (Value.Int (pos 1)))
    write_place line place ks new
    pure (shown s (Value.Int old) new)

  unfoldable pub assign : ℕ → Place → Expr → Meaning Value
  assign line place e = do
    ks ← place_steps place
    v ← expr e
    write_place line place ks v

  unfoldable pub append_to : ℕ → Place → Expr → Meaning Value
  append_to line place e = do
    ks ← place_steps place
    v ← expr e
    write_place line place (ks ++ value_step.Append ∷ []) v

  -- the place is read after the right side
  unfoldable pub change : ℕ → Place → Change → Expr → Meaning Value
  change line place how e = do
    ks ← place_steps place
    b ← expr e
    old ← read_place place ks
    new ← operation line old how b
    write_place line place ks new
    take (change_units how new)
    pure new

  unfoldable pub choice : Expr → Expr → Expr → Meaning Value
  choice test first second = do
    v ← expr test
    if truth v then expr first else expr second

  abbrev pub value_of : ℕ → ExprLayer → Meaning Value
  value_of line (Node-F.Literal l) = pure (literal_value l)
  value_of line (Node-F.Mixed parts) = do
    vs ← each part_value parts
    sized line (Value.Text (joined vs))
  value_of line (Node-F.Var name steps) = do
    v ← read name
    through path_step v steps
  value_of line (Node-F.Path e steps) = do
    v ← expr e
    through path_step v steps
  value_of line (Node-F.Group e) = expr e
  value_of line (Node-F.List es) = do
    vs ← each expr es
    sized line (list_of vs)
  value_of line (Node-F.Object es) = do
    ms ← each entry es
    sized line (object_of ms)
  value_of line (Node-F.Call name es) = do
    vs ← each expr es
    call line (Value.Text name) vs
  value_of line (Node-F.VarCall name es) = do
    f ← read name
    vs ← each expr es
    call line f vs
  value_of line (Node-F.Lambda n) = pure (Value.Text (lambda_name n))
  value_of line (Node-F.Negate e) = do
    v ← expr e
    ok_or line (operate Subtract (Value.Int (pos 0)) v)
  value_of line (Node-F.Not e) = do
    v ← expr e
    pure (Value.Bool (not (truth v)))
  value_of line (Node-F.Step s place) = step line s place
  value_of line (Node-F.Or e es) = deciding true (e ∷ es)
  value_of line (Node-F.And e es) = deciding false (e ∷ es)
  value_of line (Node-F.Join es) = do
    vs ← each expr es
    sized line (Value.Text (joined vs))
  value_of line (Node-F.Chain e links) = do
    v ← expr e
    through (link line) v links
  value_of line (Node-F.Cond test first second) = choice test first second
  value_of line (Node-F.Assign place e) = assign line place e
  value_of line (Node-F.Append place e) = append_to line place e
  value_of line (Node-F.Change place how e) = change line place how e

  -- an expression takes one unit on entry
  unfoldable pub evaluated : Expr → Meaning Value
  evaluated e = do
    take 1
    value_of e.line (node_of e)
