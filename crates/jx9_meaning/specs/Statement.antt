-- What a statement means, where `expr` and `run` are the meanings of the expressions and statements within.
use Rattle.std.specs.Prelude.{ℕ, zero, suc, Bool, true, if◌then◌else◌, pos, List, [], ◌∷◌, map, Option, Some, None}
use Rattle.std.specs.List.{enumerate_from}
use Rattle.uq_value.specs.Data.{Bytes}
use Rattle.uq_value.specs.Plain.{items, members}
use Rattle.uq_value.specs.Truth.{truth}
use Rattle.uq_value.specs.declared.value.Value.{Value}
use Rattle.uq_json.specs.Text.{text_of}
use Rattle.jx9_syntax.specs.Trees.{StatementLayer, kind_of}
use Rattle.jx9_syntax.specs.declared.expression.Expr.{Expr}
use Rattle.jx9_syntax.specs.declared.statement.Branch.{Branch}
use Rattle.jx9_syntax.specs.declared.statement.Kind.TheOpen.{Kind-F}
use Rattle.jx9_syntax.specs.declared.statement.Statement.{Statement}
use Rattle.jx9_meaning.specs.Meaning.{Meaning, Unfinished, ◌>>=◌, ◌>>◌, pure, fault, take, write, tell, each}
use Rattle.jx9_meaning.specs.World.{Out}
use Rattle.jx9_meaning.specs.declared.fault.FaultKind.TheVariants.{NotContainer}

-- where the script goes on after a statement
pub data Signal : Type 0 where
  Next : Signal
  Broke : Signal
  Continued : Signal
  Returned : Value → Signal

-- goes on with the next statement, and hands any other signal on
abbrev pub then_next : Signal → Meaning Signal → Meaning Signal
then_next Next next = next
then_next Broke next = pure Broke
then_next Continued next = pure Continued
then_next (Returned v) next = pure (Returned v)

-- after a loop's body: the next turn, or the loop's end
abbrev pub then_turn : Signal → Meaning Signal → Meaning Signal
then_turn Next next = next
then_turn Broke next = pure Next
then_turn Continued next = next
then_turn (Returned v) next = pure (Returned v)

-- a loop of at most n turns: a test, the body, and what follows a turn
abbrev pub turns : ℕ → Meaning Bool → Meaning Signal → Meaning (Unit {0}) → Meaning Signal
turns zero test body last = λ s. Unfinished
turns (suc n) test body last = test >>= λ b.
    if b then (body >>= λ signal. then_turn signal (last >> turns n test body last)) else pure Next

-- a key and a value
abbrev pub Pair : Type 0
Pair = Value × Value

-- a turn for each pair
abbrev pub turn_for_each : (Pair → Meaning (Unit {0})) → Meaning Signal → List Pair → Meaning Signal
turn_for_each bind body [] = pure Next
turn_for_each bind body (p ∷ ps) =
    bind p >> (body >>= λ signal. then_turn signal (turn_for_each bind body ps))

-- The pairs that `foreach` walks: those that were there when it began. Null has none.
abbrev pub pairs_in : Value → Option (List Pair)
pairs_in Value.Null = Some []
pairs_in (Value.List ds) = Some (map (λ p. (Value.Int (pos p.0), p.1)) (enumerate_from 0 (items ds)))
pairs_in (Value.Object ms) = Some (map (λ m. (Value.Text m.0, m.1)) (members ms))
pairs_in _ = None

abbrev pub walked : ℕ → Option (List Pair) → (List Pair → Meaning Signal) → Meaning Signal
walked line None walk = fault line NotContainer
walked line (Some ps) walk = walk ps

-- the value's variable is written last, so it wins where the two have one name
abbrev pub bind_pair : Option Bytes → Bytes → Pair → Meaning (Unit {0})
bind_pair None name p = write name p.1
bind_pair (Some key) name p = write key p.0 >> write name p.1

-- the number bounds the turns of a loop
module _ (most : ℕ) (expr : Expr → Meaning Value) (run : Statement → Meaning Signal) where
  abbrev pub sequence : List Statement → Meaning Signal
  sequence [] = pure Next
  sequence (t ∷ ts) = run t >>= λ signal. then_next signal (sequence ts)

  unfoldable pub printed : Expr → Meaning (Unit {0})
  printed e = do
    v ← expr e
    tell (Out (text_of v))

  unfoldable pub test : Expr → Meaning Bool
  test e = do
    v ← expr e
    pure (truth v)

  abbrev pub test_or_true : Option Expr → Meaning Bool
  test_or_true None = pure true
  test_or_true (Some e) = test e

  abbrev pub all : List Expr → Meaning (Unit {0})
  all [] = pure tt
  all (e ∷ es) = expr e >> all es

  abbrev pub run_or_next : Option Statement → Meaning Signal
  run_or_next None = pure Next
  run_or_next (Some t) = run t

  -- the first branch whose test is true
  abbrev pub chosen : List Branch → Option Statement → Meaning Signal
  chosen [] other = run_or_next other
  chosen (b ∷ bs) other = test b.test >>= λ is. if is then run b.body else chosen bs other

  abbrev pub value_or_null : Option Expr → Meaning Value
  value_or_null None = pure Value.Null
  value_or_null (Some e) = expr e

  abbrev pub effect_of : ℕ → StatementLayer → Meaning Signal
  effect_of line Kind-F.Empty = pure Next
  effect_of line (Kind-F.Block ts) = sequence ts
  effect_of line (Kind-F.Print es) = each printed es >> pure Next
  effect_of line (Kind-F.Expr e) = expr e >> pure Next
  effect_of line (Kind-F.If branches other) = chosen branches other
  effect_of line (Kind-F.While e t) = turns most (test e) (run t) (pure tt)
  effect_of line (Kind-F.For first e last t) = all first >> turns most (test_or_true e) (run t) (all last)
  effect_of line (Kind-F.Foreach e key name t) = do
    v ← expr e
    walked line (pairs_in v) (turn_for_each (bind_pair key name) (run t))
  effect_of line (Kind-F.Return e) = do
    v ← value_or_null e
    pure (Returned v)
  effect_of line Kind-F.Break = pure Broke
  effect_of line Kind-F.Continue = pure Continued

  -- a statement takes one unit on entry
  unfoldable pub executed : Statement → Meaning Signal
  executed t = do
    take 1
    effect_of t.line (kind_of t)
