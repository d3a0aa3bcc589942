-- What each statement may cost.
use Rattle.std.proofs.Common.{ℕ, zero, suc, ◌<◌, List, [], ◌∷◌, Option, Some, None, arith}
use Rattle.std.specs.Prelude.{Bool, true, false, if◌then◌else◌}
use Rattle.uq_value.specs.Data.{Bytes}
use Rattle.uq_value.specs.Truth.{truth}
use Rattle.uq_value.specs.declared.value.Value.{Value}
use Rattle.jx9_syntax.specs.Trees.{StatementLayer, kind_of}
use Rattle.jx9_syntax.specs.declared.expression.Expr.{Expr}
use Rattle.jx9_syntax.specs.declared.statement.Branch.{Branch}
use Rattle.jx9_syntax.specs.declared.statement.Kind.TheOpen.{Kind-F}
use Rattle.jx9_syntax.specs.declared.statement.Statement.{Statement}
use Rattle.jx9_meaning.specs.Meaning.{Meaning, Outcome, Goes, Ends, Unfinished, after, ◌>>=◌, ◌>>◌, pure}
use Rattle.jx9_meaning.specs.Statement.{Signal, Next, Broke, Continued, Returned, then_next, then_turn, turns, turn_for_each, walked, bind_pair, sequence, printed, test, test_or_true, all, run_or_next, chosen, value_or_null, effect_of, executed}
use Rattle.jx9_meaning.specs.World.{State}
use Rattle.jx9_meaning.proofs.Steps.{Kept, Frugal, Spends, kept_then, kept_on, frugal_then, paid_then, frugal, owes, frugal_pure, frugal_ends, frugal_write, owes_tell, frugal_each, frugal_if, spends_unit}

module _ (n : ℕ) (expr : Expr → Meaning Value) (run : Statement → Meaning Signal) (se : (e : Expr) → Spends n (expr e)) (sr : (t : Statement) → Spends n (run t)) where
  fe : (e : Expr) → Frugal n (expr e)
  fe e = frugal n (expr e) (se e)

  fr : (t : Statement) → Frugal n (run t)
  fr t = frugal n (run t) (sr t)

  frugal_next : (q : Meaning Signal) → Frugal n q → (signal : Signal) → Frugal n (then_next signal q)
  frugal_next q h Next = h
  frugal_next q h Broke = frugal_pure n _
  frugal_next q h Continued = frugal_pure n _
  frugal_next q h (Returned v) = frugal_pure n _

  pub frugal_sequence : (ts : List Statement) → Frugal n (sequence n expr run ts)
  frugal_sequence [] = frugal_pure n _
  frugal_sequence (t ∷ ts) = frugal_then n _ _ (fr t) (λ signal. frugal_next _ (frugal_sequence ts) signal)

  -- the unit of the expression pays for the event
  frugal_printed : (e : Expr) → Frugal n (printed n expr run e)
  unfolding printed
  frugal_printed e = paid_then n _ _ (se e) (λ v. owes_tell n _ tt)

  frugal_test : (e : Expr) → Frugal n (test n expr run e)
  unfolding test
  frugal_test e = frugal_then n _ _ (fe e) (λ v. frugal_pure n (truth v))

  frugal_test_or_true : (o : Option Expr) → Frugal n (test_or_true n expr run o)
  frugal_test_or_true None = frugal_pure n _
  frugal_test_or_true (Some e) = frugal_test e

  frugal_all : (es : List Expr) → Frugal n (all n expr run es)
  frugal_all [] = frugal_pure n _
  frugal_all (e ∷ es) = frugal_then n _ _ (fe e) (λ v. frugal_all es)

  frugal_run_or_next : (o : Option Statement) → Frugal n (run_or_next n expr run o)
  frugal_run_or_next None = frugal_pure n _
  frugal_run_or_next (Some t) = fr t

  frugal_chosen : (bs : List Branch) (o : Option Statement) → Frugal n (chosen n expr run bs o)
  frugal_chosen [] o = frugal_run_or_next o
  frugal_chosen (b ∷ bs) o = frugal_then n _ _ (frugal_test b.test) (λ x. frugal_if n x _ _ (fr b.body) (frugal_chosen bs o))

  frugal_null : (o : Option Expr) → Frugal n (value_or_null n expr run o)
  frugal_null None = frugal_pure n _
  frugal_null (Some e) = fe e

  -- m bounds the turns that are left: the body of each takes a unit
  module _ (condition : Meaning Bool) (body : Meaning Signal) (last : Meaning (Unit {0})) (ft : Frugal n condition) (sb : Spends n body) (fl : Frugal n last) where
    LoopEnds : ℕ → Type 0
    LoopEnds m = (s : State) → s.world.units < n → s.world.units < m → Kept 0 0 s (turns m condition body last s)

    next : ℕ → Signal → Meaning Signal
    next m signal = then_turn signal (last >> turns m condition body last)

    after_last : (m : ℕ) → LoopEnds m → (t : State) → t.world.units < n → t.world.units < m → Kept 0 0 t ((last >> turns m condition body last) t)
    unfolding LoopEnds
    after_last m h t l k = kept_then 0 0 0 0 0 0 t (last t) (λ _. turns m condition body last) (omega arith) (omega arith) (omega arith) (omega arith) (fl.by t l)
        (λ _ w x. h w (omega (arith, l, x)) (omega (arith, k, x)))

    after_signal : (m : ℕ) → LoopEnds m → (signal : Signal) (t : State) → t.world.units < n → t.world.units < m → Kept 0 0 t (next m signal t)
    unfolding next
    after_signal m h Next t l k = after_last m h t l k
    after_signal m h Broke t l k = (frugal_pure n Next).by t l
    after_signal m h Continued t l k = after_last m h t l k
    after_signal m h (Returned v) t l k = (frugal_pure n (Returned v)).by t l

    -- after the body there are fewer units
    after_body : (m : ℕ) → LoopEnds m → (t : State) → t.world.units < n → t.world.units < suc m → (r : Outcome Signal) → Kept 1 0 t r → Kept 0 0 t (after r (next m))
    after_body m h t l k (Goes signal w) x = kept_on 1 0 0 0 0 0 t w signal (next m) (omega arith) (omega arith) (omega arith) x
        (after_signal m h signal w (omega (arith, l, x.0.units)) (omega (arith, k, x.0.units)))
    after_body m h t l k (Ends e w) x = x
    after_body m h t l k Unfinished x = x

    after_test : (m : ℕ) → LoopEnds m → (b : Bool) (t : State) → t.world.units < n → t.world.units < suc m → Kept 0 0 t ((if b then (body >>= next m) else pure Next) t)
    after_test m h true t l k = after_body m h t l k (body t) (sb.by t l)
    after_test m h false t l k = (frugal_pure n Next).by t l

    turns_end : (m : ℕ) → LoopEnds m
    unfolding LoopEnds next
    turns_end zero s l m = absurd (omega (arith, m))
    turns_end (suc m) s l k = kept_then 0 0 0 0 0 0 s (condition s) _ (omega arith) (omega arith) (omega arith) (omega arith) (ft.by s l)
        (λ b t x. after_test m (turns_end m) b t (omega (arith, l, x)) (omega (arith, k, x)))

  frugal_turn : (q : Meaning Signal) → Frugal n q → (signal : Signal) → Frugal n (then_turn signal q)
  frugal_turn q h Next = h
  frugal_turn q h Broke = frugal_pure n _
  frugal_turn q h Continued = h
  frugal_turn q h (Returned v) = frugal_pure n _

  frugal_for_each : (bind : Value × Value → Meaning (Unit {0})) (body : Meaning Signal) → ((x : Value × Value) → Frugal n (bind x)) → Frugal n body → (ps : List (Value × Value)) → Frugal n (turn_for_each bind body ps)
  frugal_for_each bind body fb f [] = frugal_pure n _
  frugal_for_each bind body fb f (x ∷ ps) = frugal_then n _ _ (fb x) (λ _. frugal_then n _ _ f (λ signal. frugal_turn (turn_for_each bind body ps) (frugal_for_each bind body fb f ps) signal))

  frugal_bind : (key : Option Bytes) (name : Bytes) (x : Value × Value) → Frugal n (bind_pair key name x)
  frugal_bind None name x = frugal_write n name x.1
  frugal_bind (Some key) name x = frugal_then n _ _ (frugal_write n key x.0) (λ _. frugal_write n name x.1)

  frugal_walked : (line : ℕ) (o : Option (List (Value × Value))) (walk : List (Value × Value) → Meaning Signal) → ((ps : List (Value × Value)) → Frugal n (walk ps)) → Frugal n (walked line o walk)
  frugal_walked line None walk h = frugal_ends n _
  frugal_walked line (Some ps) walk h = h ps

  frugal_loop : (condition : Meaning Bool) (t : Statement) (last : Meaning (Unit {0})) → Frugal n condition → Frugal n last → Frugal n (turns n condition (run t) last)
  unfolding LoopEnds
  frugal_loop condition t last ft fl = record { by = λ s l. turns_end condition (run t) last ft (sr t) fl n s l l }

  frugal_effect : (line : ℕ) (layer : StatementLayer) → Frugal n (effect_of n expr run line layer)
  frugal_effect line Kind-F.Empty = frugal_pure n _
  frugal_effect line (Kind-F.Block ts) = frugal_sequence ts
  frugal_effect line (Kind-F.Print es) = frugal_then n _ _ (frugal_each n _ frugal_printed es) (λ _. frugal_pure n _)
  frugal_effect line (Kind-F.Expr e) = frugal_then n _ _ (fe e) (λ _. frugal_pure n _)
  frugal_effect line (Kind-F.If branches other) = frugal_chosen branches other
  frugal_effect line (Kind-F.While e t) = frugal_loop _ t _ (frugal_test e) (frugal_pure n _)
  frugal_effect line (Kind-F.For first e last t) = frugal_then n _ _ (frugal_all first) (λ _. frugal_loop _ t _ (frugal_test_or_true e) (frugal_all last))
  frugal_effect line (Kind-F.Foreach e key name t) = frugal_then n _ _ (fe e) (λ v. frugal_walked line _ _ (frugal_for_each _ _ (frugal_bind key name) (fr t)))
  frugal_effect line (Kind-F.Return e) = frugal_then n _ _ (frugal_null e) (λ v. frugal_pure n _)
  frugal_effect line Kind-F.Break = frugal_pure n _
  frugal_effect line Kind-F.Continue = frugal_pure n _

  pub spends_run : (t : Statement) → Spends (suc n) (executed n expr run t)
  unfolding executed
  spends_run t = spends_unit n _ (owes n _ (frugal_effect t.line (kind_of t)))
