-- What each statement does with more units.
use Rattle.std.proofs.Common.{ℕ, zero, suc, ◌≤◌, List, [], ◌∷◌, Option, Some, None, arith}
use Rattle.std.specs.Prelude.{Bool}
use Rattle.uq_value.specs.Data.{Bytes}
use Rattle.uq_value.specs.Truth.{truth}
use Rattle.uq_value.specs.declared.value.Value.{Value}
use Rattle.jx9_syntax.specs.Trees.{StatementLayer, kind_of}
use Rattle.jx9_syntax.specs.declared.expression.Expr.{Expr}
use Rattle.jx9_syntax.specs.declared.statement.Branch.{Branch}
use Rattle.jx9_syntax.specs.declared.statement.Kind.TheOpen.{Kind-F}
use Rattle.jx9_syntax.specs.declared.statement.Statement.{Statement}
use Rattle.jx9_meaning.specs.Meaning.{Meaning}
use Rattle.jx9_meaning.specs.Statement.{Signal, Next, Broke, Continued, Returned, Pair, then_next, then_turn, turns, turn_for_each, walked, bind_pair, sequence, printed, test, test_or_true, all, run_or_next, chosen, value_or_null, effect_of, executed}
use Rattle.jx9_meaning.proofs.Budgets.{Scales, scales_then, scales_pure, scales_ends, scales_write, scales_take, scales_tell, scales_each, scales_if}

module _ (k : ℕ) where
  scales_next : (q r : Meaning Signal) → Scales k q r → (signal : Signal) → Scales k (then_next signal q) (then_next signal r)
  scales_next q r h Next = h
  scales_next q r h Broke = scales_pure k _
  scales_next q r h Continued = scales_pure k _
  scales_next q r h (Returned v) = scales_pure k _

  scales_turn : (q r : Meaning Signal) → Scales k q r → (signal : Signal) → Scales k (then_turn signal q) (then_turn signal r)
  scales_turn q r h Next = h
  scales_turn q r h Broke = scales_pure k _
  scales_turn q r h Continued = h
  scales_turn q r h (Returned v) = scales_pure k _

  -- a loop that may have more turns
  scales_turns : (n m : ℕ) → n ≤ m → (t u : Meaning Bool) (b c : Meaning Signal) (l last_more : Meaning (Unit {0})) → Scales k t u → Scales k b c → Scales k l last_more → Scales k (turns n t b l) (turns m u c last_more)
  scales_turns zero m le t u b c l last_more ht hb hl = record { by = λ s. tt }
  scales_turns (suc n) zero le t u b c l last_more ht hb hl = absurd (omega (arith, le))
  scales_turns (suc n) (suc m) le t u b c l last_more ht hb hl =
      scales_then k _ _ _ _ ht (λ x. scales_if k x _ _ _ _
      (scales_then k _ _ _ _ hb (λ signal. scales_turn _ _ (scales_then k _ _ _ _ hl (λ _. scales_turns n m (omega (arith, le)) t u b c l last_more ht hb hl)) signal))
      (scales_pure k Next))

  scales_for_each : (bind : Pair → Meaning (Unit {0})) (b c : Meaning Signal) → ((x : Pair) → Scales k (bind x) (bind x)) → Scales k b c → (ps : List Pair) → Scales k (turn_for_each bind b ps) (turn_for_each bind c ps)
  scales_for_each bind b c hx hb [] = scales_pure k _
  scales_for_each bind b c hx hb (x ∷ ps) = scales_then k _ _ _ _ (hx x) (λ _. scales_then k _ _ _ _ hb (λ signal. scales_turn (turn_for_each bind b ps) (turn_for_each bind c ps) (scales_for_each bind b c hx hb ps) signal))

  scales_bind : (key : Option Bytes) (name : Bytes) (x : Pair) → Scales k (bind_pair key name x) (bind_pair key name x)
  scales_bind None name x = scales_write k name x.1
  scales_bind (Some key) name x = scales_then k _ _ _ _ (scales_write k key x.0) (λ _. scales_write k name x.1)

  scales_walked : (line : ℕ) (o : Option (List Pair)) (walk walk_more : List Pair → Meaning Signal) → ((ps : List Pair) → Scales k (walk ps) (walk_more ps)) → Scales k (walked line o walk) (walked line o walk_more)
  scales_walked line None walk walk_more h = scales_ends k _
  scales_walked line (Some ps) walk walk_more h = h ps

module _ (k n m : ℕ) (le : n ≤ m) (expr expr_more : Expr → Meaning Value) (run run_more : Statement → Meaning Signal) (he : (e : Expr) → Scales k (expr e) (expr_more e)) (hr : (t : Statement) → Scales k (run t) (run_more t)) where
  pub scales_sequence : (ts : List Statement) → Scales k (sequence n expr run ts) (sequence m expr_more run_more ts)
  scales_sequence [] = scales_pure k _
  scales_sequence (t ∷ ts) = scales_then k _ _ _ _ (hr t) (λ signal. scales_next k _ _ (scales_sequence ts) signal)

  scales_printed : (e : Expr) → Scales k (printed n expr run e) (printed m expr_more run_more e)
  unfolding printed
  scales_printed e = scales_then k _ _ _ _ (he e) (λ v. scales_tell k _)

  scales_test : (e : Expr) → Scales k (test n expr run e) (test m expr_more run_more e)
  unfolding test
  scales_test e = scales_then k _ _ _ _ (he e) (λ v. scales_pure k (truth v))

  scales_test_or_true : (o : Option Expr) → Scales k (test_or_true n expr run o) (test_or_true m expr_more run_more o)
  scales_test_or_true None = scales_pure k _
  scales_test_or_true (Some e) = scales_test e

  scales_all : (es : List Expr) → Scales k (all n expr run es) (all m expr_more run_more es)
  scales_all [] = scales_pure k _
  scales_all (e ∷ es) = scales_then k _ _ _ _ (he e) (λ v. scales_all es)

  scales_run_or_next : (o : Option Statement) → Scales k (run_or_next n expr run o) (run_or_next m expr_more run_more o)
  scales_run_or_next None = scales_pure k _
  scales_run_or_next (Some t) = hr t

  scales_chosen : (bs : List Branch) (o : Option Statement) → Scales k (chosen n expr run bs o) (chosen m expr_more run_more bs o)
  scales_chosen [] o = scales_run_or_next o
  scales_chosen (b ∷ bs) o = scales_then k _ _ _ _ (scales_test b.test) (λ x. scales_if k x _ _ _ _ (hr b.body) (scales_chosen bs o))

  scales_null : (o : Option Expr) → Scales k (value_or_null n expr run o) (value_or_null m expr_more run_more o)
  scales_null None = scales_pure k _
  scales_null (Some e) = he e

  scales_effect : (line : ℕ) (layer : StatementLayer) → Scales k (effect_of n expr run line layer) (effect_of m expr_more run_more line layer)
  scales_effect line Kind-F.Empty = scales_pure k _
  scales_effect line (Kind-F.Block ts) = scales_sequence ts
  scales_effect line (Kind-F.Print es) = scales_then k _ _ _ _ (scales_each k _ _ scales_printed es) (λ _. scales_pure k _)
  scales_effect line (Kind-F.Expr e) = scales_then k _ _ _ _ (he e) (λ _. scales_pure k _)
  scales_effect line (Kind-F.If branches other) = scales_chosen branches other
  scales_effect line (Kind-F.While e t) = scales_turns k n m le _ _ _ _ _ _ (scales_test e) (hr t) (scales_pure k _)
  scales_effect line (Kind-F.For first e last t) = scales_then k _ _ _ _ (scales_all first) (λ _. scales_turns k n m le _ _ _ _ _ _ (scales_test_or_true e) (hr t) (scales_all last))
  scales_effect line (Kind-F.Foreach e key name t) = scales_then k _ _ _ _ (he e) (λ v. scales_walked k line _ _ _ (scales_for_each k _ _ _ (scales_bind k key name) (hr t)))
  scales_effect line (Kind-F.Return e) = scales_then k _ _ _ _ (scales_null e) (λ v. scales_pure k _)
  scales_effect line Kind-F.Break = scales_pure k _
  scales_effect line Kind-F.Continue = scales_pure k _

  pub scales_run : (t : Statement) → Scales k (executed n expr run t) (executed m expr_more run_more t)
  unfolding executed
  scales_run t = scales_then k _ _ _ _ (scales_take k 1) (λ _. scales_effect t.line (kind_of t))
