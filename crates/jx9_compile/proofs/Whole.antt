-- The code of a whole script.
use Rattle.std.proofs.Common.{◌≡◌, ℕ, zero, suc, List, [], ◌∷◌, length, Some, None, refl, sym, ap, ◌∙◌, replicate}
use Rattle.std.specs.Prelude.{map, slice_get, take}
use Rattle.std.proofs.lemmas.Option.{none-some}
use Rattle.uq_value.specs.Data.{Bytes}
use Rattle.uq_value.specs.declared.value.Value.{Value}
use Rattle.jx9_syntax.specs.declared.statement.Statement.{Statement}
use Rattle.jx9_meaning.specs.Meaning.{Outcome, Goes, Ends, Unfinished}
use Rattle.jx9_meaning.specs.Script.{Source, Ended, closed, start, script, script_within, expr_within, run_within}
use Rattle.jx9_meaning.specs.Statement.{Signal, Next, Broke, Continued, Returned, sequence}
use Rattle.jx9_meaning.specs.World.{World, State, variable}
use Rattle.jx9_compile.specs.Correct.{Behaves}
use Rattle.jx9_compile.specs.Emitted.{SequenceCode}
use Rattle.jx9_compile.specs.Machine.{ops_of, first, first_slots}
use Rattle.jx9_compile.specs.Run.{run}
use Rattle.jx9_compile.specs.Slots.{AreDistinct}
use Rattle.jx9_compile.specs.declared.code.Code.{Code}
use Rattle.jx9_compile.specs.declared.op.Op.TheVariants.{End}
use Rattle.jx9_compile.proofs.ExpressionRuns.{ExprsRun, EffectsRun}
use Rattle.jx9_compile.proofs.ExpressionRuns as expressions
use Rattle.jx9_compile.proofs.Leads.{Leads, machine, step}
use Rattle.jx9_compile.proofs.StatementRuns.{StatementsRun, Goes_on}
use Rattle.jx9_compile.proofs.StatementRuns as statements

all_null : (names : List Bytes) → take (length names) (replicate (length names) Value.Null) ≡ map (λ name. Value.Null) names
all_null [] = refl
all_null (n ∷ ns) = ap (λ vs. Value.Null ∷ vs) (all_null ns)

module _ (p : Source) (code : Code) (names_of : ℕ → List Bytes) (distinct : (i : ℕ) → AreDistinct (names_of i)) where
  -- ---- all levels, in every function

  record Level (n : ℕ) : Type 0 where
    exprs : (i : ℕ) → ExprsRun p code i (names_of i) (distinct i) n
    effects : (i : ℕ) → EffectsRun p code i (names_of i) (distinct i) n
    bodies : (i : ℕ) → StatementsRun p code i (names_of i) (distinct i) n

  level : (n : ℕ) → Level n
  level zero = record {
    exprs = λ i at to e d stack callers s. expressions.unfinished p code i (names_of i) (distinct i) e _ s;
    effects = λ i at to e d stack callers s. expressions.unfinished p code i (names_of i) (distinct i) e _ s;
    bodies = λ i loop at to t d is around s. statements.unfinished p code i (names_of i) (distinct i) t _ s;
  }
  level (suc n) =
      let l = level n in
      let exprs = λ (i : ℕ). expressions.node_runs p code i (names_of i) (distinct i) n (l.exprs i) in
      record {
        exprs = exprs;
        effects = λ i. expressions.effect_runs p code i (names_of i) (distinct i) n (l.exprs i) (exprs i);
        bodies = λ i. statements.node_runs p code i (names_of i) (distinct i) n (l.exprs i) (l.effects i) (l.bodies i);
      }

  program_runs : (n to : ℕ) (ts : List Statement) → SequenceCode (ops_of code 0) (names_of 0) None 0 ts to → (s : State)
      → Leads code (machine code 0 (names_of 0) 0 [] [] s) (sequence n (expr_within n p) (run_within n p) ts s)
      (Goes_on p code 0 (names_of 0) (distinct 0) None to (record { stack = []; callers = [] }))
  program_runs n to ts d s =
      statements.sequence_runs p code 0 (names_of 0) (distinct 0) n ((level n).exprs 0) ((level n).effects 0) ((level n).bodies 0) None 0 ts to d tt
      (record { stack = []; callers = [] }) s

  -- ---- the start

  module _ (to : ℕ) (is : SequenceCode (ops_of code 0) (names_of 0) None 0 p.statements to) (end : slice_get (ops_of code 0) to ≡ Some End)
      (slots : first_slots (slice_get code.functions 0) [] ≡ take (length (names_of 0)) (replicate (length (names_of 0)) Value.Null)) where
    starts : (w : World) → machine code 0 (names_of 0) 0 [] [] (start w) ≡ first code w
    unfolding variable
    starts w =
        ap (λ vs. record { frame = record { function = 0; place = 0; stack = []; slots = vs }; callers = []; outside = start w })
        (sym (all_null (names_of 0)) ∙ sym slots)

    by_result : (w : World) (e : Ended) (r : Outcome Signal)
        → Leads code (machine code 0 (names_of 0) 0 [] [] (start w)) r (Goes_on p code 0 (names_of 0) (distinct 0) None to (record { stack = []; callers = [] }))
        → closed r ≡ Some e → (n : ℕ) × (run code n (machine code 0 (names_of 0) 0 [] [] (start w)) ≡ Some e)
    by_result w e (Goes Next s) l h = let a = l.by 1 in (a.0, a.1 ∙ step code 0 (names_of 0) to End [] [] s end 0 ∙ h)
    by_result w e (Goes Broke s) l h = let a = l.by 0 in (a.0, a.1 ∙ h)
    by_result w e (Goes Continued s) l h = let a = l.by 0 in (a.0, a.1 ∙ h)
    by_result w e (Goes (Returned v) s) l h = let a = l.by 0 in (a.0, a.1 ∙ h)
    by_result w e (Ends x s) l h = let a = l.by 0 in (a.0, a.1 ∙ h)
    by_result w e Unfinished l h = absurd (none-some e h)

    pub behaves : Behaves p code
    unfolding script script_within
    behaves w e h =
        let n = suc w.units in
        let a = by_result w e (sequence n (expr_within n p) (run_within n p) p.statements (start w)) (program_runs n to p.statements is (start w)) h in
        (a.0, ap (λ m. run code a.0 m) (sym (starts w)) ∙ a.1)
