-- Every script ends, and what it may have changed then.
use Rattle.std.proofs.Common.{◌≡◌, ℕ, zero, suc, Some, refl, sym, ◌∙◌, ap, arith}
use Rattle.std.specs.Prelude.{Bool, true, false, if◌then◌else◌}
use Rattle.uq_model.specs.Session.{Session, opened}
use Rattle.uq_model.specs.Store.{Store}
use Rattle.jx9_syntax.specs.declared.expression.Expr.{Expr}
use Rattle.jx9_syntax.specs.declared.statement.Statement.{Statement}
use Rattle.jx9_meaning.specs.Laws.{last_saved, SavedUnlessBegun, IsAborted, EndsWell}
use Rattle.jx9_meaning.specs.Meaning.{Ending, Done, Fault, Spent, HostFailed, Unanswered, Outcome, Goes, Ends, Unfinished}
use Rattle.jx9_meaning.specs.Script.{Source, call, expr_within, run_within, world_after, ended, closed, start, script, script_within}
use Rattle.jx9_meaning.specs.Statement.{sequence}
use Rattle.jx9_meaning.specs.World.{State, World}
use Rattle.jx9_meaning.proofs.CallCosts.{owes_call}
use Rattle.jx9_meaning.proofs.ExpressionCosts.{spends_expr}
use Rattle.jx9_meaning.proofs.Moves.{Moves}
use Rattle.jx9_meaning.proofs.StatementCosts.{spends_run, frugal_sequence}
use Rattle.jx9_meaning.proofs.Steps.{Kept, Spends, frugal}

-- ---- the levels

spends_within : (n : ℕ) (p : Source) → ((e : Expr) → Spends n (expr_within n p e)) × ((t : Statement) → Spends n (run_within n p t))
unfolding expr_within run_within
spends_within zero p = (λ e. record { by = λ s l. absurd (omega (arith, l)) }, λ t. record { by = λ s l. absurd (omega (arith, l)) })
spends_within (suc n) p =
    let h = spends_within n p in (
      spends_expr n (expr_within n p) (call p (run_within n p)) (λ e. frugal n (expr_within n p e) (h.0 e)) (owes_call n (run_within n p) (λ t. frugal n (run_within n p t) (h.1 t)) p),
      spends_run n (expr_within n p) (run_within n p) h.0 h.1,
    )

-- ---- endings

abbrev with_begun : Session Store → Bool → Session Store
with_begun x b = record { saved = x.saved; present = x.present; begun = b }

abbrev with_present : Session Store → Store → Session Store
with_present x store = record { saved = x.saved; present = store; begun = false }

rolled : (x : Session Store) (b : Bool) → x.begun ≡ b → SavedUnlessBegun x → (if b then opened x.saved else x) ≡ opened x.saved
rolled x true e h = refl
rolled x false e h = ap (with_begun x) e ∙ ap (with_present x) (sym (h e))

rolled_session : (e : Ending) (w : World) → IsAborted e → SavedUnlessBegun w.session → (world_after e w).session ≡ opened w.session.saved
rolled_session Done w a h = absurd a
rolled_session Unanswered w a h = absurd a
rolled_session (Fault kind line) w a h = rolled w.session w.session.begun refl h
rolled_session Spent w a h = rolled w.session w.session.begun refl h
rolled_session (HostFailed name) w a h = rolled w.session w.session.begun refl h

saved_stays : (x : Session Store) (b : Bool) → (if b then opened x.saved else x).saved ≡ x.saved
saved_stays x true = refl
saved_stays x false = refl

saved_after : (e : Ending) (w : World) → (world_after e w).session.saved ≡ w.session.saved
saved_after Done w = refl
saved_after Unanswered w = refl
saved_after (Fault kind line) w = saved_stays w.session w.session.begun
saved_after Spent w = saved_stays w.session w.session.begun
saved_after (HostFailed name) w = saved_stays w.session w.session.begun

units_after : (e : Ending) (w : World) → (world_after e w).units ≡ w.units
units_after Done w = refl
units_after Unanswered w = refl
units_after (Fault kind line) w = refl
units_after Spent w = refl
units_after (HostFailed name) w = refl

limits_after : (e : Ending) (w : World) → (world_after e w).limits ≡ w.limits
limits_after Done w = refl
limits_after Unanswered w = refl
limits_after (Fault kind line) w = refl
limits_after Spent w = refl
limits_after (HostFailed name) w = refl

hosts_after : (e : Ending) (w : World) → (world_after e w).hosts ≡ w.hosts
hosts_after Done w = refl
hosts_after Unanswered w = refl
hosts_after (Fault kind line) w = refl
hosts_after Spent w = refl
hosts_after (HostFailed name) w = refl

-- ---- the whole

ends_so : (p : Source) (w : World) (e : Ending) (s : State) → script p w ≡ Some (ended e s) → Moves 0 0 (start w) s → EndsWell p w
ends_so p w e s is m = record {
  ended = ended e s;
  is_script = is;
  units = omega (arith, m.units, units_after e s.world);
  events = omega (arith, m.less, units_after e s.world);
  limits = limits_after e s.world ∙ m.limits;
  hosts = hosts_after e s.world ∙ m.hosts;
  saved = saved_after e s.world ∙ m.saved ∙ ap (λ es. last_saved w.session.saved es) (sym m.told);
  aborted = λ a h. rolled_session e s.world a (m.settled h) ∙ ap opened m.saved ∙ ap (λ es. opened (last_saved w.session.saved es)) (sym m.told);
}

ends_somehow : {A : Type 0} (p : Source) (w : World) (r : Outcome A) → script p w ≡ closed r → Kept 0 0 (start w) r → EndsWell p w
ends_somehow p w (Goes a s) is k = ends_so p w Done s is k.0
ends_somehow p w (Ends e s) is k = ends_so p w e s is k
ends_somehow p w Unfinished is k = absurd k

pub ends_well : (p : Source) (w : World) → EndsWell p w
unfolding script script_within
ends_well p w =
    let n = suc w.units in
    let h = spends_within n p in
    ends_somehow p w (sequence n (expr_within n p) (run_within n p) p.statements (start w)) refl
    ((frugal_sequence n (expr_within n p) (run_within n p) h.0 h.1 p.statements).by (start w) (omega arith))
