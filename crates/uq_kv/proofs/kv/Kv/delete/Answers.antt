use Rattle.std.proofs.Common.{Bool, List, ◌∷◌, Ok, Err, refl, sym, ap, subst, ◌∙◌}
use Rattle.std.specs.Prelude.{Result}
use Rattle.std.specs.FinMap.{remove}
use Rattle.std.specs.Borrow.{MutBor}
use Rattle.std.proofs.lemmas.Result.{err_from_is_err_and}
use Rattle.uq_outside.specs.Since.{LeavesOnly}
use Rattle.uq_model.specs.Session.{Session}
use Rattle.uq_pager.specs.Keeps.{KeepsDisk}
use Rattle.uq_pager.specs.KeepsLaws.{keeps_itself}
use Rattle.uq_pager.specs.Pager.{present}
use Rattle.uq_kv.specs.declared.error.KvFault.{KvFault}
use Rattle.uq_kv.specs.declared.error.KvFault.TheVariants.{EmptyKey, KeyTooLong, NotFound}
use Rattle.uq_kv.specs.Calls.{stop_of, stops, takes}
use Rattle.uq_kv.specs.Holds.{RecoversTo}
use Rattle.uq_kv.specs.Kv.{Tells, disk_of}
use Rattle.uq_kv.specs.Lengths.{key_checked}
use Rattle.uq_kv.specs.Stored.{Stored, stored_key}
use Rattle.uq_kv.specs.Writing.{Removes}
use Rattle.uq_kv.proofs.Faults.{stopped}
use Rattle.uq_kv.proofs.Refused.{causes_nothing, does_nothing, fails_by, key_among, key_of_length, refuses_else, refuses_here, refuses_none, stop_not_length}
use Rattle.uq_kv.proofs.Sessions.{deletes_done, deletes_none}
use Rattle.uq_kv.proofs.Stops.{saved_here, saved_kept}
use Rattle.uq_kv.proofs.Telling.{tells_put, tells_read, told_present}
use Rattle.uq_kv.proofs.kv.Kv.delete.Goals as goal

abbrev listed : List KvFault
listed = EmptyKey ∷ KeyTooLong ∷ NotFound ∷ stops

pub returns-in_err-check_key-clause-does : goal.returns-in_err-check_key-clause-does
returns-in_err-check_key-clause-does g c =
    let answered = err_from_is_err_and c.from_residual-in_err-check_key.result c.from_residual-in_err-check_key.ensures.1 in
    does_nothing g.D.Disk c.args.self.now c.from_residual-in_err-check_key.result c.in_err-check_key.field-0.0 (answered.1 ∙ ap Err answered.2) (λ done. done) (key_checked c.args.key.now)
    (takes NotFound (stored_key c.args.space c.args.key.now)) (sym c.in_err-check_key.ensures.checked)

pub returns-in_err-check_key-clause-lengths : goal.returns-in_err-check_key-clause-lengths
returns-in_err-check_key-clause-lengths g c = λ unclosed.
    let answered = err_from_is_err_and c.from_residual-in_err-check_key.result c.from_residual-in_err-check_key.ensures.1 in
    refuses_here (key_checked c.args.key.now) c.from_residual-in_err-check_key.result c.in_err-check_key.field-0.0 (sym c.in_err-check_key.ensures.checked) (answered.1 ∙ ap Err answered.2)

pub returns-in_err-check_key-clause-faults : goal.returns-in_err-check_key-clause-faults
returns-in_err-check_key-clause-faults g c =
    let answered = err_from_is_err_and c.from_residual-in_err-check_key.result c.from_residual-in_err-check_key.ensures.1 in
    fails_by g.D.Disk c.args.self.now c.from_residual-in_err-check_key.result c.in_err-check_key.field-0.0 (answered.1 ∙ ap Err answered.2) listed (key_among (NotFound ∷ stops) c.in_err-check_key.field-0.0 c.in_err-check_key.ensures.faults)

pub returns-in_err-check_key-clause-cause : goal.returns-in_err-check_key-clause-cause
returns-in_err-check_key-clause-cause g c =
    let answered = err_from_is_err_and c.from_residual-in_err-check_key.result c.from_residual-in_err-check_key.ensures.1 in
    causes_nothing g.D.Disk c.args.self.now c.from_residual-in_err-check_key.result c.in_err-check_key.field-0.0 (answered.1 ∙ ap Err answered.2) (c.in_ok-check_open.ensures.open.0 refl) (key_of_length c.in_err-check_key.field-0.0 c.in_err-check_key.ensures.faults)

pub returns-in_err-check_key-clause-stop : goal.returns-in_err-check_key-clause-stop
returns-in_err-check_key-clause-stop g c = λ s tells. saved_here g.D.Disk c.args.self.now s tells (record { only_now = g.met.D.Disk.only_now; counts_now = g.met.D.Disk.counts_now })

pub returns-in_err-check_open-clause-kept : goal.returns-in_err-check_open-clause-kept
returns-in_err-check_open-clause-kept g c = keeps_itself g.D.Disk (record { only_now = g.met.D.Disk.only_now; counts_now = g.met.D.Disk.counts_now }) c.args.self.now.pager.disk

pub returns-in_err-check_key-clause-kept : goal.returns-in_err-check_key-clause-kept
returns-in_err-check_key-clause-kept g c = keeps_itself g.D.Disk (record { only_now = g.met.D.Disk.only_now; counts_now = g.met.D.Disk.counts_now }) c.args.self.now.pager.disk

pub returns-in-Ok-true-clause-does : goal.returns-in-Ok-true-clause-does
returns-in-Ok-true-clause-does g c = λ s tells answered.
    let out = subst (λ (it : Bool). Removes (stored_key c.args.space c.args.key.now) s.present (present g.D.Disk c.remove_key.new.p) c.remove_key.new.header it) c.in-Ok-true.field-0-test
    (c.in-Ok-true.ensures.removes tells.pages.present (told_present g.D.Disk c.args.self.now.pager tells.pages tells.told) s.present tells.present) in
    let whole = deletes_done c.args.space s c.args.key.now (sym c.in_ok-check_key.ensures.checked) out.0 in (
      ap (λ (a : Result (Unit {0}) KvFault × Session Stored). a.0) (sym whole),
      subst (Tells g.D.Disk _) (ap (λ (a : Result (Unit {0}) KvFault × Session Stored). a.1) (sym whole))
          (tells_put g.D.Disk c.args.self.now _ c.remove_key.new.p s (remove s.present (stored_key c.args.space c.args.key.now)) tells
          c.in-Ok-true.ensures.keeps (c.in-Ok-true.ensures.cause.pages.sound (λ i. cc)) out.1 c.begin.ensures.told c.begin.ensures.begun tells.unclosed refl),
    )

pub returns-in-Ok-true-clause-lengths : goal.returns-in-Ok-true-clause-lengths
returns-in-Ok-true-clause-lengths g c = λ unclosed. refuses_none (key_checked c.args.key.now) (Ok tt) (sym c.in_ok-check_key.ensures.checked) tt refl

pub returns-in-Ok-true-clause-stop : goal.returns-in-Ok-true-clause-stop
returns-in-Ok-true-clause-stop g c = λ s tells.
    subst (λ (d : MutBor _). LeavesOnly g.D.Disk (disk_of g.D.Disk c.args.self.now).now d.now (RecoversTo s.saved)) (sym c.begin.ensures.disk)
    (saved_kept g.D.Disk c.args.self.now s tells c.remove_key.new.p.disk c.in-Ok-true.ensures.keeps.disk)

pub returns-in-Ok-true-clause-kept : goal.returns-in-Ok-true-clause-kept
returns-in-Ok-true-clause-kept g c = subst (KeepsDisk g.D.Disk c.args.self.now.pager.disk) (sym c.begin.ensures.disk) c.in-Ok-true.ensures.keeps.disk

pub returns-in-Ok-false-clause-does : goal.returns-in-Ok-false-clause-does
returns-in-Ok-false-clause-does g c = λ s tells answered.
    let out = subst (λ (it : Bool). Removes (stored_key c.args.space c.args.key.now) s.present (present g.D.Disk c.remove_key.new.p) c.remove_key.new.header it) c.in-Ok-false.field-0-test
    (c.in-Ok-false.ensures.removes tells.pages.present (told_present g.D.Disk c.args.self.now.pager tells.pages tells.told) s.present tells.present) in
    let whole = deletes_none c.args.space s c.args.key.now (sym c.in_ok-check_key.ensures.checked) out in
    let same = c.in-Ok-false.ensures.same (ap Ok c.in-Ok-false.field-0-test) in (
      ap (λ (a : Result (Unit {0}) KvFault × Session Stored). a.0) (sym whole),
      subst (Tells g.D.Disk _) (ap (λ (a : Result (Unit {0}) KvFault × Session Stored). a.1) (sym whole))
          (tells_read g.D.Disk c.args.self.now _ s tells same.0 (c.in-Ok-false.ensures.cause.pages.sound (λ i. cc)) tells.unclosed refl same.2),
    )

pub returns-in-Ok-false-clause-lengths : goal.returns-in-Ok-false-clause-lengths
returns-in-Ok-false-clause-lengths g c = λ unclosed. refuses_else (key_checked c.args.key.now) (Err NotFound) (sym c.in_ok-check_key.ensures.checked) NotFound refl refl

pub returns-in-Ok-false-clause-stop : goal.returns-in-Ok-false-clause-stop
returns-in-Ok-false-clause-stop g c = λ s tells. saved_kept g.D.Disk c.args.self.now s tells c.remove_key.new.p.disk c.in-Ok-false.ensures.keeps.disk

pub returns-in-Err-clause-lengths : goal.returns-in-Err-clause-lengths
returns-in-Err-clause-lengths g c = λ unclosed. refuses_else (key_checked c.args.key.now) (Err c.close_by.result) (sym c.in_ok-check_key.ensures.checked) (stop_of c.in-Err.fault) (stop_not_length c.in-Err.fault) (ap Err c.close_by.ensures.fault)

pub returns-in-Err-clause-stop : goal.returns-in-Err-clause-stop
returns-in-Err-clause-stop g c = λ s tells. saved_kept g.D.Disk c.args.self.now s tells c.remove_key.new.p.disk c.in-Err.ensures.keeps.disk

pub returns-in-Err-clause-cause : goal.returns-in-Err-clause-cause
returns-in-Err-clause-cause g c =
    stopped g.D.Disk c.args.self.now _ _ c.remove_key.result (Err c.close_by.result) (c.in_ok-check_open.ensures.open.0 refl) c.remove_key.ensures.cause
    c.in-Err.fault c.in-Err.is (ap Err c.close_by.ensures.fault) c.close_by.ensures.closed
