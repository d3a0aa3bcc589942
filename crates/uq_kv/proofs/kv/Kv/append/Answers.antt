use Rattle.std.proofs.Common.{List, ◌∷◌, Ok, Err, refl, sym, ap, subst, ◌∙◌}
use Rattle.std.specs.Prelude.{Result}
use Rattle.std.specs.Borrow.{MutBor}
use Rattle.std.proofs.lemmas.Result.{err_from_is_err_and}
use Rattle.uq_outside.specs.Since.{LeavesOnly}
use Rattle.uq_model.specs.Session.{Session}
use Rattle.uq_pager.specs.Keeps.{KeepsDisk}
use Rattle.uq_pager.specs.KeepsLaws.{keeps_itself}
use Rattle.uq_pager.specs.Pager.{present}
use Rattle.uq_kv.specs.declared.error.KvFault.{KvFault}
use Rattle.uq_kv.specs.declared.error.KvFault.TheVariants.{EmptyKey, KeyTooLong, ValueTooLong, Full}
use Rattle.uq_kv.specs.Calls.{behind, puts, stop_of, stops}
use Rattle.uq_kv.specs.Holds.{RecoversTo}
use Rattle.uq_kv.specs.Kv.{Tells, disk_of}
use Rattle.uq_kv.specs.Lengths.{key_checked, value_checked}
use Rattle.uq_kv.specs.Stored.{Stored, stored_key}
use Rattle.uq_kv.specs.Writing.{Adds, added, longer}
use Rattle.uq_kv.specs.declared.writing.Added.{Added}
use Rattle.uq_kv.proofs.Faults.{stopped}
use Rattle.uq_kv.proofs.Refused.{causes_nothing, does_nothing, fails_by, key_among, key_of_length, keys_else, keys_refused, refuses_here, refuses_none, stop_not_key}
use Rattle.uq_kv.proofs.Sessions.{appends_done, appends_full, appends_long}
use Rattle.uq_kv.proofs.Stops.{saved_here, saved_kept}
use Rattle.uq_kv.proofs.Telling.{tells_put, tells_read, told_present}
use Rattle.uq_kv.proofs.kv.Kv.append.Goals as goal

abbrev listed : List KvFault
listed = EmptyKey ∷ KeyTooLong ∷ ValueTooLong ∷ Full ∷ stops

pub returns-in_err-check_key-clause-does : goal.returns-in_err-check_key-clause-does
returns-in_err-check_key-clause-does g c =
    let answered = err_from_is_err_and c.from_residual-in_err-check_key.result c.from_residual-in_err-check_key.ensures.1 in
    does_nothing g.D.Disk c.args.self.now c.from_residual-in_err-check_key.result c.in_err-check_key.field-0.0 (answered.1 ∙ ap Err answered.2) (λ done. done) (key_checked c.args.key.now)
    (λ t. behind (value_checked (longer t.present (stored_key c.args.space c.args.key.now) c.args.more.now)) (puts c.args.self.now.limits c.args.space c.args.key.now (longer t.present (stored_key c.args.space c.args.key.now) c.args.more.now)) t) (sym c.in_err-check_key.ensures.checked)

pub returns-in_err-check_key-clause-lengths : goal.returns-in_err-check_key-clause-lengths
returns-in_err-check_key-clause-lengths g c = λ unclosed.
    let answered = err_from_is_err_and c.from_residual-in_err-check_key.result c.from_residual-in_err-check_key.ensures.1 in
    keys_refused (key_checked c.args.key.now) c.from_residual-in_err-check_key.result (refuses_here (key_checked c.args.key.now) c.from_residual-in_err-check_key.result c.in_err-check_key.field-0.0 (sym c.in_err-check_key.ensures.checked) (answered.1 ∙ ap Err answered.2))

pub returns-in_err-check_key-clause-faults : goal.returns-in_err-check_key-clause-faults
returns-in_err-check_key-clause-faults g c =
    let answered = err_from_is_err_and c.from_residual-in_err-check_key.result c.from_residual-in_err-check_key.ensures.1 in
    fails_by g.D.Disk c.args.self.now c.from_residual-in_err-check_key.result c.in_err-check_key.field-0.0 (answered.1 ∙ ap Err answered.2) listed (key_among (ValueTooLong ∷ Full ∷ stops) c.in_err-check_key.field-0.0 c.in_err-check_key.ensures.faults)

pub returns-in_err-check_key-clause-cause : goal.returns-in_err-check_key-clause-cause
returns-in_err-check_key-clause-cause g c =
    let answered = err_from_is_err_and c.from_residual-in_err-check_key.result c.from_residual-in_err-check_key.ensures.1 in
    causes_nothing g.D.Disk c.args.self.now c.from_residual-in_err-check_key.result c.in_err-check_key.field-0.0 (answered.1 ∙ ap Err answered.2) (c.in_ok-check_open.ensures.open.0 refl) (key_of_length c.in_err-check_key.field-0.0 c.in_err-check_key.ensures.faults)

pub returns-in_err-check_key-clause-stop : goal.returns-in_err-check_key-clause-stop
returns-in_err-check_key-clause-stop g c = λ s tells. saved_here g.D.Disk c.args.self.now s tells (record { only_now = g.met.D.Disk.only_now; counts_now = g.met.D.Disk.counts_now })

pub returns-in_err-check_open-clause-kept : goal.returns-in_err-check_open-clause-kept
returns-in_err-check_open-clause-kept g c = keeps_itself g.D.Disk (record { only_now = g.met.D.Disk.only_now; counts_now = g.met.D.Disk.counts_now }) c.args.self.now.pager.disk

pub returns-in_err-check_key-clause-kept : goal.returns-in_err-check_key-clause-kept
returns-in_err-check_key-clause-kept g c = keeps_itself g.D.Disk (record { only_now = g.met.D.Disk.only_now; counts_now = g.met.D.Disk.counts_now }) c.args.self.now.pager.disk

pub returns-in-Ok-Done-clause-does : goal.returns-in-Ok-Done-clause-does
returns-in-Ok-Done-clause-does g c = λ s tells answered.
    let out = subst (λ (it : Added). Adds c.args.self.now.limits c.args.space c.args.key.now c.args.more.now s.present (present g.D.Disk c.append.new.p) c.append.new.header it) c.in-Ok-Done.field-0-is
    (c.in-Ok-Done.ensures.adds tells.pages.present (told_present g.D.Disk c.args.self.now.pager tells.pages tells.told) s.present tells.present) in
    let whole = appends_done c.args.space s c.args.key.now c.args.self.now.limits c.args.more.now (sym c.in_ok-check_key.ensures.checked) out.0 out.1 in (
      ap (λ (a : Result (Unit {0}) KvFault × Session Stored). a.0) (sym whole),
      subst (Tells g.D.Disk _) (ap (λ (a : Result (Unit {0}) KvFault × Session Stored). a.1) (sym whole))
          (tells_put g.D.Disk c.args.self.now _ c.append.new.p s (added s.present (stored_key c.args.space c.args.key.now) c.args.more.now) tells
          c.in-Ok-Done.ensures.keeps (c.in-Ok-Done.ensures.cause.pages.sound (λ i. cc)) out.2 c.begin.ensures.told c.begin.ensures.begun tells.unclosed refl),
    )

pub returns-in-Ok-Done-clause-lengths : goal.returns-in-Ok-Done-clause-lengths
returns-in-Ok-Done-clause-lengths g c = λ unclosed. keys_refused (key_checked c.args.key.now) (Ok tt) (refuses_none (key_checked c.args.key.now) (Ok tt) (sym c.in_ok-check_key.ensures.checked) tt refl)

pub returns-in-Ok-Done-clause-stop : goal.returns-in-Ok-Done-clause-stop
returns-in-Ok-Done-clause-stop g c = λ s tells.
    subst (λ (d : MutBor _). LeavesOnly g.D.Disk (disk_of g.D.Disk c.args.self.now).now d.now (RecoversTo s.saved)) (sym c.begin.ensures.disk)
    (saved_kept g.D.Disk c.args.self.now s tells c.append.new.p.disk c.in-Ok-Done.ensures.keeps.disk)

pub returns-in-Ok-Done-clause-kept : goal.returns-in-Ok-Done-clause-kept
returns-in-Ok-Done-clause-kept g c = subst (KeepsDisk g.D.Disk c.args.self.now.pager.disk) (sym c.begin.ensures.disk) c.in-Ok-Done.ensures.keeps.disk

pub returns-in-Ok-TooLong-clause-does : goal.returns-in-Ok-TooLong-clause-does
returns-in-Ok-TooLong-clause-does g c = λ s tells answered.
    let out = subst (λ (it : Added). Adds c.args.self.now.limits c.args.space c.args.key.now c.args.more.now s.present (present g.D.Disk c.append.new.p) c.append.new.header it) c.in-Ok-TooLong.field-0-is
    (c.in-Ok-TooLong.ensures.adds tells.pages.present (told_present g.D.Disk c.args.self.now.pager tells.pages tells.told) s.present tells.present) in
    let whole = appends_long c.args.space s c.args.key.now c.args.self.now.limits c.args.more.now (sym c.in_ok-check_key.ensures.checked) out in
    let same = c.in-Ok-TooLong.ensures.same (λ is. let other = sym c.in-Ok-TooLong.field-0-is ∙ is in cc) in (
      ap (λ (a : Result (Unit {0}) KvFault × Session Stored). a.0) (sym whole),
      subst (Tells g.D.Disk _) (ap (λ (a : Result (Unit {0}) KvFault × Session Stored). a.1) (sym whole))
          (tells_read g.D.Disk c.args.self.now _ s tells same.0 (c.in-Ok-TooLong.ensures.cause.pages.sound (λ i. cc)) tells.unclosed refl same.2),
    )

pub returns-in-Ok-TooLong-clause-lengths : goal.returns-in-Ok-TooLong-clause-lengths
returns-in-Ok-TooLong-clause-lengths g c = λ unclosed. keys_else (key_checked c.args.key.now) (Err ValueTooLong) (sym c.in_ok-check_key.ensures.checked) ValueTooLong refl refl

pub returns-in-Ok-TooLong-clause-stop : goal.returns-in-Ok-TooLong-clause-stop
returns-in-Ok-TooLong-clause-stop g c = λ s tells. saved_kept g.D.Disk c.args.self.now s tells c.append.new.p.disk c.in-Ok-TooLong.ensures.keeps.disk

pub returns-in-Ok-Full-clause-does : goal.returns-in-Ok-Full-clause-does
returns-in-Ok-Full-clause-does g c = λ s tells answered.
    let out = subst (λ (it : Added). Adds c.args.self.now.limits c.args.space c.args.key.now c.args.more.now s.present (present g.D.Disk c.append.new.p) c.append.new.header it) c.in-Ok-Full.field-0-is
    (c.in-Ok-Full.ensures.adds tells.pages.present (told_present g.D.Disk c.args.self.now.pager tells.pages tells.told) s.present tells.present) in
    let whole = appends_full c.args.space s c.args.key.now c.args.self.now.limits c.args.more.now (sym c.in_ok-check_key.ensures.checked) out.0 out.1 in
    let same = c.in-Ok-Full.ensures.same (λ is. let other = sym c.in-Ok-Full.field-0-is ∙ is in cc) in (
      ap (λ (a : Result (Unit {0}) KvFault × Session Stored). a.0) (sym whole),
      subst (Tells g.D.Disk _) (ap (λ (a : Result (Unit {0}) KvFault × Session Stored). a.1) (sym whole))
          (tells_read g.D.Disk c.args.self.now _ s tells same.0 (c.in-Ok-Full.ensures.cause.pages.sound (λ i. cc)) tells.unclosed refl same.2),
    )

pub returns-in-Ok-Full-clause-lengths : goal.returns-in-Ok-Full-clause-lengths
returns-in-Ok-Full-clause-lengths g c = λ unclosed. keys_else (key_checked c.args.key.now) (Err Full) (sym c.in_ok-check_key.ensures.checked) Full refl refl

pub returns-in-Ok-Full-clause-stop : goal.returns-in-Ok-Full-clause-stop
returns-in-Ok-Full-clause-stop g c = λ s tells. saved_kept g.D.Disk c.args.self.now s tells c.append.new.p.disk c.in-Ok-Full.ensures.keeps.disk

pub returns-in-Err-clause-lengths : goal.returns-in-Err-clause-lengths
returns-in-Err-clause-lengths g c = λ unclosed. keys_else (key_checked c.args.key.now) (Err c.close_by.result) (sym c.in_ok-check_key.ensures.checked) (stop_of c.in-Err.fault) (stop_not_key c.in-Err.fault) (ap Err c.close_by.ensures.fault)

pub returns-in-Err-clause-stop : goal.returns-in-Err-clause-stop
returns-in-Err-clause-stop g c = λ s tells. saved_kept g.D.Disk c.args.self.now s tells c.append.new.p.disk c.in-Err.ensures.keeps.disk

pub returns-in-Err-clause-cause : goal.returns-in-Err-clause-cause
returns-in-Err-clause-cause g c =
    stopped g.D.Disk c.args.self.now _ _ c.append.result (Err c.close_by.result) (c.in_ok-check_open.ensures.open.0 refl) c.append.ensures.cause
    c.in-Err.fault c.in-Err.is (ap Err c.close_by.ensures.fault) c.close_by.ensures.closed
