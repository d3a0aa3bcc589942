use Rattle.std.proofs.Common.{◌≡◌, ℕ, List, Bool, Option, Ok, Err, refl, sym, ap, subst, ◌∙◌}
use Rattle.std.specs.Prelude.{Result}
use Rattle.std.specs.Borrow.{MutBor}
use Rattle.std.specs.FinMap.{remove}
use Rattle.uq_outside.specs.Since.{LeavesOnly}
use Rattle.uq_model.specs.Session.{Session}
use Rattle.uq_pager.specs.Keeps.{KeepsDisk}
use Rattle.uq_pager.specs.KeepsLaws.{keeps_itself}
use Rattle.uq_pager.specs.Pager.{present}
use Rattle.uq_kv.specs.declared.error.KvFault.{KvFault}
use Rattle.uq_kv.specs.declared.error.KvFault.TheVariants.{NoEntry}
use Rattle.uq_kv.specs.Cursor.{deletes_at}
use Rattle.uq_kv.specs.Holds.{RecoversTo}
use Rattle.uq_kv.specs.Kv.{Tells, disk_of}
use Rattle.uq_kv.specs.Stored.{Stored}
use Rattle.uq_kv.specs.Writing.{Removes}
use Rattle.uq_kv.proofs.Cursors.{no_place, placed_at}
use Rattle.uq_kv.proofs.Faults.{stopped}
use Rattle.uq_kv.proofs.Sessions.{takes_none, takes_there}
use Rattle.uq_kv.proofs.Stops.{saved_here, saved_kept}
use Rattle.uq_kv.proofs.Telling.{tells_put, tells_read, told_present}
use Rattle.uq_kv.proofs.kv.Kv.cursor_delete.Goals as goal

pub returns-in_default-clause-does : goal.returns-in_default-clause-does
returns-in_default-clause-does g c = λ s tells answered.
    subst (λ (at : Option (List ℕ)). ◌≡◌ {A = Result (Unit {0}) KvFault} (Err NoEntry) (deletes_at at s).0 × Tells g.D.Disk c.args.self.now (deletes_at at s).1) (sym (no_place c.args.c.now c.in_default.not-Some)) (refl, tells)

pub returns-in_default-clause-stop : goal.returns-in_default-clause-stop
returns-in_default-clause-stop g c = λ s tells. saved_here g.D.Disk c.args.self.now s tells (record { only_now = g.met.D.Disk.only_now; counts_now = g.met.D.Disk.counts_now })

pub returns-in_default-clause-kept : goal.returns-in_default-clause-kept
returns-in_default-clause-kept g c = keeps_itself g.D.Disk (record { only_now = g.met.D.Disk.only_now; counts_now = g.met.D.Disk.counts_now }) c.args.self.now.pager.disk

pub returns-in_err-check_open-clause-kept : goal.returns-in_err-check_open-clause-kept
returns-in_err-check_open-clause-kept g c = keeps_itself g.D.Disk (record { only_now = g.met.D.Disk.only_now; counts_now = g.met.D.Disk.counts_now }) c.args.self.now.pager.disk

pub returns-in-Ok-true-clause-does : goal.returns-in-Ok-true-clause-does
returns-in-Ok-true-clause-does g c = λ s tells answered.
    let at = placed_at c.args.c.now c.in-Some.stored c.deref.result.now c.in-Some.is c.deref.ensures.value in
    let out = subst (λ (it : Bool). Removes c.deref.result.now s.present (present g.D.Disk c.remove.new.p) c.remove.new.header it) c.in-Ok-true.field-0-test (c.in-Ok-true.ensures.removes tells.pages.present (told_present g.D.Disk c.args.self.now.pager tells.pages tells.told) s.present tells.present) in
    let whole = ap (λ (o : Option (List ℕ)). deletes_at o s) at ∙ takes_there NoEntry c.deref.result.now s out.0 in (
      ap (λ (a : Result (Unit {0}) KvFault × Session Stored). a.0) (sym whole),
      subst (Tells g.D.Disk _) (ap (λ (a : Result (Unit {0}) KvFault × Session Stored). a.1) (sym whole))
          (tells_put g.D.Disk c.args.self.now _ c.remove.new.p s (remove s.present c.deref.result.now) tells
          c.in-Ok-true.ensures.keeps (c.in-Ok-true.ensures.cause.pages.sound (λ i. cc)) out.1 c.begin.ensures.told c.begin.ensures.begun tells.unclosed refl),
    )

pub returns-in-Ok-true-clause-stop : goal.returns-in-Ok-true-clause-stop
returns-in-Ok-true-clause-stop g c = λ s tells.
    subst (λ (d : MutBor _). LeavesOnly g.D.Disk (disk_of g.D.Disk c.args.self.now).now d.now (RecoversTo s.saved)) (sym c.begin.ensures.disk)
    (saved_kept g.D.Disk c.args.self.now s tells c.remove.new.p.disk c.in-Ok-true.ensures.keeps.disk)

pub returns-in-Ok-true-clause-kept : goal.returns-in-Ok-true-clause-kept
returns-in-Ok-true-clause-kept g c = subst (KeepsDisk g.D.Disk c.args.self.now.pager.disk) (sym c.begin.ensures.disk) c.in-Ok-true.ensures.keeps.disk

pub returns-in-Ok-false-clause-does : goal.returns-in-Ok-false-clause-does
returns-in-Ok-false-clause-does g c = λ s tells answered.
    let at = placed_at c.args.c.now c.in-Some.stored c.deref.result.now c.in-Some.is c.deref.ensures.value in
    let out = subst (λ (it : Bool). Removes c.deref.result.now s.present (present g.D.Disk c.remove.new.p) c.remove.new.header it) c.in-Ok-false.field-0-test (c.in-Ok-false.ensures.removes tells.pages.present (told_present g.D.Disk c.args.self.now.pager tells.pages tells.told) s.present tells.present) in
    let whole = ap (λ (o : Option (List ℕ)). deletes_at o s) at ∙ takes_none NoEntry c.deref.result.now s out in
    let same = c.in-Ok-false.ensures.same (ap Ok c.in-Ok-false.field-0-test) in (
      ap (λ (a : Result (Unit {0}) KvFault × Session Stored). a.0) (sym whole),
      subst (Tells g.D.Disk _) (ap (λ (a : Result (Unit {0}) KvFault × Session Stored). a.1) (sym whole))
          (tells_read g.D.Disk c.args.self.now _ s tells same.0 (c.in-Ok-false.ensures.cause.pages.sound (λ i. cc)) tells.unclosed refl same.2),
    )

pub returns-in-Ok-false-clause-stop : goal.returns-in-Ok-false-clause-stop
returns-in-Ok-false-clause-stop g c = λ s tells. saved_kept g.D.Disk c.args.self.now s tells c.remove.new.p.disk c.in-Ok-false.ensures.keeps.disk

pub returns-in-Err-clause-stop : goal.returns-in-Err-clause-stop
returns-in-Err-clause-stop g c = λ s tells. saved_kept g.D.Disk c.args.self.now s tells c.remove.new.p.disk c.in-Err.ensures.keeps.disk

pub returns-in-Err-clause-cause : goal.returns-in-Err-clause-cause
returns-in-Err-clause-cause g c =
    stopped g.D.Disk c.args.self.now _ _ c.remove.result (Err c.close_by.result) (c.in_ok-check_open.ensures.open.0 refl) c.remove.ensures.cause
    c.in-Err.fault c.in-Err.is (ap Err c.close_by.ensures.fault) c.close_by.ensures.closed
