use Rattle.std.proofs.Common.{◌≡◌, ℕ, List, Bool, false, Option, Ok, Err, refl, sym, ap, subst, ◌∙◌}
use Rattle.std.specs.Prelude.{Result}
use Rattle.uq_kv.specs.declared.error.KvFault.{KvFault}
use Rattle.uq_kv.specs.Cursor.{is_at, is_valid}
use Rattle.uq_kv.specs.Kv.{Tells}
use Rattle.uq_kv.proofs.Cursors.{no_place, placed_at}
use Rattle.uq_kv.proofs.Faults.{stopped}
use Rattle.uq_kv.proofs.Stops.{saved_here, saved_kept}
use Rattle.uq_kv.proofs.Telling.{tells_read, told_present}
use Rattle.uq_kv.proofs.kv.Kv.cursor_valid.Goals as goal

pub returns-in_default-clause-does : goal.returns-in_default-clause-does
returns-in_default-clause-does g c = λ s tells answered.
    subst (λ (at : Option (List ℕ)). ◌≡◌ {A = Result Bool KvFault} (Ok false) (is_valid at s).0 × Tells g.D.Disk c.args.self.now (is_valid at s).1) (sym (no_place c.args.c.now c.in_default.not-Some)) (refl, tells)

pub returns-in_default-clause-stop : goal.returns-in_default-clause-stop
returns-in_default-clause-stop g c = λ s tells. saved_here g.D.Disk c.args.self.now s tells (record { only_now = g.met.D.Disk.only_now; counts_now = g.met.D.Disk.counts_now })

pub returns-in-Ok-clause-does : goal.returns-in-Ok-clause-does
returns-in-Ok-clause-does g c = λ s tells answered.
    let at = placed_at c.args.c.now c.in-Some.stored c.deref.result.now c.in-Some.is c.deref.ensures.value in
    let got = c.in-Ok.ensures.there tells.pages.present (told_present g.D.Disk c.args.self.now.pager tells.pages tells.told) s.present tells.present in (
      ap (λ (there : Bool). Ok there) (got ∙ ap (λ (o : Option (List ℕ)). is_at o s.present) (sym at)),
      tells_read g.D.Disk c.args.self.now _ s tells c.in-Ok.ensures.reads (c.in-Ok.ensures.cause.pages.sound (λ i. cc)) tells.unclosed refl refl,
    )

pub returns-in-Ok-clause-stop : goal.returns-in-Ok-clause-stop
returns-in-Ok-clause-stop g c = λ s tells. saved_kept g.D.Disk c.args.self.now s tells c.is_there.new.p.disk c.in-Ok.ensures.reads.keeps.disk

pub returns-in-Err-clause-stop : goal.returns-in-Err-clause-stop
returns-in-Err-clause-stop g c = λ s tells. saved_kept g.D.Disk c.args.self.now s tells c.is_there.new.p.disk c.in-Err.ensures.reads.keeps.disk

pub returns-in-Err-clause-cause : goal.returns-in-Err-clause-cause
returns-in-Err-clause-cause g c =
    stopped g.D.Disk c.args.self.now _ _ c.is_there.result (Err c.close_by.result) (c.in_ok-check_open.ensures.open.0 refl) c.is_there.ensures.cause
    c.in-Err.fault c.in-Err.is (ap Err c.close_by.ensures.fault) c.close_by.ensures.closed
