use Rattle.std.proofs.Common.{◌≡◌, ℕ, List, Option, Vec, Global, Err, refl, sym, ap, subst, ◌∙◌}
use Rattle.std.specs.Prelude.{Result}
use Rattle.std.specs.Option.{option_map}
use Rattle.std.specs.FinMap.{get}
use Rattle.uq_model.specs.Session.{Session}
use Rattle.uq_kv.specs.declared.error.KvFault.{KvFault}
use Rattle.uq_kv.specs.declared.error.KvFault.TheVariants.{NoEntry}
use Rattle.uq_kv.specs.Cursor.{data_at, found_at}
use Rattle.uq_kv.specs.Kv.{Tells}
use Rattle.uq_kv.specs.Stored.{Stored}
use Rattle.uq_kv.proofs.Cursors.{no_place, placed_at}
use Rattle.uq_kv.proofs.Faults.{stopped}
use Rattle.uq_kv.proofs.Stops.{saved_here, saved_kept}
use Rattle.uq_kv.proofs.Telling.{tells_read, told_present}
use Rattle.uq_kv.proofs.kv.Kv.cursor_data.Goals as goal

pub returns-in_default-clause-does : goal.returns-in_default-clause-does
returns-in_default-clause-does g c = λ s tells answered.
    subst (λ (at : Option (List ℕ)). ◌≡◌ {A = Result (List ℕ) KvFault} (Err NoEntry) (data_at at s).0 × Tells g.D.Disk c.args.self.now (data_at at s).1) (sym (no_place c.args.c.now c.in_default.not-Some)) (refl, tells)

pub returns-in_default-clause-stop : goal.returns-in_default-clause-stop
returns-in_default-clause-stop g c = λ s tells. saved_here g.D.Disk c.args.self.now s tells (record { only_now = g.met.D.Disk.only_now; counts_now = g.met.D.Disk.counts_now })

pub returns-in-Ok-Some-clause-does : goal.returns-in-Ok-Some-clause-does
returns-in-Ok-Some-clause-does g c = λ s tells answered.
    let at = placed_at c.args.c.now c.in-Some.stored c.deref.result.now c.in-Some.is c.deref.ensures.value in
    let got = subst (λ (o : Option (Vec ℕ Global)). option_map (λ (v : Vec ℕ Global). v.items) o ≡ get s.present c.deref.result.now) c.in-Ok-Some.field-0-is (c.in-Ok-Some.ensures.found tells.pages.present (told_present g.D.Disk c.args.self.now.pager tells.pages tells.told) s.present tells.present) in
    let whole = ap (λ (o : Option (List ℕ)). data_at o s) at in (
      rw c.in-Ok-Some.field-0-is (ap found_at got ∙ ap (λ (a : Result (List ℕ) KvFault × Session Stored). a.0) (sym whole)),
      subst (Tells g.D.Disk _) (ap (λ (a : Result (List ℕ) KvFault × Session Stored). a.1) (sym whole))
          (tells_read g.D.Disk c.args.self.now _ s tells c.in-Ok-Some.ensures.reads (c.in-Ok-Some.ensures.cause.pages.sound (λ i. cc)) tells.unclosed refl refl),
    )

pub returns-in-Ok-Some-clause-stop : goal.returns-in-Ok-Some-clause-stop
returns-in-Ok-Some-clause-stop g c = λ s tells. saved_kept g.D.Disk c.args.self.now s tells c.find_stored.new.p.disk c.in-Ok-Some.ensures.reads.keeps.disk

pub returns-in-Ok-None-clause-does : goal.returns-in-Ok-None-clause-does
returns-in-Ok-None-clause-does g c = λ s tells answered.
    let at = placed_at c.args.c.now c.in-Some.stored c.deref.result.now c.in-Some.is c.deref.ensures.value in
    let got = subst (λ (o : Option (Vec ℕ Global)). option_map (λ (v : Vec ℕ Global). v.items) o ≡ get s.present c.deref.result.now) c.in-Ok-None.field-0-is (c.in-Ok-None.ensures.found tells.pages.present (told_present g.D.Disk c.args.self.now.pager tells.pages tells.told) s.present tells.present) in
    let whole = ap (λ (o : Option (List ℕ)). data_at o s) at in (
      ap found_at got ∙ ap (λ (a : Result (List ℕ) KvFault × Session Stored). a.0) (sym whole),
      subst (Tells g.D.Disk _) (ap (λ (a : Result (List ℕ) KvFault × Session Stored). a.1) (sym whole))
          (tells_read g.D.Disk c.args.self.now _ s tells c.in-Ok-None.ensures.reads (c.in-Ok-None.ensures.cause.pages.sound (λ i. cc)) tells.unclosed refl refl),
    )

pub returns-in-Ok-None-clause-stop : goal.returns-in-Ok-None-clause-stop
returns-in-Ok-None-clause-stop g c = λ s tells. saved_kept g.D.Disk c.args.self.now s tells c.find_stored.new.p.disk c.in-Ok-None.ensures.reads.keeps.disk

pub returns-in-Err-clause-stop : goal.returns-in-Err-clause-stop
returns-in-Err-clause-stop g c = λ s tells. saved_kept g.D.Disk c.args.self.now s tells c.find_stored.new.p.disk c.in-Err.ensures.reads.keeps.disk

pub returns-in-Err-clause-cause : goal.returns-in-Err-clause-cause
returns-in-Err-clause-cause g c =
    stopped g.D.Disk c.args.self.now _ _ c.find_stored.result (Err c.close_by.result) (c.in_ok-check_open.ensures.open.0 refl) c.find_stored.ensures.cause
    c.in-Err.fault c.in-Err.is (ap Err c.close_by.ensures.fault) c.close_by.ensures.closed
