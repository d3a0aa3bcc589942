use Rattle.std.proofs.Common.{ℕ, Option, Some, None, Vec, Global, Err, refl, ap, subst}
use Rattle.std.specs.Prelude.{IfSome}
use Rattle.std.specs.Option.{option_map}
use Rattle.uq_kv.specs.Users.{IsOfKeys, LastOf}
use Rattle.uq_kv.proofs.Cursors.{no_answer}
use Rattle.uq_kv.proofs.Faults.{stopped}
use Rattle.uq_kv.proofs.Stops.{saved_kept}
use Rattle.uq_kv.proofs.Telling.{tells_read, told_present}
use Rattle.uq_kv.proofs.kv.Kv.last_entry.Goals as goal

pub returns-in-Ok-Some-clause-finds : goal.returns-in-Ok-Some-clause-finds
returns-in-Ok-Some-clause-finds g c = λ s tells answered. (
  (tells_read g.D.Disk c.args.self.now _ s tells c.in-Ok-Some.ensures.reads (c.in-Ok-Some.ensures.cause.pages.sound (λ i. cc)) tells.unclosed refl refl),
  (
    Some c.in-Ok-Some.found.items,
    subst (λ (o : Option (Vec ℕ Global)). LastOf s.present (option_map (λ (key : Vec ℕ Global). key.items) o)) c.in-Ok-Some.field-0-is (c.in-Ok-Some.ensures.found tells.pages.present (told_present g.D.Disk c.args.self.now.pager tells.pages tells.told) s.present tells.present),
    rw c.in-Ok-Some.field-0-is refl,
  ),
)

pub returns-in-Ok-Some-clause-users : goal.returns-in-Ok-Some-clause-users
returns-in-Ok-Some-clause-users g c = rw c.in-Ok-Some.field-0-is (subst (λ (o : Option (Vec ℕ Global)). IfSome o (λ (key : Vec ℕ Global). IsOfKeys key.items)) c.in-Ok-Some.field-0-is c.in-Ok-Some.ensures.users)

pub returns-in-Ok-Some-clause-stop : goal.returns-in-Ok-Some-clause-stop
returns-in-Ok-Some-clause-stop g c = λ s tells. saved_kept g.D.Disk c.args.self.now s tells c.last_key.new.p.disk c.in-Ok-Some.ensures.reads.keeps.disk

pub returns-in-Ok-None-clause-finds : goal.returns-in-Ok-None-clause-finds
returns-in-Ok-None-clause-finds g c = λ s tells answered. (
  (tells_read g.D.Disk c.args.self.now _ s tells c.in-Ok-None.ensures.reads (c.in-Ok-None.ensures.cause.pages.sound (λ i. cc)) tells.unclosed refl refl),
  (
    None,
    subst (λ (o : Option (Vec ℕ Global)). LastOf s.present (option_map (λ (key : Vec ℕ Global). key.items) o)) c.in-Ok-None.field-0-is (c.in-Ok-None.ensures.found tells.pages.present (told_present g.D.Disk c.args.self.now.pager tells.pages tells.told) s.present tells.present),
    refl,
  ),
)

pub returns-in-Ok-None-clause-stop : goal.returns-in-Ok-None-clause-stop
returns-in-Ok-None-clause-stop g c = λ s tells. saved_kept g.D.Disk c.args.self.now s tells c.last_key.new.p.disk c.in-Ok-None.ensures.reads.keeps.disk

pub returns-in-Err-clause-stop : goal.returns-in-Err-clause-stop
returns-in-Err-clause-stop g c = λ s tells. saved_kept g.D.Disk c.args.self.now s tells c.last_key.new.p.disk c.in-Err.ensures.reads.keeps.disk

pub returns-in-Err-clause-cause : goal.returns-in-Err-clause-cause
returns-in-Err-clause-cause g c =
    stopped g.D.Disk c.args.self.now _ _ c.last_key.result (Err c.close_by.result) (c.in_ok-check_open.ensures.open.0 refl) c.last_key.ensures.cause
    c.in-Err.fault c.in-Err.is (ap Err c.close_by.ensures.fault) c.close_by.ensures.closed

pub returns-in_err-check_open-clause-finds : goal.returns-in_err-check_open-clause-finds
returns-in_err-check_open-clause-finds g c = λ s tells answered.
    let was = c.in_err-check_open.ensures.closed.1 in
    let unclosed = tells.unclosed in absurd (cc)

pub returns-in-Err-clause-finds : goal.returns-in-Err-clause-finds
returns-in-Err-clause-finds g c = λ s tells answered. absurd (no_answer {T = Vec ℕ Global} (Err c.close_by.result) c.in-Err.fault (ap Err c.close_by.ensures.fault) answered)
