use Rattle.std.proofs.Common.{◌≡◌, ℕ, List, ◌∷◌, Option, Vec, Global, Ok, Err, refl, ap, sym, subst, ◌∙◌}
use Rattle.std.specs.Prelude.{IfSome, Result, if◌then◌else◌}
use Rattle.std.specs.Option.{option_map}
use Rattle.std.specs.FinMap.{contains_key}
use Rattle.std.proofs.lemmas.Result.{err_from_is_err_and}
use Rattle.uq_model.specs.Session.{Session}
use Rattle.uq_kv.specs.declared.error.KvFault.{KvFault}
use Rattle.uq_kv.specs.declared.error.KvFault.TheVariants.{EmptyKey, KeyTooLong, NotFound}
use Rattle.uq_kv.specs.Calls.{stop_of, stops}
use Rattle.uq_kv.specs.Kv.{Tells}
use Rattle.uq_kv.specs.Lengths.{key_checked}
use Rattle.uq_kv.specs.Stored.{Stored, stored_key}
use Rattle.uq_kv.specs.Users.{key_where}
use Rattle.uq_kv.specs.declared.space.Space.TheVariants.{Keys}
use Rattle.uq_kv.proofs.Faults.{stopped}
use Rattle.uq_kv.proofs.Refused.{causes_nothing, does_nothing, fails_by, key_among, key_of_length, refuses_else, refuses_here, refuses_none, stop_not_length}
use Rattle.uq_kv.proofs.Cursors.{seeks_is, where_none, where_ok}
use Rattle.uq_kv.proofs.Stops.{saved_here, saved_kept}
use Rattle.uq_kv.proofs.Telling.{tells_read, told_present}
use Rattle.uq_kv.proofs.kv.Kv.seek_key.Goals as goal

abbrev listed : List KvFault
listed = EmptyKey ∷ KeyTooLong ∷ NotFound ∷ stops

pub returns-in_err-check_key-clause-does : goal.returns-in_err-check_key-clause-does
returns-in_err-check_key-clause-does g c =
    let answered = err_from_is_err_and c.from_residual-in_err-check_key.result c.from_residual-in_err-check_key.ensures.1 in
    does_nothing g.D.Disk c.args.self.now c.from_residual-in_err-check_key.result c.in_err-check_key.field-0.0 (answered.1 ∙ ap Err answered.2) (λ stored. stored.items) (key_checked c.args.key.now)
    (λ t. ((if contains_key t.present (stored_key Keys c.args.key.now) then Ok (stored_key Keys c.args.key.now) else Err NotFound), t)) (sym c.in_err-check_key.ensures.checked)

pub returns-in_err-check_key-clause-lengths : goal.returns-in_err-check_key-clause-lengths
returns-in_err-check_key-clause-lengths g c = λ unclosed.
    let answered = err_from_is_err_and c.from_residual-in_err-check_key.result c.from_residual-in_err-check_key.ensures.1 in
    refuses_here (key_checked c.args.key.now) c.from_residual-in_err-check_key.result c.in_err-check_key.field-0.0 (sym c.in_err-check_key.ensures.checked) (answered.1 ∙ ap Err answered.2)

pub returns-in_err-check_key-clause-faults : goal.returns-in_err-check_key-clause-faults
returns-in_err-check_key-clause-faults g c =
    let answered = err_from_is_err_and c.from_residual-in_err-check_key.result c.from_residual-in_err-check_key.ensures.1 in
    fails_by g.D.Disk c.args.self.now c.from_residual-in_err-check_key.result c.in_err-check_key.field-0.0 (answered.1 ∙ ap Err answered.2) listed (key_among (NotFound ∷ stops) c.in_err-check_key.field-0.0 c.in_err-check_key.ensures.faults)

pub returns-in_err-check_key-clause-cause : goal.returns-in_err-check_key-clause-cause
returns-in_err-check_key-clause-cause g c =
    let answered = err_from_is_err_and c.from_residual-in_err-check_key.result c.from_residual-in_err-check_key.ensures.1 in
    causes_nothing g.D.Disk c.args.self.now c.from_residual-in_err-check_key.result c.in_err-check_key.field-0.0 (answered.1 ∙ ap Err answered.2) (c.in_ok-check_open.ensures.open.0 refl) (key_of_length c.in_err-check_key.field-0.0 c.in_err-check_key.ensures.faults)

pub returns-in_err-check_key-clause-stop : goal.returns-in_err-check_key-clause-stop
returns-in_err-check_key-clause-stop g c = λ s tells. saved_here g.D.Disk c.args.self.now s tells (record { only_now = g.met.D.Disk.only_now; counts_now = g.met.D.Disk.counts_now })

pub returns-in-Ok-Some-clause-does : goal.returns-in-Ok-Some-clause-does
returns-in-Ok-Some-clause-does g c = λ s tells answered.
    let got = subst (λ (o : Option (Vec ℕ Global)). option_map (λ (v : Vec ℕ Global). v.items) o ≡ key_where (contains_key s.present (stored_key Keys c.args.key.now)) (stored_key Keys c.args.key.now)) c.in-Ok-Some.field-0-is
    (c.in-Ok-Some.ensures.found tells.pages.present (told_present g.D.Disk c.args.self.now.pager tells.pages tells.told) s.present tells.present) in
    let whole = seeks_is c.args.key.now s (sym c.in_ok-check_key.ensures.checked) in (
      rw c.in-Ok-Some.field-0-is (where_ok (contains_key s.present (stored_key Keys c.args.key.now)) (stored_key Keys c.args.key.now) c.in-Ok-Some.found.items got ∙ ap (λ (a : Result (List ℕ) KvFault × Session Stored). a.0) (sym whole)),
      subst (Tells g.D.Disk _) (ap (λ (a : Result (List ℕ) KvFault × Session Stored). a.1) (sym whole))
          (tells_read g.D.Disk c.args.self.now _ s tells c.in-Ok-Some.ensures.reads (c.in-Ok-Some.ensures.cause.pages.sound (λ i. cc)) tells.unclosed refl refl),
    )

pub returns-in-Ok-Some-clause-lengths : goal.returns-in-Ok-Some-clause-lengths
returns-in-Ok-Some-clause-lengths g c = λ unclosed.
    rw c.in-Ok-Some.field-0-is (refuses_none (key_checked c.args.key.now) (Ok c.in-Ok-Some.found) (sym c.in_ok-check_key.ensures.checked) c.in-Ok-Some.found refl)

pub returns-in-Ok-Some-clause-stop : goal.returns-in-Ok-Some-clause-stop
returns-in-Ok-Some-clause-stop g c = λ s tells. saved_kept g.D.Disk c.args.self.now s tells c.present_key.new.p.disk c.in-Ok-Some.ensures.reads.keeps.disk

pub returns-in-Ok-None-clause-does : goal.returns-in-Ok-None-clause-does
returns-in-Ok-None-clause-does g c = λ s tells answered.
    let got = subst (λ (o : Option (Vec ℕ Global)). option_map (λ (v : Vec ℕ Global). v.items) o ≡ key_where (contains_key s.present (stored_key Keys c.args.key.now)) (stored_key Keys c.args.key.now)) c.in-Ok-None.field-0-is
    (c.in-Ok-None.ensures.found tells.pages.present (told_present g.D.Disk c.args.self.now.pager tells.pages tells.told) s.present tells.present) in
    let whole = seeks_is c.args.key.now s (sym c.in_ok-check_key.ensures.checked) in (
      where_none (contains_key s.present (stored_key Keys c.args.key.now)) (stored_key Keys c.args.key.now) got ∙ ap (λ (a : Result (List ℕ) KvFault × Session Stored). a.0) (sym whole),
      subst (Tells g.D.Disk _) (ap (λ (a : Result (List ℕ) KvFault × Session Stored). a.1) (sym whole))
          (tells_read g.D.Disk c.args.self.now _ s tells c.in-Ok-None.ensures.reads (c.in-Ok-None.ensures.cause.pages.sound (λ i. cc)) tells.unclosed refl refl),
    )

pub returns-in-Ok-None-clause-lengths : goal.returns-in-Ok-None-clause-lengths
returns-in-Ok-None-clause-lengths g c = λ unclosed. refuses_else (key_checked c.args.key.now) (Err NotFound) (sym c.in_ok-check_key.ensures.checked) NotFound refl refl

pub returns-in-Ok-None-clause-stop : goal.returns-in-Ok-None-clause-stop
returns-in-Ok-None-clause-stop g c = λ s tells. saved_kept g.D.Disk c.args.self.now s tells c.present_key.new.p.disk c.in-Ok-None.ensures.reads.keeps.disk

pub returns-in-Err-clause-lengths : goal.returns-in-Err-clause-lengths
returns-in-Err-clause-lengths g c = λ unclosed.
    refuses_else (key_checked c.args.key.now) (Err c.close_by.result) (sym c.in_ok-check_key.ensures.checked) (stop_of c.in-Err.fault) (stop_not_length c.in-Err.fault) (ap Err c.close_by.ensures.fault)

pub returns-in-Err-clause-stop : goal.returns-in-Err-clause-stop
returns-in-Err-clause-stop g c = λ s tells. saved_kept g.D.Disk c.args.self.now s tells c.present_key.new.p.disk c.in-Err.ensures.reads.keeps.disk

pub returns-in-Err-clause-cause : goal.returns-in-Err-clause-cause
returns-in-Err-clause-cause g c =
    stopped g.D.Disk c.args.self.now _ _ c.present_key.result (Err c.close_by.result) (c.in_ok-check_open.ensures.open.0 refl) c.present_key.ensures.cause
    c.in-Err.fault c.in-Err.is (ap Err c.close_by.ensures.fault) c.close_by.ensures.closed

pub returns-in-Ok-Some-clause-key : goal.returns-in-Ok-Some-clause-key
returns-in-Ok-Some-clause-key g c =
    rw c.in-Ok-Some.field-0-is (subst (λ (o : Option (Vec ℕ Global)). IfSome o (λ (stored : Vec ℕ Global). stored.items ≡ stored_key Keys c.args.key.now)) c.in-Ok-Some.field-0-is c.in-Ok-Some.ensures.users)
