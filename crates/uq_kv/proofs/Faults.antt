-- Why a store answers a fault of the pages.
use Rattle.std.proofs.Common.{◌≡◌, Bool, Option, Some, None, Err, refl, sym, ap, ◌∙◌}
use Rattle.std.specs.Prelude.{Result}
use Rattle.uq_outside.specs.declared.disk.Disk.{Ghosts}
use Rattle.uq_page.specs.declared.error.ChainFault.{ChainFault}
use Rattle.uq_page.specs.declared.error.ChainFault.TheVariants.{Failed, Corrupt, NoPage, Memory}
use Rattle.uq_pager.specs.Pager.{present}
use Rattle.uq_model.specs.declared.cause.Cause.{Cause}
use Rattle.uq_kv.specs.declared.error.KvFault.{KvFault}
use Rattle.uq_kv.specs.declared.kv.Kv.{Kv}
use Rattle.uq_kv.specs.Calls.{cause_of, closed_by, stop_of}
use Rattle.uq_kv.specs.Kv.{HasCauses, closed_of, disk_of}
use Rattle.uq_kv.specs.Writing.{HasStoreCause}
use Rattle.uq_kv.proofs.Telling.{told_present}

module _ {D T U : Type 0} (g : Ghosts D) (old new : Kv D g) (is_sound : Bool) (result : Result T ChainFault) (answer : Result U KvFault) (open_before : closed_of g old ≡ None)
    (cause : HasStoreCause (present g old.pager) old.header (g.faults (disk_of g old).now) (g.faults (disk_of g new).now) is_sound result) where
  closes : (fault : KvFault) (first : Cause) → answer ≡ Err fault → closed_of g new ≡ Some first → closed_by {T = U} (Err fault) None ≡ Some first → closed_of g new ≡ closed_by answer (closed_of g old)
  closes fault first answered now by =
      now ∙ sym by ∙ ap (λ (a : Result U KvFault). closed_by a None) (sym answered) ∙ ap (λ (before : Option Cause). closed_by answer before) (sym open_before)

  -- each fault comes only for its cause, and closes by it
  pub stopped : (fault : ChainFault) → result ≡ Err fault → answer ≡ Err (stop_of fault) → closed_of g new ≡ Some (cause_of fault) → HasCauses g old new answer
  stopped Failed failed answered now = record {
    later = cause.pages.later;
    disk = λ _. cause.pages.failed failed;
    quiet = λ other. absurd (other answered);
    corrupt = λ is. absurd (cc);
    closed = λ first. ((λ is. absurd (cc)), (λ was. absurd (cc)));
    closes = closes _ _ answered now refl;
  }
  stopped Corrupt failed answered now = record {
    later = cause.pages.later;
    disk = λ is. absurd (cc);
    quiet = λ _. cause.pages.quiet (λ is. cc);
    corrupt = λ _ s tells. cause.corrupt failed tells.pages.present (told_present g old.pager tells.pages tells.told) s.present tells.present;
    closed = λ first. ((λ is. absurd (cc)), (λ was. absurd (cc)));
    closes = closes _ _ answered now refl;
  }
  stopped NoPage failed answered now = absurd (cause.no_page failed)
  stopped Memory failed answered now = record {
    later = cause.pages.later;
    disk = λ is. absurd (cc);
    quiet = λ _. cause.pages.quiet (λ is. cc);
    corrupt = λ is. absurd (cc);
    closed = λ first. ((λ is. absurd (cc)), (λ was. absurd (cc)));
    closes = closes _ _ answered now refl;
  }
