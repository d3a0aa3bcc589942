-- Laws of what contracts see of a store.
use Rattle.std.specs.Prelude.{Some}
use Rattle.std.specs.Option.{option_and_then}
use Rattle.std.proofs.Common.{ap, ◌∙◌}
use Rattle.uq_outside.specs.declared.disk.Disk.{Ghosts}
use Rattle.uq_journal.specs.Pages.{pages_of}
use Rattle.uq_pager.specs.Changes.{batch_of}
use Rattle.uq_pager.specs.Paged.{Paged, paged_by, pages_on}
use Rattle.uq_pager.specs.PagerLaws.{stands, told_parts}
use Rattle.uq_model.specs.Session.{Session}
use Rattle.uq_kv.specs.declared.kv.Kv.{Kv}
use Rattle.uq_kv.specs.Holds.{Holds}
use Rattle.uq_kv.specs.Kv.{Tells, disk_of}
use Rattle.uq_kv.specs.Stored.{Stored}

-- The disk of a store that tells its session holds what is saved, and nothing is pending.
pub holds_saved : {D : Type 0} (g : Ghosts D) (it : Kv D g) (s : Session Stored) → Tells g it s → Holds g (disk_of g it).now s.saved
holds_saved g it s tells =
    let parts = told_parts it.pager.is_sound (paged_by (batch_of it.pager.changes) it.pager.is_begun) (pages_on g it.pager.disk.now) tells.pages tells.told in
    let there = stands g it.pager parts.1 parts.0 parts.2 in
    record {
      files = there.files;
      told = there.told;
      settled = there.rest.settled;
      recovers = record {
        pages = tells.pages.committed;
        recovers = ap (option_and_then pages_of) there.rest.recovers ∙ there.main ∙ ap (λ (p : Paged). Some p.committed) parts.3;
        header = it.saved;
        database = tells.saved;
      };
    }
