-- What a stop leaves of a store.
use Rattle.std.proofs.Common.{◌≡◌, Some, inl, inr, ⊎_elim, ap, ◌∙◌}
use Rattle.std.specs.Borrow.{MutBor}
use Rattle.std.specs.Option.{option_and_then}
use Rattle.uq_outside.specs.declared.disk.Disk.{Ghosts}
use Rattle.uq_outside.specs.Files.{Files}
use Rattle.uq_outside.specs.Since.{After, Laws, LeavesOnly}
use Rattle.uq_outside.specs.SinceLaws.{started, weaker}
use Rattle.uq_journal.specs.Calls.{RecoversAs, recovered_pages}
use Rattle.uq_journal.specs.Pages.{pages_of}
use Rattle.uq_pager.specs.Keeps.{KeepsDisk}
use Rattle.uq_pager.specs.Paged.{RecoversToOne}
use Rattle.uq_pager.specs.PagerLaws.{is_committed}
use Rattle.uq_model.specs.Session.{Session}
use Rattle.uq_kv.specs.declared.kv.Kv.{Kv}
use Rattle.uq_kv.specs.Holds.{LeavesNow, RecoversTo, RecoversToEither}
use Rattle.uq_kv.specs.Kv.{Tells, disk_of}
use Rattle.uq_kv.specs.Stored.{Stored}
use Rattle.uq_kv.proofs.Telling.{told_committed}

module _ {D : Type 0} (g : Ghosts D) (it : Kv D g) (s : Session Stored) (tells : Tells g it s) where
  -- files that recover to the committed pages
  saved_files : (files : Files) → recovered_pages files ≡ Some tells.pages.committed → RecoversTo s.saved files
  saved_files files is = record { pages = tells.pages.committed; recovers = is; header = it.saved; database = tells.saved }

  present_files : (files : Files) → recovered_pages files ≡ Some tells.pages.present → RecoversTo s.present files
  present_files files is = record { pages = tells.pages.present; recovers = is; header = it.header; database = tells.present }

  committed_now : (files : Files) → g.may_leave (disk_of g it).now files → recovered_pages files ≡ Some tells.pages.committed
  committed_now files may = is_committed g it.pager tells.pages.committed (told_committed g it.pager tells.pages tells.told) files may

  -- a stop now leaves what is saved
  pub saved_now : LeavesNow g (disk_of g it).now s.saved
  saved_now files may = saved_files files (committed_now files may)

  -- and so does one within calls that keep the disk
  pub saved_kept : (new : MutBor D) → KeepsDisk g (disk_of g it) new → LeavesOnly g (disk_of g it).now new.now (RecoversTo s.saved)
  saved_kept new keeps = weaker g (After g (disk_of g it).now RecoversAs) (RecoversTo s.saved) (disk_of g it).now new.now
      (λ files after. saved_files files (ap (option_and_then pages_of) after.2 ∙ committed_now after.0 after.1)) keeps.stop

  -- one within a commit leaves what is saved or what is there
  pub either_kept : (new : D) → LeavesOnly g (disk_of g it).now new (RecoversToOne tells.pages.committed tells.pages.present) → LeavesOnly g (disk_of g it).now new (RecoversToEither s.saved s.present)
  either_kept new stop = weaker g (RecoversToOne tells.pages.committed tells.pages.present) (RecoversToEither s.saved s.present) (disk_of g it).now new
      (λ files one. ⊎_elim (λ (old : recovered_pages files ≡ Some tells.pages.committed). inl (saved_files files old)) (λ (new : recovered_pages files ≡ Some tells.pages.present). inr (present_files files new)) one) stop

  -- after it, what is there alone
  pub present_now : (disk : D) → ((files : Files) → g.may_leave disk files → recovered_pages files ≡ Some tells.pages.present) → LeavesNow g disk s.present
  present_now disk only files may = present_files files (only files may)

  module _ (laws : Laws g) where
    -- where no call was made
    pub saved_here : LeavesOnly g (disk_of g it).now (disk_of g it).now (RecoversTo s.saved)
    saved_here = started g (RecoversTo s.saved) laws.only_now (disk_of g it).now (λ files may. saved_now files may)

    pub either_here : LeavesOnly g (disk_of g it).now (disk_of g it).now (RecoversToEither s.saved s.present)
    either_here = started g (RecoversToEither s.saved s.present) laws.only_now (disk_of g it).now (λ files may. inl (saved_now files may))
