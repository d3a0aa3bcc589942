-- What contracts see of a store over a disk.
use Rattle.std.specs.Prelude.{◌≡◌, ◌↔◌, ◌≤◌, Bool, false, Option, Some, None, Result, Err, IsTrue}
use Rattle.std.specs.Borrow.{MutBor}
use Rattle.uq_facts.specs.Causes.{AtErr, Rose, UnlessErr}
use Rattle.uq_outside.specs.declared.disk.Disk.{Ghosts}
use Rattle.uq_outside.specs.Since.{LeavesOnly}
use Rattle.uq_journal.specs.Calls.{IsStill}
use Rattle.uq_pager.specs.Paged.{Paged}
use Rattle.uq_pager.specs.Pager.{paged}
use Rattle.uq_model.specs.Session.{Call, Session}
use Rattle.uq_model.specs.declared.cause.Cause.{Cause}
use Rattle.uq_model.specs.declared.limits.Limits.{Limits}
use Rattle.uq_kv.specs.declared.error.KvFault.{KvFault}
use Rattle.uq_kv.specs.declared.error.KvFault.TheVariants.{Disk, Corrupt, Closed}
use Rattle.uq_kv.specs.declared.kv.Kv.{Kv}
use Rattle.uq_kv.specs.Calls.{closed_by, is_answered, seen_by}
use Rattle.uq_kv.specs.Database.{IsDatabase}
use Rattle.uq_kv.specs.Holds.{RecoversTo, RecoversToEither}
use Rattle.uq_kv.specs.Stored.{Stored}

module _ {D : Type 0} (g : Ghosts D) where
  -- the disk, as it stands now
  abbrev pub disk_of : Kv D g → MutBor D
  disk_of it = it.pager.disk

  -- by what it was closed
  abbrev pub closed_of : Kv D g → Option Cause
  closed_of it = it.closed

  abbrev pub limits_of : Kv D g → Limits
  limits_of it = it.limits

  -- whether a transaction is begun, told or not
  abbrev pub is_begun_of : Kv D g → Bool
  is_begun_of it = it.pager.is_begun

  -- It is not closed, and it tells this session: its committed pages are a database of what is saved, its present ones of what is there.
  pub record Tells (it : Kv D g) (s : Session Stored) : Type 0 where
    pub unclosed : closed_of it ≡ None
    pub pages : Paged
    pub told : paged g it.pager ≡ Some pages
    pub saved : IsDatabase it.saved s.saved pages.committed
    pub present : IsDatabase it.header s.present pages.present
    pub begun : s.begun ≡ is_begun_of it
    -- with none begun the two are equal
    pub idle : s.begun ≡ false → s.present ≡ s.saved

  -- Where the session is told, an answer is that of this call, and so is the session after it. `view` is what a definition sees of a value.
  abbrev pub Does : {T U : Type 0} → (T → U) → Call Stored (Result U KvFault) → Kv D g → Kv D g → Result T KvFault → Type 0
  Does view call old new result =
      (s : Session Stored) → Tells old s → IsTrue (is_answered result) → (seen_by view result ≡ (call s).0) × Tells new (call s).1

  -- where the session is told, a stop within leaves what is saved
  abbrev pub LeavesSaved : Kv D g → Kv D g → Type 0
  LeavesSaved old new = (s : Session Stored) → Tells old s → LeavesOnly g (disk_of old).now (disk_of new).now (RecoversTo s.saved)

  -- or what is there
  abbrev pub LeavesSavedOrPresent : Kv D g → MutBor D → Type 0
  LeavesSavedOrPresent old new = (s : Session Stored) → Tells old s → LeavesOnly g (disk_of old).now new.now (RecoversToEither s.saved s.present)

  -- It is the same disk still, within the same limits, and one that was closed makes no call of the disk.
  pub record KeepsKv (old new : Kv D g) : Type 0 where
    pub same_reference : (disk_of new).ghost_name ≡ (disk_of old).ghost_name
    pub limits : limits_of new ≡ limits_of old
    pub closed : (first : Cause) → closed_of old ≡ Some first → disk_of new ≡ disk_of old

  -- Each fault of what lies below comes only for its cause, and `Memory` is free.
  pub record HasCauses {T : Type 0} (old new : Kv D g) (result : Result T KvFault) : Type 0 where
    pub later : g.faults (disk_of old).now ≤ g.faults (disk_of new).now
    pub disk : AtErr Disk result (Rose (g.faults (disk_of old).now) (g.faults (disk_of new).now))
    pub quiet : UnlessErr Disk result (g.faults (disk_of new).now ≡ g.faults (disk_of old).now)
    pub corrupt : AtErr Corrupt result ((s : Session Stored) → Tells old s → ⊥)
    -- a closed one answers its first cause, and nothing else does
    pub closed : (first : Cause) → (result ≡ Err (Closed first)) ↔ (closed_of old ≡ Some first)
    pub closes : closed_of new ≡ closed_by result (closed_of old)

  -- it reads the disk at most, and begins nothing
  pub record Reads (old new : Kv D g) : Type 0 where
    pub still : IsStill g (disk_of old).now (disk_of new).now
    pub begun : is_begun_of new ≡ is_begun_of old
