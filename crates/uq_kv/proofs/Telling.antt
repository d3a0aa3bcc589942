-- What a store tells, by what its pager tells.
use Rattle.std.proofs.Common.{◌≡◌, ℕ, true, List, Option, Some, None, subst, sym, ap, ◌∙◌}
use Rattle.std.specs.Option.{option_map}
use Rattle.uq_outside.specs.declared.disk.Disk.{Ghosts}
use Rattle.uq_journal.specs.Pages.{with_batch}
use Rattle.uq_pager.specs.Changes.{batch_of}
use Rattle.uq_page.specs.declared.header.Header.{Header}
use Rattle.uq_pager.specs.Paged.{Paged, begun, paged_by, pages_on, told_while}
use Rattle.uq_pager.specs.Pager.{IsSound, KeepsPager, OnlyReads, committed_pages, paged, present}
use Rattle.uq_pager.specs.PagerLaws.{told_parts, told_sound}
use Rattle.uq_pager.specs.declared.pager.Pager.{Pager}
use Rattle.uq_model.specs.Session.{Session, with_present}
use Rattle.uq_kv.specs.declared.kv.Kv.{Kv}
use Rattle.uq_kv.specs.Database.{IsDatabase}
use Rattle.uq_kv.specs.Kv.{Tells, closed_of}
use Rattle.uq_kv.specs.Writing.{AreDatabase}
use Rattle.uq_kv.specs.Stored.{Stored}

module _ {D : Type 0} (g : Ghosts D) (it : Pager D g) where
  -- the present pages of what it tells
  pub told_present : (q : Paged) → paged g it ≡ Some q → present g it ≡ Some q.present
  told_present q is =
      let parts = told_parts it.is_sound (paged_by (batch_of it.changes) it.is_begun) (pages_on g it.disk.now) q is in
      ap (λ sound. told_while sound (option_map (with_batch (batch_of it.changes)) (pages_on g it.disk.now))) parts.0
      ∙ ap (option_map (with_batch (batch_of it.changes))) parts.2 ∙ ap (λ (p : Paged). Some p.present) parts.3

  -- and the committed ones
  pub told_committed : (q : Paged) → paged g it ≡ Some q → committed_pages g it ≡ Some q.committed
  told_committed q is =
      let parts = told_parts it.is_sound (paged_by (batch_of it.changes) it.is_begun) (pages_on g it.disk.now) q is in
      ap (λ sound. told_while sound (pages_on g it.disk.now)) parts.0 ∙ parts.2 ∙ ap (λ (p : Paged). Some p.committed) parts.3

  pub told_begun : (q : Paged) → paged g it ≡ Some q → it.is_begun ≡ q.begun
  told_begun q is =
      let parts = told_parts it.is_sound (paged_by (batch_of it.changes) it.is_begun) (pages_on g it.disk.now) q is in
      ap (λ (p : Paged). p.begun) parts.3

  -- both, and whether a transaction is begun, are all that it tells
  pub paged_now : (committed now : List (List ℕ)) → IsSound g it → committed_pages g it ≡ Some committed → present g it ≡ Some now
      → paged g it ≡ Some (record { committed = committed; present = now; begun = it.is_begun })
  paged_now committed now sound old new =
      let on = told_sound it.is_sound (pages_on g it.disk.now) committed old in
      let there : ◌≡◌ {A = Option (List (List ℕ))} (Some (with_batch (batch_of it.changes) committed)) (Some now) =
      sym (ap (λ s. told_while s (option_map (with_batch (batch_of it.changes)) (pages_on g it.disk.now))) sound ∙ ap (option_map (with_batch (batch_of it.changes))) on.1) ∙ new in
      let same : with_batch (batch_of it.changes) committed ≡ now = cc in
      ap (λ s. told_while s (option_map (paged_by (batch_of it.changes) it.is_begun) (pages_on g it.disk.now))) sound
      ∙ ap (option_map (paged_by (batch_of it.changes) it.is_begun)) on.1
      ∙ ap (λ (pages : List (List ℕ)). Some (record { committed = committed; present = pages; begun = it.is_begun })) same

module _ {D : Type 0} (g : Ghosts D) where
  -- after calls that keep the committed pages
  pub paged_after : (old new : Pager D g) (q : Paged) (now : List (List ℕ)) → paged g old ≡ Some q → KeepsPager g old new → IsSound g new → present g new ≡ Some now
      → paged g new ≡ Some (record { committed = q.committed; present = now; begun = new.is_begun })
  paged_after old new q now is keeps sound there =
      paged_now g new q.committed now sound (keeps.committed sound ∙ told_committed g old q is) there

  -- calls that only read leave the session
  pub tells_read : (old new : Kv D g) (s : Session Stored) → Tells g old s → OnlyReads g old.pager new.pager → IsSound g new.pager → closed_of g new ≡ None → new.saved ≡ old.saved → new.header ≡ old.header → Tells g new s
  tells_read old new s tells reads sound unclosed saved header = record {
    unclosed = unclosed;
    pages = tells.pages;
    told = reads.paged sound ∙ tells.told;
    saved = subst (λ (h : Header). IsDatabase h s.saved tells.pages.committed) (sym saved) tells.saved;
    present = subst (λ (h : Header). IsDatabase h s.present tells.pages.present) (sym header) tells.present;
    begun = tells.begun ∙ sym reads.begun;
    idle = tells.idle;
  }

  -- what was put in is there, and a transaction is begun
  pub tells_put : (old new : Kv D g) (mid : Pager D g) (s : Session Stored) (now : Stored) → Tells g old s → KeepsPager g old.pager mid → IsSound g mid → AreDatabase (present g mid) new.header now
      → paged g new.pager ≡ option_map begun (paged g mid) → new.pager.is_begun ≡ true → closed_of g new ≡ None → new.saved ≡ old.saved → Tells g new (with_present now s)
  tells_put old new mid s now tells keeps sound are told is_begun unclosed saved = record {
    unclosed = unclosed;
    pages = record { committed = tells.pages.committed; present = are.pages; begun = true };
    told = told ∙ ap (option_map begun) (paged_after old.pager mid tells.pages are.pages tells.told keeps sound are.is_told);
    saved = subst (λ (h : Header). IsDatabase h s.saved tells.pages.committed) (sym saved) tells.saved;
    present = are.database;
    begun = sym is_begun;
    idle = λ never. absurd (cc);
  }
