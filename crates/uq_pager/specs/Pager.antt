-- What contracts see of a pager.
use Rattle.std.specs.Prelude.{◌≡◌, ◌⊎◌, ◌||◌, ◌+◌, ◌-◌, ◌^◌, ◌≤◌, min, ℕ, Bool, true, List, ◌++◌, length, slice_get, is_some, Option, Some, Result, OnOk, OnErr}
use Rattle.uq_facts.specs.Causes.{UnlessErr}
use Rattle.uq_page.specs.Page.{bytes_of}
use Rattle.uq_page.specs.Pages.{HasPagesCause}
use Rattle.uq_page.specs.declared.page.Page.{Page}
use Rattle.std.specs.Option.{ForSome, option_map}
use Rattle.std.specs.Map.{keys_of}
use Rattle.uq_outside.specs.declared.disk.Disk.{Ghosts}
use Rattle.uq_journal.specs.Calls.{IsStill}
use Rattle.uq_journal.specs.Pages.{with_batch}
use Rattle.uq_pager.specs.declared.pager.Pager.{Pager}
use Rattle.uq_pager.specs.Changes.{batch_of}
use Rattle.uq_pager.specs.Clean.{clean_of}
use Rattle.uq_pager.specs.Keeps.{KeepsDisk}
use Rattle.uq_pager.specs.Paged.{Paged, Commits, paged_by, pages_on, told_while}
use Rattle.uq_pager.specs.Places.{entry_of}

module _ {D : Type 0} (g : Ghosts D) where
  -- what it tells, until a call fails
  abbrev pub paged : Pager D g → Option Paged
  paged it = told_while it.is_sound (option_map (paged_by (batch_of it.changes) it.is_begun) (pages_on g it.disk.now))

  -- the present pages
  abbrev pub present : Pager D g → Option (List (List ℕ))
  present it = told_while it.is_sound (option_map (with_batch (batch_of it.changes)) (pages_on g it.disk.now))

  -- the committed pages
  abbrev pub committed_pages : Pager D g → Option (List (List ℕ))
  committed_pages it = told_while it.is_sound (pages_on g it.disk.now)

  -- no call has failed
  abbrev pub IsSound : Pager D g → Type 0
  IsSound it = it.is_sound ≡ true

  -- the numbers of the pages that are held: the changed ones and the clean ones
  abbrev pub held_numbers : Pager D g → List ℕ
  held_numbers it = keys_of (batch_of it.changes) ++ keys_of it.clean.entries

  -- whether a page is among them
  abbrev pub is_held : Pager D g → ℕ → Bool
  is_held it k = is_some (entry_of k (batch_of it.changes)) || is_some (clean_of k it.clean.entries)

  -- at most so many clean pages are held
  abbrev pub cache_of : Pager D g → ℕ
  cache_of it = it.clean.cap

  -- what every call but a commit and a rollback keeps of a pager and its disk
  pub record KeepsPager (old new : Pager D g) : Type 0 where
    pub disk : KeepsDisk g old.disk new.disk
    pub sound : IsSound new → IsSound old
    pub committed : IsSound new → committed_pages new ≡ committed_pages old
    pub begun : old.is_begun ≡ true → new.is_begun ≡ true
    pub cache : cache_of new ≡ cache_of old

  -- what a call keeps that only reads; it changes nothing on the disk
  pub record OnlyReads (old new : Pager D g) : Type 0 where
    pub keeps : KeepsPager old new
    pub still : IsStill g old.disk.now new.disk.now
    pub paged : IsSound new → paged new ≡ paged old
    pub begun : new.is_begun ≡ old.is_begun
    pub changes : batch_of new.changes ≡ batch_of old.changes

  -- all but what is held and how often pages were asked for is as before
  pub record SameButHeld (old new : Pager D g) : Type 0 where
    pub disk : new.disk ≡ old.disk
    pub changes : new.changes ≡ old.changes
    pub saved : new.saved ≡ old.saved
    pub count : new.count ≡ old.count
    pub begun : new.is_begun ≡ old.is_begun
    pub sound : new.is_sound ≡ old.is_sound
    pub cache : cache_of new ≡ cache_of old

  -- a held page is given up only where as many are held as the cache is to hold
  abbrev pub KeepsHeld : Pager D g → Pager D g → Type 0
  KeepsHeld old new = (k : ℕ) → is_held old k ≡ true → (cache_of old ≤ length (held_numbers old)) ⊎ (is_held new k ≡ true)

  -- the same pages are held
  abbrev pub HoldsTheSame : Pager D g → Pager D g → Type 0
  HoldsTheSame old new = (k : ℕ) → is_held new k ≡ is_held old k

  -- what a read of a page that is not held leaves
  pub record Fetches {E : Type 0} (failure : E) (k : ℕ) (old new : Pager D g) (before into : Page) (result : Result (Unit {0}) E) : Type 0 where
    pub page : OnOk result (ForSome (present old) (λ pages. slice_get pages k ≡ Some (bytes_of into)))
    pub untouched : UnlessErr failure result (OnErr result (into ≡ before))
    pub same : UnlessErr failure result (present new ≡ present old)
    pub count : new.count ≡ old.count
    pub asked : new.asked ≡ old.asked
    pub reads : OnlyReads old new
    pub held : OnOk result (is_held new k ≡ true)
    pub kept : KeepsHeld old new
    pub cost : g.reads new.disk.now ≡ min (g.reads old.disk.now + 1) (2 ^ 64 - 1)
    pub cause : HasPagesCause failure (g.faults old.disk.now) (g.faults new.disk.now) new.is_sound result

  -- a stop now leaves the committed pages, where they are told
  abbrev pub IsCommitted : Pager D g → Type 0
  IsCommitted it = ForSome (committed_pages it) (Commits g it.disk.now)
