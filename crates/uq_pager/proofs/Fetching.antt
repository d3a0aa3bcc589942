-- What a read of the disk leaves of a pager.
use Rattle.std.proofs.Common.{◌≡◌, ◌≢◌, ◌⊎◌, ℕ, ◌+◌, ◌-◌, ◌<◌, ◌≤◌, Bool, true, false, length, take, nat_eq, Option, Some, None, Result, Ok, Err, OnOk, OnErr, refl, sym, ap, ◌∙◌, ⊎_elim, inl, inr, arith, length-append}
use Rattle.std.specs.Prelude.{◌||◌, slice_get, is_some}
use Rattle.std.specs.Option.{ForSome, option_and_then}
use Rattle.std.specs.Map.{keys_of}
use Rattle.std.proofs.lemmas.Bool.{cases_eq, cases_lt}
use Rattle.std.proofs.lemmas.List.{take_all, length-map}
use Rattle.lru.specs.LruCache.{LruCache, lru_cache, put_entries}
use Rattle.uq_outside.specs.declared.disk.Disk.{Ghosts}
use Rattle.uq_outside.specs.Files.{Files}
use Rattle.uq_outside.specs.Stops.{Only}
use Rattle.uq_page.specs.Page.{bytes_of}
use Rattle.uq_page.specs.declared.page.Page.{Page}
use Rattle.uq_journal.specs.Calls.{IsAtRest}
use Rattle.uq_journal.specs.Pages.{pages_of}
use Rattle.uq_pager.specs.declared.pager.Pager.{Pager}
use Rattle.uq_pager.specs.Changes.{batch_of}
use Rattle.uq_pager.specs.Clean.{clean_of}
use Rattle.uq_pager.specs.Paged.{pages_on}
use Rattle.uq_pager.specs.Pager.{held_numbers}
use Rattle.uq_pager.specs.Places.{entry_of}
use Rattle.uq_pager.proofs.Cleaning.{clean_head, clean_tail, put_new}
use Rattle.uq_pager.proofs.Reading.{CleanHolds, holds_new, holds_same}

-- a call that changes nothing leaves the disk at rest
pub rest_still : {D : Type 0} (g : Ghosts D) (old new : D) → g.content new ≡ g.content old → Only (g.may_leave old) (g.may_leave new)
    → ForSome (g.content old) (IsAtRest g old) → ForSome (g.content new) (IsAtRest g new)
rest_still g old new same only rest files told =
    let was = rest files (sym same ∙ told) in
    record { closed = was.closed; recovers = was.recovers; settled = λ left may. was.settled left (only left may) }

pub pages_still : {D : Type 0} (g : Ghosts D) (old new : D) → g.content new ≡ g.content old → pages_on g new ≡ pages_on g old
pages_still g old new same = ap (option_and_then (λ (files : Files). pages_of files.main)) same

-- the clean pages, whether a page was taken up or not
pub put_holds : {D E : Type 0} (g : Ghosts D) (it : Pager D g) (k : ℕ) (page : Page) (new : LruCache ℕ Page) (result : Result (Option Page) E)
    → OnOk result (new ≡ lru_cache (put_entries nat_eq it.clean k page) it.clean.cap) → OnErr result (new ≡ it.clean) → entry_of k (batch_of it.changes) ≡ None → clean_of k it.clean.entries ≡ None → k < it.saved
    → (it.is_sound ≡ true → ForSome (pages_on g it.disk.now) (λ pages. slice_get pages k ≡ Some (bytes_of page))) → CleanHolds g it new.entries
put_holds g it k page new (Ok old) put err none away lt read =
    holds_new g it k (it.clean.cap - 1) page new.entries (ap (λ (c : LruCache ℕ Page). c.entries) put ∙ put_new it.clean k page away) none lt read
put_holds g it k page new (Err e) put err none away lt read = holds_same g it new.entries (λ q. ap (λ (c : LruCache ℕ Page). clean_of q c.entries) err)

-- the page just taken up is held
pub put_found : (clean new : LruCache ℕ Page) (k : ℕ) (page : Page) → clean_of k clean.entries ≡ None → new ≡ lru_cache (put_entries nat_eq clean k page) clean.cap → clean_of k new.entries ≡ Some page
put_found clean new k page away is =
    ap (λ (c : LruCache ℕ Page). clean_of k c.entries) is ∙ ap (clean_of k) (put_new clean k page away) ∙ clean_head k (k, page) (take (clean.cap - 1) clean.entries) refl

-- and where fewer were held than may be, none was given up
pub put_keeps : (clean new : LruCache ℕ Page) (k q : ℕ) (page : Page) → clean_of k clean.entries ≡ None → new ≡ lru_cache (put_entries nat_eq clean k page) clean.cap
    → is_some (clean_of q clean.entries) ≡ true → (clean.cap ≤ length clean.entries) ⊎ (is_some (clean_of q new.entries) ≡ true)
put_keeps clean new k q page away is held = ⊎_elim
    (λ (room : length clean.entries < clean.cap). inr (ap (λ (c : LruCache ℕ Page). is_some (clean_of q c.entries)) is ∙ ap (λ es. is_some (clean_of q es)) (put_new clean k page away)
    ∙ ⊎_elim
    (λ (same : q ≡ k). ap is_some (clean_head q (k, page) (take (clean.cap - 1) clean.entries) same))
    (λ (apart : q ≢ k). ap is_some (clean_tail q (k, page) (take (clean.cap - 1) clean.entries) apart)
    ∙ ap (λ es. is_some (clean_of q es)) (take_all (clean.cap - 1) clean.entries (omega arith)) ∙ held)
    (cases_eq q k)))
    (λ (full : clean.cap ≤ length clean.entries). inl full)
    (cases_lt (length clean.entries) clean.cap)

-- held either way
pub either_held : (a b c : Bool) (C : Type 0) → (a || b) ≡ true → (b ≡ true → C ⊎ (c ≡ true)) → C ⊎ ((a || c) ≡ true)
either_held true b c C held on = inr refl
either_held false b c C held on = on held

pub held_length : {D : Type 0} (g : Ghosts D) (it : Pager D g) → length (held_numbers g it) ≡ length (batch_of it.changes) + length it.clean.entries
held_length g it =
    length-append (keys_of (batch_of it.changes)) (keys_of it.clean.entries)
    ∙ (λ i. length-map (batch_of it.changes) (λ e. e.0) i + length-map it.clean.entries (λ e. e.0) i)
