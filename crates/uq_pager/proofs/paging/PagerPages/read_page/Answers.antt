use Rattle.std.proofs.Common.{◌≡◌, ℕ, ◌≤◌, ◌++◌, true, length, ⊎_elim, inl, inr, ap, ◌∙◌, arith}
use Rattle.std.specs.Map.{keys_of}
use Rattle.lru.specs.LruCache.{LruCache}
use Rattle.uq_page.specs.declared.page.Page.{Page}
use Rattle.uq_pager.specs.Changes.{batch_of}
use Rattle.uq_pager.specs.declared.changes.Changes.{Changes}
use Rattle.uq_pager.specs.Pager.{cache_of, held_numbers, is_held}
use Rattle.uq_pager.proofs.paging.PagerPages.read_page.Goals as goal

pub returns-clause-kept : goal.returns-clause-kept
returns-clause-kept g c = λ q held.
    let changes : c.copy_held.new.self.changes ≡ c.args.self.now.changes = c.copy_held.ensures.rest.changes in
    let clean : c.copy_held.new.self.clean ≡ c.args.self.now.clean = c.copy_held.ensures.clean c.if-copy_held.false in
    let numbers : held_numbers g.D.Disk c.copy_held.new.self ≡ held_numbers g.D.Disk c.args.self.now =
    ap (λ (it : Changes). keys_of (batch_of it) ++ keys_of c.copy_held.new.self.clean.entries) changes
    ∙ ap (λ (it : LruCache ℕ Page). keys_of (batch_of c.args.self.now.changes) ++ keys_of it.entries) clean in
    let cap : c.copy_held.new.self.clean.cap ≡ c.args.self.now.clean.cap = ap (λ (it : LruCache ℕ Page). it.cap) clean in
    ⊎_elim
    (λ (full : cache_of g.D.Disk c.copy_held.new.self ≤ length (held_numbers g.D.Disk c.copy_held.new.self)). inl (omega (arith, ap length numbers, cap)))
    (λ (on : is_held g.D.Disk c.fetch.new.self q ≡ true). inr on)
    (c.fetch.ensures.kept q (c.copy_held.ensures.same q ∙ held))
