use Rattle.std.proofs.Common.{ℕ, ap, ◌∙◌}
use Rattle.uq_page.specs.declared.page.Page.{Page}
use Rattle.lru.specs.LruCache.{LruCache}
use Rattle.uq_pager.specs.Clean.{clean_of}
use Rattle.uq_pager.proofs.Cleaning.{clean_removed}
use Rattle.uq_pager.proofs.Writing.{clean_gone}
use Rattle.uq_pager.proofs.paging.forget.Goals as goal

pub returns-then-len-gt0-clause-gone : goal.returns-then-len-gt0-clause-gone
returns-then-len-gt0-clause-gone c =
    ap (λ (clean : LruCache ℕ Page). clean_of c.args.no clean.entries) c.pop.ensures.entries ∙ clean_gone c.args.no c.args.clean.now.entries c.len.ensures.valid.0

pub returns-then-len-gt0-clause-others : goal.returns-then-len-gt0-clause-others
returns-then-len-gt0-clause-others c = λ q apart.
    ap (λ (clean : LruCache ℕ Page). clean_of q clean.entries) c.pop.ensures.entries ∙ clean_removed q c.args.no c.args.clean.now.entries apart
