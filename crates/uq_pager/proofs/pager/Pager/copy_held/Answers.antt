use Rattle.std.proofs.Common.{◌≡◌, ℕ, ap, ◌∙◌}
use Rattle.std.specs.Prelude.{◌||◌, is_some}
use Rattle.uq_pager.specs.Changes.{batch_of}
use Rattle.uq_pager.specs.Clean.{clean_of}
use Rattle.uq_pager.specs.Places.{entry_of}
use Rattle.uq_pager.proofs.Cleaning.{clean_promoted}
use Rattle.uq_pager.proofs.Reading.{changed_page, clean_page, holds_same}
use Rattle.uq_pager.proofs.pager.Pager.copy_held.Goals as goal

pub returns-in-Some-clause-page : goal.returns-in-Some-clause-page
returns-in-Some-clause-page g c = λ _. changed_page g.D.Disk c.args.self.now c.args.no _ c.in-Some.ensures

pub invariant_of-self : goal.invariant_of-self
invariant_of-self g c =
    let it = c.args.self.now in
    let same : (q : ℕ) → clean_of q c.promote.new.self.entries ≡ clean_of q it.clean.entries = λ q. ap (λ clean. clean_of q clean.entries) c.promote.ensures.entries ∙ clean_promoted q c.args.no it.clean.entries in
    let holds = holds_same g.D.Disk it c.promote.new.self.entries same in
    record { none = it.none; ascending = it.ascending; counted = it.counted; idle = it.idle; apart = holds.apart; below = holds.below; rest = it.rest; pages = it.pages; right = holds.right }

pub returns-in-Some-peek-clause-page : goal.returns-in-Some-peek-clause-page
returns-in-Some-peek-clause-page g c = λ _. clean_page g.D.Disk c.args.self.now c.args.no c.in-Some-peek.page.now c.in-Some-peek.ensures

pub returns-in-Some-peek-clause-same : goal.returns-in-Some-peek-clause-same
returns-in-Some-peek-clause-same g c = λ q.
    ap (λ o. is_some (entry_of q (batch_of c.args.self.now.changes)) || is_some o) (ap (λ clean. clean_of q clean.entries) c.promote.ensures.entries ∙ clean_promoted q c.args.no c.args.self.now.clean.entries)
