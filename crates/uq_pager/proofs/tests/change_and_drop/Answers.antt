use Rattle.std.proofs.Common.{◌≡◌, Some, ap, subst, rules, ◌∙◌}
use Rattle.uq_pager.specs.KeepsLaws.{commits_still}
use Rattle.uq_pager.specs.Paged.{Commits, pages_on, told_while}
use Rattle.uq_pager.specs.Pager.{committed_pages}
use Rattle.uq_pager.specs.PagerLaws.{is_committed}
use Rattle.uq_pager.proofs.Openings.{recovered_here}
use Rattle.uq_pager.proofs.tests.change_and_drop.Goals as goal

pub returns : goal.returns
returns g c = λ files on pages is.
    let it = c.over-pager.result in
    let here : committed_pages g.D.Disk it ≡ Some pages =
    ap (λ b. told_while b (pages_on g.D.Disk it.disk.now)) c.over-pager.ensures.sound ∙ ap (pages_on g.D.Disk) c.over-pager.ensures.disk
    ∙ recovered_here g.D.Disk c.args.disk.now c.recover.new.disk c.in_ok-ready.ensures.alike c.in_ok-ready.ensures.main files on ∙ is in
    let last = c.grow_and_rewrite-changed.new.pages.disk in
    let kept : Commits g.D.Disk last.now pages =
    commits_still g.D.Disk (record { only_now = g.met.D.Disk.only_now; counts_now = g.met.D.Disk.counts_now }) it.disk last pages c.grow_and_rewrite-changed.ensures.disk (is_committed g.D.Disk it pages here) in
    let same : last.now ≡ c.disk-1.given.0 = first_of (cc, search rules) in
    subst (λ d. Commits g.D.Disk d pages) same kept
