use Rattle.std.proofs.Common.{refl, inr, arith}
use Rattle.uq_page.specs.Page.{bytes_of}
use Rattle.uq_pager.proofs.Writing.{counts_on, held_here, held_still, none_behind, present_grown, still_apart, still_ascends}
use Rattle.uq_pager.proofs.paging.PagerPages.grow.Goals as goal

pub invariant_of-self-2 : goal.invariant_of-self-2
invariant_of-self-2 g c =
    let it = c.args.self.now in
    let is = c.in-Ok.ensures.ok in
    let on = counts_on g.D.Disk it it.count (bytes_of c.args.page.now) _ is (omega arith) in
    record {
      none = it.none;
      ascending = still_ascends g.D.Disk it it.count (bytes_of c.args.page.now) _ is (omega arith);
      counted = omega (arith, on);
      idle = λ never. absurd (cc);
      apart = still_apart g.D.Disk it it.count (bytes_of c.args.page.now) _ is (omega arith) it.clean.entries (none_behind g.D.Disk it) (λ q apart. refl);
      below = it.below;
      rest = it.rest;
      pages = it.pages;
      right = it.right;
    }

pub returns-clause-ok : goal.returns-clause-ok
returns-clause-ok g c = present_grown g.D.Disk c.args.self.now c.args.self.now.count (bytes_of c.args.page.now) _ c.in-Ok.ensures.ok (omega arith) refl

pub returns-clause-held : goal.returns-clause-held
returns-clause-held g c = held_here g.D.Disk c.args.self.now c.args.self.now.count (bytes_of c.args.page.now) _ c.in-Ok.ensures.ok (omega arith) c.args.self.now.clean.entries

pub returns-clause-kept : goal.returns-clause-kept
returns-clause-kept g c = λ q held. inr (held_still g.D.Disk c.args.self.now c.args.self.now.count (bytes_of c.args.page.now) _ c.in-Ok.ensures.ok (omega arith) c.args.self.now.clean.entries (λ p apart. refl) q held)
