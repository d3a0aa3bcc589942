use Rattle.std.proofs.Common.{inr, arith}
use Rattle.uq_page.specs.Page.{bytes_of}
use Rattle.uq_pager.proofs.Writing.{counts_on, held_here, held_still, holds_others, present_set, still_apart, still_ascends}
use Rattle.uq_pager.proofs.paging.PagerPages.write_page.Goals as goal

pub invariant_of-self-2 : goal.invariant_of-self-2
invariant_of-self-2 g c =
    let it = c.args.self.now in
    let is = c.in-Ok.ensures.ok in
    let within = c.requires.there in
    let holds = holds_others g.D.Disk it c.args.no c.forget.new.clean.entries c.forget.ensures.gone c.forget.ensures.others in
    let on = counts_on g.D.Disk it c.args.no (bytes_of c.args.page.now) _ is (omega arith) in
    record {
      none = it.none;
      ascending = still_ascends g.D.Disk it c.args.no (bytes_of c.args.page.now) _ is (omega arith);
      counted = omega (arith, on);
      idle = λ never. absurd (cc);
      apart = still_apart g.D.Disk it c.args.no (bytes_of c.args.page.now) _ is (omega arith) c.forget.new.clean.entries c.forget.ensures.gone c.forget.ensures.others;
      below = holds.below;
      rest = it.rest;
      pages = it.pages;
      right = holds.right;
    }

pub returns-clause-ok : goal.returns-clause-ok
returns-clause-ok g c = present_set g.D.Disk c.args.self.now c.args.no (bytes_of c.args.page.now) _ c.in-Ok.ensures.ok (omega arith) c.requires.there

pub returns-clause-held : goal.returns-clause-held
returns-clause-held g c = held_here g.D.Disk c.args.self.now c.args.no (bytes_of c.args.page.now) _ c.in-Ok.ensures.ok (omega arith) c.forget.new.clean.entries

pub returns-clause-kept : goal.returns-clause-kept
returns-clause-kept g c = λ q held. inr (held_still g.D.Disk c.args.self.now c.args.no (bytes_of c.args.page.now) _ c.in-Ok.ensures.ok (omega arith) c.forget.new.clean.entries c.forget.ensures.others q held)
