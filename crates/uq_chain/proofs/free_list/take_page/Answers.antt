use Rattle.uq_chain.proofs.KeepLemmas.{taken_listed, taken_new}
use Rattle.uq_chain.proofs.free_list.take_page.Goals as goal

pub returns-then-h-eq0-clause-first : goal.returns-then-h-eq0-clause-first
returns-then-h-eq0-clause-first g c =
    taken_new c.grow_page.result c.args.h.now.free c.grow_page.new.h.free (g.P.Pages.size c.args.p.now) (g.P.Pages.size c.grow_page.new.p) c.if-h-eq0.true
    c.grow_page.ensures.number_is c.grow_page.ensures.larger c.grow_page.ensures.list

pub returns-clause-first : goal.returns-clause-first
returns-clause-first g c =
    taken_listed c.pop_page.result c.args.h.now.free c.pop_page.new.h.free (g.P.Pages.size c.args.p.now) (g.P.Pages.size c.pop_page.new.p) c.if-h-eq0.false c.pop_page.ensures.first c.pop_page.ensures.size
