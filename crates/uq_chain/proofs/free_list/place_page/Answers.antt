use Rattle.std.proofs.Common.{◌∙◌}
use Rattle.uq_page.specs.Page.{bytes_of}
use Rattle.uq_page.specs.FreePage.{IsFreePage}
use Rattle.uq_chain.specs.CauseLaws.{not_err}
use Rattle.uq_chain.proofs.KeepLemmas.{keeps_appended, keeps_set, on_both, taken_new}
use Rattle.uq_chain.proofs.ToldLemmas.{turns_placed, placed_there}
use Rattle.uq_chain.proofs.free_list.place_page.Goals as goal

pub returns-clause-taken : goal.returns-clause-taken
returns-clause-taken g c =
    turns_placed (g.P.Pages.pages c.args.p.now) (g.P.Pages.pages c.pop_page.new.p) (g.P.Pages.pages c.write_page.new.self) c.args.h.now.free c.pop_page.new.h.free c.in_ok-no.no (bytes_of c.args.page.now)
    c.in_ok-no.ensures.taken c.in_ok-write_page.ensures.ok

pub returns-clause-page : goal.returns-clause-page
returns-clause-page g c before was row free =
    placed_there (g.P.Pages.pages c.pop_page.new.p) (g.P.Pages.pages c.write_page.new.self) c.in_ok-no.no (g.P.Pages.size c.pop_page.new.p) (bytes_of c.args.page.now)
    (g.met.P.Pages.size_is c.pop_page.new.p) c.in_ok-no.ensures.there c.in_ok-write_page.ensures.ok

pub returns-clause-others : goal.returns-clause-others
returns-clause-others g c used =
    keeps_set IsFreePage (g.P.Pages.pages c.args.p.now) (g.P.Pages.pages c.pop_page.new.p) (g.P.Pages.pages c.write_page.new.self) c.args.h.now.free c.in_ok-no.no c.pop_page.new.h.free (bytes_of c.args.page.now)
    (c.in_ok-no.ensures.same (not_err _ _)) c.in_ok-no.ensures.first c.in_ok-no.ensures.leads c.in_ok-write_page.ensures.ok used

pub returns-then-h-eq0-clause-others : goal.returns-then-h-eq0-clause-others
returns-then-h-eq0-clause-others g c used =
    on_both c.grow_page.result (keeps_appended (g.P.Pages.pages c.args.p.now) (g.P.Pages.pages c.grow_page.new.p) c.args.h.now.free c.grow_page.new.h.free (bytes_of c.args.page.now) used)
    c.grow_page.ensures.grown c.grow_page.ensures.list

pub returns-then-h-eq0-clause-first : goal.returns-then-h-eq0-clause-first
returns-then-h-eq0-clause-first g c =
    taken_new c.grow_page.result c.args.h.now.free c.grow_page.new.h.free (g.P.Pages.size c.args.p.now) (g.P.Pages.size c.grow_page.new.p) c.if-h-eq0.true
    c.grow_page.ensures.number_is c.grow_page.ensures.larger c.grow_page.ensures.list

pub returns-clause-first : goal.returns-clause-first
returns-clause-first g c = record {
  listed = λ some. (c.in_ok-no.ensures.first, c.in_ok-write_page.ensures.size ∙ c.in_ok-no.ensures.size);
  grown = λ none. absurd (c.if-h-eq0.false none);
}
