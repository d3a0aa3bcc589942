use Rattle.std.proofs.Common.{refl, arith}
use Rattle.uq_page.specs.Page.{bytes_of}
use Rattle.uq_chain.specs.Causes.{NoFreeList, IsShort}
use Rattle.uq_chain.specs.CauseLaws.{unfilled}
use Rattle.uq_chain.proofs.ToldLemmas.{turns_grown, grown_there, head_none}
use Rattle.uq_chain.proofs.free_list.grow_page.Goals as goal

pub returns-then-count-eq4294967295-clause-cause : goal.returns-then-count-eq4294967295-clause-cause
returns-then-count-eq4294967295-clause-cause g c =
    unfilled (NoFreeList (g.P.Pages.pages c.args.p.now) c.args.h.now.free) (IsShort (g.P.Pages.pages c.args.p.now) c.args.h.now.free (g.P.Pages.size c.args.p.now) 1)
    (g.P.Pages.faults c.args.p.now) (g.P.Pages.faults c.args.p.now) (g.P.Pages.is_sound c.args.p.now) _ refl refl c.requires.sound
    (omega arith, λ pages told row free. head_none pages c.args.h.now.free row c.requires.none free)

pub returns-clause-taken : goal.returns-clause-taken
returns-clause-taken g c =
    turns_grown (g.P.Pages.pages c.args.p.now) (g.P.Pages.pages c.grow.new.self) c.args.h.now.free c.in_ok-no.no (g.P.Pages.size c.args.p.now) (bytes_of c.args.page.now)
    (g.met.P.Pages.size_is c.args.p.now) c.requires.none c.in_ok-no.ensures.number c.in_ok-no.ensures.ok

pub returns-clause-page : goal.returns-clause-page
returns-clause-page g c before was row free =
    grown_there (g.P.Pages.pages c.args.p.now) (g.P.Pages.pages c.grow.new.self) c.in_ok-no.no (g.P.Pages.size c.args.p.now) (bytes_of c.args.page.now)
    (g.met.P.Pages.size_is c.args.p.now) c.in_ok-no.ensures.number c.in_ok-no.ensures.ok
