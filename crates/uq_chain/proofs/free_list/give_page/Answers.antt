use Rattle.std.proofs.Common.{arith}
use Rattle.uq_page.specs.Page.{bytes_of}
use Rattle.uq_chain.proofs.ToldLemmas.{turns_given, was_right}
use Rattle.uq_chain.proofs.free_list.give_page.Goals as goal

pub returns-clause-given : goal.returns-clause-given
returns-clause-given g c =
    turns_given (g.P.Pages.pages c.args.p.now) (g.P.Pages.pages c.write_page.new.self) c.args.h.now.free c.args.no (g.P.Pages.size c.args.p.now) (bytes_of c.write_free.new.page)
    (g.met.P.Pages.size_is c.args.p.now) (omega arith) c.requires.number c.requires.there c.requires.used c.in_ok-write_page.ensures.ok c.write_free.ensures.bytes

pub returns-clause-right : goal.returns-clause-right
returns-clause-right g c =
    was_right (g.P.Pages.pages c.args.p.now) (g.P.Pages.pages c.write_page.new.self) c.args.h.now.free c.args.no (g.P.Pages.size c.args.p.now) (bytes_of c.write_free.new.page)
    (g.met.P.Pages.size_is c.args.p.now) (omega arith) c.requires.number c.requires.there c.in_ok-write_page.ensures.ok c.write_free.ensures.bytes
