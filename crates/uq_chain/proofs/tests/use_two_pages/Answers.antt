use Rattle.std.proofs.Common.{◌∷◌, ◌∙◌, [], is_some, sym, ap, arith, length-append}
use Rattle.uq_chain.specs.CauseLaws.{not_err}
use Rattle.uq_chain.proofs.TurnLemmas.{unlisted_at_the_end}
use Rattle.uq_chain.proofs.tests.use_two_pages.Goals as goal

pub give_page-requires-clause-used : goal.give_page-requires-clause-used
give_page-requires-clause-used g c =
    let bytes = c.args.bytes.now in
    let both = length-append bytes (120 ∷ []) in
    let same = c.in_ok-read_chain.ensures.same (not_err _ _) in
    unlisted_at_the_end (g.P.Pages.pages c.args.p.now) (g.P.Pages.pages c.write_chain.new.p) (g.P.Pages.pages c.read_chain.new.p) (g.P.Pages.pages c.free_chain.new.p) (g.P.Pages.pages c.take_page.new.p)
    c.args.h.now.free c.write_chain.new.h.free c.append_chain.new.h.free c.free_chain.new.h.free c.take_page.new.h.free c.in_ok-taken.taken c.in_ok-first.first 4081 4082 bytes (120 ∷ [])
    (c.in_ok-first.ensures.told (not_err _ _)) (ap is_some same ∙ c.in_ok-append_chain.ensures.told (not_err _ _)) (c.in_ok-free_chain.ensures.told (not_err _ _)) (c.in_ok-taken.ensures.told (not_err _ _))
    c.requires.none (omega arith) (omega arith) c.in_ok-first.ensures.written
    (λ pages told row held chain long free list longer now. c.in_ok-append_chain.ensures.appended pages told row held chain long free list longer (sym same ∙ now)) c.in_ok-free_chain.ensures.freed c.in_ok-taken.ensures.taken
