use Rattle.std.proofs.Common.{refl, arith}
use Rattle.uq_page.specs.ValuePage.{value_page}
use Rattle.uq_chain.specs.CauseLaws.{corrupted}
use Rattle.uq_chain.specs.Chain.{NoChain, pieces}
use Rattle.uq_chain.specs.ChainLaws.{value_tells}
use Rattle.uq_page.specs.RowLaws.{row_short}
use Rattle.uq_chain.proofs.chain.read_chain.Goals as goal

pub returns-then-from-clause-cause : goal.returns-then-from-clause-cause
returns-then-from-clause-cause g c =
    corrupted (NoChain (g.P.Pages.pages c.args.p.now) c.args.first c.args.len) ⊥ (g.P.Pages.faults c.args.p.now) (g.P.Pages.faults c.args.p.now) (g.P.Pages.is_sound c.args.p.now)
    _ refl refl c.requires (λ pages told row bytes is long.
    let size = g.met.P.Pages.size_is c.args.p.now pages told in
    let enough = is.enough in
    let short = row_short value_page value_tells pages c.args.first row (pieces row bytes) is.linked in
    let most = c.if-from.true in
    let count = c.count.ensures in
    let from = c.from.ensures in
    let from_count = c.from-2.ensures in
    absurd (omega arith))
