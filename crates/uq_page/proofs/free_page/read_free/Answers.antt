use Rattle.std.proofs.Common.{◌≡◌, Some, sym, ap, ◌∙◌}
use Rattle.std.proofs.lemmas.Bool.{false≢true}
use Rattle.std.proofs.lemmas.Slice.Eq.{bytes_eq-Decides}
use Rattle.uq_page.specs.Page.{bytes_of}
use Rattle.uq_page.specs.FreePage.{free_page}
use Rattle.uq_page.proofs.FreeLemmas.{free_next}
use Rattle.uq_page.proofs.free_page.read_free.Goals as goal

pub returns-then-eq-clause-exact : goal.returns-then-eq-clause-exact
returns-then-eq-clause-exact c next is =
    ap Some (c.read_u32-next.ensures ∙ free_next c.bytes.result.now next is.fits (c.bytes.ensures.bytes ∙ is.bytes))

pub returns-else-eq-clause-exact : goal.returns-else-eq-clause-exact
returns-else-eq-clause-exact c next is =
    let read : c.read_u32-next.result ≡ next = c.read_u32-next.ensures ∙ free_next c.bytes.result.now next is.fits (c.bytes.ensures.bytes ∙ is.bytes) in
    let same : bytes_of c.args.page.now ≡ bytes_of c.write_free.new.page = is.bytes ∙ sym (c.write_free.ensures.bytes ∙ ap free_page read) in
    absurd (false≢true (c.if-eq.ensures ∙ (bytes_eq-Decides (bytes_of c.args.page.now) (bytes_of c.write_free.new.page)).1 same))
