use Rattle.std.proofs.Common.{Err, refl, ap, ◌∙◌}
use Rattle.std.proofs.lemmas.Result.{err_from_is_err_and, IfOk-weaker}
use Rattle.uq_chain.specs.CauseLaws.{handed_on, handed_whole, not_err}
use Rattle.uq_hash.specs.Bucket.{NoBucket}
use Rattle.uq_hash.specs.Causes.{NoMap}
use Rattle.uq_hash.specs.WalkOrder.{hash_start}
use Rattle.uq_hash.proofs.OrderLemmas.{first_behind, gives_first}
use Rattle.uq_hash.proofs.HeldLemmas.{all_gets, only_chained}
use Rattle.uq_hash.proofs.walking.next_after.Goals as goal

pub returns-in_err-page-clause-cause : goal.returns-in_err-page-clause-cause
returns-in_err-page-clause-cause g c =
    let fault = err_from_is_err_and c.from_residual.result c.from_residual.ensures.1 in
    handed_on (NoMap (g.P.Pages.pages c.args.p.now) c.args.h.now) ⊥ (NoMap (g.P.Pages.pages c.args.p.now) c.args.h.now) ⊥
    (g.P.Pages.faults c.args.p.now) (g.P.Pages.faults c.args.p.now) (g.P.Pages.faults c.only_page.new._p) (g.P.Pages.is_sound c.only_page.new._p)
    c.in_err-page.field-0.0 c.from_residual.result (fault.1 ∙ ap Err fault.2) refl c.in_err-page.ensures.cause (λ none. none) (λ short. short)

pub returns-clause-found : goal.returns-clause-found
returns-clause-found g c =
    IfOk-weaker c.key_behind.result _ _ (λ found known pages told m held.
    let only = c.in_ok-page.ensures.begins pages told m held in
    let chained = only_chained pages c.args.h.now m held c.in_ok-page.page only in
    let cut = known pages (c.in_ok-page.ensures.same (not_err _ _) ∙ told) only.bucket.row only.bucket.cells only.first_is chained in
    first_behind (hash_start c.args.h.now) m c.args.key _ (gives_first (hash_start c.args.h.now) m only.bucket.cells _ cut.front cut.rest cut.split chained.order (all_gets pages c.args.h.now m held c.in_ok-page.page only)) _ cut.is)
    c.key_behind.ensures.found

pub returns-clause-cause : goal.returns-clause-cause
returns-clause-cause g c =
    handed_whole (NoBucket (hash_start c.args.h.now) (g.P.Pages.pages c.only_page.new._p) c.in_ok-page.page) ⊥ (NoMap (g.P.Pages.pages c.args.p.now) c.args.h.now) ⊥
    (g.P.Pages.faults c.args.p.now) (g.P.Pages.faults c.only_page.new._p) (g.P.Pages.faults c.key_behind.new.p) (g.P.Pages.is_sound c.key_behind.new.p) c.key_behind.result (c.in_ok-page.ensures.cause.pages.quiet (not_err _ _)) c.key_behind.ensures.cause
    (λ none pages told m held.
    let only = c.in_ok-page.ensures.begins pages told m held in
    none pages (c.in_ok-page.ensures.same (not_err _ _) ∙ told) only.bucket.row only.bucket.cells only.first_is (only_chained pages c.args.h.now m held c.in_ok-page.page only))
    (λ short. short)
