use Rattle.std.proofs.Common.{Err, refl, ap, ◌∙◌}
use Rattle.std.proofs.lemmas.Result.{err_from_is_err_and}
use Rattle.uq_chain.specs.CauseLaws.{handed_on, not_err}
use Rattle.uq_hash.specs.Causes.{NoMap}
use Rattle.uq_hash.specs.Found.{NoPlace}
use Rattle.uq_hash.specs.Lying.{NoNear}
use Rattle.uq_hash.specs.WalkOrder.{hash_start}
use Rattle.uq_hash.proofs.looking.open_at.Goals as goal

pub returns-in_err-near-clause-cause : goal.returns-in_err-near-clause-cause
returns-in_err-near-clause-cause g c =
    let fault = err_from_is_err_and c.from_residual.result c.from_residual.ensures.1 in
    handed_on (NoPlace (hash_start c.args.h.now) (g.P.Pages.pages c.args.p.now) c.args.at.now.place) ⊥ (NoMap (g.P.Pages.pages c.args.p.now) c.args.h.now) ⊥
    (g.P.Pages.faults c.args.p.now) (g.P.Pages.faults c.args.p.now) (g.P.Pages.faults c.step_back.new.p) (g.P.Pages.is_sound c.step_back.new.p)
    c.in_err-near.field-0.0 c.from_residual.result (fault.1 ∙ ap Err fault.2) refl c.in_err-near.ensures.cause
    (λ none pages told m held.
    let at = c.requires.looks.looks pages told m held in
    none pages told at.bucket.row at.bucket.cells _ at.here)
    (λ short. short)

pub returns-in_err-rest-clause-cause : goal.returns-in_err-rest-clause-cause
returns-in_err-rest-clause-cause g c =
    let fault = err_from_is_err_and c.from_residual-in_err-rest.result c.from_residual-in_err-rest.ensures.1 in
    handed_on (NoNear (g.P.Pages.pages c.step_back.new.p) c.in_ok-near.near) ⊥ (NoMap (g.P.Pages.pages c.args.p.now) c.args.h.now) ⊥
    (g.P.Pages.faults c.args.p.now) (g.P.Pages.faults c.step_back.new.p) (g.P.Pages.faults c.gather.new.p) (g.P.Pages.is_sound c.gather.new.p)
    c.in_err-rest.field-0.0 c.from_residual-in_err-rest.result (fault.1 ∙ ap Err fault.2)
    (c.in_ok-near.ensures.cause.pages.quiet (not_err _ _)) c.in_err-rest.ensures.cause
    (λ none pages told m held.
    let at = c.requires.looks.looks pages told m held in
    let near = c.in_ok-near.ensures.near pages told at.bucket.row at.bucket.cells _ at.here in
    none pages (c.in_ok-near.ensures.same (not_err _ _) ∙ told) (hash_start c.args.h.now) at.bucket.row at.bucket.cells _ near)
    (λ short. short)

pub returns-clause-opened : goal.returns-clause-opened
returns-clause-opened g c pages told m held =
    let at = c.requires.looks.looks pages told m held in
    let near = c.in_ok-near.ensures.near pages told at.bucket.row at.bucket.cells _ at.here in
    record {
      bucket = at.bucket;
      for = at.for;
      here = at.here;
      near = near;
      rest = c.in_ok-rest.ensures.gathered pages (c.in_ok-near.ensures.same (not_err _ _) ∙ told) (hash_start c.args.h.now) at.bucket.row at.bucket.cells _ near;
    }
