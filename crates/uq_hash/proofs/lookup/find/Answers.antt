use Rattle.std.proofs.Common.{Err, length, refl, ap, ◌∙◌, arith}
use Rattle.std.proofs.lemmas.Result.{err_from_is_err_and, IfOk-weaker}
use Rattle.uq_chain.specs.CauseLaws.{handed_on, handed_whole, not_err}
use Rattle.uq_hash.specs.Bucket.{NoBucket}
use Rattle.uq_hash.specs.Causes.{NoMap}
use Rattle.uq_hash.specs.Map.{Bucket, chain_pages}
use Rattle.uq_hash.specs.WalkOrder.{hash_start}
use Rattle.uq_hash.proofs.HeldLemmas.{in_bucket, same_bucket}
use Rattle.uq_hash.proofs.lookup.find.Goals as goal

pub returns-in_err-first-clause-cause : goal.returns-in_err-first-clause-cause
returns-in_err-first-clause-cause g c =
    let fault = err_from_is_err_and c.from_residual.result c.from_residual.ensures.1 in
    handed_on (NoMap (g.P.Pages.pages c.args.p.now) c.args.h.now) ⊥ (NoMap (g.P.Pages.pages c.args.p.now) c.args.h.now) ⊥
    (g.P.Pages.faults c.args.p.now) (g.P.Pages.faults c.args.p.now) (g.P.Pages.faults c.first_page.new._p) (g.P.Pages.is_sound c.first_page.new._p)
    c.in_err-first.field-0.0 c.from_residual.result (fault.1 ∙ ap Err fault.2) refl c.in_err-first.ensures.cause (λ none. none) (λ short. short)

pub returns-clause-found : goal.returns-clause-found
returns-clause-found g c =
    IfOk-weaker c.find_in.result _ _ (λ found known pages told m held.
    let begins = c.in_ok-first.ensures.begins pages told m held in
    let within = in_bucket pages c.args.h.now m c.args.key.now held begins.bucket begins.is in
    known pages (c.in_ok-first.ensures.same (not_err _ _) ∙ told) begins.bucket.row begins.bucket.cells begins.first_is within.chained ∙ within.found)
    c.find_in.ensures.found

pub returns-clause-asked : goal.returns-clause-asked
returns-clause-asked g c pages told m held bucket for =
    let begins = c.in_ok-first.ensures.begins pages told m held in
    let within = in_bucket pages c.args.h.now m c.args.key.now held begins.bucket begins.is in
    let few = c.find_in.ensures.asked pages (c.in_ok-first.ensures.same (not_err _ _) ∙ told) begins.bucket.row begins.bucket.cells begins.first_is within.chained in
    let value = ap chain_pages within.found in
    let same = ap (λ (b : Bucket). length b.row) (same_bucket pages c.args.h.now m c.args.key.now held begins.bucket bucket begins.is for) in
    let asked = c.in_ok-first.ensures.asked in
    omega arith

pub returns-clause-cause : goal.returns-clause-cause
returns-clause-cause g c =
    handed_whole (NoBucket (hash_start c.args.h.now) (g.P.Pages.pages c.first_page.new._p) c.in_ok-first.first) ⊥ (NoMap (g.P.Pages.pages c.args.p.now) c.args.h.now) ⊥
    (g.P.Pages.faults c.args.p.now) (g.P.Pages.faults c.first_page.new._p) (g.P.Pages.faults c.find_in.new.p) (g.P.Pages.is_sound c.find_in.new.p) c.find_in.result (c.in_ok-first.ensures.cause.pages.quiet (not_err _ _)) c.find_in.ensures.cause
    (λ none pages told m held.
    let begins = c.in_ok-first.ensures.begins pages told m held in
    let within = in_bucket pages c.args.h.now m c.args.key.now held begins.bucket begins.is in
    none pages (c.in_ok-first.ensures.same (not_err _ _) ∙ told) begins.bucket.row begins.bucket.cells begins.first_is within.chained)
    (λ short. short)
