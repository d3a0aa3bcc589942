use Rattle.std.proofs.Common.{◌≡◌, Err, refl, sym, ap, ◌∙◌, arith}
use Rattle.std.proofs.lemmas.Result.{err_from_is_err_and}
use Rattle.std.proofs.lemmas.Option.{none-some, same_Some, slice_get_within}
use Rattle.std.specs.Option.{ok_or}
use Rattle.uq_page.specs.declared.error.ChainFault.TheVariants.{Corrupt}
use Rattle.uq_page.specs.Page.{bytes_of}
use Rattle.uq_chain.specs.CauseLaws.{corrupted, some_fault, not_err}
use Rattle.uq_hash.specs.Bucket.{NoBucketPage}
use Rattle.uq_hash.proofs.FillLemmas.{page_head}
use Rattle.uq_hash.proofs.bucket_page.read_bucket_page.Goals as goal
use Rattle.uq_hash.proofs.bucket_page.read_bucket_page.Goals.{then-no-eq0-via-then-no-eq0, then-no-eq0-via-else-no-eq0+then-count-no}

pub returns-then-no-eq0-clause-cause : goal.returns-then-no-eq0-clause-cause
returns-then-no-eq0-clause-cause g c =
    corrupted (NoBucketPage (g.P.Pages.pages c.args.p.now) c.args.no) ⊥ (g.P.Pages.faults c.args.p.now) (g.P.Pages.faults c.args.p.now) (g.P.Pages.is_sound c.args.p.now)
    _ refl (omega arith) c.requires (λ pages told page cells next some there is.
    let size = g.met.P.Pages.size_is c.args.p.now pages told in
    let within = slice_get_within pages c.args.no _ there in
    elim c.then-no-eq0.branch [ then-no-eq0-via-then-no-eq0 w ↦ let none = w.if-no-eq0.true in absurd (omega arith) | then-no-eq0-via-else-no-eq0+then-count-no w ↦ let less = w.if-count-no.true in let size_is = w.count.ensures in absurd (omega arith) ])

pub returns-in_err-head-clause-cause : goal.returns-in_err-head-clause-cause
returns-in_err-head-clause-cause g c =
    let fault = err_from_is_err_and c.from_residual-in_err-head.result c.from_residual-in_err-head.ensures.1 in
    let none = c.in_err-head.ensures.ok_part in
    let is_corrupt : c.from_residual-in_err-head.result ≡ Err Corrupt = fault.1 ∙ ap Err fault.2 ∙ ap Err (some_fault (c.in_err-head.ensures.value ∙ ap (λ o. ok_or o Corrupt) none)) in
    corrupted (NoBucketPage (g.P.Pages.pages c.args.p.now) c.args.no) ⊥ (g.P.Pages.faults c.args.p.now) (g.P.Pages.faults c.read_page.new.self) (g.P.Pages.is_sound c.read_page.new.self)
    c.from_residual-in_err-head.result is_corrupt (c.in_ok-read_page.ensures.cause.quiet (not_err _ _)) (c.in_ok-read_page.ensures.cause.sound (not_err _ _)) (λ pages told page cells next some there is.
    let is_head = page_head cells next (bytes_of c.read_page.new.into) is.fits is.few is.count (same_Some _ _ (sym (c.in_ok-read_page.ensures.page pages told) ∙ there) ∙ is.is) in
    none-some _ (sym none ∙ c.read_bucket.ensures.exact _ is_head))

pub returns-clause-exact : goal.returns-clause-exact
returns-clause-exact g c cells next is =
    same_Some _ _ (sym c.in_ok-head.ensures.ok_part ∙ c.read_bucket.ensures.exact _ (page_head cells next (bytes_of c.read_page.new.into) is.fits is.few is.count is.is))
