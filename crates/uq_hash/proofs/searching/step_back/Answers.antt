use Rattle.std.proofs.Common.{◌≡◌, inl, inr, Err, Option, refl, ap, subst, ◌∙◌, arith}
use Rattle.std.proofs.lemmas.Result.{err_from_is_err_and}
use Rattle.std.specs.Option.{ok_or, IsSomeAnd}
use Rattle.std.specs.Prelude.{map}
use Rattle.uq_page.specs.declared.error.ChainFault.TheVariants.{Corrupt}
use Rattle.uq_page.specs.Page.{bytes_of}
use Rattle.uq_chain.specs.CauseLaws.{corrupted, handed_on, some_fault, not_err}
use Rattle.uq_hash.specs.Bucket.{NoBucketPage}
use Rattle.uq_hash.specs.Found.{NoPlace}
use Rattle.uq_hash.specs.Map.{cell}
use Rattle.uq_hash.specs.Place.{IsSpot}
use Rattle.uq_hash.specs.WalkOrder.{hash_start}
use Rattle.uq_hash.specs.declared.seeking.Bound.TheVariants.{End}
use Rattle.uq_hash.specs.declared.seeking.Spot.{Spot}
use Rattle.uq_hash.proofs.BackLemmas.{has_prev, near_back, near_itself, prev_page}
use Rattle.uq_hash.proofs.SearchLemmas.{read_is, spot_of}
use Rattle.uq_hash.proofs.searching.step_back.Goals as goal
use Rattle.uq_hash.proofs.searching.step_back.Goals.{then-place-gt0-via-then-place-gt0, then-place-gt0-via-else-place-gt0+then-place-eq0}

pub returns-then-place-gt0-clause-near : goal.returns-then-place-gt0-clause-near
returns-then-place-gt0-clause-near g c pages told row cells bound here =
    near_itself (hash_start c.args.h.now) pages row cells bound c.args.place here
    (elim c.then-place-gt0.branch [ then-place-gt0-via-then-place-gt0 w ↦ inl (let some = w.if-place-gt0.true in omega arith) | then-place-gt0-via-else-place-gt0+then-place-eq0 w ↦ inr w.if-place-eq0.true ])

pub returns-in_err-it-clause-cause : goal.returns-in_err-it-clause-cause
returns-in_err-it-clause-cause g c =
    let fault = err_from_is_err_and c.from_residual.result c.from_residual.ensures.1 in
    handed_on (NoBucketPage (g.P.Pages.pages c.args.p.now) c.args.place.prev) ⊥ (NoPlace (hash_start c.args.h.now) (g.P.Pages.pages c.args.p.now) c.args.place) ⊥
    (g.P.Pages.faults c.args.p.now) (g.P.Pages.faults c.args.p.now) (g.P.Pages.faults c.read_bucket_page.new.p) (g.P.Pages.is_sound c.read_bucket_page.new.p)
    c.in_err-it.field-0.0 c.from_residual.result (fault.1 ∙ ap Err fault.2) refl c.in_err-it.ensures.cause
    (λ none pages told row cells bound here.
    let back = has_prev (hash_start c.args.h.now) pages row cells bound c.args.place here c.if-place-eq0.false in
    let on = prev_page (hash_start c.args.h.now) pages row cells bound c.args.place here back in
    none pages told on.page (map cell on.group) on.next on.some on.there on.is)
    (λ short. short)

pub returns-in_err-spot-clause-cause : goal.returns-in_err-spot-clause-cause
returns-in_err-spot-clause-cause g c =
    let fault = err_from_is_err_and c.from_residual-in_err-spot.result c.from_residual-in_err-spot.ensures.1 in
    let none = c.in_err-spot.ensures.ok_part in
    let is_corrupt : c.from_residual-in_err-spot.result ≡ Err Corrupt = fault.1 ∙ ap Err fault.2 ∙ ap Err (some_fault (c.in_err-spot.ensures.value ∙ ap (λ o. ok_or o Corrupt) none)) in
    corrupted (NoPlace (hash_start c.args.h.now) (g.P.Pages.pages c.args.p.now) c.args.place) ⊥ (g.P.Pages.faults c.args.p.now) (g.P.Pages.faults c.read_bucket_page.new.p) (g.P.Pages.is_sound c.read_bucket_page.new.p)
    c.from_residual-in_err-spot.result is_corrupt (c.in_ok-it.ensures.cause.pages.quiet (not_err _ _)) (c.in_ok-it.ensures.cause.pages.sound (not_err _ _)) (λ pages told row cells bound here.
    let back = has_prev (hash_start c.args.h.now) pages row cells bound c.args.place here c.if-place-eq0.false in
    let on = prev_page (hash_start c.args.h.now) pages row cells bound c.args.place here back in
    let page = read_is pages _ _ c.args.place.prev (bytes_of c.in_ok-it.it.page) on (c.in_ok-it.ensures.page pages told) in
    let head = c.in_ok-it.ensures.exact (map cell on.group) on.next page in
    subst (λ (o : Option Spot). IsSomeAnd o (IsSpot (hash_start c.args.h.now) on.group End)) none
    (spot_of (hash_start c.args.h.now) End (bytes_of c.in_ok-it.it.page) c.seek.result pages _ _ c.args.place.prev c.in_ok-it.it.head on page head c.seek.ensures.exact))

pub returns-clause-near : goal.returns-clause-near
returns-clause-near g c pages told row cells bound here =
    let back = has_prev (hash_start c.args.h.now) pages row cells bound c.args.place here c.if-place-eq0.false in
    let on = prev_page (hash_start c.args.h.now) pages row cells bound c.args.place here back in
    let read = c.in_ok-it.ensures.page pages told in
    let page = read_is pages _ _ c.args.place.prev (bytes_of c.in_ok-it.it.page) on read in
    let head = c.in_ok-it.ensures.exact (map cell on.group) on.next page in
    let spot = subst (λ (o : Option Spot). IsSomeAnd o (IsSpot (hash_start c.args.h.now) on.group End)) c.in_ok-spot.ensures.ok_part
    (spot_of (hash_start c.args.h.now) End (bytes_of c.in_ok-it.it.page) c.seek.result pages _ _ c.args.place.prev c.in_ok-it.it.head on page head c.seek.ensures.exact) in
    near_back (hash_start c.args.h.now) pages row cells bound c.args.place c.in_ok-it.it c.in_ok-spot.spot here back (let none = c.if-place-gt0.false in omega arith) on read head spot
