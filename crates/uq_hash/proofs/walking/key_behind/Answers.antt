use Rattle.std.proofs.Common.{◌≡◌, Err, Option, ap, subst, ◌∙◌}
use Rattle.std.proofs.lemmas.Result.{err_from_is_err_and, IfOk-weaker}
use Rattle.std.specs.Option.{ok_or, IsSomeAnd}
use Rattle.uq_page.specs.declared.error.ChainFault.TheVariants.{Corrupt}
use Rattle.uq_chain.specs.CauseLaws.{corrupted, some_fault, not_err}
use Rattle.uq_hash.specs.Bucket.{NoBucket}
use Rattle.uq_hash.specs.Standing.{IsStanding, front_of, rest_of}
use Rattle.uq_hash.specs.WalkOrder.{hash_start}
use Rattle.uq_hash.specs.declared.searching.Standing.{Standing}
use Rattle.uq_hash.proofs.CauseLemmas.{quiet_whole}
use Rattle.uq_hash.proofs.SplitLemmas.{split_at}
use Rattle.uq_hash.proofs.StandingLemmas.{standing_first}
use Rattle.uq_hash.proofs.walking.key_behind.Goals as goal

pub returns-in_err-standing-clause-cause : goal.returns-in_err-standing-clause-cause
returns-in_err-standing-clause-cause g c =
    let fault = err_from_is_err_and c.from_residual-in_err-standing.result c.from_residual-in_err-standing.ensures.1 in
    let none = c.in_err-standing.ensures.ok_part in
    let is_corrupt : c.from_residual-in_err-standing.result ≡ Err Corrupt = fault.1 ∙ ap Err fault.2 ∙ ap Err (some_fault (c.in_err-standing.ensures.value ∙ ap (λ o. ok_or o Corrupt) none)) in
    corrupted (NoBucket (hash_start c.args.h.now) (g.P.Pages.pages c.args.p.now) c.args.first) ⊥ (g.P.Pages.faults c.args.p.now) (g.P.Pages.faults c.search.new.p) (g.P.Pages.is_sound c.search.new.p)
    c.from_residual-in_err-standing.result is_corrupt (c.in_ok-place.ensures.cause.pages.quiet (not_err _ _)) (c.in_ok-place.ensures.cause.pages.sound (not_err _ _)) (λ pages told row cells first is.
    let here = c.in_ok-place.ensures.found pages told row cells first is in
    subst (λ (o : Option Standing). IsSomeAnd o (IsStanding (rest_of here.found.stands))) none (c.cell_at.ensures.exact (hash_start c.args.h.now) pages row cells _ here))

pub returns-clause-found : goal.returns-clause-found
returns-clause-found g c =
    IfOk-weaker c.key_of.result _ _ (λ found known pages told row cells first is.
    let here = c.in_ok-place.ensures.found pages told row cells first is in
    let standing = subst (λ (o : Option Standing). IsSomeAnd o (IsStanding (rest_of here.found.stands))) c.in_ok-standing.ensures.ok_part (c.cell_at.ensures.exact (hash_start c.args.h.now) pages row cells _ here) in
    record {
      front = front_of here.found.stands;
      rest = rest_of here.found.stands;
      split = split_at (hash_start c.args.h.now) pages row cells _ _ _ here.found.stands;
      is = known ∙ standing_first (rest_of here.found.stands) c.in_ok-standing.standing standing;
    })
    c.key_of.ensures.key

pub returns-clause-cause : goal.returns-clause-cause
returns-clause-cause g c =
    quiet_whole (NoBucket (hash_start c.args.h.now) (g.P.Pages.pages c.args.p.now) c.args.first) ⊥ (g.P.Pages.faults c.args.p.now) (g.P.Pages.faults c.search.new.p) (g.P.Pages.is_sound c.search.new.p) c.key_of.result
    (c.in_ok-place.ensures.cause.pages.quiet (not_err _ _)) (c.in_ok-place.ensures.cause.pages.sound (not_err _ _)) c.key_of.ensures.cause
