use Rattle.std.proofs.Common.{◌≡◌, Err, Option, refl, sym, ap, subst, ◌∙◌}
use Rattle.std.specs.Option.{ok_or, IsSomeAnd}
use Rattle.std.proofs.lemmas.Result.{err_from_is_err_and}
use Rattle.uq_page.specs.declared.error.ChainFault.TheVariants.{Corrupt}
use Rattle.uq_chain.specs.CauseLaws.{corrupted, handed_on, not_err, some_fault}
use Rattle.uq_hash.specs.Bucket.{NoBucket}
use Rattle.uq_hash.specs.Causes.{NoMap}
use Rattle.uq_hash.specs.Standing.{IsKeyed, rest_of}
use Rattle.uq_hash.specs.WalkOrder.{hash_start}
use Rattle.uq_hash.specs.declared.searching.Standing.{Standing}
use Rattle.uq_hash.specs.declared.seeking.Bound.TheVariants.{Before}
use Rattle.uq_hash.proofs.HeldLemmas.{in_bucket}
use Rattle.uq_hash.proofs.LookLemmas.{keyed_as, standing_long}
use Rattle.uq_hash.proofs.looking.look_for.Goals as goal

pub returns-in_err-first-clause-cause : goal.returns-in_err-first-clause-cause
returns-in_err-first-clause-cause g c =
    let fault = err_from_is_err_and c.from_residual.result c.from_residual.ensures.1 in
    handed_on (NoMap (g.P.Pages.pages c.args.p.now) c.args.h.now) ⊥ (NoMap (g.P.Pages.pages c.args.p.now) c.args.h.now) ⊥
    (g.P.Pages.faults c.args.p.now) (g.P.Pages.faults c.args.p.now) (g.P.Pages.faults c.first_page.new._p) (g.P.Pages.is_sound c.first_page.new._p)
    c.in_err-first.field-0.0 c.from_residual.result (fault.1 ∙ ap Err fault.2) refl c.in_err-first.ensures.cause (λ none. none) (λ short. short)

pub returns-in_err-place-clause-cause : goal.returns-in_err-place-clause-cause
returns-in_err-place-clause-cause g c =
    let fault = err_from_is_err_and c.from_residual-in_err-place.result c.from_residual-in_err-place.ensures.1 in
    handed_on (NoBucket (hash_start c.args.h.now) (g.P.Pages.pages c.first_page.new._p) c.in_ok-first.first) ⊥ (NoMap (g.P.Pages.pages c.args.p.now) c.args.h.now) ⊥
    (g.P.Pages.faults c.args.p.now) (g.P.Pages.faults c.first_page.new._p) (g.P.Pages.faults c.search.new.p) (g.P.Pages.is_sound c.search.new.p)
    c.in_err-place.field-0.0 c.from_residual-in_err-place.result (fault.1 ∙ ap Err fault.2) (c.in_ok-first.ensures.cause.pages.quiet (not_err _ _)) c.in_err-place.ensures.cause
    (λ none pages told m held.
    let begins = c.in_ok-first.ensures.begins pages told m held in
    none pages (c.in_ok-first.ensures.same (not_err _ _) ∙ told) begins.bucket.row begins.bucket.cells begins.first_is (in_bucket pages c.args.h.now m c.args.key.now held begins.bucket begins.is).chained)
    (λ short. short)

pub returns-in_err-old-clause-cause : goal.returns-in_err-old-clause-cause
returns-in_err-old-clause-cause g c =
    let fault = err_from_is_err_and c.from_residual-in_err-old.result c.from_residual-in_err-old.ensures.1 in
    let none = c.in_err-old.ensures.ok_part in
    let is_corrupt : c.from_residual-in_err-old.result ≡ Err Corrupt = fault.1 ∙ ap Err fault.2 ∙ ap Err (some_fault (c.in_err-old.ensures.value ∙ ap (λ o. ok_or o Corrupt) none)) in
    corrupted (NoMap (g.P.Pages.pages c.args.p.now) c.args.h.now) ⊥ (g.P.Pages.faults c.args.p.now) (g.P.Pages.faults c.search.new.p) (g.P.Pages.is_sound c.search.new.p)
    c.from_residual-in_err-old.result is_corrupt (c.in_ok-place.ensures.cause.pages.quiet (not_err _ _) ∙ c.in_ok-first.ensures.cause.pages.quiet (not_err _ _)) (c.in_ok-place.ensures.cause.pages.sound (not_err _ _)) (λ pages told m held.
    let begins = c.in_ok-first.ensures.begins pages told m held in
    let here = c.in_ok-place.ensures.found pages (c.in_ok-first.ensures.same (not_err _ _) ∙ told) begins.bucket.row begins.bucket.cells begins.first_is (in_bucket pages c.args.h.now m c.args.key.now held begins.bucket begins.is).chained in
    subst (λ (o : Option Standing). IsSomeAnd o (IsKeyed (rest_of here.found.stands) c.args.key.now)) none (c.key_cell.ensures.exact (hash_start c.args.h.now) pages begins.bucket.row begins.bucket.cells (Before c.args.key) here))

pub returns-clause-looks : goal.returns-clause-looks
returns-clause-looks g c = record {
  within = c.in_ok-place.ensures.within;
  there = c.in_ok-place.ensures.there;
  looks = λ pages told_now m held.
      let told_first = sym (c.in_ok-place.ensures.same (not_err _ _)) ∙ told_now in
      let told = sym (c.in_ok-first.ensures.same (not_err _ _)) ∙ told_first in
      let begins = c.in_ok-first.ensures.begins pages told m held in
      let here = c.in_ok-place.ensures.found pages told_first begins.bucket.row begins.bucket.cells begins.first_is (in_bucket pages c.args.h.now m c.args.key.now held begins.bucket begins.is).chained in
      let keyed = keyed_as c.key_cell.result c.in_ok-old.old (IsKeyed (rest_of here.found.stands) c.args.key.now) c.in_ok-old.ensures.ok_part (c.key_cell.ensures.exact (hash_start c.args.h.now) pages begins.bucket.row begins.bucket.cells (Before c.args.key) here) in
      record {
        bucket = begins.bucket;
        for = begins.is;
        here = here;
        standing = c.in_ok-old.old;
        keyed = keyed;
        long = c.len_of-len.ensures;
      };
}

pub returns-clause-len : goal.returns-clause-len
returns-clause-len g c pages told m held =
    let begins = c.in_ok-first.ensures.begins pages told m held in
    let here = c.in_ok-place.ensures.found pages (c.in_ok-first.ensures.same (not_err _ _) ∙ told) begins.bucket.row begins.bucket.cells begins.first_is (in_bucket pages c.args.h.now m c.args.key.now held begins.bucket begins.is).chained in
    let keyed = keyed_as c.key_cell.result c.in_ok-old.old (IsKeyed (rest_of here.found.stands) c.args.key.now) c.in_ok-old.ensures.ok_part (c.key_cell.ensures.exact (hash_start c.args.h.now) pages begins.bucket.row begins.bucket.cells (Before c.args.key) here) in
    c.len_of-len.ensures ∙ standing_long pages c.args.h.now m held c.args.key begins.bucket begins.is c.in_ok-place.place here c.in_ok-old.old keyed
