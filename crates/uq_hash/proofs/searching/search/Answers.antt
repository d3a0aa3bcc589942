use Rattle.std.proofs.Common.{◌≡◌, Err, Option, inl, inr, refl, ap, subst, ◌∙◌, arith}
use Rattle.std.proofs.lemmas.Result.{err_from_is_err_and}
use Rattle.std.proofs.lemmas.List.{length-map}
use Rattle.std.specs.Option.{ok_or, IsSomeAnd}
use Rattle.std.specs.Prelude.{map}
use Rattle.uq_page.specs.declared.error.ChainFault.TheVariants.{Corrupt}
use Rattle.uq_page.specs.Page.{bytes_of}
use Rattle.uq_chain.specs.CauseLaws.{corrupted, handed_on, some_fault, not_err}
use Rattle.uq_hash.specs.Bucket.{NoBucket, NoBucketPage}
use Rattle.uq_hash.specs.Map.{cell}
use Rattle.uq_hash.specs.Place.{IsSpot}
use Rattle.uq_hash.specs.WalkOrder.{hash_start}
use Rattle.uq_hash.specs.declared.seeking.Spot.{Spot}
use Rattle.uq_hash.proofs.SearchLemmas.{found_here, on_page, read_is, searching_few, searching_more, searching_none, spot_of}
use Rattle.uq_hash.proofs.searching.search.Goals as goal
use Rattle.uq_hash.proofs.searching.search.Goals.{then-spot-it-via-then-spot-it, then-spot-it-via-else-spot-it+then-it-eq0}

pub loop-seen-init : goal.loop-seen-init
loop-seen-init g c = record {
  sound = c.requires;
  same = refl;
  size = refl;
  asked = omega arith;
  reads = g.met.P.Pages.reads_itself _;
  quiet = refl;
  searching = λ pages told row cells first is. searching_none (hash_start c.args.h.now) pages c.args.first row cells c.args.bound first is;
}

pub returns-in_err-it-clause-asked : goal.returns-in_err-it-clause-asked
returns-in_err-it-clause-asked g c pages told row cells first is =
    let few = searching_few _ pages row cells _ _ _ _ (c.loop-seen.invariant.searching pages told row cells first is) in
    let less = few.0 in
    let was = c.loop-seen.invariant.asked in
    let one = c.in_err-it.ensures.asked in
    omega arith

pub returns-in_err-it-clause-cause : goal.returns-in_err-it-clause-cause
returns-in_err-it-clause-cause g c =
    let fault = err_from_is_err_and c.from_residual.result c.from_residual.ensures.1 in
    handed_on (NoBucketPage (g.P.Pages.pages c.loop-seen.p) c.loop-seen.no) ⊥ (NoBucket (hash_start c.args.h.now) (g.P.Pages.pages c.args.p.now) c.args.first) ⊥
    (g.P.Pages.faults c.args.p.now) (g.P.Pages.faults c.loop-seen.p) (g.P.Pages.faults c.read_bucket_page.new.p) (g.P.Pages.is_sound c.read_bucket_page.new.p)
    c.in_err-it.field-0.0 c.from_residual.result (fault.1 ∙ ap Err fault.2) c.loop-seen.invariant.quiet c.in_err-it.ensures.cause
    (λ none pages told row cells first is.
    let so = c.loop-seen.invariant.searching pages told row cells first is in
    let on = on_page _ pages row cells _ _ _ _ so in
    none pages (c.loop-seen.invariant.same ∙ told) on.page (map cell on.group) on.next on.some on.there on.is)
    (λ short. short)

pub returns-in_err-spot-clause-asked : goal.returns-in_err-spot-clause-asked
returns-in_err-spot-clause-asked g c pages told row cells first is =
    let few = searching_few _ pages row cells _ _ _ _ (c.loop-seen.invariant.searching pages told row cells first is) in
    let less = few.0 in
    let was = c.loop-seen.invariant.asked in
    let one = c.in_ok-it.ensures.asked in
    omega arith

pub returns-in_err-spot-clause-cause : goal.returns-in_err-spot-clause-cause
returns-in_err-spot-clause-cause g c =
    let fault = err_from_is_err_and c.from_residual-in_err-spot.result c.from_residual-in_err-spot.ensures.1 in
    let none = c.in_err-spot.ensures.ok_part in
    let is_corrupt : c.from_residual-in_err-spot.result ≡ Err Corrupt = fault.1 ∙ ap Err fault.2 ∙ ap Err (some_fault (c.in_err-spot.ensures.value ∙ ap (λ o. ok_or o Corrupt) none)) in
    corrupted (NoBucket (hash_start c.args.h.now) (g.P.Pages.pages c.args.p.now) c.args.first) ⊥ (g.P.Pages.faults c.args.p.now) (g.P.Pages.faults c.read_bucket_page.new.p) (g.P.Pages.is_sound c.read_bucket_page.new.p)
    c.from_residual-in_err-spot.result is_corrupt (c.in_ok-it.ensures.cause.pages.quiet (not_err _ _) ∙ c.loop-seen.invariant.quiet) (c.in_ok-it.ensures.cause.pages.sound (not_err _ _)) (λ pages told row cells first is.
    let so = c.loop-seen.invariant.searching pages told row cells first is in
    let on = on_page _ pages row cells _ _ _ _ so in
    let page = read_is pages so.left so.groups c.loop-seen.no (bytes_of c.in_ok-it.it.page) on (c.in_ok-it.ensures.page pages (c.loop-seen.invariant.same ∙ told)) in
    let head = c.in_ok-it.ensures.exact (map cell on.group) on.next page in
    subst (λ (o : Option Spot). IsSomeAnd o (IsSpot (hash_start c.args.h.now) on.group c.args.bound)) none (spot_of (hash_start c.args.h.now) c.args.bound (bytes_of c.in_ok-it.it.page) c.seek.result pages so.left so.groups c.loop-seen.no c.in_ok-it.it.head on page head c.seek.ensures.exact))

pub returns-then-spot-it-clause-asked : goal.returns-then-spot-it-clause-asked
returns-then-spot-it-clause-asked g c pages told row cells first is =
    let few = searching_few _ pages row cells _ _ _ _ (c.loop-seen.invariant.searching pages told row cells first is) in
    let less = few.0 in
    let was = c.loop-seen.invariant.asked in
    let one = c.in_ok-it.ensures.asked in
    omega arith

pub returns-then-spot-it-clause-found : goal.returns-then-spot-it-clause-found
returns-then-spot-it-clause-found g c pages told row cells first is =
    let so = c.loop-seen.invariant.searching pages told row cells first is in
    let on = on_page _ pages row cells _ _ _ _ so in
    let read = c.in_ok-it.ensures.page pages (c.loop-seen.invariant.same ∙ told) in
    let page = read_is pages so.left so.groups c.loop-seen.no (bytes_of c.in_ok-it.it.page) on read in
    let head = c.in_ok-it.ensures.exact (map cell on.group) on.next page in
    let spot = subst (λ (o : Option Spot). IsSomeAnd o (IsSpot (hash_start c.args.h.now) on.group c.args.bound)) c.in_ok-spot.ensures.ok_part (spot_of (hash_start c.args.h.now) c.args.bound (bytes_of c.in_ok-it.it.page) c.seek.result pages so.left so.groups c.loop-seen.no c.in_ok-it.it.head on page head c.seek.ensures.exact) in
    found_here (hash_start c.args.h.now) pages row cells c.args.bound _ c.loop-seen._seen so on read head spot
    (elim c.then-spot-it.branch [ then-spot-it-via-then-spot-it w ↦ inl w.if-spot-it.true | then-spot-it-via-else-spot-it+then-it-eq0 w ↦ inr w.if-it-eq0.true ])

pub loop-seen-preserved : goal.loop-seen-preserved
loop-seen-preserved g c =
    let one = c.in_ok-it.ensures.asked in
    let was = c.loop-seen.invariant.asked in
    record {
      sound = c.in_ok-it.ensures.cause.pages.sound (not_err _ _);
      same = c.in_ok-it.ensures.same (not_err _ _) ∙ c.loop-seen.invariant.same;
      size = c.in_ok-it.ensures.size ∙ c.loop-seen.invariant.size;
      asked = omega arith;
      reads = g.met.P.Pages.reads_on _ _ _ c.loop-seen.invariant.reads c.in_ok-it.ensures.reads;
      quiet = c.in_ok-it.ensures.cause.pages.quiet (not_err _ _) ∙ c.loop-seen.invariant.quiet;
      searching = λ pages told row cells first is.
          let so = c.loop-seen.invariant.searching pages told row cells first is in
          let on = on_page _ pages row cells _ _ _ _ so in
          let page = read_is pages so.left so.groups c.loop-seen.no (bytes_of c.in_ok-it.it.page) on (c.in_ok-it.ensures.page pages (c.loop-seen.invariant.same ∙ told)) in
          let head = c.in_ok-it.ensures.exact (map cell on.group) on.next page in
          let spot : IsSpot (hash_start c.args.h.now) on.group c.args.bound c.in_ok-spot.spot = subst (λ (o : Option Spot). IsSomeAnd o (IsSpot (hash_start c.args.h.now) on.group c.args.bound)) c.in_ok-spot.ensures.ok_part (spot_of (hash_start c.args.h.now) c.args.bound (bytes_of c.in_ok-it.it.page) c.seek.result pages so.left so.groups c.loop-seen.no c.in_ok-it.it.head on page head c.seek.ensures.exact) in
          searching_more (hash_start c.args.h.now) pages row cells c.args.bound c.loop-seen.prev c.loop-seen.no c.in_ok-it.it.head.next c.loop-seen._seen c.in_ok-spot.spot.index so on spot.before
          (let all = c.if-spot-it.false in let count = ap (λ head. head.cells) head ∙ length-map on.group cell in omega arith)
          (ap (λ head. head.next) head) c.if-it-eq0.false;
    }

pub returns-clause-cause : goal.returns-clause-cause
returns-clause-cause g c =
    corrupted (NoBucket (hash_start c.args.h.now) (g.P.Pages.pages c.args.p.now) c.args.first) ⊥ (g.P.Pages.faults c.args.p.now) (g.P.Pages.faults c.loop-seen.p) (g.P.Pages.is_sound c.loop-seen.p)
    _ refl c.loop-seen.invariant.quiet c.loop-seen.invariant.sound (λ pages told row cells first is.
    let few = searching_few _ pages row cells _ _ _ _ (c.loop-seen.invariant.searching pages told row cells first is) in
    let less = few.1 in
    let all = c.loop-seen-test.false in
    let count = c.count-seen-end.ensures in
    let size = g.met.P.Pages.size_is c.args.p.now pages told in
    omega arith)

pub returns-clause-asked : goal.returns-clause-asked
returns-clause-asked g c pages told row cells first is =
    let few = searching_few _ pages row cells _ _ _ _ (c.loop-seen.invariant.searching pages told row cells first is) in
    let less = few.0 in
    let was = c.loop-seen.invariant.asked in
    omega arith
