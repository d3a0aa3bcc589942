use Rattle.std.proofs.Common.{◌≡◌, List, ℕ, Option, Some, Vec, Global, arith, refl, sym, ap, subst, ◌∙◌}
use Rattle.std.specs.Option.{option_map}
use Rattle.std.specs.declared.cmp.Ordering.TheVariants.{Less}
use Rattle.std.proofs.lemmas.Result.{err_from_is_err_and}
use Rattle.uq_kv.specs.Users.{is_of_keys}
use Rattle.uq_kv.proofs.Databases.{cause_behind, found_corrupt, handed_on, holds_map, kept, map_cause, within}
use Rattle.uq_kv.proofs.Walks.{Few, Meets, Walking, downward, few_ends, few_on, few_start, meets_down, tied_down, total_down, down_meets, down, walking_found, walking_on, walking_start}
use Rattle.uq_kv.proofs.walking.backward.Goals as goal

pub loop-passed-init : goal.loop-passed-init
loop-passed-init g c = record {
  sound = c.requires.sound;
  same = refl;
  size = refl;
  reads = g.met.P.Pages.reads_itself _;
  quiet = refl;
  few = λ pages on stored database. few_start down total_down tied_down stored _;
  walking = λ pages on stored database Q is_down last. walking_start down total_down tied_down stored Q _ (meets_down stored _ _ last);
}

pub returns-then-is_users-clause-found : goal.returns-then-is_users-clause-found
returns-then-is_users-clause-found g c = λ pages on stored database Q is_down last.
    let at = subst (λ (o : Option (List ℕ)). Walking down stored Q o) (ap (option_map (λ (key : Vec ℕ Global). key.items)) c.in-Some.is) (c.loop-passed.invariant.walking pages on stored database Q is_down last) in
    down_meets stored _ (Some c.in-Some.stored.items)
    (walking_found down total_down tied_down stored Q c.in-Some.stored.items at (ap is_of_keys (sym c.deref.ensures.value) ∙ sym c.is_users.ensures ∙ c.if-is_users.true))

pub returns-in_err-at-in-Some-clause-cause : goal.returns-in_err-at-in-Some-clause-cause
returns-in_err-at-in-Some-clause-cause g c =
    let p = err_from_is_err_and c.from_residual.result c.from_residual.ensures.1 in
    let one = p.1 in
    let two = p.2 in
    handed_on c.before-in-Some.result c.from_residual.result c.in_err-at-in-Some.field-0.0 c.in_err-at-in-Some.was (cc) (g.P.Pages.pages c.args.p.now) c.args.header.now _ _ _
    (cause_behind c.before-in-Some.result (g.P.Pages.pages c.args.p.now) (g.P.Pages.pages c.loop-passed.p) c.args.header.now _ _ _ _ c.loop-passed.invariant.same c.loop-passed.invariant.quiet
    (map_cause (g.P.Pages.pages c.loop-passed.p) c.args.header.now (g.P.Pages.size c.loop-passed.p) (g.met.P.Pages.size_is c.loop-passed.p) _ _ _ c.before-in-Some.result
    (omega (arith, c.requires.some, c.loop-passed.invariant.size)) c.before-in-Some.ensures.cause))

pub returns-in-None-clause-found : goal.returns-in-None-clause-found
returns-in-None-clause-found g c = λ pages on stored database Q is_down last.
    subst (λ (o : Option (List ℕ)). Walking down stored Q o) (ap (option_map (λ (key : Vec ℕ Global). key.items)) c.in-None.is) (c.loop-passed.invariant.walking pages on stored database Q is_down last)

pub loop-passed-preserved : goal.loop-passed-preserved
loop-passed-preserved g c =
    let key = c.in-Some.stored.items in
    let now = ap (option_map (λ (key : Vec ℕ Global). key.items)) c.in-Some.is in
    let unlike = ap is_of_keys (sym c.deref.ensures.value) ∙ sym c.is_users.ensures ∙ c.if-is_users.false in
    record {
      sound = c.in_ok-at-in-Some.ensures.cause.pages.sound (λ is. cc);
      same = c.in_ok-at-in-Some.ensures.same (λ is. cc) ∙ c.loop-passed.invariant.same;
      size = c.in_ok-at-in-Some.ensures.size ∙ c.loop-passed.invariant.size;
      reads = g.met.P.Pages.reads_on _ _ _ c.loop-passed.invariant.reads c.in_ok-at-in-Some.ensures.reads;
      quiet = c.in_ok-at-in-Some.ensures.cause.pages.quiet (λ is. cc) ∙ c.loop-passed.invariant.quiet;
      few = λ pages on stored database.
          let long = g.met.P.Pages.size_is c.args.p.now pages on in
          let map = holds_map c.args.header.now stored pages (omega (arith, c.requires.some)) (kept c.args.header.now stored pages database) in
          let next = subst (λ (k : List ℕ). Meets down stored (λ other. down k other ≡ Less) (option_map (λ (key : Vec ℕ Global). key.items) c.in_ok-at-in-Some.at)) c.deref-in-Some.ensures.value
          (meets_down stored _ _ (c.in_ok-at-in-Some.ensures.found pages (c.loop-passed.invariant.same ∙ on) stored map)) in
          few_on down total_down tied_down stored key c.loop-passed._passed _ (subst (λ (o : Option (List ℕ)). Few down stored o c.loop-passed._passed) now (c.loop-passed.invariant.few pages on stored database)) next;
      walking = λ pages on stored database Q is_down last.
          let long = g.met.P.Pages.size_is c.args.p.now pages on in
          let map = holds_map c.args.header.now stored pages (omega (arith, c.requires.some)) (kept c.args.header.now stored pages database) in
          let next = subst (λ (k : List ℕ). Meets down stored (λ other. down k other ≡ Less) (option_map (λ (key : Vec ℕ Global). key.items) c.in_ok-at-in-Some.at)) c.deref-in-Some.ensures.value
          (meets_down stored _ _ (c.in_ok-at-in-Some.ensures.found pages (c.loop-passed.invariant.same ∙ on) stored map)) in
          walking_on down total_down tied_down stored Q key _ (downward Q is_down) (subst (λ (o : Option (List ℕ)). Walking down stored Q o) now (c.loop-passed.invariant.walking pages on stored database Q is_down last)) unlike next;
    }

pub returns-clause-cause : goal.returns-clause-cause
returns-clause-cause g c =
    found_corrupt _ (g.P.Pages.pages c.args.p.now) c.args.header.now _ _ _ refl c.loop-passed.invariant.quiet c.loop-passed.invariant.sound (λ pages on stored database.
    let long = g.met.P.Pages.size_is c.args.p.now pages on in
    let map = holds_map c.args.header.now stored pages (omega (arith, c.requires.some)) (kept c.args.header.now stored pages database) in
    let ends = few_ends down total_down tied_down stored _ _ (c.loop-passed.invariant.few pages on stored database) in
    let keys = map.sums.keys in
    let most = (within c.args.header.now stored pages database).entries in
    absurd (omega (arith, ends, keys, most, c.min-passed-end.ensures, c.loop-passed-test.false)))
