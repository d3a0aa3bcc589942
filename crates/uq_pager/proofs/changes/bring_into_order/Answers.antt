use Rattle.std.proofs.Common.{◌≡◌, ℕ, List, ◌∷◌, ◌++◌, take, length, sym, ap, subst, ◌∙◌, arith}
use Rattle.std.specs.List.Sorted.{IsStrictlySortedBy}
use Rattle.std.specs.Map.{keys_of}
use Rattle.std.proofs.lemmas.List.{nil_from_length}
use Rattle.std.specs.Ordering.{nat_cmp}
use Rattle.uq_journal.specs.Recovered.{changes}
use Rattle.uq_pager.specs.Places.{Places, in_order}
use Rattle.uq_pager.proofs.Sorting.{all_done, next_place, next_within}
use Rattle.uq_pager.proofs.changes.bring_into_order.Goals as goal

pub put_in_place-requires-clause-placed : goal.put_in_place-requires-clause-placed
put_in_place-requires-clause-placed c = subst (λ (es : List (ℕ × ℕ)). Places c.loop-no.at c.loop-no.pages.items es) c.in-Some.ensures.removal c.loop-no.invariant.placed

pub put_in_place-requires-clause-ordered : goal.put_in_place-requires-clause-ordered
put_in_place-requires-clause-ordered c = subst (λ (es : List (ℕ × ℕ)). IsStrictlySortedBy nat_cmp (keys_of es)) c.in-Some.ensures.removal c.loop-no.invariant.ordered

pub loop-no-smaller : goal.loop-no-smaller
loop-no-smaller c =
    let len : length c.put_in_place.new.places.entries ≡ length c.pop_first.new.self.entries = c.put_in_place.ensures.len in
    let one : length c.loop-no.places.entries ≡ length ((c.in-Some.no, c.in-Some.from) ∷ c.pop_first.new.self.entries) = ap length c.in-Some.ensures.removal in
    omega arith

pub loop-no-preserved : goal.loop-no-preserved
loop-no-preserved c = record {
  placed = c.put_in_place.ensures.placed;
  batch = c.put_in_place.ensures.batch
      ∙ ap (λ (es : List (ℕ × ℕ)). changes (take c.loop-no.at c.loop-no.pages.items) ++ in_order c.loop-no.pages.items es) (sym c.in-Some.ensures.removal)
      ∙ c.loop-no.invariant.batch;
  ordered = c.put_in_place.ensures.ordered;
}

pub overflow_add-at : goal.overflow_add-at
overflow_add-at c =
    let sorted = subst (λ (es : List (ℕ × ℕ)). IsStrictlySortedBy nat_cmp (keys_of es)) c.in-Some.ensures.removal c.loop-no.invariant.ordered in
    let placed = subst (λ (es : List (ℕ × ℕ)). Places c.loop-no.at c.loop-no.pages.items es) c.in-Some.ensures.removal c.loop-no.invariant.placed in
    let place = next_place c.loop-no.at c.in-Some.no c.in-Some.from c.pop_first.new.self.entries c.loop-no.pages.items sorted placed in
    let within = next_within c.loop-no.at c.in-Some.no c.in-Some.from c.pop_first.new.self.entries c.loop-no.pages.items sorted placed in
    omega (arith, place.0, c.loop-no.pages.ok.0, c.loop-no.pages.small)

pub returns : goal.returns
returns c =
    let none : length c.loop-no.places.entries ≡ 0 = grind arith in
    sym (all_done c.loop-no.at c.loop-no.places.entries c.loop-no.pages.items (nil_from_length c.loop-no.places.entries none) c.loop-no.invariant.placed) ∙ c.loop-no.invariant.batch
