use Rattle.std.proofs.Common.{refl, arith}
use Rattle.std.proofs.lemmas.Map.Keys.{sorted_tail}
use Rattle.std.specs.Ordering.{nat_cmp}
use Rattle.std.specs.BTreeMap.{keys}
use Rattle.uq_pager.proofs.Sorting.{done_stays, has_place, next_place, next_within, stays, turn}
use Rattle.uq_pager.proofs.changes.put_in_place.Goals as goal

pub returns-then-from-at-clause-placed : goal.returns-then-from-at-clause-placed
returns-then-from-at-clause-placed c = stays c.args.at c.args.no c.args.from c.args.places.now.entries c.args.pages.now.items c.requires.ordered c.requires.placed c.if-from-at.true

pub returns-then-from-at-clause-ordered : goal.returns-then-from-at-clause-ordered
returns-then-from-at-clause-ordered c = sorted_tail nat_cmp c.args.no (keys c.args.places.now) c.requires.ordered

pub returns-then-from-at-clause-batch : goal.returns-then-from-at-clause-batch
returns-then-from-at-clause-batch c = done_stays c.args.at c.args.no c.args.from c.args.places.now.entries c.args.pages.now.items c.requires.ordered c.requires.placed c.if-from-at.true

pub index-requires : goal.index-requires
index-requires c =
    let within = next_within c.args.at c.args.no c.args.from c.args.places.now.entries c.args.pages.now.items c.requires.ordered c.requires.placed in
    let place = next_place c.args.at c.args.no c.args.from c.args.places.now.entries c.args.pages.now.items c.requires.ordered c.requires.placed in
    omega (arith, place.0, c.args.pages.now.ok.0)

pub swap-requires-clause-i_in_bounds : goal.swap-requires-clause-i_in_bounds
swap-requires-clause-i_in_bounds c =
    let within = next_within c.args.at c.args.no c.args.from c.args.places.now.entries c.args.pages.now.items c.requires.ordered c.requires.placed in
    let place = next_place c.args.at c.args.no c.args.from c.args.places.now.entries c.args.pages.now.items c.requires.ordered c.requires.placed in
    omega (arith, place.0, c.args.pages.now.ok.0)

pub swap-requires-clause-j_in_bounds : goal.swap-requires-clause-j_in_bounds
swap-requires-clause-j_in_bounds c =
    let within = next_within c.args.at c.args.no c.args.from c.args.places.now.entries c.args.pages.now.items c.requires.ordered c.requires.placed in
    omega (arith, c.args.pages.now.ok.0)

pub returns-in-Some-clause-placed : goal.returns-in-Some-clause-placed
returns-in-Some-clause-placed c =
    (turn c.args.at c.args.no c.args.from c.args.places.now.entries c.args.pages.now.items c.requires.ordered c.requires.placed c.index.result.now.no c.index.result.now c.if-from-at.false c.index.ensures refl c.swap.new.self.items c.swap.ensures.items
    (c.get_mut.follows.lender c.args.from).entries (c.get_mut.follows.holds c.args.from).0).placed

pub returns-in-Some-clause-batch : goal.returns-in-Some-clause-batch
returns-in-Some-clause-batch c =
    (turn c.args.at c.args.no c.args.from c.args.places.now.entries c.args.pages.now.items c.requires.ordered c.requires.placed c.index.result.now.no c.index.result.now c.if-from-at.false c.index.ensures refl c.swap.new.self.items c.swap.ensures.items
    (c.get_mut.follows.lender c.args.from).entries (c.get_mut.follows.holds c.args.from).0).batch

pub returns-in_default-clause-placed : goal.returns-in_default-clause-placed
returns-in_default-clause-placed c =
    absurd (has_place c.args.at c.args.no c.args.from c.args.places.now.entries c.args.pages.now.items c.requires.ordered c.requires.placed c.index.result.now c.if-from-at.false c.index.ensures (let none = c.in_default.ensures.value in none))

pub returns-in_default-clause-batch : goal.returns-in_default-clause-batch
returns-in_default-clause-batch c =
    absurd (has_place c.args.at c.args.no c.args.from c.args.places.now.entries c.args.pages.now.items c.requires.ordered c.requires.placed c.index.result.now c.if-from-at.false c.index.ensures (let none = c.in_default.ensures.value in none))
