use Rattle.std.proofs.Common.{◌≡◌, Some, None, arith}
use Rattle.uq_journal.specs.declared.dirty.Dirty.{Dirty}
use Rattle.uq_pager.specs.Places.{entry_of}
use Rattle.uq_pager.specs.PlacesLaws.{place_within, number_there, placed_set, order_set}
use Rattle.uq_pager.proofs.changes.Changes.put.Goals as goal

pub index_mut-requires : goal.index_mut-requires
index_mut-requires c =
    let found : entry_of c.args.no c.args.self.now.places.entries ≡ Some c.in-Some.at = cc in
    let within = place_within c.args.self.now.pages.items c.args.self.now.places.entries c.args.no c.in-Some.at c.args.self.now.placed found in
    omega (arith, c.args.self.now.pages.ok.0)

-- the page as it is then
pub invariant_of-self : goal.invariant_of-self
invariant_of-self c =
    let pages = c.args.self.now.pages.items in
    let d : Dirty = c.index_mut.result.now in
    let found : entry_of c.args.no c.args.self.now.places.entries ≡ Some c.in-Some.at = cc in
    let number = number_there pages c.args.self.now.places.entries c.args.no c.in-Some.at d c.args.self.now.placed found c.index_mut.ensures.value in
    record {
      placed = placed_set pages (record { no = d.no; first = d.first; page = c.args.page.now }) c.in-Some.at c.args.self.now.places.entries c.args.self.now.placed number.1;
      ordered = c.args.self.now.ordered;
    }

pub add-requires : goal.add-requires
add-requires c = let found : entry_of c.args.no c.args.self.now.places.entries ≡ None = cc in found

pub returns-in-Some-clause-ok : goal.returns-in-Some-clause-ok
returns-in-Some-clause-ok c =
    let pages = c.args.self.now.pages.items in
    let d : Dirty = c.index_mut.result.now in
    let found : entry_of c.args.no c.args.self.now.places.entries ≡ Some c.in-Some.at = cc in
    order_set pages c.args.no (record { no = d.no; first = d.first; page = c.args.page.now }) c.in-Some.at c.args.self.now.places.entries c.args.self.now.ordered c.args.self.now.placed found
    (number_there pages c.args.self.now.places.entries c.args.no c.in-Some.at d c.args.self.now.placed found c.index_mut.ensures.value).0
