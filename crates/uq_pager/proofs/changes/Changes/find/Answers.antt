use Rattle.std.proofs.Common.{sym, arith}
use Rattle.uq_pager.specs.PlacesLaws.{place_within, page_found, page_missing}
use Rattle.uq_pager.proofs.changes.Changes.find.Goals as goal

pub index-requires : goal.index-requires
index-requires c =
    let within = place_within c.args.self.now.pages.items c.args.self.now.places.entries c.args.no c.in-Some.at.now c.args.self.now.placed (sym c.in-Some.ensures.value) in
    omega (arith, c.args.self.now.pages.ok.0)

pub returns-in-Some : goal.returns-in-Some
returns-in-Some c = page_found c.args.self.now.pages.items c.args.self.now.places.entries c.args.no c.in-Some.at.now c.index.result.now c.args.self.now.placed (sym c.in-Some.ensures.value) c.index.ensures

pub returns-in-None : goal.returns-in-None
returns-in-None c = page_missing c.args.self.now.pages.items c.args.self.now.places.entries c.args.no (sym c.in-None.ensures.value)
