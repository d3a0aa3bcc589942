use Rattle.std.proofs.Common.{◌≡◌, true, [], ◌∷◌, ◌++◌, length, arith}
use Rattle.uq_journal.specs.declared.dirty.Dirty.{Dirty}
use Rattle.uq_pager.specs.PlacesLaws.{placed_push, order_push}
use Rattle.uq_pager.proofs.changes.Changes.add.Goals as goal

pub invariant_of-self-in-Ok : goal.invariant_of-self-in-Ok
invariant_of-self-in-Ok c =
    let d : Dirty = record { no = c.args.no; first = true; page = c.args.page.now } in
    let pages = c.args.self.now.pages.items in
    let pushed : c.push.new.self.items ≡ pages ++ d ∷ [] = grind arith in
    let size : c.len-at.result ≡ length pages = omega (arith, c.args.self.now.pages.ok.0) in
    record {
      placed = placed_push pages d c.args.self.now.places.entries c.insert.new.self.entries c.push.new.self.items c.len-at.result pushed size c.args.self.now.placed c.requires c.in-Ok.ensures.updates.0;
      ordered = c.in-Ok.ensures.ordered;
    }

pub returns-in-Ok-clause-ok : goal.returns-in-Ok-clause-ok
returns-in-Ok-clause-ok c =
    let d : Dirty = record { no = c.args.no; first = true; page = c.args.page.now } in
    let pages = c.args.self.now.pages.items in
    let pushed : c.push.new.self.items ≡ pages ++ d ∷ [] = grind arith in
    let size : c.len-at.result ≡ length pages = omega (arith, c.args.self.now.pages.ok.0) in
    order_push pages d c.args.self.now.places.entries c.insert.new.self.entries c.push.new.self.items c.len-at.result pushed size c.args.self.now.ordered c.args.self.now.placed c.in-Ok.ensures.entries
