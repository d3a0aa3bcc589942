use Rattle.std.proofs.Common.{arith, sym, ◌∙◌}
use Rattle.uq_value.specs.Internal.Names.{names}
use Rattle.uq_value.proofs.Rows.{on-ok}
use Rattle.uq_value.proofs.NamePlaces.{length-names}
use Rattle.uq_value.proofs.Edits.{extended, at-end}
use Rattle.uq_value.proofs.blocks.NameBlocks.enter.Goals as goal

pub returns-then-place-len-clause-ok : goal.returns-then-place-len-clause-ok
returns-then-place-len-clause-ok c =
    on-ok c.append.result _ _
    (λ n. extended (names c.args.members.now) c.args.name.now c.args.self.now.blocks.items c.append.new.self.blocks.items c.args.place.block c.args.place.entry _ c.requires.sorted c.requires.belongs
    c.digest.ensures (sym (length-names c.args.members.now)) (n ∙ at-end c.args.self.now.blocks.items c.args.place.block c.args.place.entry _ (omega arith)) c.append.ensures.filled)
    c.append.ensures.ok

pub returns-else-place-len-clause-ok : goal.returns-else-place-len-clause-ok
returns-else-place-len-clause-ok c =
    on-ok c.insert.result _ _
    (λ n. extended (names c.args.members.now) c.args.name.now c.args.self.now.blocks.items c.insert.new.self.blocks.items c.args.place.block c.args.place.entry _ c.requires.sorted c.requires.belongs
    c.digest.ensures (sym (length-names c.args.members.now)) n c.insert.ensures.filled)
    c.insert.ensures.ok
