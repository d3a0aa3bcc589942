use Rattle.std.proofs.Common.{ap, ◌∙◌, subst}
use Rattle.uq_value.specs.Internal.Names.{names}
use Rattle.uq_value.specs.Internal.Table.{mark, HasNone}
use Rattle.uq_value.proofs.Rows.{on-err-then}
use Rattle.uq_value.proofs.Slots.{missing}
use Rattle.uq_value.proofs.names.NameIndex.search.Goals as goal

pub returns-in-None-clause-missing : goal.returns-in-None-clause-missing
returns-in-None-clause-missing c =
    let ns = names c.args.members.now in
    on-err-then c.spot.result _ _
    (missing ns c.args.self.now.table.slots.items c.args.self.now.beside.blocks.items c.args.name.now c.requires.index
    (subst (λ m. HasNone ns c.args.self.now.table.slots.items m c.args.name.now) (c.mark-mark.ensures ∙ ap mark c.digest.ensures) c.in-None.ensures))
    c.spot.ensures.lacks
