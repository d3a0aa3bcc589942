use Rattle.std.proofs.Common.{ap, ◌∙◌, sym, bytes_eq}
use Rattle.uq_value.proofs.NamePlaces.{name-at, key-decided}
use Rattle.uq_value.proofs.blocks.is_for.Goals as goal

pub returns-then-entry-digest : goal.returns-then-entry-digest
returns-then-entry-digest c =
    key-decided c.args.entry.now.digest c.args.digest _ c.args.name.now c.eq.result c.if-entry-digest.true
    (c.eq.ensures ∙ ap (λ n. bytes_eq n c.args.name.now) (c.name.ensures ∙ sym (name-at c.args.members.now c.args.entry.now.at c.index-members-entry.result c.index-members-entry.is c.requires)))
