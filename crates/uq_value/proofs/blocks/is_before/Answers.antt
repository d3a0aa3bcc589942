use Rattle.std.proofs.Common.{ap, ◌∙◌, sym}
use Rattle.std.specs.Ordering.{nat_cmp, is_lt}
use Rattle.std.specs.Cmp.Lexicographic.{slice_cmp}
use Rattle.uq_value.proofs.Keys.{number-decides, rest-decides}
use Rattle.uq_value.proofs.NamePlaces.{name-at}
use Rattle.uq_value.proofs.blocks.is_before.Goals as goal

pub returns-then-entry-digest : goal.returns-then-entry-digest
returns-then-entry-digest c = number-decides c.args.entry.now.digest c.args.digest _ c.args.name.now c.if-entry-digest.true

pub returns : goal.returns
returns c =
    c.is_lt.ensures
    ∙ ap (λ o. is_lt o) (c.cmp.ensures ∙ ap (λ n. slice_cmp nat_cmp n c.args.name.now) (c.name.ensures ∙ sym (name-at c.args.members.now c.args.entry.now.at c.index-members-entry.result c.index-members-entry.is c.requires)))
    ∙ rest-decides c.args.entry.now.digest c.args.digest _ c.args.name.now c.if-entry-digest.false
