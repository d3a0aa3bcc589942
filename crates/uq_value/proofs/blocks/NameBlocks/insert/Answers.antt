use Rattle.std.proofs.Common.{ap, ◌∙◌, ◌∷◌, ◌++◌, take, drop}
use Rattle.uq_value.proofs.Rows.{on-err}
use Rattle.uq_value.proofs.Edits.{entries-same, entries-insert}
use Rattle.uq_value.proofs.blocks.NameBlocks.insert.Goals as goal

pub returns-in_err-insert-clause-unchanged : goal.returns-in_err-insert-clause-unchanged
returns-in_err-insert-clause-unchanged c =
    on-err c.from_residual.result _ (entries-same c.args.self.now.blocks.items c.args.place.block c.index_mut.result.now c.insert.new.self c.requires.within
    (c.in_err-insert.ensures.items ∙ ap (λ b. b.items) c.index_mut.ensures.value))

pub returns-then-len-gt-MOST_ENTRIES-clause-ok : goal.returns-then-len-gt-MOST_ENTRIES-clause-ok
returns-then-len-gt-MOST_ENTRIES-clause-ok c =
    c.cut.ensures.entries ∙ entries-insert c.args.self.now.blocks.items c.args.place.block c.args.place.entry c.index_mut.result.now c.insert.new.self c.args.entry c.requires.within
    (c.in_ok-insert.ensures.items ∙ ap (λ b. take c.args.place.entry b.items ++ c.args.entry ∷ drop c.args.place.entry b.items) c.index_mut.ensures.value)

pub returns-else-len-gt-MOST_ENTRIES-clause-ok : goal.returns-else-len-gt-MOST_ENTRIES-clause-ok
returns-else-len-gt-MOST_ENTRIES-clause-ok c =
    entries-insert c.args.self.now.blocks.items c.args.place.block c.args.place.entry c.index_mut.result.now c.insert.new.self c.args.entry c.requires.within
    (c.in_ok-insert.ensures.items ∙ ap (λ b. take c.args.place.entry b.items ++ c.args.entry ∷ drop c.args.place.entry b.items) c.index_mut.ensures.value)
