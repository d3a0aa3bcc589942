use Rattle.std.proofs.Common.{arith, ap, ◌∙◌, map}
use Rattle.uq_value.proofs.Rows.{take-past}
use Rattle.uq_value.proofs.Edits.{copied}
use Rattle.uq_value.proofs.blocks.NameBlocks.copy.Goals as goal

pub returns : goal.returns
returns c = λ f. copied c.args.self.now.blocks.items c.loop-block.blocks.items
    (c.loop-block.invariant ∙ ap (λ bs. map (λ b. b.items) bs) (take-past c.args.self.now.blocks.items c.loop-block.block-index (omega arith))) f
