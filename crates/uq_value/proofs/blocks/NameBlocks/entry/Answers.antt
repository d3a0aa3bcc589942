use Rattle.std.proofs.Common.{arith, ap, sym, ◌∙◌, get_or, Some, slice_get}
use Rattle.uq_value.proofs.Rows.{rest-head, rest-end}
use Rattle.uq_value.proofs.blocks.NameBlocks.entry.Goals as goal

pub returns-then-place-len : goal.returns-then-place-len
returns-then-place-len c =
    sym (rest-head c.args.self.now.blocks.items c.args.place.block c.args.place.entry c.index.result.now c.index-then-place-len.result.now
    (omega (arith, c.if-place-len.true, c.len.ensures)) (c.requires c.index.result.now (omega (arith, c.if-place-len.true, c.len.ensures)))
    ∙ ap (λ u. Some (get_or u.items c.args.place.entry c.index-then-place-len.result.now)) (sym c.index.ensures)
    ∙ ap Some (sym c.index-then-place-len.ensures))

pub returns-else-place-len : goal.returns-else-place-len
returns-else-place-len c =
    ap (λ es. slice_get es 0) (sym (rest-end c.args.self.now.blocks.items c.args.place.block c.args.place.entry (omega (arith, c.if-place-len.false, c.len.ensures))))
