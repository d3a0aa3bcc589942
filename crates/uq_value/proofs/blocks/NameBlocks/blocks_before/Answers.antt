use Rattle.std.proofs.Common.{arith, ap, sym, ◌∙◌, add-one, subst, ◌≡◌, ◌+◌, ◌-◌, ◌/◌, ◌<◌, length, get_or, ◌∷◌}
use Rattle.uq_value.specs.Internal.Blocks.{AllWithin, label}
use Rattle.uq_value.specs.Internal.NameOrder.{is_before}
use Rattle.uq_value.specs.Internal.Names.{names}
use Rattle.uq_value.specs.declared.blocks.Entry.{Entry}
use Rattle.uq_value.proofs.Rows.{every-block}
use Rattle.uq_value.proofs.Searches.{blocks-take}
use Rattle.uq_value.proofs.blocks.NameBlocks.blocks_before.Goals as goal

pub is_block_before-requires-clause-within : goal.is_block_before-requires-clause-within
is_block_before-requires-clause-within c =
    let inside : c.loop-low.low + (c.loop-low.high - c.loop-low.low) / 2 < length c.args.self.now.blocks.items = omega arith in
    subst (λ es. AllWithin (names c.args.members.now) es) (ap (λ u. u.items) (sym c.index.ensures) ∙ sym c.as_slice.ensures.value)
    (every-block _ c.args.self.now.blocks.items (c.loop-low.low + (c.loop-low.high - c.loop-low.low) / 2) c.index.result.now inside c.requires.within)

pub loop-low-preserved-then-is_block_before : goal.loop-low-preserved-then-is_block_before
loop-low-preserved-then-is_block_before c =
    let inside : c.loop-low.low + (c.loop-low.high - c.loop-low.low) / 2 < length c.args.self.now.blocks.items = omega arith in
    let none : Entry = record { digest = 0; at = 0 } in
    let e : c.as_slice.result.now ≡ (get_or c.args.self.now.blocks.items (c.loop-low.low + (c.loop-low.high - c.loop-low.low) / 2) c.index.result.now).items = c.as_slice.ensures.value ∙ ap (λ u. u.items) c.index.ensures in
    record {
      order = omega arith;
      bound = omega arith;
      before = rw add-one (blocks-take (names c.args.members.now) (c.args.digest ∷ c.args.name.now) c.args.self.now.blocks.items _ c.index.result.now none c.requires.ascending c.requires.filled inside
          (ap (λ es. is_before (label (names c.args.members.now) (get_or es (length es - 1) none)) (c.args.digest ∷ c.args.name.now)) (sym e) ∙ sym (c.is_block_before.ensures none) ∙ c.if-is_block_before.true));
      next_not = c.loop-low.invariant.next_not;
    }
