use Rattle.std.proofs.Common.{arith, ap, sym, ◌∙◌, subst, ◌∷◌, ◌<◌, ◌≤◌, length, take, drop}
use Rattle.uq_value.specs.Internal.Blocks.{AllWithin, Ascending, AllBefore, NoneBefore}
use Rattle.uq_value.specs.Internal.Names.{names}
use Rattle.uq_value.proofs.Rows.{every-block}
use Rattle.uq_value.proofs.Searches.{split-end, split-at, block-rises}
use Rattle.uq_value.proofs.blocks.NameBlocks.place.Goals as goal

pub returns-then-block-len : goal.returns-then-block-len
returns-then-block-len c = split-end (names c.args.members.now) _ c.args.self.now.blocks.items c.blocks_before-block.result c.blocks_before-block.ensures (omega (arith, c.if-block-len.true, c.len.ensures))

pub entries_before-entry-requires-clause-within : goal.entries_before-entry-requires-clause-within
entries_before-entry-requires-clause-within c =
    let inside : c.blocks_before-block.result < length c.args.self.now.blocks.items = omega (arith, c.if-block-len.false, c.len.ensures, c.blocks_before-block.ensures.within) in
    subst (λ es. AllWithin (names c.args.members.now) es) (ap (λ u. u.items) (sym c.index.ensures) ∙ sym c.as_slice.ensures.value)
    (every-block _ c.args.self.now.blocks.items c.blocks_before-block.result c.index.result.now inside c.requires.within)

pub entries_before-entry-requires-clause-ascending : goal.entries_before-entry-requires-clause-ascending
entries_before-entry-requires-clause-ascending c =
    let inside : c.blocks_before-block.result < length c.args.self.now.blocks.items = omega (arith, c.if-block-len.false, c.len.ensures, c.blocks_before-block.ensures.within) in
    subst (λ es. Ascending (names c.args.members.now) es) (ap (λ u. u.items) (sym c.index.ensures) ∙ sym c.as_slice.ensures.value)
    (block-rises (names c.args.members.now) (c.args.digest ∷ c.args.name.now) c.args.self.now.blocks.items c.blocks_before-block.result c.index.result.now inside c.requires.ascending)

pub returns : goal.returns
returns c =
    let inside : c.blocks_before-block.result < length c.args.self.now.blocks.items = omega (arith, c.if-block-len.false, c.len.ensures, c.blocks_before-block.ensures.within) in
    let k = c.args.digest ∷ c.args.name.now in
    split-at (names c.args.members.now) k c.args.self.now.blocks.items c.blocks_before-block.result c.entries_before-entry.result c.index.result.now c.requires c.blocks_before-block.ensures inside c.index.ensures
    (subst (λ es. c.entries_before-entry.result ≤ length es) c.as_slice.ensures.value c.entries_before-entry.ensures.bound)
    (subst (λ es. AllBefore (names c.args.members.now) k (take c.entries_before-entry.result es)) c.as_slice.ensures.value c.entries_before-entry.ensures.before)
    (subst (λ es. NoneBefore (names c.args.members.now) k (drop c.entries_before-entry.result es)) c.as_slice.ensures.value c.entries_before-entry.ensures.rest)
    (record { digest = 0; at = 0 })
