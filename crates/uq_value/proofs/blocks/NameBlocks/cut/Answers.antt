use Rattle.std.proofs.Common.{ap, sym, ◌∙◌, ◌+◌, ◌/◌, take, drop, set, length, get_or, if◌then◌else◌, add-one}
use Rattle.std.specs.List.{insert}
use Rattle.uq_value.specs.Internal.Blocks.{entries}
use Rattle.uq_value.proofs.Rows.{any-default, take-rest}
use Rattle.uq_value.proofs.Edits.{entries-cut}
use Rattle.uq_value.proofs.blocks.NameBlocks.cut.Goals as goal

pub returns-then-is_ok-clause-entries : goal.returns-then-is_ok-clause-entries
returns-then-is_ok-clause-entries c =
    let e = c.insert.ensures.items ∙ ap (λ b. if b then insert c.args.self.now.blocks.items (c.args.block + 1) c.in-Ok.upper else c.args.self.now.blocks.items) (sym c.is_ok.ensures.value ∙ c.if-is_ok.true) in
    ap (λ bs. entries (set bs c.args.block c.truncate.new.self)) e
    ∙ entries-cut c.args.self.now.blocks.items c.args.block (c.args.block + 1) (length c.as_slice-long.result.now / 2) c.index_mut.result.now c.truncate.new.self c.in-Ok.upper c.requires.within (add-one c.args.block)
    (c.truncate.ensures.items ∙ ap (λ b. take (length c.as_slice-long.result.now / 2) b.items) (c.index_mut.ensures.value ∙ ap (λ bs. get_or bs c.args.block c.index_mut.result.now) e))
    (c.in-Ok.ensures.items ∙ take-rest (length c.as_slice-long.result.now / 2) c.as_slice-long.result.now ∙ ap (λ es. drop (length c.as_slice-long.result.now / 2) es) (c.as_slice-long.ensures.value ∙ ap (λ b. b.items) (c.index.ensures ∙ any-default c.args.self.now.blocks.items c.args.block c.index.result.now c.index_mut.result.now c.requires.within)))
