use Rattle.std.proofs.Common.{arith, ap, ◌∙◌, ◌-◌, ◌++◌, ◌∷◌, []}
use Rattle.uq_value.proofs.Rows.{on-err}
use Rattle.uq_value.proofs.Edits.{entries-same, entries-push}
use Rattle.uq_value.proofs.blocks.NameBlocks.append.Goals as goal

pub returns-in_err-push-clause-unchanged : goal.returns-in_err-push-clause-unchanged
returns-in_err-push-clause-unchanged c =
    on-err c.from_residual.result _ (entries-same c.args.self.now.blocks.items (c.len-count.result - 1) c.index_mut.result.now c.push.new.self (omega (arith, c.len-count.ensures, c.if-count-eq0.false))
    (c.in_err-push.ensures.items ∙ ap (λ b. b.items) c.index_mut.ensures.value))

pub returns-clause-ok : goal.returns-clause-ok
returns-clause-ok c =
    entries-push c.args.self.now.blocks.items (c.len-count.result - 1) c.index_mut.result.now c.push.new.self c.args.entry (omega (arith, c.len-count.ensures, c.if-count-eq0.false))
    (c.in_ok-push.ensures.items ∙ ap (λ b. b.items ++ c.args.entry ∷ []) c.index_mut.ensures.value)
