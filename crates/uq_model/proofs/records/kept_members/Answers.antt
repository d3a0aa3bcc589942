use Rattle.std.proofs.Common.{◌∙◌, ap, arith}
use Rattle.std.proofs.lemmas.List.{take_all}
use Rattle.uq_model.specs.Collections.{without_id}
use Rattle.uq_model.proofs.records.kept_members.Goals as goal

pub returns : goal.returns
returns c = c.loop-at.invariant ∙ ap (λ ms. without_id ms) (take_all c.loop-at.at c.args.object.now
    (omega (arith, c.loop-at-test.false, c.len-at-end.ensures)))
