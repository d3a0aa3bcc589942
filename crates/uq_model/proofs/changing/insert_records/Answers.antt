use Rattle.std.proofs.Common.{sym, ap, ◌∙◌}
use Rattle.std.specs.FinMap as map
use Rattle.uq_model.proofs.Changes.{with_records-push}
use Rattle.uq_model.proofs.changing.insert_records.Goals as goal

pub loop-id-preserved : goal.loop-id-preserved
loop-id-preserved c =
    c.in_ok-insert.ensures.ok ∙ ap (λ m. map.insert m c.in-Some.id c.in-Some.record) c.loop-id.invariant
    ∙ sym (with_records-push c.loop-id.yielded (c.in-Some.id, c.in-Some.record) c.args.records.now)
