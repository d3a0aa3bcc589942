use Rattle.std.proofs.Common.{◌<◌, length, sym, ap, ◌∙◌, arith}
use Rattle.uq_model.specs.Batch.{members_or_none}
use Rattle.uq_model.specs.Collections.{record_of, is_small}
use Rattle.uq_model.proofs.Batches.{was_made, small_more}
use Rattle.uq_model.proofs.records.check_sizes.Goals as goal

pub loop-object-preserved : goal.loop-object-preserved
loop-object-preserved c =
    let v = c.object-item.result in
    let within : c.loop-object.object-index < length c.args.objects.now = omega (arith, c.loop-object-test.true) in
    small_more c.args.objects.now c.loop-object.object-index v within c.loop-object.invariant
    (ap (λ w. is_small (record_of 0 (members_or_none w))) (sym c.object-item.is)
    ∙ (was_made 0 v c.in_ok-record_of.field-0 c.in_ok-record_of.ensures.made).small)
