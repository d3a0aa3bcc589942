use Rattle.std.proofs.Common.{◌<◌, length, ap, ◌∙◌, arith}
use Rattle.std.proofs.lemmas.List.Sums.{sum_by_more}
use Rattle.uq_model.specs.Full.{record_bytes}
use Rattle.uq_model.proofs.measuring.records_bytes.Goals as goal

pub loop-entry-preserved : goal.loop-entry-preserved
loop-entry-preserved c =
    let entry = c.entry-item.result in
    let within : c.loop-entry.entry-index < length c.args.records.now = omega (arith, c.loop-entry-test.true) in
    let more = sum_by_more (record_bytes c.args.name.now) c.args.records.now c.loop-entry.entry-index entry within in
    let this = c.record_bytes.ensures entry.0 ∙ ap (record_bytes c.args.name.now) c.entry-item.is in
    omega (arith, more, this, c.loop-entry.invariant, c.saturating_add-bytes.ensures)
