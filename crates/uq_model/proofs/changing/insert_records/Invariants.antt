use Rattle.std.proofs.Common.{◌≡◌}
use Rattle.uq_model.specs.Collections.{with_records}
use Rattle.uq_model.proofs.changing.insert_records.Given as goal

-- so far those that were gone over
abbrev pub invariant-loop-id : goal.invariant-loop-id
invariant-loop-id l = l.records ≡ with_records l.yielded l.initial.records
