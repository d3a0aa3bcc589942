use Rattle.std.proofs.Common.{◌≡◌, ◌-◌, ◌^◌, min, sum_by, take}
use Rattle.uq_model.specs.Full.{record_bytes}
use Rattle.uq_model.proofs.measuring.records_bytes.Given as goal

-- so far those before this place
abbrev pub invariant-loop-entry : goal.invariant-loop-entry
invariant-loop-entry l = l.bytes ≡ min (sum_by (record_bytes l.name) (take l.entry-index l.records)) (2 ^ 64 - 1)
