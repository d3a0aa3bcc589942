use Rattle.std.proofs.Common.{◌≡◌, ◌-◌, ◌^◌, min, sum_by, map as list_map}
use Rattle.std.specs.Map.Iter.{deref_pair}
use Rattle.uq_model.specs.Full.{record_bytes}
use Rattle.uq_model.proofs.measuring.ById+Value.bytes.Given as goal

-- so far those that were gone over
abbrev pub invariant-loop-value : goal.invariant-loop-value
invariant-loop-value l = l.bytes ≡ min (sum_by (record_bytes l.name) (list_map deref_pair l.yielded)) (2 ^ 64 - 1)
