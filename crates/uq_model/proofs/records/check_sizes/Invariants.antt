use Rattle.std.proofs.Common.{◌≡◌, true, take}
use Rattle.uq_model.specs.Batch.{are_small}
use Rattle.uq_model.proofs.records.check_sizes.Given as goal

-- no object before this place is too large
abbrev pub invariant-loop-object : goal.invariant-loop-object
invariant-loop-object l = are_small (take l.object-index l.objects) ≡ true
