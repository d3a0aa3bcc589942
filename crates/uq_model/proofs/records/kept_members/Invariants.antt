use Rattle.std.proofs.Common.{◌≡◌, take}
use Rattle.uq_model.specs.Collections.{without_id}
use Rattle.uq_model.proofs.records.kept_members.Given as goal

-- so far the members before this place, without `__id`
abbrev pub invariant-loop-at : goal.invariant-loop-at
invariant-loop-at l = l.members ≡ without_id (take l.at l.object)
