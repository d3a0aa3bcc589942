use Rattle.std.proofs.Common.{◌≡◌, map as list_map}
use Rattle.std.specs.FinMap as map
use Rattle.std.specs.Ordering.{nat_cmp}
use Rattle.std.specs.Map.Iter.{deref_pair}
use Rattle.uq_model.proofs.tables.ById+Value.copy.Given as goal

-- so far the copy has what was gone over
abbrev pub invariant-loop-id : goal.invariant-loop-id
invariant-loop-id l = l.copied ≡ map.from_entries {R = nat_cmp} (list_map deref_pair l.yielded)
