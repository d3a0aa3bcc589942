use Rattle.std.proofs.Common.{◌≡◌, map as list_map}
use Rattle.std.specs.FinMap as map
use Rattle.std.specs.Ordering.{nat_cmp}
use Rattle.std.specs.Cmp.Lexicographic.{slice_cmp}
use Rattle.std.specs.Map.Iter.{deref_pair}
use Rattle.uq_model.proofs.Entries.{with_parts}
use Rattle.uq_model.proofs.tables.ByName+Collection.copy.Given as goal

-- so far the copy has what was gone over
abbrev pub invariant-loop-name : goal.invariant-loop-name
invariant-loop-name l = l.copied ≡ map.from_entries {R = slice_cmp nat_cmp}
    (with_parts (λ k. k.items) (list_map deref_pair l.yielded))
