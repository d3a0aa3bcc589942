use Rattle.std.proofs.Common.{◌≡◌, ◌+◌, ◌-◌}
use Rattle.uq_value.specs.Size.{leb_size, leb_within}
use Rattle.uq_value.proofs.measuring.leb_size.Given as goal

abbrev pub invariant-loop-groups : goal.invariant-loop-groups
invariant-loop-groups l = leb_size l.n + 1 ≡ l.groups + leb_within (10 - l.groups) l.rest
