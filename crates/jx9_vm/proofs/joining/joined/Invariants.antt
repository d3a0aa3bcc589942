use Rattle.std.proofs.Common.{◌≡◌, take}
use Rattle.jx9_meaning.specs.Expression.{joined}
use Rattle.jx9_vm.proofs.joining.joined.Given as goal

abbrev pub invariant-loop-value : goal.invariant-loop-value
invariant-loop-value l = l.text.items ≡ joined (take l.value-index l.values)
