use Rattle.std.proofs.Common.{◌≡◌, ◌++◌, replicate}
use Rattle.uq_value.specs.declared.value.Value.{Value}
use Rattle.jx9_vm.proofs.layers.push_nulls.Given as goal

abbrev pub invariant-loop : goal.invariant-loop
invariant-loop l = l.values.items ≡ l.fn.values.items ++ replicate l.counter Value.Null
