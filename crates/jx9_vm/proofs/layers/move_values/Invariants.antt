use Rattle.std.proofs.Common.{◌≡◌, ◌++◌, ◌-◌, drop, length, take}
use Rattle.jx9_vm.proofs.layers.move_values.Given as goal

abbrev pub invariant-loop-at : goal.invariant-loop-at
invariant-loop-at l = record {
  moved : l.to.here ≡ l.fn.to.here ++ take (l.at - l.from) (drop l.from l.fn.values.items);
  under : l.to.under ≡ l.fn.to.under;
  front : take l.from l.values.items ≡ take l.from l.fn.values.items;
  rest : drop l.at l.values.items ≡ drop l.at l.fn.values.items;
  same_length : length l.values.items ≡ length l.fn.values.items;
}
