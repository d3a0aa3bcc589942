use Rattle.std.proofs.Common.{◌≡◌, ◌++◌, map}
use Rattle.std.specs.Vec.Iter.{into_iter_items}
use Rattle.jx9_syntax.specs.Grammar.{operands as spec_operands}
use Rattle.jx9_parse.specs.Chains.{tied}
use Rattle.jx9_parse.proofs.chain.with_operands.Given as goal

abbrev pub invariant-loop-tie : goal.invariant-loop-tie
invariant-loop-tie l = l.found ++ spec_operands (map tied (into_iter_items l.tie-iterator)) ≡ l.fn.found ++ spec_operands (map tied l.fn.ties.items)
