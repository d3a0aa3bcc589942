use Rattle.std.proofs.Common.{◌≡◌, ◌++◌, map}
use Rattle.std.specs.Vec.Iter.{into_iter_items}
use Rattle.jx9_syntax.specs.Grammar.{links as spec_links}
use Rattle.jx9_parse.specs.Chains.{tied}
use Rattle.jx9_parse.proofs.chain.links.Given as goal

abbrev pub invariant-loop-operator : goal.invariant-loop-operator
invariant-loop-operator l = l.found ++ spec_links (map tied (into_iter_items l.operator-iterator)) ≡ spec_links (map tied l.fn.ties.items)
