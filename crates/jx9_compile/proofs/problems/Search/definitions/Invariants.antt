use Rattle.std.proofs.Common.{take}
use Rattle.jx9_compile.specs.Problems.{Adds, IsDefinition}
use Rattle.jx9_compile.proofs.problems.Search.definitions.Given as goal

abbrev pub invariant-loop-definition : goal.invariant-loop-definition
invariant-loop-definition l = Adds (IsDefinition (take l.definition-index l.definitions)) l.fn.self.first l.self.first
