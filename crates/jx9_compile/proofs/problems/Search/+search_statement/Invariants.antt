use Rattle.std.proofs.Common.{take}
use Rattle.jx9_compile.specs.Problems.{Adds, IsInBranches, IsInStatements}
use Rattle.jx9_compile.proofs.problems.Search.+search_statement.Given as goal

abbrev pub invariant-statements-loop-statement : goal.invariant-statements-loop-statement
invariant-statements-loop-statement l = Adds (IsInStatements l.looped (take l.statement-index l.statements)) l.fn.self.first l.self.first

abbrev pub invariant-branches-loop-branch : goal.invariant-branches-loop-branch
invariant-branches-loop-branch l = Adds (IsInBranches l.looped (take l.branch-index l.branches)) l.fn.self.first l.self.first
