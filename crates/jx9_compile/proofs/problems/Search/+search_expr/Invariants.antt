use Rattle.std.proofs.Common.{take}
use Rattle.jx9_compile.specs.Problems.{Adds, IsIn, IsInLinks}
use Rattle.jx9_compile.proofs.problems.Search.+search_expr.Given as goal

abbrev pub invariant-exprs-loop-e : goal.invariant-exprs-loop-e
invariant-exprs-loop-e l = Adds (IsIn (take l.e-index l.expressions)) l.fn.self.first l.self.first

abbrev pub invariant-links-loop-link : goal.invariant-links-loop-link
invariant-links-loop-link l = Adds (IsInLinks (take l.link-index l.links)) l.fn.self.first l.self.first
