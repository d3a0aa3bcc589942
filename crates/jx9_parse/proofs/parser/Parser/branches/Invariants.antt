use Rattle.std.proofs.Common.{◌≡◌, length}
use Rattle.jx9_parse.specs.Answers.{state}
use Rattle.jx9_parse.specs.Levels as levels
use Rattle.jx9_parse.proofs.BranchLoops.{with_branches, left}
use Rattle.jx9_parse.proofs.parser.Parser.branches.Given as goal

abbrev pub invariant-loop-self : goal.invariant-loop-self
invariant-loop-self g l = with_branches l.within l.found (left l.within (state l.self)) ≡ levels.branches l.within (state l.fn.self)

abbrev pub decreases-loop-self : goal.decreases-loop-self
decreases-loop-self g l = length l.self.tokens.now
