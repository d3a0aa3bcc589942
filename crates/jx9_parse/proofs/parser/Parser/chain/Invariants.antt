use Rattle.std.proofs.Common.{◌+◌, ◌-◌, ◌*◌, length}
use Rattle.jx9_parse.specs.Answers.{state}
use Rattle.jx9_parse.specs.Chains.{open_chains}
use Rattle.jx9_parse.specs.Levels as levels
use Rattle.jx9_parse.proofs.ChainLoops.{IsRead}
use Rattle.jx9_parse.proofs.parser.Parser.chain.Given as goal

abbrev pub invariant-loop-level : goal.invariant-loop-level
invariant-loop-level g l = IsRead (levels.unary l.within) (levels.chain l.within l.fn.first (state l.fn.self)) l.level (open_chains l.open.chains) l.operand (state l.self)

abbrev pub decreases-loop-level : goal.decreases-loop-level
decreases-loop-level g l = 8 * length l.self.tokens.now + (7 - l.level)
