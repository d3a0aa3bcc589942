use Rattle.std.proofs.Common.{take}
use Rattle.jx9_compile.specs.Emits.{Emits, AreHeld, IsBranch, IsSequence}
use Rattle.jx9_compile.proofs.emitting.Emitter.+statement.Given as goal

abbrev pub invariant-statements-loop-statement : goal.invariant-statements-loop-statement
invariant-statements-loop-statement l = Emits l.fn.self l.self (IsSequence l.around (take l.statement-index l.statements))

abbrev pub invariant-branches-loop-branch : goal.invariant-branches-loop-branch
invariant-branches-loop-branch l = Emits l.fn.self l.self (AreHeld (IsBranch l.around) (take l.branch-index l.branches) l.overs.items)
