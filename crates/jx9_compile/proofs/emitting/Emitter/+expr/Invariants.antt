use Rattle.std.proofs.Common.{take}
use Rattle.jx9_compile.specs.Emits.{Emits, AreHeld, AreLinks, AreValues, IsExpr}
use Rattle.jx9_compile.proofs.emitting.Emitter.+expr.Given as goal

abbrev pub invariant-links-loop-link : goal.invariant-links-loop-link
invariant-links-loop-link l = Emits l.fn.self l.self (AreLinks l.line (take l.link-index l.links))

abbrev pub invariant-values-loop-value : goal.invariant-values-loop-value
invariant-values-loop-value l = Emits l.fn.self l.self (AreValues (take l.value-index l.values))

abbrev pub invariant-operands-loop-operand : goal.invariant-operands-loop-operand
invariant-operands-loop-operand l = Emits l.fn.self l.self (AreHeld IsExpr (take l.operand-index l.operands) l.held.items)
