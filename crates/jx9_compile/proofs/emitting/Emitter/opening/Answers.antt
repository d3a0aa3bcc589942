use Rattle.jx9_compile.proofs.EmitStatements.{opening_emitted}
use Rattle.jx9_compile.proofs.emitting.Emitter.opening.Goals as goal

pub returns-clause-added : goal.returns-clause-added
returns-clause-added c =
    opening_emitted _ _ _ _ _ _ _ _ _ c.in_ok-again.ensures.place c.in_ok-effects.ensures c.in_ok-skip.ensures c.in_ok-effects-2.ensures c.in_ok-land.ensures
