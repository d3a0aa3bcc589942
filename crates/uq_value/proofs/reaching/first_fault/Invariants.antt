use Rattle.std.proofs.Common.{drop}
use Rattle.uq_value.proofs.Steps.{StandsFor}
use Rattle.uq_value.proofs.reaching.first_fault.Given as goal

abbrev pub invariant-loop-step : goal.invariant-loop-step
invariant-loop-step l = StandsFor (drop l.step-index l.steps) l.here l.steps l.v
