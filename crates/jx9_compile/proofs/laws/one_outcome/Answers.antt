use Rattle.jx9_compile.proofs.Outcomes.{one_outcome}
use Rattle.jx9_compile.proofs.laws.one_outcome.Goals as goal

pub returns : goal.returns
returns c = one_outcome
