use Rattle.jx9_meaning.proofs.Variables.{leaves_variables}
use Rattle.jx9_meaning.proofs.laws.calls_leave_variables.Goals as goal

pub returns : goal.returns
returns c = leaves_variables
