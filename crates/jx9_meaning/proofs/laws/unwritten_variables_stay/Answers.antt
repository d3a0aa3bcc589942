use Rattle.jx9_meaning.proofs.Unwritten.{keeps_unwritten}
use Rattle.jx9_meaning.proofs.laws.unwritten_variables_stay.Goals as goal

pub returns : goal.returns
returns c = keeps_unwritten
