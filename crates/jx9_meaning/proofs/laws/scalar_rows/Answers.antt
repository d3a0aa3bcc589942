use Rattle.jx9_meaning.proofs.Rows.Scalars.{scalar_rows}
use Rattle.jx9_meaning.proofs.laws.scalar_rows.Goals as goal

pub returns : goal.returns
returns c = scalar_rows
