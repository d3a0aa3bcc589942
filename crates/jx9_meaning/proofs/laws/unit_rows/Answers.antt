use Rattle.jx9_meaning.proofs.Rows.Units.{unit_rows}
use Rattle.jx9_meaning.proofs.laws.unit_rows.Goals as goal

pub returns : goal.returns
returns c = unit_rows
