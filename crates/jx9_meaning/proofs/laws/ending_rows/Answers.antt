use Rattle.jx9_meaning.proofs.Rows.Endings.{ending_rows}
use Rattle.jx9_meaning.proofs.laws.ending_rows.Goals as goal

pub returns : goal.returns
returns c = ending_rows
