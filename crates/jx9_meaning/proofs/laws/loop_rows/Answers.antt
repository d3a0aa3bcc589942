use Rattle.jx9_meaning.proofs.Rows.Loops.{loop_rows}
use Rattle.jx9_meaning.proofs.laws.loop_rows.Goals as goal

pub returns : goal.returns
returns c = loop_rows
