use Rattle.jx9_meaning.proofs.Rows.Calls.{call_rows}
use Rattle.jx9_meaning.proofs.laws.call_rows.Goals as goal

pub returns : goal.returns
returns c = call_rows
