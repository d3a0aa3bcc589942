use Rattle.jx9_meaning.proofs.Rows.Places.{place_rows}
use Rattle.jx9_meaning.proofs.laws.place_rows.Goals as goal

pub returns : goal.returns
returns c = place_rows
