use Rattle.jx9_meaning.proofs.Ends.{ends_well}
use Rattle.jx9_meaning.proofs.laws.every_script_ends.Goals as goal

pub returns : goal.returns
returns c = ends_well
