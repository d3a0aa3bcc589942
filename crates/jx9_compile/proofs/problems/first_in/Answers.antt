use Rattle.jx9_compile.proofs.Searches.{adds_then}
use Rattle.jx9_compile.proofs.problems.first_in.Goals as goal

pub returns : goal.returns
returns c = adds_then _ _ _ _ _ c.definitions.ensures c.statements.ensures
