use Rattle.jx9_compile.proofs.Searches.{first_of}
use Rattle.jx9_compile.proofs.problems.first_problem.Goals as goal

pub returns : goal.returns
returns c = first_of _ _ _ _ c.as_slice.ensures c.as_slice-2.ensures c.first_in.ensures
