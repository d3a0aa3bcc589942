use Rattle.jx9_compile.proofs.Searches.{option_none, option_some}
use Rattle.jx9_compile.proofs.problems.Search.option.Goals as goal

pub returns-in-Some : goal.returns-in-Some
returns-in-Some c = option_some _ _ _ _ _ c.in-Some.is c.get.ensures c.expr.ensures

pub returns-in-None : goal.returns-in-None
returns-in-None c = option_none _ _ c.in-None.is
