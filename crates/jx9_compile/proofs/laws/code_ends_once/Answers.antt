use Rattle.jx9_compile.proofs.Ends.{ends_once}
use Rattle.jx9_compile.proofs.laws.code_ends_once.Goals as goal

pub returns : goal.returns
returns c = ends_once c.args.code.now
