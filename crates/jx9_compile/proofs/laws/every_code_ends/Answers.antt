use Rattle.jx9_compile.proofs.Ends.{ends_always}
use Rattle.jx9_compile.proofs.laws.every_code_ends.Goals as goal

pub returns : goal.returns
returns c = ends_always c.args.code.now
