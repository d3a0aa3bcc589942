use Rattle.jx9_parse.proofs.Verdicts.{one_verdict}
use Rattle.jx9_parse.proofs.law.one_program.Goals as goal

pub returns : goal.returns
returns c = one_verdict
