use Rattle.jx9_syntax.proofs.OneAnswer.{one_answer}
use Rattle.jx9_syntax.proofs.laws.one_list.Goals as goal

pub returns : goal.returns
returns c = one_answer
