use Rattle.jx9_lex.proofs.Ended.{one_end}
use Rattle.jx9_lex.proofs.laws.lists_end.Goals as goal

pub returns : goal.returns
returns c = λ text tokens lexed. one_end lexed
