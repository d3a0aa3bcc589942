use Rattle.uq_shell.proofs.Judged.{has_judge, has_one}
use Rattle.uq_shell.proofs.laws.texts_have_one_verdict.Goals as goal

pub returns-clause-one : goal.returns-clause-one
returns-clause-one c = has_one c.one_list.ensures c.lists_end.ensures c.one_program.ensures c.one_outcome.ensures

pub returns-clause-judge : goal.returns-clause-judge
returns-clause-judge c = has_judge c.one_list.ensures c.lists_end.ensures c.one_program.ensures c.one_outcome.ensures
