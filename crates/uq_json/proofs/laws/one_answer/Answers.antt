use Rattle.uq_json.proofs.Verdicts.{only_answer}
use Rattle.uq_json.proofs.laws.one_answer.Goals as goal

pub returns : goal.returns
returns c = only_answer
