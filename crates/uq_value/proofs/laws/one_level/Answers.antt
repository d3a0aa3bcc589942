use Rattle.uq_value.specs.Laws.Levels.{value_of-plain, plain-value_of}
use Rattle.uq_value.proofs.laws.one_level.Goals as goal

pub returns-clause-back : goal.returns-clause-back
returns-clause-back c = value_of-plain

pub returns-clause-forth : goal.returns-clause-forth
returns-clause-forth c = plain-value_of
