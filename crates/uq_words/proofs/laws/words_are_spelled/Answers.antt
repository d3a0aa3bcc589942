use Rattle.uq_words.proofs.Spelling.{words_are_spelled}
use Rattle.uq_words.proofs.laws.words_are_spelled.Goals as goal

pub returns : goal.returns
returns c = words_are_spelled c.front_is_string.ensures
