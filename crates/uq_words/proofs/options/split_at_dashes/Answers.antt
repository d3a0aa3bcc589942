use Rattle.std.proofs.Common.{◌-◌, length, take, drop, refl}
use Rattle.uq_words.proofs.Plains.{before_texts, behind_range, behind_texts}
use Rattle.uq_words.proofs.options.split_at_dashes.Goals as goal

pub returns-clause-before : goal.returns-clause-before
returns-clause-before c =
    before_texts c.args.words.now (take c.place_of_dashes-at.result c.args.words.now) c.place_of_dashes-at.result c.place_of_dashes-at.ensures.place refl

pub returns-clause-behind : goal.returns-clause-behind
returns-clause-behind c =
    behind_texts c.args.words.now (take (length c.args.words.now - c.min.result) (drop c.min.result c.args.words.now)) c.place_of_dashes-at.result c.place_of_dashes-at.ensures.place
    (behind_range c.args.words.now c.place_of_dashes-at.result c.min.result c.min.ensures)
