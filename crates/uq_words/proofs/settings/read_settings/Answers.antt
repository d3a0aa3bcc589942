use Rattle.std.proofs.Common.{◌∙◌}
use Rattle.uq_words.specs.Texts.{numbers_of}
use Rattle.uq_words.proofs.Asking.{takes_setting}
use Rattle.uq_words.proofs.settings.read_settings.Goals as goal

pub options-preserved : goal.options-preserved
options-preserved c =
    c.options.invariant
    ∙ takes_setting (numbers_of c.options.given) c.in-Some.setting c.in_ok-given.given c.word-item.result c.text-item.result c.options.rest.now c.in-len2-up.len_at_least c.word-item.is c.text-item.is
    c.in-Some.ensures
    c.in_ok-given.ensures
