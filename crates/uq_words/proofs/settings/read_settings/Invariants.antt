use Rattle.std.proofs.Common.{◌≡◌, length}
use Rattle.uq_words.specs.Options.{no_numbers, order_behind}
use Rattle.uq_words.specs.Texts.{numbers_of, texts}
use Rattle.uq_words.proofs.settings.read_settings.Given as goal

abbrev pub decreases-options : goal.decreases-options
decreases-options l = length l.rest

abbrev pub invariant-options : goal.invariant-options
invariant-options l = order_behind no_numbers (texts l.words) ≡ order_behind (numbers_of l.given) (texts l.rest)
