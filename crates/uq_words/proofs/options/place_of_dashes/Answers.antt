use Rattle.std.proofs.Common.{sym, ◌∙◌, arith}
use Rattle.uq_words.proofs.Plains.{dashes_at, no_dashes}
use Rattle.uq_words.proofs.options.place_of_dashes.Goals as goal

pub returns-then-is_dashes-clause-place : goal.returns-then-is_dashes-clause-place
returns-then-is_dashes-clause-place c =
    dashes_at c.args.words.now c.loop-at.at c.index-words-at.result c.loop-at-test.true c.loop-at.invariant c.index-words-at.is (sym c.is_dashes.ensures ∙ c.if-is_dashes.true)

pub returns-clause-place : goal.returns-clause-place
returns-clause-place c = no_dashes c.args.words.now (λ k d less. c.loop-at.invariant k d (omega (arith, less)))
