use Rattle.std.proofs.Common.{length, sym, ◌∙◌, arith}
use Rattle.std.proofs.lemmas.List.Sums.{position_or_len_is}
use Rattle.uq_words.specs.Words.{ends_bare}
use Rattle.uq_words.proofs.reading.bare_len.Goals as goal

pub returns-then-ends_bare-clause-place : goal.returns-then-ends_bare-clause-place
returns-then-ends_bare-clause-place c = sym (position_or_len_is ends_bare c.args.text.now c.loop-at.at 0 (omega arith) c.loop-at.invariant (λ less. sym c.ends_bare.ensures ∙ c.if-ends_bare.true))

pub returns-clause-place : goal.returns-clause-place
returns-clause-place c = sym (position_or_len_is ends_bare c.args.text.now (length c.args.text.now) 0 (omega arith) (λ k less. c.loop-at.invariant k (omega (arith, less))) (λ less. absurd (omega (arith, less))))
