use Rattle.std.proofs.Common.{length, sym, ◌∙◌, arith}
use Rattle.std.proofs.lemmas.List.Sums.{position_or_len_is}
use Rattle.uq_words.specs.Lines.{is_feed}
use Rattle.uq_words.proofs.lines.line_len.Goals as goal

pub returns-then-is_feed-clause-place : goal.returns-then-is_feed-clause-place
returns-then-is_feed-clause-place c = sym (position_or_len_is is_feed c.args.bytes.now c.loop-at.at 0 (omega arith) c.loop-at.invariant (λ less. sym c.is_feed.ensures ∙ c.if-is_feed.true))

pub returns-clause-place : goal.returns-clause-place
returns-clause-place c = sym (position_or_len_is is_feed c.args.bytes.now (length c.args.bytes.now) 0 (omega arith) (λ k less. c.loop-at.invariant k (omega (arith, less))) (λ less. absurd (omega (arith, less))))
