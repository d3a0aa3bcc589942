use Rattle.std.proofs.Common.{sym, ◌∙◌}
use Rattle.std.proofs.lemmas.Result.{err_from_is_err_and}
use Rattle.uq_words.specs.Words.{word_front}
use Rattle.uq_words.proofs.Splitting.{ended_fails, ended_none, ended_whole}
use Rattle.uq_words.proofs.reading.split_word.Goals as goal

pub returns-in_err-word-clause-splits : goal.returns-in_err-word-clause-splits
returns-in_err-word-clause-splits c =
    let p = err_from_is_err_and c.from_residual.result c.from_residual.ensures.1 in
    rw (p.1, p.2) (ended_fails (word_front c.args.text.now) c.in_err-word.field-0.0 c.in_err-word.ensures.splits)

pub returns-then-may_follow-clause-splits : goal.returns-then-may_follow-clause-splits
returns-then-may_follow-clause-splits c =
    ended_whole (word_front c.args.text.now) c.in_ok-word.word.items c.in_ok-word.behind.now c.in_ok-word.ensures.splits (sym c.may_follow.ensures ∙ c.if-may_follow.true)

pub returns-else-may_follow-clause-splits : goal.returns-else-may_follow-clause-splits
returns-else-may_follow-clause-splits c =
    ended_none (word_front c.args.text.now) c.in_ok-word.word.items c.in_ok-word.behind.now c.in_ok-word.ensures.splits (sym c.may_follow.ensures ∙ c.if-may_follow.false)
