use Rattle.std.proofs.Common.{sym, ◌∙◌}
use Rattle.jx9_parse.proofs.Ends.{only_end, one_more}
use Rattle.jx9_parse.proofs.tests.+has_one_end.Goals as goal

pub returns-then-token_number-eq0 : goal.returns-then-token_number-eq0
returns-then-token_number-eq0 t c = only_end c.args.tokens.now c.first-item.result c.is_empty.result c.in-len1-up.len_at_least c.first-item.is (sym c.token_number.ensures ∙ c.if-token_number-eq0.true) c.is_empty.ensures

pub returns-else-token_number-eq0 : goal.returns-else-token_number-eq0
returns-else-token_number-eq0 t c = λ so. one_more c.args.tokens.now c.first-item.result c.in-len1-up.len_at_least c.first-item.is (λ e. c.if-token_number-eq0.false (c.token_number.ensures ∙ e)) (c.has_one_end.ensures so)
