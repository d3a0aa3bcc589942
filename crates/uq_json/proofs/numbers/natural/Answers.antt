use Rattle.std.proofs.Common.{sym, ◌∙◌}
use Rattle.uq_json.proofs.Naturals.{read_natural, no_natural}
use Rattle.uq_json.proofs.numbers.natural.Goals as goal

pub returns-then-has_no_leading_zero : goal.returns-then-has_no_leading_zero
returns-then-has_no_leading_zero c =
    c.from_digits.ensures ∙ read_natural c.args.is_negative c.args.digits.now c.requires (sym c.has_no_leading_zero.ensures ∙ c.if-has_no_leading_zero.true)

pub returns-else-has_no_leading_zero : goal.returns-else-has_no_leading_zero
returns-else-has_no_leading_zero c = no_natural c.args.is_negative c.args.digits.now (sym c.has_no_leading_zero.ensures ∙ c.if-has_no_leading_zero.false)
