use Rattle.std.proofs.Common.{arith}
use Rattle.jx9_lex.proofs.Naturals.{one_digit_more}
use Rattle.jx9_lex.proofs.numbers.natural.Goals as goal

pub loop-c-preserved : goal.loop-c-preserved
loop-c-preserved c =
    one_digit_more c.args.base c.args.digits.now c.loop-c.c-index c.loop-c.n c.saturating_mul.result c.saturating_add-n.result c.requires c.loop-c-test.true c.loop-c.invariant c.saturating_mul.ensures
    (omega (arith, c.saturating_add-n.ensures, c.from.ensures, c.digit_value.ensures))
