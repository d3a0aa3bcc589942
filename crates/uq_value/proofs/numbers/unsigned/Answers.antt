use Rattle.std.proofs.Common.{arith, ap, ◌≡◌, ◌∙◌, ◌+◌, ◌&&◌, get_or, sym}
use Rattle.std.proofs.lemmas.List.Folds.{list_all_more}
use Rattle.std.proofs.lemmas.Str.{digit_value_digit}
use Rattle.std.specs.Char.{digit_value, is_ascii_digit}
use Rattle.uq_value.proofs.Digits.{digits-take}
use Rattle.uq_value.proofs.numbers.unsigned.Goals as goal

pub loop-c-preserved : goal.loop-c-preserved
loop-c-preserved c =
    let digit : digit_value (get_or c.args.digits.now c.loop-c.c-index 0) + 48 ≡ get_or c.args.digits.now c.loop-c.c-index 0 = digit_value_digit _ c.if-not-is_ascii_digit.ensures.cases in
    record {
      value = omega (arith, digits-take c.args.digits.now c.loop-c.c-index c.loop-c-test.true, c.loop-c.invariant.value, c.saturating_mul.ensures, c.from.ensures, c.saturating_add-n.ensures, digit);
      digits = list_all_more is_ascii_digit c.args.digits.now c.loop-c.c-index 0 c.loop-c-test.true ∙ ap (λ b. b && is_ascii_digit (get_or c.args.digits.now c.loop-c.c-index 0)) c.loop-c.invariant.digits ∙ sym c.if-not-is_ascii_digit.ensures.value;
    }
