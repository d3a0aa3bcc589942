use Rattle.std.proofs.Common.{arith, rules}
use Rattle.uq_codec.proofs.Lengths.{none_left, with_first, first_of, others_of, one_read, last_read, is_last, many, is_byte}
use Rattle.uq_codec.proofs.varint.read_length.Goals as goal

pub returns-in_default : goal.returns-in_default
returns-in_default c n small = none_left c.args.bytes.now c.loop-weight.rest.now c.loop-weight.low c.loop-weight.weight c.in_default.len_below c.loop-weight.invariant n

pub returns-then-weight-gt1 : goal.returns-then-weight-gt1
returns-then-weight-gt1 c n small behind f =
    let end = is_last c.args.bytes.now (others_of c.loop-weight.rest.now) (first_of c.loop-weight.rest.now) c.loop-weight.low c.loop-weight.weight c.if-group-lt128.true
    (with_first c.args.bytes.now c.loop-weight.rest.now c.loop-weight.low c.loop-weight.weight c.in-len1-up.len_at_least c.loop-weight.invariant) n behind f in
    absurd (omega (arith, end.counts c.if-weight-gt1.true, c.if-group-eq0.true))

pub returns-then-n-gt-MOST_LENGTH : goal.returns-then-n-gt-MOST_LENGTH
returns-then-n-gt-MOST_LENGTH c n small behind f =
    let end = is_last c.args.bytes.now (others_of c.loop-weight.rest.now) (first_of c.loop-weight.rest.now) c.loop-weight.low c.loop-weight.weight c.if-group-lt128.true
    (with_first c.args.bytes.now c.loop-weight.rest.now c.loop-weight.low c.loop-weight.weight c.in-len1-up.len_at_least c.loop-weight.invariant) n behind f in
    absurd (omega (arith, end.number, c.if-n-gt-MOST_LENGTH.true, small))

pub returns-else-n-gt-MOST_LENGTH : goal.returns-else-n-gt-MOST_LENGTH
returns-else-n-gt-MOST_LENGTH c = (
  last_read c.args.bytes.now (others_of c.loop-weight.rest.now) (first_of c.loop-weight.rest.now) c.loop-weight.low c.loop-weight.weight c.if-group-lt128.true
      (λ h. omega (arith, h, c.else-group-eq0.either))
      (with_first c.args.bytes.now c.loop-weight.rest.now c.loop-weight.low c.loop-weight.weight c.in-len1-up.len_at_least c.loop-weight.invariant),
  c.if-n-gt-MOST_LENGTH.false,
)

pub loop-weight-preserved : goal.loop-weight-preserved
loop-weight-preserved c =
    one_read c.args.bytes.now (others_of c.loop-weight.rest.now) (first_of c.loop-weight.rest.now) c.loop-weight.low c.loop-weight.weight c.if-group-lt128.false (is_byte c.args.bytes.now c.loop-weight.rest.now c.loop-weight.low c.loop-weight.weight c.loop-weight.invariant (λ i. search (rules, c.type_inv.bytes i)))
    (with_first c.args.bytes.now c.loop-weight.rest.now c.loop-weight.low c.loop-weight.weight c.in-len1-up.len_at_least c.loop-weight.invariant)

pub returns : goal.returns
returns c n small behind f =
    absurd (omega (arith, small, c.loop-weight-test.false, many c.args.bytes.now c.loop-weight.rest.now c.loop-weight.low c.loop-weight.weight (omega (arith, c.loop-weight-test.false)) c.loop-weight.invariant n behind f))
