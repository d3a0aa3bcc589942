use Rattle.std.proofs.Common.{arith}
use Rattle.uq_value.proofs.Limits.{push-too_deep, push-too_large, push-gives}
use Rattle.uq_value.proofs.list.List.push.Goals as goal

pub returns-then-depth-ge-MOST_DEPTH-clause-refused : goal.returns-then-depth-ge-MOST_DEPTH-clause-refused
returns-then-depth-ge-MOST_DEPTH-clause-refused c =
    push-too_deep c.args.self.now c.args.v (omega (arith, c.depth-depth.ensures.depth, c.if-depth-ge-MOST_DEPTH.true))

pub returns-then-size-gt-MOST_SIZE-clause-refused : goal.returns-then-size-gt-MOST_SIZE-clause-refused
returns-then-size-gt-MOST_SIZE-clause-refused c =
    push-too_large c.args.self.now c.args.v c.size_beside_next.ensures.shallow (omega (arith, c.depth-depth.ensures.depth, c.if-depth-ge-MOST_DEPTH.false))
    (omega (arith, c.size_beside_next.ensures.size, c.size.ensures.size, c.if-size-gt-MOST_SIZE.true))

pub returns-clause-fits : goal.returns-clause-fits
returns-clause-fits c =
    push-gives c.args.self.now c.args.v c.push_within.new.self c.size_beside_next.ensures.shallow (record {
      small = omega (arith, c.size_beside_next.ensures.size, c.size.ensures.size, c.if-size-gt-MOST_SIZE.false);
      shallow = omega (arith, c.depth-depth.ensures.depth, c.if-depth-ge-MOST_DEPTH.false);
    }) c.in_ok-push_within.ensures.ok
