use Rattle.std.proofs.Common.{arith, set, ◌≤◌}
use Rattle.uq_value.specs.Internal.Tally.{deepest_of}
use Rattle.uq_value.proofs.Tallies.{Others, others}
use Rattle.uq_value.proofs.kept.Kept.change.Goals as goal

pub returns-then-after-depth_before-clause-depth : goal.returns-then-after-depth_before-clause-depth
returns-then-after-depth_before-clause-depth c = λ ds at few h e t.
    let o : Others ds at c.args.after = others ds at c.args.after h in
    omega (arith, o.before, o.now, e, t.0, c.if-after-depth_before.true, c.depth-depth_before.ensures, c.set_depth.ensures.depth, c.note.ensures.depth)

pub returns-then-before-depth_before-clause-depth : goal.returns-then-before-depth_before-clause-depth
returns-then-before-depth_before-clause-depth c = λ ds at few h e t.
    let o : Others ds at c.args.after = others ds at c.args.after h in
    omega (arith, o.before, o.now, e, t.0, c.if-after-depth_before.false, c.if-before-depth_before.true, c.depth-depth_before.ensures, c.note.ensures.depth)

pub returns-in-Some-clause-depth : goal.returns-in-Some-clause-depth
returns-in-Some-clause-depth c = λ ds at few h e t.
    let o : Others ds at c.args.after = others ds at c.args.after h in
    let less : deepest_of (set ds at c.args.after) ≤ c.args.before = omega (arith, o.before, o.now, e, t.0, c.if-after-depth_before.false, c.if-before-depth_before.false, c.depth-depth_before.ensures, c.note.ensures.depth) in
    omega (arith, c.set_depth-in-Some.ensures.depth, c.in-Some.ensures.deepest (set ds at c.args.after) less (c.note.ensures.counts ds at few h e t.1))
