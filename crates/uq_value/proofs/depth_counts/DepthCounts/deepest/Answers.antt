use Rattle.std.proofs.Common.{arith, sym, ◌∙◌, ◌<◌, ◌≤◌}
use Rattle.uq_value.specs.Internal.Tally.{occurrences}
use Rattle.uq_value.proofs.Tallies.{no-deeper, as-deep}
use Rattle.uq_value.proofs.depth_counts.DepthCounts.deepest.Goals as goal

pub loop-depth-preserved : goal.loop-depth-preserved
loop-depth-preserved c = record {
  bound = omega arith;
  below = λ ds h t.
      let k : c.loop-depth.depth < 128 = omega (arith, c.requires, c.loop-depth.invariant.bound) in
      no-deeper c.loop-depth.depth ds c.loop-depth-test.true (c.loop-depth.invariant.below ds h t) (sym (t.right c.loop-depth.depth k) ∙ c.if-self-depth-eq0.true);
}

pub returns-else-self-depth-eq0-clause-deepest : goal.returns-else-self-depth-eq0-clause-deepest
returns-else-self-depth-eq0-clause-deepest c = λ ds h t.
    let k : c.loop-depth.depth < 128 = omega (arith, c.requires, c.loop-depth.invariant.bound) in
    let one : 1 ≤ occurrences c.loop-depth.depth ds = omega (arith, t.right c.loop-depth.depth k, c.if-self-depth-eq0.false) in
    omega (arith, as-deep c.loop-depth.depth ds one, c.loop-depth.invariant.below ds h t)
