use Rattle.std.proofs.Common.{arith, ap, sym, subst, map, take}
use Rattle.uq_value.specs.Plain.{plain, size, depth}
use Rattle.uq_value.specs.Data.{items_of}
use Rattle.uq_value.specs.IsValue.{ItemsAreSound}
use Rattle.uq_value.proofs.Rows.{take-past, map-more}
use Rattle.uq_value.proofs.Sound.{items-added}
use Rattle.uq_value.proofs.Totals.{total, greatest, total-take, greatest-take}
use Rattle.uq_value.proofs.Wholes.{items-measured, items-depth-is}
use Rattle.uq_value.proofs.list.measured.Goals as goal

pub loop-v-preserved : goal.loop-v-preserved
loop-v-preserved c = record {
  whole = omega (arith, c.saturating_add-whole.ensures, c.size.ensures.size, c.loop-v.invariant.whole, total-take size c.args.values.now c.loop-v.v-index c.v-item.result c.v-item.is c.loop-v-test.true);
  deepest = omega (arith, c.max-deepest.ensures, c.depth.ensures.depth, c.loop-v.invariant.deepest, greatest-take depth c.args.values.now c.loop-v.v-index c.v-item.result c.v-item.is c.loop-v-test.true);
  small = omega (arith, c.max-deepest.ensures, c.depth.ensures.fits, c.loop-v.invariant.small);
  sound = subst (λ es. ItemsAreSound (items_of es)) (sym (map-more plain c.args.values.now c.loop-v.v-index c.v-item.result c.v-item.is c.loop-v-test.true))
      (items-added (map plain (take c.loop-v.v-index c.args.values.now)) (plain c.v-item.result) c.loop-v.invariant.sound c.is_value.ensures.sound);
}

pub returns-clause-size : goal.returns-clause-size
returns-clause-size c =
    omega (arith, c.loop-v.invariant.whole, ap (λ xs. total size xs) (take-past c.args.values.now c.loop-v.v-index (omega arith)), items-measured c.args.values.now)

pub returns-clause-depth : goal.returns-clause-depth
returns-clause-depth c =
    omega (arith, c.loop-v.invariant.deepest, ap (λ xs. greatest depth xs) (take-past c.args.values.now c.loop-v.v-index (omega arith)), items-depth-is c.args.values.now)

pub returns-clause-sound : goal.returns-clause-sound
returns-clause-sound c =
    subst (λ xs. ItemsAreSound (items_of (map plain xs))) (take-past c.args.values.now c.loop-v.v-index (omega arith)) c.loop-v.invariant.sound
