use Rattle.std.proofs.Common.{arith, ap, sym, subst, map, take}
use Rattle.uq_value.specs.Internal.Names.{name_of, member_depth}
use Rattle.uq_value.specs.Plain.{plain}
use Rattle.uq_value.specs.Internal.Kept.{plain_member}
use Rattle.uq_value.specs.Size.{name_size}
use Rattle.uq_value.specs.Data.{members_of}
use Rattle.uq_value.specs.IsValue.{MembersAreSound}
use Rattle.uq_value.proofs.Rows.{take-past, map-more}
use Rattle.uq_value.proofs.Sound.{members-added}
use Rattle.uq_value.proofs.Totals.{total, greatest, total-take, greatest-take}
use Rattle.uq_value.proofs.Wholes.{members-measured, members-depth-is, member_size}
use Rattle.uq_value.proofs.object.measured.Goals as goal

pub loop-m-preserved : goal.loop-m-preserved
loop-m-preserved c = record {
  whole = omega (arith, c.saturating_add-whole.ensures, c.size.ensures.size, c.name_size.ensures.size, ap (λ bs. name_size bs) c.name.ensures, c.loop-m.invariant.whole, total-take member_size c.args.members.now c.loop-m.m-index c.m-item.result c.m-item.is c.loop-m-test.true);
  deepest = omega (arith, c.max-deepest.ensures, c.depth.ensures.depth, c.loop-m.invariant.deepest, greatest-take member_depth c.args.members.now c.loop-m.m-index c.m-item.result c.m-item.is c.loop-m-test.true);
  small = omega (arith, c.max-deepest.ensures, c.depth.ensures.fits, c.loop-m.invariant.small);
  sound = subst (λ es. MembersAreSound (members_of es)) (sym (map-more plain_member c.args.members.now c.loop-m.m-index c.m-item.result c.m-item.is c.loop-m-test.true))
      (members-added (map plain_member (take c.loop-m.m-index c.args.members.now)) (name_of c.m-item.result) (plain c.m-item.result.value) c.loop-m.invariant.sound c.is_value.ensures.sound);
}

pub returns-clause-size : goal.returns-clause-size
returns-clause-size c =
    omega (arith, c.loop-m.invariant.whole, ap (λ xs. total member_size xs) (take-past c.args.members.now c.loop-m.m-index (omega arith)), members-measured c.args.members.now)

pub returns-clause-depth : goal.returns-clause-depth
returns-clause-depth c =
    omega (arith, c.loop-m.invariant.deepest, ap (λ xs. greatest member_depth xs) (take-past c.args.members.now c.loop-m.m-index (omega arith)), members-depth-is c.args.members.now)

pub returns-clause-sound : goal.returns-clause-sound
returns-clause-sound c =
    subst (λ xs. MembersAreSound (members_of (map plain_member xs))) (take-past c.args.members.now c.loop-m.m-index (omega arith)) c.loop-m.invariant.sound
