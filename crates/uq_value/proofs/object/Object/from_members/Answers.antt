use Rattle.std.proofs.Common.{arith, ap, ◌≡◌, map, subst}
use Rattle.uq_value.specs.Internal.Beside.{size_of, depth_of}
use Rattle.uq_value.specs.Data.{object, members_of}
use Rattle.uq_value.specs.Size.{data_size}
use Rattle.uq_value.specs.Depth.{data_depth}
use Rattle.uq_value.specs.IsValue.{MembersAreSound}
use Rattle.uq_value.specs.Internal.Kept.{plain_member}
use Rattle.uq_value.proofs.Fields.{made_object}
use Rattle.uq_value.proofs.object.Object.from_members.Goals as goal

pub invariant_of-result : goal.invariant_of-result
invariant_of-result c =
    let size : size_of c.with_numbers-kept.result ≡ data_size (object (map plain_member c.args.members.items)) =
    omega (arith, c.with_numbers-kept.ensures.size, c.measured-size.ensures.size, c.if-size-gt-MOST_SIZE.false, ap (λ ms. data_size (object (map plain_member ms))) c.as_slice.ensures.value) in
    let depth : depth_of c.with_numbers-kept.result ≡ data_depth (object (map plain_member c.args.members.items)) =
    omega (arith, c.with_numbers-kept.ensures.depth, c.measured-size.ensures.depth, ap (λ ms. data_depth (object (map plain_member ms))) c.as_slice.ensures.value) in
    made_object _ c.requires.distinct size depth (omega (arith, c.with_numbers-kept.ensures.size, c.if-size-gt-MOST_SIZE.false)) (omega (arith, c.with_numbers-kept.ensures.depth, c.if-depth-gt-MOST_DEPTH.false))
    (c.with_numbers-kept.ensures.counts _ c.requires.counts) (c.with_numbers-kept.ensures.names _ c.requires.index) (subst (λ ms. MembersAreSound (members_of (map plain_member ms))) c.as_slice.ensures.value c.measured-size.ensures.sound)
