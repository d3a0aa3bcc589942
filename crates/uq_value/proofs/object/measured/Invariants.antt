use Rattle.std.proofs.Common.{◌≡◌, ◌≤◌, ◌+◌, ◌-◌, ◌^◌, min, map, take, length}
use Rattle.uq_value.specs.Size.{leb_size}
use Rattle.uq_value.specs.Data.{members_of}
use Rattle.uq_value.specs.IsValue.{MembersAreSound}
use Rattle.uq_value.specs.Internal.Kept.{plain_member}
use Rattle.uq_value.specs.Depth.{most_depth}
use Rattle.uq_value.specs.Internal.Names.{member_depth}
use Rattle.uq_value.proofs.Totals.{total, greatest}
use Rattle.uq_value.proofs.Wholes.{member_size}
use Rattle.uq_value.proofs.object.measured.Given as goal

abbrev pub invariant-loop-m : goal.invariant-loop-m
invariant-loop-m l =
    record {
      whole : l.whole ≡ min (1 + leb_size (length l.members) + total member_size (take l.m-index l.members)) (2 ^ 64 - 1);
      deepest : l.deepest ≡ greatest member_depth (take l.m-index l.members);
      small : l.deepest ≤ most_depth;
      sound : MembersAreSound (members_of (map plain_member (take l.m-index l.members)));
    }
