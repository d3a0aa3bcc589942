use Rattle.std.proofs.Common.{◌+◌, ◌*◌, suc}
use Rattle.uq_codec.proofs.Decoded.{ItemsSoFar}
use Rattle.uq_codec.proofs.Objects.{MembersSoFar}
use Rattle.uq_codec.proofs.decoding.+value.Given as goal

abbrev pub decreases-value : goal.decreases-value
decreases-value l = 8 * l.room + 5

abbrev pub decreases-list : goal.decreases-list
decreases-list l = 8 * l.room + 4

abbrev pub decreases-items : goal.decreases-items
decreases-items l = 8 * l.room + 7

abbrev pub decreases-object : goal.decreases-object
decreases-object l = 8 * l.room + 4

abbrev pub decreases-members : goal.decreases-members
decreases-members l = 8 * l.room + 7

abbrev pub decreases-member : goal.decreases-member
decreases-member l = 8 * l.room + 6

abbrev pub invariant-items-loop : goal.invariant-items-loop
invariant-items-loop l = ItemsSoFar (suc l.room) l.counter l.found l.bytes l.rest

abbrev pub invariant-members-loop-at : goal.invariant-members-loop-at
invariant-members-loop-at l = MembersSoFar (suc l.room) l.at l.found l.bytes l.rest
