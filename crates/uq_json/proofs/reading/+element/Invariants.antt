use Rattle.std.proofs.Common.{◌+◌, ◌*◌, length, suc}
use Rattle.uq_json.specs.Internal.Found.{ListStandsFor, MembersStandFor}
use Rattle.uq_json.specs.Internal.Reading.{listed_within, member_at, element_at}
use Rattle.uq_json.proofs.Gathering.{SoFar}
use Rattle.uq_json.proofs.reading.+element.Given as goal

abbrev pub decreases-element : goal.decreases-element
decreases-element l = 8 * l.room + 7

abbrev pub decreases-value : goal.decreases-value
decreases-value l = 8 * l.room + 6

abbrev pub decreases-list : goal.decreases-list
decreases-list l = 8 * l.room + 10

abbrev pub decreases-items : goal.decreases-items
decreases-items l = 8 * l.room + 9

abbrev pub decreases-object : goal.decreases-object
decreases-object l = 8 * l.room + 10

abbrev pub decreases-members : goal.decreases-members
decreases-members l = 8 * l.room + 9

abbrev pub decreases-member : goal.decreases-member
decreases-member l = 8 * l.room + 8

abbrev pub decreases-items-items : goal.decreases-items-items
decreases-items-items l = length l.rest

abbrev pub invariant-items-items : goal.invariant-items-items
invariant-items-items l = SoFar (element_at l.room) 0x5d (ListStandsFor l.found) l.rest (listed_within (element_at l.room) 0x5d (suc (length l.text)) l.text)

abbrev pub decreases-members-members : goal.decreases-members-members
decreases-members-members l = length l.rest

abbrev pub invariant-members-members : goal.invariant-members-members
invariant-members-members l = SoFar (member_at (element_at l.room)) 0x7d (MembersStandFor l.found) l.rest (listed_within (member_at (element_at l.room)) 0x7d (suc (length l.text)) l.text)
