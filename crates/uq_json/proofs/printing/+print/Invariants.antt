use Rattle.std.proofs.Common.{◌+◌, ◌*◌, ◌∷◌, [], ◌++◌}
use Rattle.uq_value.specs.Data.{items_of, members_of, list as list_data, object as object_data}
use Rattle.uq_value.specs.Depth.{data_depth}
use Rattle.uq_value.specs.Plain.{plain}
use Rattle.uq_json.specs.Text.{item_texts, member_texts}
use Rattle.uq_json.proofs.Parts.{PrintedSoFar}
use Rattle.uq_json.proofs.printing.+print.Given as goal

abbrev pub decreases-push_value : goal.decreases-push_value
decreases-push_value l = 4 * data_depth (plain l.v.now) + 3

abbrev pub decreases-push_list : goal.decreases-push_list
decreases-push_list l = 4 * data_depth (list_data l.list.now) + 2

abbrev pub decreases-push_item : goal.decreases-push_item
decreases-push_item l = 4 * data_depth (list_data l.list.now) + 1

abbrev pub decreases-push_object : goal.decreases-push_object
decreases-push_object l = 4 * data_depth (object_data l.object.now) + 2

abbrev pub decreases-push_member : goal.decreases-push_member
decreases-push_member l = 4 * data_depth (object_data l.object.now) + 1

abbrev pub invariant-push_list-loop-at : goal.invariant-push_list-loop-at
invariant-push_list-loop-at l = PrintedSoFar (l.fn.text.items ++ 0x5b ∷ []) l.text.items l.at (item_texts (items_of l.list))

abbrev pub invariant-push_object-loop-at : goal.invariant-push_object-loop-at
invariant-push_object-loop-at l = PrintedSoFar (l.fn.text.items ++ 0x7b ∷ []) l.text.items l.at (member_texts (members_of l.object))
