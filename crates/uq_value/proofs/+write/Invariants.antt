use Rattle.std.proofs.Common.{◌+◌, ◌*◌, length}
use Rattle.uq_value.proofs.+write.Given as goal

abbrev pub decreases-writing::write : goal.decreases-writing::write
decreases-writing::write l = 6 * length l.steps.now

abbrev pub decreases-writing::write_child : goal.decreases-writing::write_child
decreases-writing::write_child l = 6 * length l.rest.now + 4

abbrev pub decreases-list::List::write_nth : goal.decreases-list::List::write_nth
decreases-list::List::write_nth l = 6 * length l.rest.now + 3

abbrev pub decreases-list::List::append : goal.decreases-list::List::append
decreases-list::List::append l = 6 * length l.rest.now + 1

abbrev pub decreases-list::List::write_at : goal.decreases-list::List::write_at
decreases-list::List::write_at l = 6 * length l.rest.now + 1

abbrev pub decreases-object::Object::write_member : goal.decreases-object::Object::write_member
decreases-object::Object::write_member l = 6 * length l.rest.now + 3

abbrev pub decreases-object::Object::write_at : goal.decreases-object::Object::write_at
decreases-object::Object::write_at l = 6 * length l.rest.now + 1
