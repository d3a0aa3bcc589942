use Rattle.uq_value.proofs.Equality.{SameFrom, values_same, fields_same}
use Rattle.uq_value.proofs.+alike.Given as goal

abbrev pub invariant-list::List::alike-loop-at : goal.invariant-list::List::alike-loop-at
invariant-list::List::alike-loop-at l = SameFrom values_same l.at l.self-inside.items.items l.other-inside.items.items

abbrev pub invariant-object::Object::alike-loop-at : goal.invariant-object::Object::alike-loop-at
invariant-object::Object::alike-loop-at l = SameFrom fields_same l.at l.self-inside.members.items l.other-inside.members.items
