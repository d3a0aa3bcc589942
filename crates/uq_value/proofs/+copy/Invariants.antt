use Rattle.std.proofs.Common.{◌≡◌, map, take}
use Rattle.uq_value.specs.Internal.Kept.{plain_member}
use Rattle.uq_value.proofs.+copy.Given as goal

abbrev pub invariant-list::List::copy-loop-v : goal.invariant-list::List::copy-loop-v
invariant-list::List::copy-loop-v l = l.items.items ≡ take l.v-index l.self-inside.items.items

abbrev pub invariant-object::Object::copy-loop-m : goal.invariant-object::Object::copy-loop-m
invariant-object::Object::copy-loop-m l = map plain_member l.members.items ≡ map plain_member (take l.m-index l.self-inside.members.items)
