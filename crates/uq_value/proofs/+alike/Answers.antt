use Rattle.std.proofs.Common.{arith, sym}
use Rattle.uq_value.proofs.Equality.{values-apart, fields-apart}
use Rattle.uq_value.proofs.+alike.Goals as goal

pub list::List::alike-returns-then-len : goal.list::List::alike-returns-then-len
list::List::alike-returns-then-len t c =
    rw (← c.self.view_is, ← c.other.view_is) (sym (values-apart c.self.inside.items.items c.other.inside.items.items (λ e. c.if-len.true (omega (arith, e)))))

pub object::Object::alike-returns-then-len : goal.object::Object::alike-returns-then-len
object::Object::alike-returns-then-len t c =
    rw (← c.self.view_is, ← c.other.view_is) (sym (fields-apart c.self.inside.members.items c.other.inside.members.items (λ e. c.if-len.true (omega (arith, e)))))
