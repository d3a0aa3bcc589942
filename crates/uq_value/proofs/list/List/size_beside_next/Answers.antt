use Rattle.std.proofs.Common.{rules, ◌≡◌, length}
use Rattle.uq_value.proofs.Fields.{count-less, beside-is}
use Rattle.uq_value.proofs.list.List.size_beside_next.Goals as goal

pub overflow_sub-result : goal.overflow_sub-result
overflow_sub-result c =
    let e : c.len-count.result ≡ length c.self.inside.items.items = search rules in
    rw (c.leb_size.ensures.size, c.size.ensures) (count-less c.self.inside c.self.invariant c.len-count.result e)

pub returns-clause-size : goal.returns-clause-size
returns-clause-size c =
    let e : c.len-count.result ≡ length c.self.inside.items.items = search rules in
    rw (c.size.ensures, c.leb_size.ensures.size, c.leb_size-2.ensures.size, ← c.self.view_is) (beside-is c.self.inside c.self.invariant c.len-count.result e)
