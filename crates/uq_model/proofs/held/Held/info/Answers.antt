use Rattle.std.proofs.Common.{sym, arith}
use Rattle.uq_model.proofs.held.Held.info.Goals as goal

pub returns-in-Some-clause-bounds : goal.returns-in-Some-clause-bounds
returns-in-Some-clause-bounds c =
    let is = c.args.self.now.is_store.collections c.args.name.now c.in-Some.collection.now (sym c.in-Some.ensures) in
    record { count = omega (arith, c.len.ensures.small); next_id = is.next }
