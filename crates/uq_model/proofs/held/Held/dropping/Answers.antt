use Rattle.std.proofs.Common.{◌-◌, arith}
use Rattle.uq_model.specs.Held.{held_in}
use Rattle.uq_model.proofs.Plans.{drops_lower, drop_ends}
use Rattle.uq_model.proofs.held.Held.dropping.Goals as goal

pub overflow_sub-result : goal.overflow_sub-result
overflow_sub-result c =
    let lowers = drops_lower c.args.name.now c.in-Ok.collection.now (held_in c.args.self.now) c.in-Ok.ensures.ok in
    omega (arith, lowers.fewer, c.args.self.now.counted)

pub overflow_sub-result-in-Ok : goal.overflow_sub-result-in-Ok
overflow_sub-result-in-Ok c =
    let lowers = drops_lower c.args.name.now c.in-Ok.collection.now (held_in c.args.self.now) c.in-Ok.ensures.ok in
    omega (arith, lowers.fewer, c.args.self.now.counted, c.len.ensures.len)

pub overflow_sub-result-in-Ok-2 : goal.overflow_sub-result-in-Ok-2
overflow_sub-result-in-Ok-2 c =
    let lowers = drops_lower c.args.name.now c.in-Ok.collection.now (held_in c.args.self.now) c.in-Ok.ensures.ok in
    omega (arith, lowers.less, c.args.self.now.measured, c.collection_bytes.ensures)

pub returns-in-Ok-clause-planned : goal.returns-in-Ok-clause-planned
returns-in-Ok-clause-planned c =
    let lowers = drops_lower c.args.name.now c.in-Ok.collection.now (held_in c.args.self.now) c.in-Ok.ensures.ok in
    let ends = drop_ends c.args.name.now c.in-Ok.collection.now (held_in c.args.self.now)
    (c.args.self.now.entries - 1 - c.len.result) (c.args.self.now.bytes - c.collection_bytes.result)
    c.args.self.now.is_store c.in-Ok.ensures.ok
    (omega (arith, lowers.fewer, c.args.self.now.counted, c.len.ensures.len))
    (omega (
      arith,
      lowers.less,
      c.args.self.now.measured,
      c.collection_bytes.ensures,
      c.args.self.now.is_store.bytes,
    )) in
    record { entries = ends.entries; bytes = ends.bytes; is_store = ends.is_store }
