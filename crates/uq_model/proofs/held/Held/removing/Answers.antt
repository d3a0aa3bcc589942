use Rattle.std.proofs.Common.{◌-◌, sym, arith}
use Rattle.uq_model.specs.Held.{held_in}
use Rattle.uq_model.proofs.Plans.{removed_lowers, remove_ends}
use Rattle.uq_model.proofs.held.Held.removing.Goals as goal

pub overflow_sub-result : goal.overflow_sub-result
overflow_sub-result c =
    let lowers = removed_lowers c.args.name.now c.args.id c.in-Some.old.now c.in-Ok.collection.now
    (held_in c.args.self.now) c.in-Ok.ensures.ok (sym c.in-Some.ensures) in
    omega (arith, lowers.fewer, c.args.self.now.counted)

pub overflow_sub-result-2 : goal.overflow_sub-result-2
overflow_sub-result-2 c =
    let lowers = removed_lowers c.args.name.now c.args.id c.in-Some.old.now c.in-Ok.collection.now
    (held_in c.args.self.now) c.in-Ok.ensures.ok (sym c.in-Some.ensures) in
    omega (arith, lowers.less, c.args.self.now.measured, c.record_bytes.ensures c.args.id)

pub returns-clause-planned : goal.returns-clause-planned
returns-clause-planned c =
    let lowers = removed_lowers c.args.name.now c.args.id c.in-Some.old.now c.in-Ok.collection.now
    (held_in c.args.self.now) c.in-Ok.ensures.ok (sym c.in-Some.ensures) in
    let ends = remove_ends c.args.name.now c.args.id c.in-Some.old.now c.in-Ok.collection.now
    (held_in c.args.self.now) (c.args.self.now.entries - 1) (c.args.self.now.bytes - c.record_bytes.result)
    c.args.self.now.is_store c.in-Ok.ensures.ok (sym c.in-Some.ensures)
    (omega (arith, lowers.fewer, c.args.self.now.counted)) (omega
    (arith, lowers.less, c.args.self.now.measured, c.record_bytes.ensures c.args.id)) in
    record { entries = ends.entries; bytes = ends.bytes; is_store = ends.is_store }
