use Rattle.std.proofs.Common.{◌+◌, ◌-◌, sym, arith}
use Rattle.std.proofs.lemmas.Result.{err_from_is_err_and}
use Rattle.uq_model.specs.Held.{held_in}
use Rattle.uq_model.specs.Collections.{with_collection, with_record, record_replaced}
use Rattle.uq_model.proofs.Plans.{full_refused, id_small, replaced, replaced_bytes, replaced_holds, replace_ends}
use Rattle.uq_model.proofs.held.Held.replacing.Goals as goal

pub record_of-requires : goal.record_of-requires
record_of-requires c = record {
  id = id_small c.args.name.now c.args.id c.in-Some.old.now c.in-Ok.collection.now
      (held_in c.args.self.now) c.args.self.now.is_store c.in-Ok.ensures.ok (sym c.in-Some.ensures);
}

pub overflow_sub-bytes : goal.overflow_sub-bytes
overflow_sub-bytes c =
    omega (
      arith,
      replaced_bytes c.args.name.now c.args.id c.in-Ok-record_of.made c.in-Some.old.now c.in-Ok.collection.now
          (held_in c.args.self.now) c.in-Ok.ensures.ok (sym c.in-Some.ensures),
      c.args.self.now.measured,
      c.size.ensures.size,
      c.size-2.ensures.size,
    )

pub returns-in_err-room-clause-chooses : goal.returns-in_err-room-clause-chooses
returns-in_err-room-clause-chooses c =
    let p = err_from_is_err_and c.from_residual.result c.from_residual.ensures.1 in
    rw (p.1, p.2)
    (full_refused c.args.limits (held_in c.args.self.now) (with_collection c.args.name.now
    (with_record c.args.id c.in-Ok-record_of.made c.in-Ok.collection.now) (held_in c.args.self.now))
    (record_replaced c.args.name.now c.args.id c.args.object.now (held_in c.args.self.now)) c.args.self.now.entries
    (c.args.self.now.bytes + c.size.result - c.size-2.result) c.in_err-room.field-0.0
    (replaced c.args.name.now c.args.id c.args.object.now c.in-Ok-record_of.made c.in-Some.old.now
    c.in-Ok.collection.now (held_in c.args.self.now) c.in-Ok.ensures.ok
    (sym c.in-Some.ensures) c.in-Ok-record_of.ensures.made)
    (replaced_holds c.args.name.now c.args.id c.in-Ok-record_of.made c.in-Some.old.now c.in-Ok.collection.now
    (held_in c.args.self.now) _ _ c.in-Ok.ensures.ok (sym c.in-Some.ensures) c.args.self.now.counted
    (omega (arith, c.args.self.now.measured, c.size.ensures.size, c.size-2.ensures.size)))
    (sym c.in_err-room.ensures))

pub returns-clause-chooses : goal.returns-clause-chooses
returns-clause-chooses c =
    (replace_ends c.args.limits c.args.name.now c.args.id c.args.object.now c.in-Ok-record_of.made c.in-Some.old.now
    c.in-Ok.collection.now (held_in c.args.self.now)
    c.args.self.now.entries (c.args.self.now.bytes + c.size.result - c.size-2.result) c.requires
    c.args.self.now.is_store c.in-Ok.ensures.ok (sym c.in-Some.ensures)
    c.in-Ok-record_of.ensures.made c.in-Ok-record_of.ensures.within c.args.self.now.counted
    (omega (arith, c.args.self.now.measured, c.size.ensures.size, c.size-2.ensures.size))
    (sym c.in_ok-room.ensures)).chosen

pub returns-clause-planned : goal.returns-clause-planned
returns-clause-planned c =
    let ends = replace_ends c.args.limits c.args.name.now c.args.id c.args.object.now c.in-Ok-record_of.made
    c.in-Some.old.now c.in-Ok.collection.now (held_in c.args.self.now)
    c.args.self.now.entries (c.args.self.now.bytes + c.size.result - c.size-2.result) c.requires
    c.args.self.now.is_store c.in-Ok.ensures.ok (sym c.in-Some.ensures)
    c.in-Ok-record_of.ensures.made c.in-Ok-record_of.ensures.within c.args.self.now.counted
    (omega (arith, c.args.self.now.measured, c.size.ensures.size, c.size-2.ensures.size))
    (sym c.in_ok-room.ensures) in
    record { entries = ends.entries; bytes = ends.bytes; is_store = ends.is_store }
