use Rattle.std.proofs.Common.{◌+◌, ◌-◌, sym, ◌∙◌, arith}
use Rattle.std.proofs.lemmas.Result.{err_from_is_err_and}
use Rattle.uq_model.specs.Held.{held_in}
use Rattle.uq_model.specs.Collections.{with_collection, with_schema, schema_set, bounded}
use Rattle.uq_model.specs.Change.{changed}
use Rattle.uq_model.specs.declared.change.Change.TheVariants.{Alter}
use Rattle.uq_model.specs.declared.change.Alteration.TheVariants.{SetSchema}
use Rattle.uq_model.proofs.Plans.{Ends, full_refused, described, described_bytes, described_holds, describe_ends}
use Rattle.uq_model.proofs.held.Held.describing.Goals as goal
use Rattle.uq_model.proofs.held.Held.describing.Goals.{In_ok-own}

pub overflow_sub-bytes : goal.overflow_sub-bytes
overflow_sub-bytes c =
    omega (
      arith,
      described_bytes c.args.name.now c.args.schema.now c.in-Ok.collection.now
          (held_in c.args.self.now) c.in-Ok.ensures.ok,
      c.args.self.now.measured,
      c.size.ensures.size,
      c.size-2.ensures.size,
    )

pub returns-in_err-room-clause-chooses : goal.returns-in_err-room-clause-chooses
returns-in_err-room-clause-chooses c =
    let p = err_from_is_err_and c.from_residual.result c.from_residual.ensures.1 in
    rw (p.1, p.2)
    (full_refused c.args.limits (held_in c.args.self.now) (with_collection c.args.name.now
    (with_schema c.args.schema.now c.in-Ok.collection.now) (held_in c.args.self.now))
    (schema_set c.args.name.now c.args.schema.now (held_in c.args.self.now)) c.args.self.now.entries
    (c.args.self.now.bytes + c.size.result - c.size-2.result) c.in_err-room.field-0.0
    (described c.args.name.now c.args.schema.now c.in-Ok.collection.now (held_in c.args.self.now) c.in-Ok.ensures.ok
    (sym c.is_object.ensures ∙ c.if-not-is_object.false))
    (described_holds c.args.name.now c.args.schema.now c.in-Ok.collection.now
    (held_in c.args.self.now) _ _ c.in-Ok.ensures.ok c.args.self.now.counted
    (omega (arith, c.args.self.now.measured, c.size.ensures.size, c.size-2.ensures.size)))
    (sym c.in_err-room.ensures))

made : (c : In_ok-own) → Ends (bounded c.args.limits (schema_set c.args.name.now c.args.schema.now)
    (held_in c.args.self.now)) (changed c.args.name.now (Alter (SetSchema c.in_ok-own.own)) (held_in c.args.self.now))
    c.args.self.now.entries (c.args.self.now.bytes + c.size.result - c.size-2.result)
made c =
    describe_ends c.args.limits c.args.name.now c.args.schema.now c.in_ok-own.own c.in-Ok.collection.now
    (held_in c.args.self.now) c.args.self.now.entries (c.args.self.now.bytes + c.size.result - c.size-2.result)
    c.requires c.args.self.now.is_store c.in-Ok.ensures.ok (sym c.is_object.ensures ∙ c.if-not-is_object.false)
    (record { small = c.is_value.ensures.small; shallow = c.is_value.ensures.shallow }) c.in_ok-own.ensures
    c.args.self.now.counted
    (omega (arith, c.args.self.now.measured, c.size.ensures.size, c.size-2.ensures.size)) (sym c.in_ok-room.ensures)

pub returns-clause-chooses : goal.returns-clause-chooses
returns-clause-chooses c = (made c).chosen

pub returns-clause-planned : goal.returns-clause-planned
returns-clause-planned c = let ends = made c in record {
  entries = ends.entries;
  bytes = ends.bytes;
  is_store =
      ends.is_store;
}
