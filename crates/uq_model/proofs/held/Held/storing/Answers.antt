use Rattle.std.proofs.Common.{◌≡◌, ℕ, ◌+◌, length, sym, ap, ◌∙◌, arith, sum_by}
use Rattle.std.proofs.lemmas.List.Elements.{recursion_from_All}
use Rattle.std.proofs.lemmas.Result.{err_from_is_err_and}
use Rattle.uq_value.specs.declared.value.Value.{Value}
use Rattle.uq_model.specs.declared.change.Alteration.TheVariants.{Append}
use Rattle.uq_model.specs.declared.change.Change.TheVariants.{Alter}
use Rattle.uq_model.specs.declared.collection.Collection.{Collection}
use Rattle.uq_model.specs.Change.{changed}
use Rattle.uq_model.specs.Collections.{with_records, records_stored, bounded}
use Rattle.uq_model.specs.Full.{record_bytes}
use Rattle.uq_model.specs.Held.{held_in}
use Rattle.uq_model.specs.IsStore.{IsWithin}
use Rattle.uq_model.proofs.Plans.{Ends, collection_is, stored_full, store_ends}
use Rattle.uq_model.proofs.held.Held.storing.Goals as goal
use Rattle.uq_model.proofs.held.Held.storing.Goals.{In_ok-room}

pub batch-requires : goal.batch-requires
batch-requires c = let of = collection_is c.args.name.now
    (held_in c.args.self.now) c.in-Ok.collection.now c.args.self.now.is_store c.in-Ok.ensures.ok in
    record { next = omega (arith, of.next) }

pub returns-in_err-room-clause-chooses : goal.returns-in_err-room-clause-chooses
returns-in_err-room-clause-chooses c =
    let p = err_from_is_err_and c.from_residual.result c.from_residual.ensures.1 in
    let count : c.len-count.result ≡ length c.in-Ok-batch.records.items = c.len-count.ensures
    ∙ sym c.as_slice.ensures.len ∙ ap (λ rs. length rs) c.as_slice.ensures.value in
    let more = ap (λ rs. sum_by (record_bytes c.args.name.now) rs) c.as_slice.ensures.value in
    rw (p.1, p.2)
    (stored_full c.args.limits c.args.name.now c.args.objects.now c.in-Ok-batch.records.items c.in-Ok.collection.now
    (held_in c.args.self.now)
    (c.args.self.now.entries + c.len-count.result) c.saturating_add-bytes.result c.in_err-room.field-0.0 c.requires
    c.args.self.now.is_store c.in-Ok.ensures.ok c.in-Ok-batch.ensures.made
    (omega (arith, count, c.args.self.now.counted))
    (omega (arith, more, c.saturating_add-bytes.ensures, c.records_bytes-more.ensures, c.args.self.now.measured))
    (sym c.in_err-room.ensures))

made : (c : In_ok-room) → Ends (bounded c.args.limits (records_stored c.args.name.now c.args.objects.now)
    (held_in c.args.self.now))
    (changed c.args.name.now (Alter (Append c.in-Ok-batch.records (c.in-Ok.collection.now.next + c.len-count.result)))
    (held_in c.args.self.now))
    (c.args.self.now.entries + c.len-count.result) c.saturating_add-bytes.result
made c =
    let count : c.len-count.result ≡ length c.in-Ok-batch.records.items = c.len-count.ensures
    ∙ sym c.as_slice.ensures.len ∙ ap (λ rs. length rs) c.as_slice.ensures.value in
    let more = ap (λ rs. sum_by (record_bytes c.args.name.now) rs) c.as_slice.ensures.value in
    store_ends c.args.limits c.args.name.now c.args.objects.now c.in-Ok-batch.records.items
    (Append c.in-Ok-batch.records (c.in-Ok.collection.now.next + c.len-count.result))
    c.in-Ok.collection.now (held_in c.args.self.now)
    (c.args.self.now.entries + c.len-count.result) c.saturating_add-bytes.result
    c.requires c.args.self.now.is_store c.in-Ok.ensures.ok c.in-Ok-batch.ensures.made
    (recursion_from_All (λ (r : ℕ × Value). IsWithin r.1) c.in-Ok-batch.records.items c.in-Ok-batch.ensures.within)
    (ap (λ n. let d : Collection = record {
      next = c.in-Ok.collection.now.next + n;
      schema =
          c.in-Ok.collection.now.schema;
      records =
          with_records c.in-Ok-batch.records.items c.in-Ok.collection.now.records;
    } in d) count)
    (omega (arith, count, c.args.self.now.counted))
    (omega (arith, more, c.saturating_add-bytes.ensures, c.records_bytes-more.ensures, c.args.self.now.measured))
    (sym c.in_ok-room.ensures)

pub returns-clause-chooses : goal.returns-clause-chooses
returns-clause-chooses c = (made c).chosen

pub returns-clause-planned : goal.returns-clause-planned
returns-clause-planned c = let ends = made c in record {
  entries = ends.entries;
  bytes = ends.bytes;
  is_store =
      ends.is_store;
}
