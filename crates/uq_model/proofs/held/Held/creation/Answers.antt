use Rattle.std.proofs.Common.{◌+◌, sym, ◌∙◌, arith}
use Rattle.std.proofs.lemmas.Result.{err_from_is_err_and}
use Rattle.uq_model.specs.Held.{held_in}
use Rattle.uq_model.specs.Collections.{with_collection, new_collection, created, bounded}
use Rattle.uq_model.proofs.Plans.{Ends, full_refused, none_of, create_made, create_holds, create_ends}
use Rattle.uq_model.proofs.held.Held.creation.Goals as goal
use Rattle.uq_model.proofs.held.Held.creation.Goals.{In_ok-own}

pub returns-in_err-room-clause-chooses : goal.returns-in_err-room-clause-chooses
returns-in_err-room-clause-chooses c =
    let p = err_from_is_err_and c.from_residual.result c.from_residual.ensures.1 in
    let none = none_of _ (sym c.has.ensures ∙ c.if-has.false) in
    rw (p.1, p.2)
    (full_refused c.args.limits (held_in c.args.self.now) (with_collection c.args.name.now new_collection
    (held_in c.args.self.now))
    (created c.args.name.now (held_in c.args.self.now)) (c.args.self.now.entries + 1)
    (c.args.self.now.bytes + c.own_bytes.result) c.in_err-room.field-0.0
    (create_made c.args.name.now (held_in c.args.self.now) (sym c.is_name.ensures ∙ c.if-not-is_name.false) none)
    (create_holds c.args.name.now (held_in c.args.self.now) _ _ none (omega (arith, c.args.self.now.counted))
    (omega (arith, c.args.self.now.measured, c.own_bytes.ensures)))
    (sym c.in_err-room.ensures))

made : (c : In_ok-own) → Ends (bounded c.args.limits (created c.args.name.now) (held_in c.args.self.now))
    (with_collection c.in_ok-own.own.items new_collection (held_in c.args.self.now))
    (c.args.self.now.entries + 1) (c.args.self.now.bytes + c.own_bytes.result)
made c =
    create_ends c.args.limits c.args.name.now c.in_ok-own.own.items (held_in c.args.self.now)
    (c.args.self.now.entries + 1) (c.args.self.now.bytes + c.own_bytes.result)
    c.requires c.args.self.now.is_store (sym c.is_name.ensures ∙ c.if-not-is_name.false)
    (none_of _ (sym c.has.ensures ∙ c.if-has.false)) c.in_ok-own.ensures.items
    (omega (arith, c.args.self.now.counted)) (omega (arith, c.args.self.now.measured, c.own_bytes.ensures))
    (sym c.in_ok-room.ensures)

pub returns-clause-chooses : goal.returns-clause-chooses
returns-clause-chooses c = (made c).chosen

pub returns-clause-planned : goal.returns-clause-planned
returns-clause-planned c = let ends = made c in record {
  entries = ends.entries;
  bytes = ends.bytes;
  is_store =
      ends.is_store;
}
