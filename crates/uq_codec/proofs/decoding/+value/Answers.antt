use Rattle.std.proofs.Common.{ℕ, suc, ◌+◌, ◌-◌, [], ◌∷◌, ◌++◌, sym, subst, add-one, arith}
use Rattle.std.proofs.lemmas.Result.{err_from_is_err_and}
use Rattle.uq_value.specs.Data.{Bytes, Datas}
use Rattle.uq_codec.specs.Stored.{IsName}
use Rattle.uq_codec.specs.Internal.Reading.{Front}
use Rattle.uq_value.specs.Plain.{plain}
use Rattle.uq_codec.proofs.Decoded.{ItemsSoFar, no_items_yet, one_item_more, at_kind, no_kind_at, no_bytes_at}
use Rattle.uq_codec.proofs.Lists.{no_list, no_list_so_flat, list_fails, list_found, items_fails, items_full}
use Rattle.uq_codec.proofs.Objects.{MembersSoFar, no_name, member_fails, member_found, no_members_yet, members_fail, repeated, one_member_more, members_found, no_object, no_object_so_flat, object_fails, object_found, object_refused}
use Rattle.uq_codec.proofs.decoding.+value.Goals as goal

pub items-loop-init : goal.items-loop-init
items-loop-init t c = subst (λ (ds : Datas). ItemsSoFar (suc c.args.room) 0 ds c.args.bytes.now c.args.bytes.now) (sym c.in-Ok.ensures) (no_items_yet c.args.room c.args.bytes.now)

pub items-returns-in_err-item : goal.items-returns-in_err-item
items-returns-in_err-item t c =
    let p = err_from_is_err_and c.from_residual.result c.from_residual.ensures.1 in
    rw (p.1, p.2) (items_fails c.args.room c.loop.counter c.args.count c.loop.found c.args.bytes.now c.loop.rest.now c.in_err-item.field-0.0 c.loop.invariant (omega (arith, c.loop-test.true)) c.in_err-item.ensures)

pub items-returns-in_err-add_item : goal.items-returns-in_err-add_item
items-returns-in_err-add_item t c =
    let p = err_from_is_err_and c.from_residual-in_err-add_item.result c.from_residual-in_err-add_item.ensures.1 in
    rw (p.1, p.2) (items_full c.args.room c.loop.counter c.args.count c.loop.found c.add_item.new.found (plain c.in_ok-item.item) c.args.bytes.now c.loop.rest.now c.in_ok-item.behind.now c.in_err-add_item.field-0.0
    c.loop.invariant (omega (arith, c.loop-test.true)) c.in_ok-item.ensures.0 c.in_err-add_item.ensures)

pub items-loop-preserved : goal.items-loop-preserved
items-loop-preserved t c =
    subst (λ (ds : Datas). ItemsSoFar (suc c.args.room) (c.loop.counter + 1) ds c.args.bytes.now c.in_ok-item.behind.now) (sym c.in_ok-add_item.ensures)
    (subst (λ (n : ℕ). ItemsSoFar (suc c.args.room) n (c.loop.found ++ plain c.in_ok-item.item ∷ []) c.args.bytes.now c.in_ok-item.behind.now) (sym (add-one c.loop.counter))
    (one_item_more c.args.room c.loop.counter c.loop.found (plain c.in_ok-item.item) c.args.bytes.now c.loop.rest.now c.in_ok-item.behind.now c.loop.invariant c.in_ok-item.ensures.0 c.in_ok-item.ensures.1))

pub items-returns : goal.items-returns
items-returns t c = (c.loop.invariant.front, omega (arith, c.loop.invariant.count, c.loop-test.false, c.loop.auto.counter-end), c.loop.invariant.shallow)

pub list-returns-in_default : goal.list-returns-in_default
list-returns-in_default t c = no_list c.args.bytes.now c.in_default.ensures c.args.room

pub list-returns-then-room-eq0 : goal.list-returns-then-room-eq0
list-returns-then-room-eq0 t c = no_list_so_flat c.args.bytes.now c.args.room c.if-room-eq0.true

pub list-returns-in_err-items : goal.list-returns-in_err-items
list-returns-in_err-items t c =
    let p = err_from_is_err_and c.from_residual.result c.from_residual.ensures.1 in
    rw (p.1, p.2) (list_fails c.args.room (c.args.room - 1) c.in-Some.count c.args.bytes.now c.in-Some.rest.now c.in_err-items.field-0.0 (omega (arith, c.if-room-eq0.false)) c.in-Some.ensures.0 c.in_err-items.ensures)

pub list-returns : goal.list-returns
list-returns t c = list_found c.args.room (c.args.room - 1) c.in-Some.count c.args.bytes.now c.in-Some.rest.now c.in_ok-items.rest.now c.in_ok-items.items (omega (arith, c.if-room-eq0.false)) c.in-Some.ensures.0 c.in_ok-items.ensures

pub member-returns-in_default : goal.member-returns-in_default
member-returns-in_default t c = no_name c.args.room c.args.bytes.now c.in_default.ensures

pub member-returns-in_err-value : goal.member-returns-in_err-value
member-returns-in_err-value t c =
    let p = err_from_is_err_and c.from_residual-in_err-value.result c.from_residual-in_err-value.ensures.1 in
    rw (p.1, p.2) (member_fails c.args.room c.args.bytes.now c.in-Some.name.now c.in-Some.rest.now c.in_err-value.field-0.0 c.in-Some.ensures.0 c.in_err-value.ensures)

pub member-returns : goal.member-returns
member-returns t c =
    member_found c.args.room c.args.bytes.now c.in_ok-name.name.items c.in-Some.rest.now c.in_ok-value.rest.now c.in_ok-value.value
    (subst (λ (n : Bytes). Front (λ word. IsName word n) c.args.bytes.now c.in-Some.rest.now) (sym c.in_ok-name.ensures.items) c.in-Some.ensures.0) c.in_ok-value.ensures

pub members-loop-at-init : goal.members-loop-at-init
members-loop-at-init t c = no_members_yet c.args.room c.new-found.result c.args.bytes.now c.new-found.ensures

pub members-returns-in_err-name : goal.members-returns-in_err-name
members-returns-in_err-name t c =
    let p = err_from_is_err_and c.from_residual.result c.from_residual.ensures.1 in
    rw (p.1, p.2) (members_fail c.args.room c.loop-at.at c.args.count c.loop-at.found c.args.bytes.now c.loop-at.rest.now c.in_err-name.field-0.0 c.loop-at.invariant (omega (arith, c.loop-at-test.true)) c.in_err-name.ensures)

pub members-returns-then-place-at : goal.members-returns-then-place-at
members-returns-then-place-at t c =
    repeated c.args.room c.loop-at.at c.args.count c.in_ok-place.place c.loop-at.found c.in_ok-name.name.items c.in_ok-name.value c.args.bytes.now c.loop-at.rest.now c.in_ok-name.behind.now
    c.loop-at.invariant (omega (arith, c.loop-at-test.true)) c.in_ok-name.ensures.0 c.in_ok-place.ensures.place (omega (arith, c.if-place-at.true))

pub members-loop-at-preserved : goal.members-loop-at-preserved
members-loop-at-preserved t c =
    subst (λ (n : ℕ). MembersSoFar (suc c.args.room) n c.set.new.self c.args.bytes.now c.in_ok-name.behind.now) (sym (add-one c.loop-at.at))
    (one_member_more c.args.room c.loop-at.at c.in_ok-place.place c.loop-at.found c.set.new.self c.in_ok-name.name.items c.in_ok-name.value c.args.bytes.now c.loop-at.rest.now c.in_ok-name.behind.now
    c.loop-at.invariant c.in_ok-name.ensures.0 c.in_ok-name.ensures.1 c.in_ok-place.ensures.place (omega (arith, c.if-place-at.false)) c.in_ok-place.ensures.ok c.in_ok-place.ensures.distinct)

pub members-returns : goal.members-returns
members-returns t c =
    members_found c.args.room c.args.count c.loop-at.found c.args.bytes.now c.loop-at.rest.now
    (subst (λ (n : ℕ). MembersSoFar (suc c.args.room) n c.loop-at.found c.args.bytes.now c.loop-at.rest.now) (omega (arith, c.loop-at-test.false, c.loop-at.auto.at-end)) c.loop-at.invariant)

pub object-returns-in_default : goal.object-returns-in_default
object-returns-in_default t c = no_object c.args.bytes.now c.in_default.ensures c.args.room

pub object-returns-then-room-eq0 : goal.object-returns-then-room-eq0
object-returns-then-room-eq0 t c = no_object_so_flat c.args.bytes.now c.args.room c.if-room-eq0.true

pub object-returns-in_err-members : goal.object-returns-in_err-members
object-returns-in_err-members t c =
    let p = err_from_is_err_and c.from_residual.result c.from_residual.ensures.1 in
    rw (p.1, p.2) (object_fails c.args.room (c.args.room - 1) c.in-Some.count c.args.bytes.now c.in-Some.rest.now c.in_err-members.field-0.0 (omega (arith, c.if-room-eq0.false)) c.in-Some.ensures.0 c.in_err-members.ensures)

pub object-returns-in-Ok : goal.object-returns-in-Ok
object-returns-in-Ok t c =
    object_found c.args.room (c.args.room - 1) c.in-Some.count c.args.bytes.now c.in-Some.rest.now c.in_ok-members.rest.now c.in_ok-members.members c.in-Ok.object (omega (arith, c.if-room-eq0.false)) c.in-Some.ensures.0 c.in_ok-members.ensures c.in-Ok.ensures.ok

pub object-returns-in-Err : goal.object-returns-in-Err
object-returns-in-Err t c =
    object_refused c.args.room (c.args.room - 1) c.in-Some.count c.args.bytes.now c.in-Some.rest.now c.in_ok-members.rest.now c.in_ok-members.members c.in-Err.fault c.refused.result c.requires (omega (arith, c.if-room-eq0.false)) c.in-Some.ensures.0
    c.in_ok-members.ensures c.in-Err.ensures.refused c.refused.ensures

pub value-returns-in_default : goal.value-returns-in_default
value-returns-in_default t c d fits = no_bytes_at c.args.bytes.now c.in_default.len_below d

pub value-returns-in-3 : goal.value-returns-in-3
value-returns-in-3 t c = at_kind c.args.room 3 c.args.bytes.now c.whole.result c.in-len1-up.len_at_least c.in-3.is (c.whole.ensures c.args.room)

pub value-returns-in-4 : goal.value-returns-in-4
value-returns-in-4 t c = at_kind c.args.room 4 c.args.bytes.now c.text.result c.in-len1-up.len_at_least c.in-4.is (c.text.ensures c.args.room)

pub value-returns-in-5 : goal.value-returns-in-5
value-returns-in-5 t c = at_kind c.args.room 5 c.args.bytes.now c.list.result c.in-len1-up.len_at_least c.in-5.is c.list.ensures

pub value-returns-in-6 : goal.value-returns-in-6
value-returns-in-6 t c = at_kind c.args.room 6 c.args.bytes.now c.object.result c.in-len1-up.len_at_least c.in-6.is c.object.ensures

pub value-returns-in_default-first : goal.value-returns-in_default-first
value-returns-in_default-first t c d fits = no_kind_at c.args.bytes.now c.in-len1-up.len_at_least (omega arith) d
