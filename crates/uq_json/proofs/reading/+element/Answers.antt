use Rattle.std.proofs.Common.{Bool, sym, ap, ◌∙◌, Ok, suc, length}
use Rattle.std.proofs.lemmas.Result.{err_from_is_err_and}
use Rattle.uq_json.specs.Internal.Found.{ListStandsFor, MembersStandFor}
use Rattle.uq_json.specs.Internal.Reading.{Read, listed_within, member_at, element_at}
use Rattle.uq_json.proofs.Gathering.{element_found, element_fails, element_no_longer, shallow_found, begins, item_fails, separator_fails, ends, shrinks, goes_on, list_found, member_no_longer, member_found, no_members, member_set, object_found}
use Rattle.uq_json.proofs.reading.+element.Goals as goal

pub element-returns-in_err-found : goal.element-returns-in_err-found
element-returns-in_err-found t c =
    let p = err_from_is_err_and c.from_residual.result c.from_residual.ensures.1 in
    rw (p.1, p.2) (element_fails c.args.room c.args.text.now c.skip_blanks.result.now c.in_err-found.field-0.0 c.skip_blanks.ensures c.in_err-found.ensures)

pub element-returns : goal.element-returns
element-returns t c = element_found c.args.room c.args.text.now c.skip_blanks.result.now c.in_ok-found.rest.now c.skip_blanks-2.result.now c.in_ok-found.found c.skip_blanks.ensures c.skip_blanks-2.ensures c.in_ok-found.ensures

pub items-with_item-requires : goal.items-with_item-requires
items-with_item-requires t c = shallow_found c.args.room c.items.rest.now c.in_ok-item.after.now c.in_ok-item.item c.requires c.in_ok-item.ensures

pub items-returns-in_err-item : goal.items-returns-in_err-item
items-returns-in_err-item t c =
    let p = err_from_is_err_and c.from_residual.result c.from_residual.ensures.1 in
    rw (p.1, p.2) (item_fails (element_at c.args.room) 0x5d (ListStandsFor c.items.found) c.items.rest.now (listed_within (element_at c.args.room) 0x5d (suc (length c.args.text.now)) c.args.text.now) c.in_err-item.field-0.0 c.items.invariant c.in_err-item.ensures)

pub items-returns-in_err-comma : goal.items-returns-in_err-comma
items-returns-in_err-comma t c =
    let p = err_from_is_err_and c.from_residual-in_err-comma.result c.from_residual-in_err-comma.ensures.1 in
    rw (p.1, p.2) (separator_fails (element_at c.args.room) 0x5d (ListStandsFor c.items.found) c.items.rest.now (listed_within (element_at c.args.room) 0x5d (suc (length c.args.text.now)) c.args.text.now)
    c.in_ok-item.ensures.0 c.in_ok-item.after.now c.in_ok-item.ensures.1 c.in_err-comma.field-0.0 c.items.invariant c.in_err-comma.ensures)

pub items-returns-then-not-comma : goal.items-returns-then-not-comma
items-returns-then-not-comma t c =
    ends (element_at c.args.room) 0x5d (ListStandsFor c.items.found) c.items.rest.now (listed_within (element_at c.args.room) 0x5d (suc (length c.args.text.now)) c.args.text.now)
    c.in_ok-item.ensures.0 c.in_ok-item.after.now c.in_ok-item.ensures.1 c.in_ok-comma.behind.now (c.in_ok-comma.ensures ∙ ap (λ (b : Bool). let r : Read Bool = Ok (b, c.in_ok-comma.behind.now) in r) c.if-not-comma.true)
    (ListStandsFor c.in_ok-found.found) (λ front holds. c.in_ok-found.ensures.ok front c.in_ok-item.ensures.0 holds c.in_ok-item.ensures.2) c.items.invariant

pub items-items-smaller : goal.items-items-smaller
items-items-smaller t c =
    shrinks (element_at c.args.room) 0x5d (ListStandsFor c.items.found) c.items.rest.now (listed_within (element_at c.args.room) 0x5d (suc (length c.args.text.now)) c.args.text.now)
    c.in_ok-item.ensures.0 c.in_ok-item.after.now c.in_ok-item.ensures.1 c.in_ok-comma.behind.now (c.in_ok-comma.ensures ∙ ap (λ (b : Bool). let r : Read Bool = Ok (b, c.in_ok-comma.behind.now) in r) c.if-not-comma.false)
    (element_no_longer c.args.room c.items.rest.now c.in_ok-item.after.now c.in_ok-item.ensures.0 c.in_ok-item.ensures.1)

pub items-items-preserved : goal.items-items-preserved
items-items-preserved t c =
    goes_on (element_at c.args.room) 0x5d (ListStandsFor c.items.found) c.items.rest.now (listed_within (element_at c.args.room) 0x5d (suc (length c.args.text.now)) c.args.text.now)
    c.in_ok-item.ensures.0 c.in_ok-item.after.now c.in_ok-item.ensures.1 c.in_ok-comma.behind.now (c.in_ok-comma.ensures ∙ ap (λ (b : Bool). let r : Read Bool = Ok (b, c.in_ok-comma.behind.now) in r) c.if-not-comma.false)
    (element_no_longer c.args.room c.items.rest.now c.in_ok-item.after.now c.in_ok-item.ensures.0 c.in_ok-item.ensures.1)
    (ListStandsFor c.in_ok-found.found) (λ front holds. c.in_ok-found.ensures.ok front c.in_ok-item.ensures.0 holds c.in_ok-item.ensures.2) c.items.invariant

pub list-returns : goal.list-returns
list-returns t c =
    list_found (element_at c.args.room) c.args.text.now c.skip_blanks-inner.result.now c.in_ok-items.rest.now c.in_ok-items.items c.whole_list.result c.skip_blanks-inner.ensures (sym c.next_is.ensures.next ∙ c.if-next_is.false) c.whole_list.ensures c.in_ok-items.ensures

pub member-returns : goal.member-returns
member-returns t c =
    member_found (element_at c.args.room) c.args.text.now c.skip_blanks.result.now c.in_ok-name.rest.now c.skip_blanks-rest.result.now c.in_ok-value.rest.now c.in_ok-name.name.items c.in_ok-value.value
    c.skip_blanks.ensures c.in_ok-name.ensures c.skip_blanks-rest.ensures (sym c.next_is.ensures.next ∙ c.if-not-next_is.false) c.in_ok-value.ensures

pub members-members-init : goal.members-members-init
members-members-init t c = begins (member_at (element_at c.args.room)) 0x7d (MembersStandFor c.new-found.result) c.args.text.now (no_members c.new-found.result.kept c.new-found.result.left_out.items c.new-found.ensures.kept c.new-found.ensures.left_out)

pub members-returns-in_err-name : goal.members-returns-in_err-name
members-returns-in_err-name t c =
    let p = err_from_is_err_and c.from_residual.result c.from_residual.ensures.1 in
    rw (p.1, p.2) (item_fails (member_at (element_at c.args.room)) 0x7d (MembersStandFor c.members.found) c.members.rest.now (listed_within (member_at (element_at c.args.room)) 0x7d (suc (length c.args.text.now)) c.args.text.now) c.in_err-name.field-0.0 c.members.invariant c.in_err-name.ensures)

pub members-returns-in_err-comma : goal.members-returns-in_err-comma
members-returns-in_err-comma t c =
    let p = err_from_is_err_and c.from_residual-in_err-comma.result c.from_residual-in_err-comma.ensures.1 in
    rw (p.1, p.2) (separator_fails (member_at (element_at c.args.room)) 0x7d (MembersStandFor c.members.found) c.members.rest.now (listed_within (member_at (element_at c.args.room)) 0x7d (suc (length c.args.text.now)) c.args.text.now)
    c.in_ok-name.ensures.0 c.in_ok-name.after.now c.in_ok-name.ensures.1 c.in_err-comma.field-0.0 c.members.invariant c.in_err-comma.ensures)

pub members-returns-then-not-comma : goal.members-returns-then-not-comma
members-returns-then-not-comma t c =
    ends (member_at (element_at c.args.room)) 0x7d (MembersStandFor c.members.found) c.members.rest.now (listed_within (member_at (element_at c.args.room)) 0x7d (suc (length c.args.text.now)) c.args.text.now)
    c.in_ok-name.ensures.0 c.in_ok-name.after.now c.in_ok-name.ensures.1 c.in_ok-comma.behind.now (c.in_ok-comma.ensures ∙ ap (λ (b : Bool). let r : Read Bool = Ok (b, c.in_ok-comma.behind.now) in r) c.if-not-comma.true)
    (MembersStandFor c.set.new.self) (member_set c.args.room c.members.rest.now c.in_ok-name.after.now c.in_ok-name.ensures.0 c.members.found c.set.new.self c.in_ok-name.name.items c.in_ok-name.value c.requires
    c.in_ok-name.ensures.1 c.in_ok-name.ensures.2 c.in_ok-name.ensures.3 c.in_ok-set.ensures) c.members.invariant

pub members-members-smaller : goal.members-members-smaller
members-members-smaller t c =
    shrinks (member_at (element_at c.args.room)) 0x7d (MembersStandFor c.members.found) c.members.rest.now (listed_within (member_at (element_at c.args.room)) 0x7d (suc (length c.args.text.now)) c.args.text.now)
    c.in_ok-name.ensures.0 c.in_ok-name.after.now c.in_ok-name.ensures.1 c.in_ok-comma.behind.now (c.in_ok-comma.ensures ∙ ap (λ (b : Bool). let r : Read Bool = Ok (b, c.in_ok-comma.behind.now) in r) c.if-not-comma.false)
    (member_no_longer c.args.room c.members.rest.now c.in_ok-name.after.now c.in_ok-name.ensures.0 c.in_ok-name.ensures.1)

pub members-members-preserved : goal.members-members-preserved
members-members-preserved t c =
    goes_on (member_at (element_at c.args.room)) 0x7d (MembersStandFor c.members.found) c.members.rest.now (listed_within (member_at (element_at c.args.room)) 0x7d (suc (length c.args.text.now)) c.args.text.now)
    c.in_ok-name.ensures.0 c.in_ok-name.after.now c.in_ok-name.ensures.1 c.in_ok-comma.behind.now (c.in_ok-comma.ensures ∙ ap (λ (b : Bool). let r : Read Bool = Ok (b, c.in_ok-comma.behind.now) in r) c.if-not-comma.false)
    (member_no_longer c.args.room c.members.rest.now c.in_ok-name.after.now c.in_ok-name.ensures.0 c.in_ok-name.ensures.1)
    (MembersStandFor c.set.new.self) (member_set c.args.room c.members.rest.now c.in_ok-name.after.now c.in_ok-name.ensures.0 c.members.found c.set.new.self c.in_ok-name.name.items c.in_ok-name.value c.requires
    c.in_ok-name.ensures.1 c.in_ok-name.ensures.2 c.in_ok-name.ensures.3 c.in_ok-set.ensures) c.members.invariant

pub object-returns : goal.object-returns
object-returns t c =
    object_found c.args.room c.args.text.now c.skip_blanks-inner.result.now c.in_ok-members.rest.now c.in_ok-members.members c.in_ok-finish.field-0 c.requires c.skip_blanks-inner.ensures (sym c.next_is.ensures.next ∙ c.if-next_is.false)
    c.in_ok-finish.ensures.ok c.in_ok-members.ensures
