use Rattle.std.proofs.Common.{subst, sym, arith}
use Rattle.uq_codec.specs.Stored.{Encodes}
use Rattle.uq_codec.specs.Internal.Writing.{Writes}
use Rattle.uq_value.specs.Laws.Parts.{item_there, item_not_there, member_there, member_not_there, names_distinct}
use Rattle.uq_codec.proofs.Written.{item_written, list_written, member_written, object_written, named_written}
use Rattle.uq_codec.proofs.encoding.+encode.Goals as goal

pub push_item-push_value-requires : goal.push_item-push_value-requires
push_item-push_value-requires t c = let less = (item_there c.args.list.now c.args.at c.in-Some.item.now c.in-Some.ensures).less_deep in (omega (arith, less, c.decreases), tt)

pub push_item-unreachable-requires : goal.push_item-unreachable-requires
push_item-unreachable-requires t c = item_not_there c.args.list.now c.args.at c.requires c.in-None.ensures

pub push_item-returns : goal.push_item-returns
push_item-returns t c =
    let there = item_there c.args.list.now c.args.at c.in-Some.item.now c.in-Some.ensures in
    subst (λ d. Writes (λ word. Encodes word d) c.args.out.now.items c.push_value.new.out.items c.push_value.result) (sym there.is) c.push_value.ensures

pub push_list-loop-at-preserved : goal.push_list-loop-at-preserved
push_list-loop-at-preserved t c =
    item_written c.args.out.now.items c.loop-at.out.items c.push_item.new.out.items c.loop-at.at c.args.list.now (omega (arith, c.loop-at-test.true, c.len-at-end.ensures)) c.loop-at.invariant c.in_ok-push_item.ensures

pub push_list-returns : goal.push_list-returns
push_list-returns t c =
    list_written c.args.out.now.items c.loop-at.out.items c.loop-at.at c.args.list.now (omega (arith, c.loop-at-test.false, c.loop-at.auto.at-end, c.len-at-end.ensures)) c.loop-at.invariant

pub push_member-push_value-requires : goal.push_member-push_value-requires
push_member-push_value-requires t c = let less = (member_there c.args.object.now c.args.at c.in-Some.name.now c.in-Some.value.now c.in-Some.ensures.member).less_deep in (omega (arith, less, c.decreases), tt)

pub push_member-unreachable-requires : goal.push_member-unreachable-requires
push_member-unreachable-requires t c = member_not_there c.args.object.now c.args.at c.requires c.in-None.ensures.member

pub push_member-returns : goal.push_member-returns
push_member-returns t c =
    named_written c.in-Some.name.now c.in-Some.value.now c.args.object.now c.args.at c.args.out.now.items c.push_name.new.out.items c.push_value.new.out.items c.push_value.result
    (member_there c.args.object.now c.args.at c.in-Some.name.now c.in-Some.value.now c.in-Some.ensures.member) c.in_ok-push_name-in-Some.ensures c.push_value.ensures

pub push_object-loop-at-preserved : goal.push_object-loop-at-preserved
push_object-loop-at-preserved t c =
    member_written c.args.out.now.items c.loop-at.out.items c.push_member.new.out.items c.loop-at.at c.args.object.now (omega (arith, c.loop-at-test.true, c.len-at-end.ensures)) c.loop-at.invariant c.in_ok-push_member.ensures

pub push_object-returns : goal.push_object-returns
push_object-returns t c =
    object_written c.args.out.now.items c.loop-at.out.items c.loop-at.at c.args.object.now (omega (arith, c.loop-at-test.false, c.loop-at.auto.at-end, c.len-at-end.ensures)) (names_distinct c.args.object.now c.is_value.ensures) c.loop-at.invariant
