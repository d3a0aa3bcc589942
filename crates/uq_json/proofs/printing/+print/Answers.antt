use Rattle.std.proofs.Common.{◌<◌, ◌++◌, ◌∷◌, [], length, arith}
use Rattle.std.proofs.lemmas.Result.{on_ok_weaker}
use Rattle.uq_value.specs.Data.{items_of, members_of}
use Rattle.uq_json.specs.Text.{item_texts, member_texts}
use Rattle.uq_value.specs.Laws.Parts.{item_there, item_not_there, member_there, member_not_there}
use Rattle.uq_json.proofs.Parts.{printed_goes_on, printed_ends, items_count, members_count, piece_text, pair_text}
use Rattle.uq_json.proofs.printing.+print.Goals as goal

pub push_item-push_value-requires : goal.push_item-push_value-requires
push_item-push_value-requires t c = let less = (item_there c.args.list.now c.args.at c.in-Some.item.now c.in-Some.ensures).less_deep in (omega (arith, less, c.decreases), tt)

pub push_item-returns : goal.push_item-returns
push_item-returns t c = on_ok_weaker c.push_value.result
    (piece_text c.args.list.now c.args.at c.in-Some.item.now c.args.text.now.items c.push_comma.new.text.items c.push_value.new.text.items c.in-Some.ensures c.in_ok-push_comma.ensures) c.push_value.ensures

pub push_item-unreachable-requires : goal.push_item-unreachable-requires
push_item-unreachable-requires t c = item_not_there c.args.list.now c.args.at c.requires c.in-None.ensures

pub push_list-loop-at-preserved : goal.push_list-loop-at-preserved
push_list-loop-at-preserved t c =
    let within : c.loop-at.at < length (item_texts (items_of c.args.list.now)) = omega (arith, items_count c.args.list.now, c.loop-at-test.true, c.len-at-end.ensures) in
    printed_goes_on (c.args.text.now.items ++ 0x5b ∷ []) c.loop-at.text.items c.push_item.new.text.items c.loop-at.at (item_texts (items_of c.args.list.now)) within c.in_ok-push_item.ensures c.loop-at.invariant

pub push_list-returns : goal.push_list-returns
push_list-returns t c =
    printed_ends c.args.text.now.items c.loop-at.text.items c.push-2.new.self.items 0x5b 0x5d c.loop-at.at (item_texts (items_of c.args.list.now))
    (omega (arith, items_count c.args.list.now, c.loop-at-test.false, c.len-at-end.ensures)) c.loop-at.invariant c.in_ok-push-2.ensures.items

pub push_member-push_value-requires : goal.push_member-push_value-requires
push_member-push_value-requires t c = let less = (member_there c.args.object.now c.args.at c.in-Some.name.now c.in-Some.value.now c.in-Some.ensures.member).less_deep in (omega (arith, less, c.decreases), tt)

pub push_member-returns : goal.push_member-returns
push_member-returns t c = on_ok_weaker c.push_value.result
    (pair_text c.args.object.now c.args.at c.in-Some.name.now c.in-Some.value.now c.args.text.now.items c.push_comma.new.text.items c.push_quoted.new.text.items c.push.new.self.items c.push_value.new.text.items c.in-Some.ensures.member c.in_ok-push_comma.ensures c.in_ok-push_quoted-in-Some.ensures c.in_ok-push-in-Some.ensures.items) c.push_value.ensures

pub push_member-unreachable-requires : goal.push_member-unreachable-requires
push_member-unreachable-requires t c = member_not_there c.args.object.now c.args.at c.requires c.in-None.ensures.member

pub push_object-loop-at-preserved : goal.push_object-loop-at-preserved
push_object-loop-at-preserved t c =
    let within : c.loop-at.at < length (member_texts (members_of c.args.object.now)) = omega (arith, members_count c.args.object.now, c.loop-at-test.true, c.len-at-end.ensures) in
    printed_goes_on (c.args.text.now.items ++ 0x7b ∷ []) c.loop-at.text.items c.push_member.new.text.items c.loop-at.at (member_texts (members_of c.args.object.now)) within c.in_ok-push_member.ensures c.loop-at.invariant

pub push_object-returns : goal.push_object-returns
push_object-returns t c =
    printed_ends c.args.text.now.items c.loop-at.text.items c.push-2.new.self.items 0x7b 0x7d c.loop-at.at (member_texts (members_of c.args.object.now))
    (omega (arith, members_count c.args.object.now, c.loop-at-test.false, c.len-at-end.ensures)) c.loop-at.invariant c.in_ok-push-2.ensures.items
