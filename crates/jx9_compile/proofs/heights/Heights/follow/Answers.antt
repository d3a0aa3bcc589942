use Rattle.jx9_compile.proofs.Tables.{followed_on, small_behind, small_between}
use Rattle.jx9_compile.proofs.heights.Heights.follow.Goals as goal

pub reach-requires-clause-small : goal.reach-requires-clause-small
reach-requires-clause-small c =
    small_behind c.args.ops.now c.args.at _ _ _ _ _ c.requires.few c.requires.within c.index-ops-at.is c.requires.table c.index.ensures
    c.after-seen.ensures.after c.after-seen.ensures.bounded c.requires.bounded

pub reach-requires-2-clause-small : goal.reach-requires-2-clause-small
reach-requires-2-clause-small c =
    small_behind c.args.ops.now c.args.at _ _ _ _ _ c.requires.few c.requires.within c.index-ops-at.is c.requires.table c.index.ensures
    c.after-seen.ensures.after c.after-seen.ensures.bounded c.requires.bounded

pub reach-requires-2-clause-all_small : goal.reach-requires-2-clause-all_small
reach-requires-2-clause-all_small c =
    small_between c.args.ops.now c.args.at _ _ _ _ _ c.requires.few c.requires.within c.index-ops-at.is c.requires.table c.index.ensures
    c.after-seen.ensures.after c.after-seen.ensures.bounded c.requires.bounded _ _ _ c.next.ensures c.in_ok-reach.ensures

pub returns-clause-table : goal.returns-clause-table
returns-clause-table c =
    (followed_on c.args.ops.now c.args.at _ _ _ _ _ c.requires.few c.requires.within c.index-ops-at.is c.requires.table c.index.ensures
    c.after-seen.ensures.after c.after-seen.ensures.bounded c.requires.bounded _ _ _ c.next.ensures c.in_ok-reach.ensures
    _ _ _ c.jump.ensures c.in_ok-reach-2.ensures).0

pub returns-clause-still : goal.returns-clause-still
returns-clause-still c =
    (followed_on c.args.ops.now c.args.at _ _ _ _ _ c.requires.few c.requires.within c.index-ops-at.is c.requires.table c.index.ensures
    c.after-seen.ensures.after c.after-seen.ensures.bounded c.requires.bounded _ _ _ c.next.ensures c.in_ok-reach.ensures
    _ _ _ c.jump.ensures c.in_ok-reach-2.ensures).1
