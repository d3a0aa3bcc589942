use Rattle.std.proofs.Common.{◌≡◌, [], length, refl, rules}
use Rattle.jx9_compile.proofs.Tables.{begin, finish, popped}
use Rattle.jx9_compile.proofs.heights.heights_of.Goals as goal

pub loop-at-init : goal.loop-at-init
loop-at-init c = begin c.args.ops.now (length c.args.ops.now) c.requires.some refl _ _ c.in_ok-heights.ensures.table c.in_ok-heights.ensures.work

pub follow-requires-clause-within : goal.follow-requires-clause-within
follow-requires-clause-within c = (popped c.args.ops.now _ _ _ _ c.loop-at.invariant c.in-Some.ensures.items).1

pub follow-requires-clause-table : goal.follow-requires-clause-table
follow-requires-clause-table c = (popped c.args.ops.now _ _ _ _ c.loop-at.invariant c.in-Some.ensures.items).0

pub returns : goal.returns
returns c =
    let none : c.loop-at.heights.work.items ≡ [] = search rules in
    finish c.args.ops.now _ _ c.requires.few none c.loop-at.invariant
