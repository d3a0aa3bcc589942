use Rattle.std.proofs.Common.{◌≤◌, Some, sym, ap, ◌∙◌, arith}
use Rattle.uq_hash.proofs.StandingLemmas.{cell_last, last_near, last_none}
use Rattle.uq_hash.proofs.searching.cell_before.Goals as goal

pub returns-then-place-eq0 : goal.returns-then-place-eq0
returns-then-place-eq0 c start pages row cells bound near = last_none start pages row cells bound c.args.place.now near c.if-place-eq0.true

pub returns-in_err-cell : goal.returns-in_err-cell
returns-in_err-cell c start pages row cells bound near =
    let some : 1 ≤ c.args.place.now.spot.index = let unlike = c.if-place-eq0.false in omega arith in
    absurd (c.in_err-cell.ensures.exact _ _ _ (cell_last start pages row cells bound c.args.place.now near some))

pub returns : goal.returns
returns c start pages row cells bound near =
    let some : 1 ≤ c.args.place.now.spot.index = let unlike = c.if-place-eq0.false in omega arith in
    let read = c.in_ok-cell.ensures.exact _ _ _ (cell_last start pages row cells bound c.args.place.now near some) in
    ap Some read.0 ∙ sym (last_near start pages row cells bound c.args.place.now near some)
