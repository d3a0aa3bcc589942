use Rattle.std.proofs.Common.{sym, ◌∙◌}
use Rattle.uq_hash.proofs.LookLemmas.{cell_here}
use Rattle.uq_hash.proofs.appending.cell_of.Goals as goal

pub returns-in_err-cell-clause-exact : goal.returns-in_err-cell-clause-exact
returns-in_err-cell-clause-exact c start pages row cells bound here it others is long =
    absurd (c.in_err-cell.ensures.exact _ _ _ (cell_here start pages row cells bound c.args.at.now.place here it others is))

pub returns-then-cell-len-clause-exact : goal.returns-then-cell-len-clause-exact
returns-then-cell-len-clause-exact c start pages row cells bound here it others is long =
    let read = c.in_ok-cell.ensures.exact _ _ _ (cell_here start pages row cells bound c.args.at.now.place here it others is) in
    c.if-cell-len.true (read.1 ∙ sym long)

pub returns-clause-exact : goal.returns-clause-exact
returns-clause-exact c start pages row cells bound here it others is long =
    let read = c.in_ok-cell.ensures.exact _ _ _ (cell_here start pages row cells bound c.args.at.now.place here it others is) in
    record { key = read.0; long = read.1; bytes = read.2; is = c.in_ok-cell.ensures.kept }
