use Rattle.std.proofs.Common.{List, sym, subst}
use Rattle.uq_hash.specs.Map.{Stored}
use Rattle.uq_hash.specs.Standing.{IsStanding}
use Rattle.uq_hash.specs.declared.searching.Standing.TheVariants.{Cell, Nothing}
use Rattle.uq_hash.proofs.StandingLemmas.{cell_there, here_within, rest_here, rest_none}
use Rattle.uq_hash.proofs.searching.cell_at.Goals as goal

pub returns-then-place-clause-exact : goal.returns-then-place-clause-exact
returns-then-place-clause-exact c start pages row cells bound here =
    subst (λ (rest : List Stored). IsStanding rest Nothing) (sym (rest_none start pages row cells bound c.args.place.now here c.if-place.true)) tt

pub returns-in_err-cell-clause-exact : goal.returns-in_err-cell-clause-exact
returns-in_err-cell-clause-exact c start pages row cells bound here =
    absurd (c.in_err-cell.ensures.exact _ _ _ (cell_there start pages row cells bound c.args.place.now here.found (here_within start pages row cells bound c.args.place.now here c.if-place.false)))

pub returns-clause-exact : goal.returns-clause-exact
returns-clause-exact c start pages row cells bound here =
    let within = here_within start pages row cells bound c.args.place.now here c.if-place.false in
    let read = c.in_ok-cell.ensures.exact _ _ _ (cell_there start pages row cells bound c.args.place.now here.found within) in
    subst (λ (rest : List Stored). IsStanding rest (Cell c.in_ok-cell.cell)) (sym (rest_here start pages row cells bound c.args.place.now here.found within))
    (record { key = read.0; long = read.1; bytes = read.2; is = c.in_ok-cell.ensures.kept })
