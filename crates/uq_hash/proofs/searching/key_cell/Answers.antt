use Rattle.std.proofs.Common.{sym, subst, ◌∙◌}
use Rattle.std.proofs.lemmas.Bool.{false≢true}
use Rattle.std.proofs.lemmas.Slice.Eq.{bytes_eq-Decides}
use Rattle.uq_hash.specs.Standing.{IsStanding, rest_of}
use Rattle.uq_hash.proofs.StandingLemmas.{keyed_here, keyed_none, keyed_other}
use Rattle.uq_hash.proofs.searching.key_cell.Goals as goal

pub returns-in_err-cell-clause-exact : goal.returns-in_err-cell-clause-exact
returns-in_err-cell-clause-exact c start pages row cells bound here = absurd (c.in_err-cell.ensures.exact start pages row cells bound here)

pub returns-then-eq-clause-exact : goal.returns-then-eq-clause-exact
returns-then-eq-clause-exact c start pages row cells bound here =
    keyed_here (rest_of here.found.stands) c.args.key.now c.in-Cell.cell (subst (IsStanding (rest_of here.found.stands)) c.in-Cell.is (c.in_ok-cell.ensures.exact start pages row cells bound here)) ((bytes_eq-Decides c.in-Cell.cell.key.now c.args.key.now).0 (sym c.if-eq.ensures))

pub returns-else-eq-clause-exact : goal.returns-else-eq-clause-exact
returns-else-eq-clause-exact c start pages row cells bound here =
    keyed_other (rest_of here.found.stands) c.args.key.now c.in-Cell.cell (subst (IsStanding (rest_of here.found.stands)) c.in-Cell.is (c.in_ok-cell.ensures.exact start pages row cells bound here)) (λ same. false≢true (c.if-eq.ensures ∙ (bytes_eq-Decides c.in-Cell.cell.key.now c.args.key.now).1 same))

pub returns-in-Nothing-clause-exact : goal.returns-in-Nothing-clause-exact
returns-in-Nothing-clause-exact c start pages row cells bound here =
    keyed_none (rest_of here.found.stands) c.args.key.now (subst (IsStanding (rest_of here.found.stands)) c.in-Nothing.is (c.in_ok-cell.ensures.exact start pages row cells bound here))
