use Rattle.std.proofs.lemmas.Result.{err_from_is_err_and}
use Rattle.uq_kv.proofs.kv.Kv.open.Goals as goal

pub returns-in_err-ready-clause-not_database : goal.returns-in_err-ready-clause-not_database
returns-in_err-ready-clause-not_database g c =
    let p = err_from_is_err_and c.from_residual.result c.from_residual.ensures.1 in
    λ is. c.in_err-ready.ensures.not_database (let one = p.1 in let two = p.2 in cc)

pub returns-clause-told : goal.returns-clause-told
returns-clause-told g c = λ start on stored recovers. c.over.ensures.told stored (c.in_ok-ready.ensures.found start on stored recovers)
