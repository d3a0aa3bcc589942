use Rattle.std.proofs.Common.{sym, ◌∙◌, length}
use Rattle.std.proofs.lemmas.Bool.{eqb-true, eqb-false}
use Rattle.std.proofs.lemmas.Result.{err_from_is_err_and}
use Rattle.uq_json.proofs.Wholes.{not_none}
use Rattle.uq_json.proofs.Verdicts.{fault_answer, value_answer, large_answer, rest_answer}
use Rattle.uq_json.proofs.reading.read_json.Goals as goal

pub returns-in_err-found : goal.returns-in_err-found
returns-in_err-found c =
    let p = err_from_is_err_and c.from_residual.result c.from_residual.ensures.1 in
    rw (p.1, p.2) (fault_answer c.args.text.now c.in_err-found.field-0.0 c.in_err-found.ensures)

pub returns-then-not-is_empty : goal.returns-then-not-is_empty
returns-then-not-is_empty c =
    rest_answer c.args.text.now c.in_ok-found.rest.now c.in_ok-found.found c.in_ok-found.ensures (not_none (length c.in_ok-found.rest.now) (eqb-false _ 0 (sym c.is_empty.ensures ∙ c.if-not-is_empty.true)))

pub returns-in-Some : goal.returns-in-Some
returns-in-Some c =
    value_answer c.args.text.now c.in_ok-found.rest.now c.in_ok-found.found c.in-Some.value c.in_ok-found.ensures (eqb-true _ 0 (sym c.is_empty.ensures ∙ c.if-not-is_empty.false)) c.in-Some.is c.is_value.ensures.small

pub returns-in-None : goal.returns-in-None
returns-in-None c =
    large_answer c.args.text.now c.in_ok-found.rest.now c.in_ok-found.found c.in_ok-found.ensures (eqb-true _ 0 (sym c.is_empty.ensures ∙ c.if-not-is_empty.false)) c.in-None.is
