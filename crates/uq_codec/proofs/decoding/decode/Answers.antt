use Rattle.std.proofs.lemmas.Result.{err_from_is_err_and}
use Rattle.uq_codec.proofs.Verdicts.{decoded, not_decoded}
use Rattle.uq_codec.proofs.decoding.decode.Goals as goal

pub returns-in_err-value : goal.returns-in_err-value
returns-in_err-value c =
    let p = err_from_is_err_and c.from_residual.result c.from_residual.ensures.1 in
    rw (p.1, p.2) (not_decoded c.args.bytes.now c.in_err-value.field-0.0 c.in_err-value.ensures)

pub returns : goal.returns
returns c = decoded c.args.bytes.now c.in_ok-value.rest.now c.in_ok-value.value c.in_ok-value.ensures c.is_value.ensures.small
