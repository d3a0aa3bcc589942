use Rattle.std.proofs.Common.{ℕ, sym, ◌∙◌, Vec, Global, length}
use Rattle.std.proofs.lemmas.Bool.{eqb-true, eqb-false}
use Rattle.std.proofs.lemmas.Result.{err_from_is_err_and}
use Rattle.uq_json.proofs.Wholes.{string_whole, string_with_rest, string_fails, not_none}
use Rattle.uq_json.proofs.unquoting.unquote.Goals as goal

pub returns-in_err-bytes : goal.returns-in_err-bytes
returns-in_err-bytes c =
    let p = err_from_is_err_and c.from_residual.result c.from_residual.ensures.1 in
    rw (p.1, p.2) (string_fails (λ (bytes : Vec ℕ Global). bytes.items) c.args.text.now c.in_err-bytes.field-0.0 c.in_err-bytes.ensures)

pub returns-then-is_empty : goal.returns-then-is_empty
returns-then-is_empty c = string_whole c.args.text.now c.in_ok-bytes.bytes.items c.in_ok-bytes.rest.now c.in_ok-bytes.ensures (eqb-true _ 0 (sym c.is_empty.ensures ∙ c.if-is_empty.true))

pub returns-else-is_empty : goal.returns-else-is_empty
returns-else-is_empty c = string_with_rest c.args.text.now c.in_ok-bytes.bytes.items c.in_ok-bytes.rest.now c.in_ok-bytes.ensures (not_none (length c.in_ok-bytes.rest.now) (eqb-false _ 0 (sym c.is_empty.ensures ∙ c.if-is_empty.false)))
