use Rattle.std.proofs.Common.{Option, sym, subst}
use Rattle.uq_value.specs.declared.value.Value.{Value}
use Rattle.uq_json.specs.Internal.Found.{StandsFor}
use Rattle.uq_json.proofs.Gathering.{text_left_out}
use Rattle.uq_json.proofs.reading.string_value.Goals as goal

pub returns-in_ok-left_out-in-Err : goal.returns-in_ok-left_out-in-Err
returns-in_ok-left_out-in-Err c =
    let found = text_left_out c.args.text.now c.in_ok-bytes.rest.now c.in_ok-bytes.bytes.items c.in-Err.fault c.in_ok-bytes.ensures c.in-Err.ensures.fault c.in_ok-left_out-in-Err.ensures.ok.1 in
    (found.0, found.1, subst (λ (o : Option Value). StandsFor o found.0) (sym c.in_ok-left_out-in-Err.ensures.ok.0) found.2)
