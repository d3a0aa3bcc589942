use Rattle.std.proofs.Common.{sym, subst}
use Rattle.uq_codec.specs.Internal.Reading.{ReadsName}
use Rattle.uq_codec.proofs.Lengths.{no_name, name_cut}
use Rattle.uq_codec.proofs.varint.read_name.Goals as goal

pub returns-in_err-len : goal.returns-in_err-len
returns-in_err-len c = subst (λ r. ReadsName c.args.bytes.now r) (sym c.from_residual.ensures) (no_name c.args.bytes.now c.in_err-len.ensures)

pub returns : goal.returns
returns c = name_cut c.args.bytes.now c.in_ok-len.rest.now c.in_ok-len.len c.split_at_checked.result c.in_ok-len.ensures.1 c.in_ok-len.ensures.0 c.split_at_checked.ensures.cases
