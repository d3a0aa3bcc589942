use Rattle.std.proofs.Common.{w64, sym, subst}
use Rattle.std.proofs.lemmas.Int.{to_z-of_z}
use Rattle.uq_codec.specs.Stored.{IsWhole}
use Rattle.uq_codec.proofs.Numbers.{whole_read}
use Rattle.uq_codec.proofs.decoding.number.Goals as goal

pub returns : goal.returns
returns c =
    subst (IsWhole c.args.field.now) (sym (to_z-of_z w64 c.from_be_bytes.result (record { sfits = c.from_be_bytes.type_inv })))
    (whole_read c.args.field.now c.from_be_bytes.result c.told-field c.fits-field c.from_be_bytes.ensures)
