use Rattle.uq_value.specs.Plain.{plain}
use Rattle.uq_codec.proofs.Forms.{spelling_one}
use Rattle.uq_codec.proofs.laws.one_form.Goals as goal

pub returns : goal.returns
returns c a b v is also = spelling_one (plain v) a b is.spells also.spells
