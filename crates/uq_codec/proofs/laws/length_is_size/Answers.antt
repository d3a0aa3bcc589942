use Rattle.uq_value.specs.Plain.{plain}
use Rattle.uq_codec.proofs.Forms.{spelling_long}
use Rattle.uq_codec.proofs.laws.length_is_size.Goals as goal

pub returns : goal.returns
returns c word v is = spelling_long (plain v) word is.small is.spells
