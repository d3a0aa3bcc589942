use Rattle.uq_codec.proofs.Verdicts.{decoded_again}
use Rattle.uq_codec.proofs.laws.decodes_again.Goals as goal

pub returns : goal.returns
returns c = decoded_again
