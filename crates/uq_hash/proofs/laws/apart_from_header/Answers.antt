use Rattle.uq_hash.proofs.OneLemmas.{apart}
use Rattle.uq_hash.proofs.laws.apart_from_header.Goals as goal

pub returns : goal.returns
returns c pages header m page held = apart pages header m page held
