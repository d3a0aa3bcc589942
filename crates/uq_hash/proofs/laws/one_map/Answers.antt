use Rattle.uq_hash.proofs.OneLemmas.{one_held}
use Rattle.uq_hash.proofs.laws.one_map.Goals as goal

pub returns : goal.returns
returns c pages header m n first second = one_held c.bytes_tell_fields.ensures.bucket c.bytes_tell_fields.ensures.cell pages header m n first second
