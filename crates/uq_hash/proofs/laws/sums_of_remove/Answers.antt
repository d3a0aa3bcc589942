use Rattle.uq_hash.proofs.SumLemmas.{sums_by_remove}
use Rattle.uq_hash.proofs.laws.sums_of_remove.Goals as goal

pub returns : goal.returns
returns c = sums_by_remove
