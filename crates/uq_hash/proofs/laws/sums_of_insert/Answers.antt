use Rattle.uq_hash.proofs.LawLemmas.{sums_by_insert}
use Rattle.uq_hash.proofs.laws.sums_of_insert.Goals as goal

pub returns : goal.returns
returns c = sums_by_insert
