use Rattle.uq_hash.proofs.LawLemmas.{cells_by}
use Rattle.uq_hash.proofs.laws.cells_by_sums.Goals as goal

pub returns : goal.returns
returns c = cells_by
