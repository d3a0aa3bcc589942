use Rattle.uq_hash.proofs.HeldLemmas.{one_begins}
use Rattle.uq_hash.proofs.directory.first_page.Goals as goal

pub returns-clause-begins : goal.returns-clause-begins
returns-clause-begins g c pages told m held = one_begins pages c.args.h.now m c.args._key.now held
