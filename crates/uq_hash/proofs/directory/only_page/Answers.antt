use Rattle.uq_hash.proofs.HeldLemmas.{one_begins_all}
use Rattle.uq_hash.proofs.directory.only_page.Goals as goal

pub returns-clause-begins : goal.returns-clause-begins
returns-clause-begins g c pages told m held = one_begins_all pages c.args.h.now m held
