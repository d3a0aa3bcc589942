use Rattle.std.proofs.Common.{arith}
use Rattle.uq_journal.proofs.tests.commit_three.Goals as goal

pub commit-requires : goal.commit-requires
commit-requires c = (omega arith, omega arith, (omega arith, omega arith, (omega arith, omega arith, tt)))
