use Rattle.std.proofs.Common.{arith}
use Rattle.uq_journal.proofs.tests.a_first_commit_leaves_a_journal_of_ten_zero_bytes.Goals as goal

pub commit-requires : goal.commit-requires
commit-requires c given = (omega arith, omega arith, tt)
